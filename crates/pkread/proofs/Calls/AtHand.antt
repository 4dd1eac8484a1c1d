-- The bytes at hand, and the instructions that are lent from among them.
use Rattle.std.proofs.Common.{◌≡◌, ℕ, ◌+◌, ◌≤◌, List, [], ◌++◌, length, take, drop, refl, sym, ap}
use Rattle.std.proofs.Common.{◌∙◌, arith, append_assoc, Option, None, Some, option_map, drop-drop}
use Rattle.std.proofs.Common.{length-append, length-drop, length-take, take-append-drop}
use Rattle.std.specs.Io.KnownBytes.{Consumes}
use Rattle.std.proofs.lemmas.List.{drop-append-le}
use Rattle.std.proofs.Math.Seq.{drop-append_seam}
use Rattle.pkops.specs.Limits.{Bounds}
use Rattle.pkops.specs.Payloads.{payload_limit}
use Rattle.pkops.specs.Spelling.{Instruction, instruction, spelling}
use Rattle.pkops.specs.declared.Op.{Op}
use Rattle.pkops.specs.declared.Op.TheVariants as op
use Rattle.pkread.proofs.Bytes.Judged.{found_gathered}
use Rattle.pkread.proofs.Calls.Next.{is_allowed}
use Rattle.pkread.specs.AtHand.{AreNext, IsLent, beyond}
use Rattle.pkread.specs.Core.{CoreView, Open, phase_after}
use Rattle.pkread.specs.Framing.{other}
use Rattle.pkread.specs.Pieces.{number_of, role_of}
use Rattle.pkread.specs.Held.{most_held}
use Rattle.pkread.specs.Private.Arms.{IsFront}
use Rattle.pkread.specs.Pull.{BeginsWith}
use Rattle.pkread.specs.ReaderCalls.{ReaderState}
use Rattle.pkread.specs.Rows.{Sight, Takes, all_bytes, unread}
use Rattle.pkread.specs.Run.{TakingTwice}

-- the role of an opcode that is neither STOP nor FRAME doesn't depend on its argument
role_with : (o : Op) (n : ℕ) → role_of o 0 ≡ other → role_of o n ≡ other
role_with op.Stop n e = e
role_with op.Frame n e = absurd cc
role_with _ n e = refl

goes_on : (o : Op) → role_of o 0 ≡ other → phase_after o ≡ Open
goes_on op.Stop e = absurd cc
goes_on _ e = refl

-- an instruction at the front of some bytes is lent from them
pub is_lent : (limits : Bounds) (split n : ℕ) (o : Op) (bytes : List ℕ) (j : Instruction)
    (f : IsFront limits o split n bytes) → j ≡ instruction o f.found.arg → IsLent limits bytes j
is_lent limits split n o bytes j f same =
    let i : Instruction = instruction o f.found.arg in
    let limit = payload_limit limits o in
    let e : take n bytes ≡ spelling i = f.found.lies.spelled in
    rw same (record {
      goes_on = goes_on o f.role;
      role = role_with o (number_of f.found.arg) f.role;
      allowed = is_allowed limit (take n bytes) o i (found_gathered _ _ _ _ f.found) refl;
      rest = drop n bytes;
      spelled = sym (take-append-drop n bytes) ∙ ap (λ (b : List ℕ). b ++ drop n bytes) e;
    })

-- ---- so many of the bytes at hand are taken

left_twice : (first second : ℕ) (left : Option (List ℕ)) → option_map (drop (first + second)) left
    ≡ option_map (drop second) (option_map (drop first) left)
left_twice first second None = refl
left_twice first second (Some xs) = ap Some (sym (drop-drop second first xs))

pub taking_twice : TakingTwice
taking_twice first second s =
    let left = left_twice first second s.source.left in
    let count : s.taken + (first + second) ≡ s.taken + first + second = omega arith in
    rw (left, count) refl

-- ---- one instruction of them

module _ (b : List ℕ) (rest : List ℕ) (bytes : List ℕ) (e : bytes ≡ b ++ rest) where
  behind : drop (length b) bytes ≡ rest
  behind = ap (drop (length b)) e ∙ drop-append_seam b rest

  consumes : (left : Option (List ℕ)) → BeginsWith left bytes
      → Consumes left (option_map (drop (length b)) left) b
  consumes None h = tt
  consumes (Some l) h =
      let all : l ≡ b ++ (rest ++ h.0) =
      h.1 ∙ (ap (λ (x : List ℕ). x ++ h.0) e ∙ append_assoc b rest h.0) in
      all ∙ ap (λ (x : List ℕ). b ++ x)
      (sym (ap (drop (length b)) all ∙ drop-append_seam b (rest ++ h.0)))

  begins : (left : Option (List ℕ)) → BeginsWith left bytes
      → BeginsWith (option_map (drop (length b)) left) (drop (length b) bytes)
  begins None h = tt
  begins (Some l) h =
      let room : length b ≤ length bytes = omega (arith, ap length e, length-append b rest) in
      (h.0, ap (drop (length b)) h.1 ∙ drop-append-le (length b) bytes h.0 room)

-- its bytes are taken
pub takes_lent : (s : ReaderState) (bytes : List ℕ) (i : Instruction) → AreNext s bytes
    → IsLent s.limits bytes i → Takes s.source (beyond (length (spelling i)) s).source (spelling i)
takes_lent s bytes i next lent = record {
  bytes = consumes (spelling i) lent.rest bytes lent.spelled s.source.left next.begins;
  count = refl;
}

-- the bytes behind it are the next ones
pub next_behind : (s : ReaderState) (bytes : List ℕ) (i : Instruction) → AreNext s bytes
    → IsLent s.limits bytes i
    → AreNext (beyond (length (spelling i)) s) (drop (length (spelling i)) bytes)
next_behind s bytes i next lent =
    let b = spelling i in
    let within = next.within in
    let long = ap length lent.spelled in
    record {
      phase = next.phase;
      begins = begins b lent.rest bytes lent.spelled s.source.left next.begins;
      within = omega (
        arith,
        within,
        long,
        length-append b lent.rest,
        length-drop (length b) bytes,
      );
    }

-- ---- the calls

-- a source that shows bytes shows their front
begins_front : (n : ℕ) (left : Option (List ℕ)) (shown : List ℕ) → BeginsWith left shown →
    BeginsWith left (take n shown)
begins_front n None shown h = tt
begins_front n (Some left) shown h = (
  drop n shown ++ h.0,
  h.1 ∙ (ap (λ (l : List ℕ). l ++ h.0) (sym (take-append-drop n shown))
      ∙ append_assoc (take n shown) (drop n shown) h.0),
)

-- the first of some next bytes are next too
pub first_are_next : (s : ReaderState) (n : ℕ) (shown : List ℕ) → s.phase ≡ Open
    → BeginsWith s.source.left shown → s.taken + n ≤ all_bytes → AreNext s (take n shown)
first_are_next s n shown open' begins room = record {
  phase = open';
  begins = begins_front n s.source.left shown begins;
  within = omega (arith, room, length-take n shown);
}

-- what a reader with this core shows, over a source that shows this
abbrev pub seen : CoreView → Sight → ReaderState
seen core source = record {
  source = unread core.ahead source;
  taken = core.taken;
  limits = core.limits;
  most = most_held core.held;
  phase = core.phase;
}

-- so many bytes are taken
pub is_beyond : (core : CoreView) (before after : Sight) (count : ℕ) → core.ahead ≡ []
    → after.left ≡ option_map (drop count) before.left → after.failures ≡ before.failures
    → seen (record core { taken = core.taken + count }) after ≡ beyond count (seen core before)
is_beyond core before after count none left same = rw none (rw (left, same) refl)
