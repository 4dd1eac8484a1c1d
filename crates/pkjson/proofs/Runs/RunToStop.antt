-- From an accepted pickle to the end of its plain run.
use Rattle.std.proofs.Common.{◌≡◌, inl, inr, ℕ, List, [], ◌∷◌, ◌++◌, length, take, drop, replicate}
use Rattle.std.proofs.Common.{refl, sym, ap, ◌∙◌, subst, arith, Option, Some, None, length-append}
use Rattle.std.proofs.lemmas.Bool.{cond_both}
use Rattle.std.specs.Prelude.{slice_index_or}
use Rattle.std.proofs.Math.Seq.{take-append_seam, drop-append_seam}
use Rattle.std.specs.Io.KnownBytes.{Consumes}
use Rattle.pkops.specs.declared.Op.TheVariants as op
use Rattle.pkops.specs.Limits.{Bounds, holding_all}
use Rattle.pkops.specs.Payloads.{is_passed, payload_limit}
use Rattle.pkops.specs.Spelling.{Instruction, spelling}
use Rattle.pkops.specs.Answer.{Whole, Answers}
use Rattle.pkread.specs.Rows.{Sight, in_memory}
use Rattle.pkmachine.specs.declared.OldStrings.TheVariants.{Unknown}
use Rattle.pkimport.specs.Import.{Asked}
use Rattle.pkread.specs.Admission.{IsAllowed}
use Rattle.pkread.specs.Sequence.{IsSequence, spellings}
use Rattle.pkmachine.specs.Runs.{Outcome, start}
use Rattle.pkmachine.specs.WholeRuns.{EndsWell, run}
use Rattle.pkcheck.specs.Listing.{permitted_by}
use Rattle.pkcheck.specs.Accepted.{Accepted}
use Rattle.pkjson.specs.Plain.{goes_on}
use Rattle.pkjson.specs.Private.Arena.{no_object}
use Rattle.pkjson.specs.Private.Mirrors.{MirrorsState}
use Rattle.pkjson.specs.Export.{AcceptedAs, IsAccepted}
use Rattle.pkjson.proofs.Runs.PlainRun.{HasStop, Stands, run_is}

has_stop : (front : List Instruction) (last : Instruction) → last.op ≡ op.Stop
    → HasStop (front ++ last ∷ [])
has_stop [] last e = inl e
has_stop (i ∷ is) last e = inr (has_stop is last e)

consumed : (xs bs : List ℕ) (o : Option (List ℕ)) → Consumes (Some xs) o bs
    → (ys : List ℕ) × (xs ≡ bs ++ ys)
consumed xs bs None h = absurd h
consumed xs bs (Some ys) h = (ys, h)

nothing_yet : MirrorsState no_object start
nothing_yet = record {
  shape = refl;
  held = record { entries = tt; memo = tt };
  closed = tt;
  numbers = refl;
  texts = λ n. refl;
  objects = record { kinds = λ n. refl; given = λ n. refl };
}

pub stands_first : (limits : Bounds) (bytes : List ℕ) (p : List Instruction)
    → AcceptedAs limits bytes p → Stands limits.counted p bytes 0 no_object
stands_first limits bytes p h = rw h.is at (by_accepted h.accepted.instructions h.accepted.sequence
    (consumed bytes (spellings h.accepted.instructions) h.new.left h.accepted.bytes.bytes)
    h.accepted.sound)
  where
    by_accepted : (q : List Instruction) → IsSequence (payload_limit (holding_all limits)) q
        → (ys : List ℕ) × (bytes ≡ spellings q ++ ys)
        → ((os : List Outcome) → EndsWell (permitted_by None) (run q os start))
        → Stands limits.counted q bytes 0 no_object
    by_accepted q s c w = record {
      after = q;
      tail = c.0;
      spelled = c.1;
      allowed = λ k d lt. let i = slice_index_or q k d in
          cond_both (is_passed i.op) limits.counted limits.counted
          (λ l. IsAllowed l i → IsAllowed limits.counted i) (λ _ a. a) (λ _ a. a) (s.each k d lt);
      stops = subst HasStop (sym s.stops.2) (has_stop s.stops.0 s.stops.1 s.stops.3);
      state = start;
      listed = permitted_by None;
      well = subst (EndsWell (permitted_by None)) (run_is q (length q) (omega arith) start)
          (w (replicate (length q) goes_on));
      run = refl;
      fault = refl;
      mirrors = nothing_yet;
    }

-- what a scan must answer where an instruction stands
pub front_answers : (limit : ℕ) (bytes more : List ℕ) (i : Instruction) → bytes ≡ spelling i ++ more
    → IsAllowed limit i → Answers limit bytes (Whole i (length (spelling i)))
front_answers limit bytes more i e h = record {
  fits = rw e (omega (arith, length-append (spelling i) more));
  spells = record {
    spelled = ap (take (length (spelling i))) e ∙ take-append_seam (spelling i) more;
    good = h.good;
  };
  within = h.within;
}

pub rest_is : (bytes more : List ℕ) (i : Instruction) (n : ℕ) → bytes ≡ spelling i ++ more
    → n ≡ length (spelling i) → drop n bytes ≡ more
rest_is bytes more i n e f = rw (f, e) (drop-append_seam (spelling i) more)

pub whole_same : (i j : Instruction) (n m : ℕ) → Whole i n ≡ Whole j m → (j ≡ i) × (m ≡ n)
whole_same i j n m e = (cc, cc)

-- what `check` accepts, under the limits that hold all payloads
pub accepted_as : (limits : Bounds) (bytes : List ℕ) {held : Bounds} {old new : Sight} {taken : ℕ}
    {imports : List Asked} → held ≡ holding_all limits → old ≡ in_memory bytes
    → Accepted Unknown None held old new taken imports → IsAccepted limits bytes
accepted_as limits bytes {held} {old} {new} {taken} {imports} l e a =
    let b : Accepted Unknown None (holding_all limits) (in_memory bytes) new taken imports =
    rw (l, e) at a in (
      b.instructions,
      record { new = new; taken = taken; imports = imports; accepted = b; is = refl },
    )
