-- What is judged where it lies: a text, which is good where it is UTF-8, and a line.
use Rattle.std.proofs.Common.{◌≡◌, ℕ, ◌+◌, ◌-◌, None, List, [], ◌∷◌, ◌++◌, length, take, drop, refl}
use Rattle.std.proofs.Common.{sym, ap, ◌∙◌, arith, length-append, drop_at, take_all, take_at}
use Rattle.std.proofs.Common.{IsUtf8}
use Rattle.pkops.specs.Contents.{IsGood}
use Rattle.pkops.specs.Growth.{BegunLaws, CountLaws}
use Rattle.pkops.specs.KnownLayout.{Lies}
use Rattle.pkops.specs.Spelling.{Argument, Counted, Line, Suits, instruction, layout_at}
use Rattle.pkops.specs.Table.{code_of}
use Rattle.pkops.specs.declared.Layout.TheVariants as layout
use Rattle.pkops.specs.declared.Op.{Op}
use Rattle.pkops.specs.declared.Op.TheVariants as op
use Rattle.pkops.specs.declared.Reason.TheVariants.{BadArgument}
use Rattle.pkread.proofs.Bytes.Behind.{payload_lie, payload_took}
use Rattle.pkread.proofs.Bytes.Judged.{broken_of, stops_amiss}
use Rattle.pkread.proofs.Bytes.LinesBehind.{one_lies}
use Rattle.pkread.specs.Admission.{objection}
use Rattle.pkread.specs.Private.Arms.{Counts, Finds, Stops, TookLine}
use Rattle.pkread.specs.Private.Judgement.{TakesUtf8}
use Rattle.pkread.specs.Private.Progress.{Intake}
use Rattle.pkread.specs.Private.Reads.{Took, TookAll}
use Rattle.pkread.specs.declared.arms.Count.{Count}

module _ (c : Count) (x : ℕ) (o : Op) (old mid new : Intake) (e : old.bytes ≡ code_of o ∷ [])
    (lay : layout_at o ≡ layout.Counted c.width c.signed) (k : Counts c x old mid)
    (counts : CountLaws) (text : TakesUtf8 o) (s : TookAll x mid new) where
  -- the payload stands behind what was held before it
  pub payload_in : (a b : List ℕ) → a ≡ mid.bytes → b ≡ new.bytes →
      take (length b - length a) (drop (length a) b) ≡ s.bytes
  payload_in a b f g =
      let is : b ≡ a ++ s.bytes =
      g ∙ (s.took.held ∙ ap (λ (l : List ℕ). l ++ s.bytes) (sym f)) in
      ap (take (length b - length a)) (ap (drop (length a)) is ∙ drop_at a s.bytes (length a) refl)
      ∙ take_all (length b - length a) s.bytes
      (omega (arith, ap length is, length-append a s.bytes))

  lies : Lies c.limit o (Counted s.bytes) 0 new.bytes
  lies = payload_lie c x o old mid new e lay k counts s

  took : Took (k.field ++ s.bytes) old new
  took = payload_took c x o old mid new e lay k s

  pub text_finds : IsUtf8 s.bytes → Finds c.limit o 0 old new
  text_finds h = record {
    bytes = k.field ++ s.bytes;
    took = took;
    found = record {
      arg = Counted s.bytes;
      lies = lies;
      good = record { suits = lies.laid.suits; contents = rw text.contents h };
      admitted = text.admitted (Counted s.bytes);
    };
  }

  pub text_stops : BegunLaws → (IsUtf8 s.bytes → ⊥) → Stops c.limit old new BadArgument
  text_stops laws h =
      let bad : IsGood (instruction o (Counted s.bytes)) → ⊥ =
      λ good. h (rw text.contents at good.contents) in
      let w = broken_of c.limit o (Counted s.bytes) 0 new.bytes lies bad in
      stops_amiss laws c.limit o (Counted s.bytes) 0 (k.field ++ s.bytes) old new BadArgument
      took lies w

-- opcodes with a line are admitted
pub line_admitted : (o : Op) (most : ℕ) (arg : Argument) → layout_at o ≡ layout.Line most →
    objection (instruction o arg) ≡ None
line_admitted op.Int most arg e = refl
line_admitted _ most arg e = cc

-- and so are those with two
pub pair_admitted : (o : Op) (most : ℕ) (arg : Argument) → layout_at o ≡ layout.Pair most →
    objection (instruction o arg) ≡ None
pair_admitted op.Global most arg e = refl
pair_admitted _ most arg e = cc

module _ (most : ℕ) (o : Op) (old new : Intake) (e : old.bytes ≡ code_of o ∷ [])
    (lay : layout_at o ≡ layout.Line most) (s : TookLine most old new) where
  -- the line stands between the code and its end
  pub line_held : (b : List ℕ) → b ≡ new.bytes → b ≡ code_of o ∷ (s.text ++ 10 ∷ [])
  line_held b f = f ∙ (s.took.held ∙ ap (λ (l : List ℕ). l ++ (s.text ++ 10 ∷ [])) e)

  pub line_long : (b : List ℕ) → b ≡ new.bytes → length b ≡ length s.text + 2
  line_long b f = omega (arith, ap length (line_held b f), length-append s.text (10 ∷ []))

  pub line_in : (b : List ℕ) → b ≡ new.bytes → take ((length b - 1) - 1) (drop 1 b) ≡ s.text
  line_in b f =
      let k : (length b - 1) - 1 ≡ length s.text = omega (arith, line_long b f) in
      ap (take ((length b - 1) - 1)) (ap (drop 1) (line_held b f))
      ∙ (ap (λ i. take i (s.text ++ 10 ∷ [])) k ∙ take_at s.text (10 ∷ []) (length s.text) refl)

  pub line_suits : Suits (layout_at o) (Line s.text)
  line_suits = rw lay s.line

  pub line_finds : IsGood (instruction o (Line s.text)) → (limit : ℕ) → Finds limit o 0 old new
  line_finds good limit = record {
    bytes = s.text ++ 10 ∷ [];
    took = s.took;
    found = record {
      arg = Line s.text;
      lies = one_lies limit most o old new e lay s;
      good = good;
      admitted = line_admitted o most (Line s.text) lay;
    };
  }

  pub line_stops : BegunLaws → (IsGood (instruction o (Line s.text)) → ⊥) → (limit : ℕ) →
      Stops limit old new BadArgument
  line_stops laws bad limit =
      let lies = one_lies limit most o old new e lay s in
      let w = broken_of limit o (Line s.text) 0 new.bytes lies bad in
      stops_amiss laws limit o (Line s.text) 0 (s.text ++ 10 ∷ []) old new BadArgument s.took lies w
