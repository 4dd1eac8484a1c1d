-- That an instruction is good is known wherever it is known to be so in some way.
use Rattle.std.proofs.Common.{◌≡◌, ◌≢◌, ℕ, ◌^◌, ◌<◌, ◌≤◌, List, [], ◌∷◌}
use Rattle.std.specs.List.{AllByRecursion}
use Rattle.std.specs.Coded.{Coded-set, coded_ℕ, le_prop}
use Rattle.std.proofs.Math.Logic.{∥∥₁_elim, ∥∥₁_map}
use Rattle.pkops.specs.declared.layout.Layout.TheVariants as layout
use Rattle.pkops.specs.Spelling.{Argument, Nothing, Number, Signed, Float, Line, Pair, Counted}
use Rattle.pkops.specs.Spelling.{Layout, Instruction, IsLine, Suits, layout_at}
use Rattle.pkops.specs.Contents.{Rule, rule_of, Keeps, IsGood}
use Rattle.pkops.proofs.ContentsRules.Decided.{keeps_is, passes_of}
use Rattle.std.proofs.Math.Bool.{Bool-set}

had_le : {a b : ℕ} → ∥ a ≤ b ∥₁ → a ≤ b
had_le h = ∥∥₁_elim h le_prop (λ x. x)

had_equal : {a b : ℕ} → ∥ a ≡ b ∥₁ → a ≡ b
had_equal h = ∥∥₁_elim h (Coded-set coded_ℕ _ _) (λ x. x)

had_none : ∥ ⊥ ∥₁ → ⊥
had_none h = ∥∥₁_elim h (λ x y. absurd x) (λ x. x)

had_clean : (text : List ℕ) → ∥ AllByRecursion (λ byte. byte ≢ 10) text ∥₁
    → AllByRecursion (λ byte. byte ≢ 10) text
had_clean [] h = tt
had_clean (x ∷ text) h =
    (λ e. had_none (∥∥₁_map h (λ c. c.0 e)), had_clean text (∥∥₁_map h (λ c. c.1)))

had_line : (most : ℕ) (text : List ℕ) → ∥ IsLine most text ∥₁ → IsLine most text
had_line most text h = record {
  short = had_le (∥∥₁_map h (λ l. l.short));
  whole = had_clean text (∥∥₁_map h (λ l. l.whole));
}

had_number : (width n value : ℕ) → ∥ (width ≡ n) × (value < 256 ^ n) ∥₁
    → (width ≡ n) × (value < 256 ^ n)
had_number width n value h = (had_equal (∥∥₁_map h (λ p. p.0)), had_le (∥∥₁_map h (λ p. p.1)))

had_suits : (lay : Layout) (a : Argument) → ∥ Suits lay a ∥₁ → Suits lay a
had_suits layout.Nothing Nothing h = tt
had_suits layout.Nothing _ h = absurd (had_none h)
had_suits layout.U1 (Number width n) h = had_number width 1 n h
had_suits layout.U1 _ h = absurd (had_none h)
had_suits layout.U2 (Number width n) h = had_number width 2 n h
had_suits layout.U2 _ h = absurd (had_none h)
had_suits layout.U4 (Number width n) h = had_number width 4 n h
had_suits layout.U4 _ h = absurd (had_none h)
had_suits layout.U8 (Number width n) h = had_number width 8 n h
had_suits layout.U8 _ h = absurd (had_none h)
had_suits layout.I4 (Signed z) h = record { sfits = had_le (∥∥₁_map h (λ s. s.sfits)) }
had_suits layout.I4 _ h = absurd (had_none h)
had_suits layout.F8 (Float bytes) h = had_equal h
had_suits layout.F8 _ h = absurd (had_none h)
had_suits (layout.Line most) (Line text) h = had_line most text h
had_suits (layout.Line most) _ h = absurd (had_none h)
had_suits (layout.Pair most) (Pair first second) h =
    (had_line most first (∥∥₁_map h (λ p. p.0)), had_line most second (∥∥₁_map h (λ p. p.1)))
had_suits (layout.Pair most) _ h = absurd (had_none h)
had_suits (layout.Counted size signed) (Counted payload) h = had_le h
had_suits (layout.Counted size signed) _ h = absurd (had_none h)

had_keeps : (r : Rule) (a : Argument) → ∥ Keeps r a ∥₁ → Keeps r a
had_keeps r a h = keeps_is r a (∥∥₁_elim h (Bool-set _ _) (passes_of r a))

pub had_good : (i : Instruction) → ∥ IsGood i ∥₁ → IsGood i
had_good i h = record {
  suits = had_suits (layout_at i.op) i.arg (∥∥₁_map h (λ g. g.suits));
  contents = had_keeps (rule_of i.op) i.arg (∥∥₁_map h (λ g. g.contents));
}
