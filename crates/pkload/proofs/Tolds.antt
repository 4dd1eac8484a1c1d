-- What is told of instructions is billed as they are.
use Rattle.std.proofs.Common.{◌≡◌, ℕ, ◌-◌, true, false, cond, List, [], ◌∷◌, ◌++◌, length, Result}
use Rattle.std.proofs.Common.{Ok, Err, refl, ap, ◌∙◌, arith}
use Rattle.std.specs.Prelude.{All, ◌≢◌, ⊤}
use Rattle.std.proofs.lemmas.List.Elements.{All-head, All-tail}
use Rattle.pkops.specs.Contents.{IsGood}
use Rattle.pkops.specs.Spelling.{Argument, Counted, Instruction, Suits, instruction, layout_at}
use Rattle.pkops.specs.Spelling.{spelling}
use Rattle.pkops.specs.declared.Op.{Op}
use Rattle.pkops.specs.declared.Op.TheVariants as op
use Rattle.pkops.specs.declared.layout.Layout.TheVariants as layout
use Rattle.pkops.specs.declared.layout.Width.{Width}
use Rattle.pkops.specs.declared.layout.Width.TheVariants as width
use Rattle.pkread.specs.Sequence.{NoStop}
use Rattle.pkmachine.specs.Effects.{effect_of}
use Rattle.pkcheck.specs.Reports.{AreReportsBehind, Report, told_of}
use Rattle.pkmachine.specs.RowRuns.{Beginning}
use Rattle.pkstack.specs.Shape.{Breach, NoItem, and_then}
use Rattle.pkmachine.specs.declared.memo.Memo.{Memo}
use Rattle.pkmachine.specs.declared.old_strings.OldStrings.{OldStrings}
use Rattle.pkload.specs.Bill.{Bill, all_billed, billed}
use Rattle.pkload.specs.Private.Told.{Metering, all_metered, bytes_billed, metered, next_if}
use Rattle.pkload.specs.Private.Told.{told_billed, with_bill}
use Rattle.pkload.proofs.Grown.{billed_ends, is_stop}

abbrev IsSame : Op → Bill → Argument → Type 0
IsSame o b a =
    told_billed (told_of false (instruction o a)) b ≡ billed (instruction o a) b

-- a payload that is skipped is billed by its size
by_size : (o : Op) (b : Bill) (n m : ℕ) → n ≡ m
    → cond b.ended (Err NoItem) (Ok (bytes_billed o n b))
    ≡ cond b.ended (Err NoItem) (Ok (bytes_billed o m b))
by_size o b n m e = ap (λ k. cond b.ended (Err NoItem) (Ok (bytes_billed o k b))) e

by_payload : (o : Op) (size : Width) (a : Argument) (b : Bill)
    → ((p : List ℕ) → IsSame o b (Counted p)) → Suits (layout.Counted size false) a → IsSame o b a
by_payload o size (Counted p) b on h = on p
by_payload o size _ b on h = absurd h

same_with : (o : Op) (a : Argument) (b : Bill) → Suits (layout_at o) a → IsSame o b a
same_with op.BinBytes a b h = by_payload op.BinBytes width.Four a b
    (λ p. by_size op.BinBytes b (length (spelling (instruction op.BinBytes (Counted p))) - 5)
    (length p) (omega arith)) h
same_with op.ShortBinBytes a b h = by_payload op.ShortBinBytes width.One a b
    (λ p. by_size op.ShortBinBytes b
    (length (spelling (instruction op.ShortBinBytes (Counted p))) - 2) (length p) (omega arith)) h
same_with op.BinBytes8 a b h = by_payload op.BinBytes8 width.Eight a b
    (λ p. by_size op.BinBytes8 b (length (spelling (instruction op.BinBytes8 (Counted p))) - 9)
    (length p) (omega arith)) h
same_with op.ByteArray8 a b h = by_payload op.ByteArray8 width.Eight a b
    (λ p. by_size op.ByteArray8 b (length (spelling (instruction op.ByteArray8 (Counted p))) - 9)
    (length p) (omega arith)) h
same_with _ a b h = refl

pub told_same : (i : Instruction) (b : Bill) → IsGood i
    → told_billed (told_of false i) b ≡ billed i b
told_same i b h = same_with i.op i.arg b h.suits

-- ---- STOP, and nothing else, ends a pickle

goes_on : (o : Op) → o ≢ op.Stop → is_stop (effect_of o) ≡ false
goes_on op.Stop h = absurd (h refl)
goes_on _ h = refl

pub still_going : (i : Instruction) (b c : Bill) → i.op ≢ op.Stop → b.ended ≡ false
    → billed i b ≡ Ok c → c.ended ≡ false
still_going i b c g e h =
    billed_ends i b c h ∙ ap (λ p. cond p true b.ended) (goes_on i.op g) ∙ e

pub stopped : (i : Instruction) (b c : Bill) → i.op ≡ op.Stop → billed i b ≡ Ok c → c.ended ≡ true
stopped i b c g h =
    billed_ends i b c h ∙ ap (λ o. cond (is_stop (effect_of o)) true b.ended) g

-- ---- the reports of one pickle

-- no instruction follows STOP
abbrev pub NoneBehindStop : List Instruction → Type 0
NoneBehindStop [] = ⊤
NoneBehindStop (i ∷ []) = ⊤
NoneBehindStop (i ∷ j ∷ is) = (i.op ≢ op.Stop) × NoneBehindStop (j ∷ is)

pub none_behind : (front : List Instruction) (last : Instruction) → NoStop front
    → NoneBehindStop (front ++ last ∷ [])
none_behind [] last h = tt
none_behind (i ∷ []) last h = (All-head (λ i. i.op ≢ op.Stop) i [] h, tt)
none_behind (i ∷ j ∷ is) last h = (
  All-head (λ i. i.op ≢ op.Stop) i (j ∷ is) h,
  none_behind (j ∷ is) last (All-tail (λ i. i.op ≢ op.Stop) i (j ∷ is) h),
)

module _ (memo : Memo) (setting : OldStrings) (beginning : Beginning) (from : ℕ) where
  abbrev AreReports : List Instruction → List Instruction → List Report → Type 0
  AreReports = AreReportsBehind false setting beginning from

  -- what is metered of a pickle
  abbrev pub metering_of : Metering → Result Bill Breach → Result Metering Breach
  metering_of m x = and_then x (λ bill. Ok (with_bill m bill))

  pub one_told : (i : Instruction) (r : Report) (m : Metering) → r.told ≡ told_of false i
      → IsGood i → m.bill.ended ≡ false → metered memo r m ≡ metering_of m (billed i m.bill)
  one_told i r m same good e =
      ap (λ q. and_then (told_billed r.told (next_if q memo m).bill)
      (λ bill. Ok (with_bill (next_if q memo m) bill))) e
      ∙ ap (λ t. metering_of m (told_billed t m.bill)) same
      ∙ ap (metering_of m) (told_same i m.bill good)

  next_told : (m : Metering) (is : List Instruction) (rs : List Report)
      (x : Result Bill Breach)
      → ((b : Bill) → x ≡ Ok b → all_metered memo rs (with_bill m b)
      ≡ metering_of m (all_billed is b))
      → and_then (metering_of m x) (all_metered memo rs)
      ≡ metering_of m (and_then x (all_billed is))
  next_told m is rs (Ok b) on = on b refl
  next_told m is rs (Err e) on = refl

  pub told_along : (before is : List Instruction) (rs : List Report) (m : Metering)
      → AreReports before is rs → All IsGood is → NoneBehindStop is → m.bill.ended ≡ false
      → all_metered memo rs m ≡ metering_of m (all_billed is m.bill)
  told_along before [] [] m h g s e = refl
  told_along before [] (r ∷ rs) m h g s e = absurd h
  told_along before (i ∷ is) [] m h g s e = absurd h
  told_along before (i ∷ []) (r ∷ rs) m h g s e =
      ap (λ x. and_then x (all_metered memo rs))
      (one_told i r m h.0.same (All-head IsGood i [] g) e)
      ∙ next_told m [] rs (billed i m.bill) (λ b q. none_left rs b h.1)
    where
      none_left : (rs : List Report) (b : Bill) → AreReports (before ++ i ∷ []) [] rs
          → all_metered memo rs (with_bill m b) ≡ Ok (with_bill m b)
      none_left [] b k = refl
      none_left (q ∷ qs) b k = absurd k
  told_along before (i ∷ j ∷ is) (r ∷ rs) m h g s e =
      ap (λ x. and_then x (all_metered memo rs))
      (one_told i r m h.0.same (All-head IsGood i (j ∷ is) g) e)
      ∙ next_told m (j ∷ is) rs (billed i m.bill)
      (λ b q. told_along (before ++ i ∷ []) (j ∷ is) rs (with_bill m b) h.1
      (All-tail IsGood i (j ∷ is) g) s.1 (still_going i m.bill b s.0 e q))
