-- From a weight to the answer.
use Rattle.std.proofs.Common.{◌≡◌, ℕ, ◌+◌, ◌<◌, ◌≤◌, List, length, get_or, replicate, sym, ap, ◌∙◌}
use Rattle.std.proofs.Common.{subst, arith, refl, Option, Ok, Err, Result}
use Rattle.std.specs.Prelude.{IfOk}
use Rattle.std.proofs.lemmas.Option.{slice_get_within, get_or_from_slice_get}
use Rattle.std.proofs.lemmas.List.{length-replicate, get_or-replicate}
use Rattle.serde_json.specs.Data.{Data, depth}
use Rattle.serde_json.specs.Written.{compact_text}
use Rattle.pkops.specs.Limits.{Bounds}
use Rattle.pkjson.specs.declared.judge.Weight.{Weight}
use Rattle.pkjson.specs.Unfolds.{Heap, Unfolds, count}
use Rattle.pkjson.specs.Private.Weighs.{Weighs, IsDeeper, IsTrusted, no_weight}
use Rattle.pkjson.specs.Private.Fits.{Fits}
use Rattle.pkjson.specs.Private.Pieces.{IsWhole, Writes}
use Rattle.pkjson.specs.Private.Result.{HasValue, IsAnswered, IsText, IsTooLarge, IsValue}
use Rattle.pkjson.specs.declared.error.ExportError.{ExportError}
use Rattle.pkjson.specs.Private.Sends.{IsCompact}
use Rattle.pkjson.proofs.Values.OneValue.{unique}

pub blank_trusted : (h : Heap) (cap n : ℕ) (done : List Weight) → done ≡ replicate n no_weight
    → IsTrusted h cap done
unfolding IsTrusted
blank_trusted h cap n done d x w e some =
    let l : x < n = subst (λ k. x < k) (ap length d ∙ length-replicate n no_weight)
    (slice_get_within done x w e) in
    let is : no_weight ≡ w = sym (get_or-replicate n x no_weight no_weight l)
    ∙ ap (λ t. get_or t x no_weight) (sym d) ∙ get_or_from_slice_get done x w no_weight e in
    absurd (omega (arith, some, ap (λ v. v.count) is))

module _ (h : Heap) (x : ℕ) where
  pub all_deeper : (fuel : ℕ) → IsDeeper h fuel x → (v : Data) → Unfolds h x v → fuel < depth v
  unfolding IsDeeper
  all_deeper fuel d v u = d v u

  pub too_many : (cap deepest most : ℕ) (w : Weight) → cap ≡ most + 1 → Weighs h cap x w
      → w.depth ≤ deepest → most < w.count → (v : Data) × Unfolds h x v × (depth v ≤ deepest)
      × (most < count v)
  unfolding Weighs
  too_many cap deepest most w e i d c = (i.0, i.1, omega (arith, i.2), omega (arith, i.3, e))

  pub has_value : (cap deepest most : ℕ) (w : Weight) → cap ≡ most + 1 → Weighs h cap x w
      → w.depth ≤ deepest → w.count ≤ most → HasValue h deepest most x
  unfolding Weighs
  has_value cap deepest most w e i d c =
      (i.0, (i.1, omega (arith, i.2, d), omega (arith, i.3, e, c)))

  module _ (deepest most : ℕ) (i : HasValue h deepest most x) where
    pub value_fits : Fits h deepest x
    unfolding Fits
    value_fits = (i.0, i.1.0, i.1.1)

    pub value_is : (v : Data) → Unfolds h x v → IsValue h deepest most x v
    value_is v u = subst (λ w. IsValue h deepest most x w) (unique h x v i.0 u i.1.0) i.1

    pub text_is : (text : List ℕ) → IsCompact h x text → IsText h deepest most x text
    unfolding IsCompact
    text_is text c = (c.0, value_is c.0 c.1, c.2)

-- the text of the value was written
pub text_written : (h : Heap) (limits : Bounds) (x d m : ℕ) (old new : Option (List ℕ))
    → d ≡ limits.depth → m ≡ limits.values → HasValue h d m x → Writes h x old new
    → IsAnswered h limits x old new (Ok tt)
unfolding Writes
text_written h limits x d m old new e f i w =
    let is = value_is h x d m i w.0 w.1 in
    (compact_text w.0, (w.0, (is.0, omega (arith, is.1, e), omega (arith, is.2, f)), refl), w.2)

-- so it is where the text was made before it was written, or there was no memory for it
pub whole_answered : {E : Type 0} (h : Heap) (limits : Bounds) (x d m : ℕ)
    (old new : Option (List ℕ)) → d ≡ limits.depth → m ≡ limits.values → HasValue h d m x
    → (result : Result (Result (Unit {0}) ExportError) E) → IfOk result (IsWhole h x old new)
    → IfOk result (IsAnswered h limits x old new)
whole_answered h limits x d m old new e f i (Ok (Ok tt)) w =
    text_written h limits x d m old new e f i w
whole_answered h limits x d m old new e f i (Ok (Err error)) w =
    (subst (IsTooLarge h limits.depth limits.values x) (sym w.0) tt, w.1)
whole_answered h limits x d m old new e f i (Err error) w = w
