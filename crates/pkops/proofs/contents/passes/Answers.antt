-- The computed test of UTF-8 says yes to a payload exactly if it is UTF-8.
use Rattle.std.proofs.Common.{◌≡◌, Bool, List, MatchBool, false, inl, inr, sym, true, ℕ}
use Rattle.std.proofs.lemmas.Bool.{cases_Bool}
use Rattle.std.proofs.lemmas.Str.{is_utf8-from_IsUtf8, IsUtf8-from_is_utf8}
use Rattle.std.specs.Str.{IsUtf8, is_utf8}
use Rattle.pkops.proofs.contents.passes.Goals as goal

decides : (b : Bool) (bytes : List ℕ) → MatchBool b (IsUtf8 bytes) (IsUtf8 bytes → ⊥) →
    b ≡ is_utf8 bytes
decides true bytes is = sym (is_utf8-from_IsUtf8 bytes is)
decides false bytes is_not = elim (cases_Bool (is_utf8 bytes)) [
  | inl e ↦ absurd (is_not (IsUtf8-from_is_utf8 bytes e))
  | inr e ↦ sym e
]

pub returns-in-Utf8-Counted : goal.returns-in-Utf8-Counted
returns-in-Utf8-Counted c = rw (c.in-Utf8-Counted.is-0, c.in-Utf8-Counted.is-1)
    (decides _ _ c.is_utf8.ensures)
