-- The operands of an operation, given the entries above the mark.
use Rattle.std.proofs.Common.{◌≡◌, List, [], Some, None, Ok, Err, refl}
use Rattle.pkstack.specs.declared.takes.SliceRule.{SliceRule}
use Rattle.pkstack.specs.declared.takes.Takes.TheVariants.{SliceAndReceiver}
use Rattle.pkstack.specs.Shape.{Breach, Entry, Taken, slice, items, breaks, operands}

module _ {A : Type 0} (rule : SliceRule) (es : List (Entry A)) (t : Taken A)
    (e : slice es [] ≡ Ok t) where
  pub receiver_missing : (b : Breach) → items 1 t.below t.operands ≡ Err b
      → operands (SliceAndReceiver rule) es ≡ Err b
  receiver_missing b f = rw (e, f) refl

  pub receiver_fits : (u : Taken A) → items 1 t.below t.operands ≡ Ok u
      → breaks rule t.operands ≡ None → operands (SliceAndReceiver rule) es ≡ Ok u
  receiver_fits u g f = rw (e, g, f) refl

  pub receiver_breaks : (u : Taken A) (b : Breach) → items 1 t.below t.operands ≡ Ok u
      → breaks rule t.operands ≡ Some b → operands (SliceAndReceiver rule) es ≡ Err b
  receiver_breaks u b g f = rw (e, g, f) refl
