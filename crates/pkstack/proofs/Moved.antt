-- The moves, on the stack and on the memo.
use Rattle.std.proofs.Common.{◌≡◌, ℕ, inl, inr, List, ◌∷◌, length, Some, None, Ok, Err, Result}
use Rattle.std.proofs.Common.{refl, arith}
use Rattle.pkstack.specs.declared.moves.Move.{Move}
use Rattle.pkstack.specs.declared.moves.Move.TheVariants.{Duplicates, Stores, Fetches}
use Rattle.pkstack.specs.Shape.{Shape, Item, NoMemo, top, Breach, Entry, recalled, stored, moved}
use Rattle.pkops.specs.Limits.{Bounds}
use Rattle.pkops.specs.declared.Reason.{Reason}
use Rattle.pkstack.specs.Faults.{IsFault, IsFaultOf, MoveMayWantMemory, WantsRoom, WantsMemo}

-- one entry more than the limit allows
pub grown : {A : Type 0} (b : Bounds) (n : ℕ) (x : Result (Shape A) Breach) (e : Entry A)
    (es : List (Entry A)) (m : List (ℕ × A)) (r : Reason)
    → x ≡ Ok (record { entries = e ∷ es; memo = m }) → WantsRoom b.stack (length es) r
    → IsFault b n x r
grown b n x e es m r is (inl h) =
    inr (inl (h.0, (record { entries = e ∷ es; memo = m }, is, inl (let g = h.1 in omega arith))))
grown b n x e es m r is (inr h) = inr (inr h)

-- more memo entries than the limit allows
pub stuffed : {A : Type 0} (b : Bounds) (n : ℕ) (x : Result (Shape A) Breach) (es : List (Entry A))
    (m : List (ℕ × A)) (r : Reason) → x ≡ Ok (record { entries = es; memo = m })
    → WantsMemo b.memo m r → IsFault b n x r
stuffed b n x es m r is (inl h) =
    inr (inl (h.0, (record { entries = es; memo = m }, is, inr (inl h.1))))
stuffed b n x es m r is (inr h) = inr (inr h)

module _ {A : Type 0} (h : Shape A) where
  pub duplicated : (t : A × List (Entry A)) → top h.entries ≡ Ok t
      → moved Duplicates 0 h ≡ Ok (record h { entries = Item t.0 ∷ h.entries })
  duplicated t e = rw e refl

  pub stored_is : (n : ℕ) (t : A × List (Entry A)) → top h.entries ≡ Ok t
      → moved Stores n h ≡ Ok (record h { memo = stored n t.0 h.memo })
  stored_is n t e = rw e refl

  pub fetches : (n : ℕ) (k : A) → recalled n h.memo ≡ Some k
      → moved Fetches n h ≡ Ok (record h { entries = Item k ∷ h.entries })
  fetches n k e = rw e refl

  pub fetches_none : (n : ℕ) → recalled n h.memo ≡ None → moved Fetches n h ≡ Err (NoMemo n)
  fetches_none n e = rw e refl

-- a fault without a memo number is a fault with one
pub fault_of : {A : Type 0} (m : Move) (l : Bounds) (n : ℕ) (x : Result (Shape A) Breach)
    (r : Reason) → MoveMayWantMemory m → IsFault l 0 x r → IsFaultOf m l n x r
fault_of m l n x r w (inl h) = inl h
fault_of m l n x r w (inr (inl (e, (k, is, inl h)))) = inr (inl (e, (k, is, inl h)))
fault_of m l n x r w (inr (inl (e, (k, is, inr (inl h))))) = inr (inl (e, (k, is, inr (inl h))))
fault_of m l n x r w (inr (inl (e, (k, is, inr (inr h))))) = absurd (omega arith)
fault_of m l n x r w (inr (inr h)) = inr (inr (w, h))
