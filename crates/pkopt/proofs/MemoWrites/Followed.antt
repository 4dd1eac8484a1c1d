-- Following the memo writes along instructions.
use Rattle.std.proofs.Common.{◌≡◌, ℕ, ◌+◌, cond, List, [], ◌∷◌, length, Some, inl, inr, refl, sym}
use Rattle.std.proofs.Common.{ap, subst, ◌∙◌, arith}
use Rattle.std.proofs.lemmas.Bool.Decides.{eqb_tells}
use Rattle.pkops.specs.declared.Op.{Op}
use Rattle.pkops.specs.declared.Op.TheVariants as op
use Rattle.pkstack.specs.Shape.{recalled, stored}
use Rattle.pkstack.specs.declared.Move.TheVariants as move
use Rattle.pkmachine.specs.Effects.{Moves, effect_of}
use Rattle.pkopt.specs.declared.memo.MemoUse.TheVariants.{Stores, StoresNext, Fetches}
use Rattle.pkopt.specs.declared.trace.Trace.{Trace}
use Rattle.pkopt.specs.Private.Memories.{HoldsWrites}
use Rattle.pkopt.specs.Private.Passes.{FollowsWrites, memo_use}
use Rattle.pkopt.specs.Writers.{Writes, last_write, different, more_if_none}
use Rattle.pkopt.proofs.MemoWrites.Recalled.{recalled_same, recalled_other, rising_insert}
use Rattle.pkopt.proofs.MemoWrites.Recalled.{length_insert}

-- before the first write
pub holds_none : (memo : List (ℕ × ℕ)) → memo ≡ [] → HoldsWrites [] memo
holds_none memo none = subst (HoldsWrites []) (sym none)
    (record { found = λ n. refl; count = refl; rising = tt })

-- after one more, of number n
holds_more : (ws : Writes) (memo : List (ℕ × ℕ)) (n w : ℕ) → w ≡ length ws → HoldsWrites ws memo
    → HoldsWrites (n ∷ ws) (stored n w memo)
holds_more ws memo n w is h = record {
  found = λ k. elim (eqb_tells k n) [
    | inl q ↦ ap (λ b. cond b (Some (length ws)) (last_write k ws)) q.0
        ∙ sym (ap (λ j. recalled j (stored n w memo)) q.1 ∙ recalled_same n w memo
        ∙ ap (λ x. Some x) is)
    | inr q ↦ ap (λ b. cond b (Some (length ws)) (last_write k ws)) q.0 ∙ h.found k
        ∙ sym (recalled_other k n w memo q.1)
  ];
  count = ap (λ o. more_if_none o (different ws)) (h.found n)
      ∙ ap (λ m. more_if_none (recalled n memo) m) h.count ∙ sym (length_insert n w memo h.rising);
  rising = rising_insert n w memo h.rising;
}

-- a write under this number, or under the number of entries, is recorded
module _ (ws : Writes) (old new : Trace) (count : new.writes ≡ old.writes + 1) where
  pub noted : (n : ℕ) → new.memo ≡ stored n old.writes old.memo → FollowsWrites ws old
      → FollowsWrites (n ∷ ws) new
  noted n kept h =
      let before = h.count in
      record {
        holds = subst (HoldsWrites (n ∷ ws)) (sym kept)
            (holds_more ws old.memo n old.writes h.count h.holds);
        count = omega (arith, count, before);
      }

  pub noted_next : new.memo ≡ stored (length old.memo) old.writes old.memo → FollowsWrites ws old
      → FollowsWrites (different ws ∷ ws) new
  noted_next kept h = rw h.holds.count (noted (length old.memo) kept h)

pub effect_stores : (o : Op) → memo_use o ≡ Stores → effect_of o ≡ Moves move.Stores
effect_stores op.Put e = refl
effect_stores o e = cc

pub effect_next : (o : Op) → memo_use o ≡ StoresNext → effect_of o ≡ Moves move.StoresNext
effect_next op.Memoize e = refl
effect_next o e = cc

pub effect_fetches : (o : Op) → memo_use o ≡ Fetches → effect_of o ≡ Moves move.Fetches
effect_fetches op.Get e = refl
effect_fetches o e = cc
