-- What a plain instruction does to the memo, and to the slim form.
use Rattle.std.proofs.Common.{◌≡◌, ℕ, true, false, cond, List, [], ◌∷◌, Option, ◌∙◌, ap}
use Rattle.pkops.specs.declared.Op.{Op}
use Rattle.pkops.specs.declared.Op.TheVariants as op
use Rattle.pkops.specs.Operands.{memo_number}
use Rattle.pkops.specs.Spelling.{Instruction}
use Rattle.pkmachine.specs.Effects.{Effect, effect_of}
use Rattle.pkopt.specs.declared.memo.MemoUse.TheVariants.{Neither}
use Rattle.pkopt.specs.Private.Passes.{memo_use}
use Rattle.pkopt.specs.Private.Places.{stays_as_is}
use Rattle.pkopt.specs.Slim.{is_frame, left_of}
use Rattle.pkopt.specs.Writers.{Writes, wrote, after, read_by}

-- what an instruction that doesn't use the memo does to it, and what is left of it
module _ (vs : List (Option ℕ)) (ws : Writes) (i : Instruction) where
  pub record Passes (e : Effect) : Type 0 where
    pub no_write : wrote e (memo_number i) ws ≡ ws
    pub no_read : read_by e (memo_number i) ws ≡ []
    pub stays : left_of vs ws e i ≡ cond (is_frame i.op) [] (i ∷ [])

  pub neither : (o : Op) → memo_use o ≡ Neither → Passes (effect_of o)
  neither op.Put e = record { no_write = cc; no_read = cc; stays = cc }
  neither o e = record { no_write = cc; no_read = cc; stays = cc }

-- an instruction that is plain
pub record IsPlain (i : Instruction) : Type 0 where
  pub no_write : (ws : Writes) → after i ws ≡ ws
  pub no_read : (ws : Writes) → read_by (effect_of i.op) (memo_number i) ws ≡ []
  pub stays : (vs : List (Option ℕ)) (ws : Writes) → left_of vs ws (effect_of i.op) i ≡ i ∷ []
  pub no_frame : is_frame i.op ≡ false

pub uses_none : (o : Op) → stays_as_is o ≡ true → (memo_use o ≡ Neither) × (is_frame o ≡ false)
uses_none op.Put e = cc
uses_none o e = (cc, cc)

pub plain_is : (i : Instruction) → stays_as_is i.op ≡ true → IsPlain i
plain_is i e =
    let none = uses_none i.op e in
    record {
      no_write = λ ws. (neither [] ws i i.op none.0).no_write;
      no_read = λ ws. (neither [] ws i i.op none.0).no_read;
      stays = λ vs ws. (neither vs ws i i.op none.0).stays
          ∙ ap (λ b. cond b [] (i ∷ [])) none.1;
      no_frame = none.1;
    }
