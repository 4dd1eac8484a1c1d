-- The effect of an instruction under each decoding of old strings.
use Rattle.std.proofs.Common.{◌≡◌, ℕ, Bool, true, false, ◌||◌, cond, []}
use Rattle.std.proofs.Common.{Ok, ◌⊎◌, inl, inr, refl, ◌∙◌}
use Rattle.std.specs.Prelude.{IsTrue, unwrap_or}
use Rattle.std.specs.List.{list_all}
use Rattle.std.specs.Char.{is_ascii}
use Rattle.pkops.specs.Admitted.{is_admitted_by}
use Rattle.pkops.specs.OldBytes.{old_bytes}
use Rattle.pkops.specs.Payloads.{is_passed}
use Rattle.pkops.specs.Spelling.{Instruction}
use Rattle.pkops.specs.declared.Op.{Op}
use Rattle.pkops.specs.declared.Op.TheVariants as op
use Rattle.pkmachine.specs.declared.effect.Class.TheVariants as class
use Rattle.pkstack.specs.declared.Move.TheVariants.{Extends}
use Rattle.pkmachine.specs.Effects.{Effect, Operates, Moves, Raises, ascii_string, effect_as}
use Rattle.pkmachine.specs.Effects.{effect_of, is_old_string, pushes, MakesText, NoName, Objects}
use Rattle.pkmachine.specs.Effects.{OldStrings, Unknown, Ascii, Bytes}
use Rattle.pkops.specs.Limits.{Bounds}
use Rattle.pkmachine.specs.Knowledge.{Knowledge, Policy, Progress, advance}
use Rattle.pkmachine.specs.Memory.{WantsNoMemory}
use Rattle.pkmachine.specs.Private.StepErrors.{MayWantMemory}
use Rattle.pkmachine.specs.Texts.{makes_text, texts_then}
use Rattle.pkmachine.specs.View.{texts_after}

abbrev makes_text_effect : Effect
makes_text_effect = Operates (Objects 0) NoName MakesText

-- a property of the opcode's effect and of each effect of an old string is a property of the effect
pub by_setting : (P : Effect → Type 0) (setting : OldStrings) (i : Instruction) → P (effect_of i.op)
    → (is_old_string i.op ≡ true → P makes_text_effect) → (is_old_string i.op ≡ true → P Raises)
    → (is_old_string i.op ≡ true → P (pushes class.Bytes)) → P (effect_as setting i)
by_setting P Unknown i h t r b = h
by_setting P Ascii i h t r b =
    elim (is_old_string i.op) as (λ c. is_old_string i.op ≡ c
    → P (cond c (ascii_string (unwrap_or (old_bytes i) [])) (effect_of i.op))) [
      | true ↦ λ e.
          elim (list_all is_ascii (unwrap_or (old_bytes i) [])) as (λ c.
          P (cond c makes_text_effect Raises)) [ true ↦ t e | false ↦ r e ]
      | false ↦ λ e. h
    ] refl
by_setting P Bytes i h t r b =
    elim (is_old_string i.op) as (λ c. is_old_string i.op ≡ c
    → P (cond c (pushes class.Bytes) (effect_of i.op))) [ true ↦ λ e. b e | false ↦ λ e. h ]
    refl

-- ---- extension codes

no_registry_of : (i : Instruction) → IsTrue (is_admitted_by i.op i.arg) → (o : Op) → o ≡ i.op
    → effect_of i.op ≡ Moves Extends → ⊥
no_registry_of i h o same e = absurd (wants_no_registry_of i.op i.arg h e) where
  wants_no_registry_of : (o : Op) (a : _) → IsTrue (is_admitted_by o a)
      → effect_of o ≡ Moves Extends → ⊥
  wants_no_registry_of op.Ext1 a h e = cc
  wants_no_registry_of op.Ext2 a h e = cc
  wants_no_registry_of op.Ext4 a h e = cc
  wants_no_registry_of _ a h e = cc

-- only extension codes need a registry, and they are not admitted
pub wants_no_registry : (setting : OldStrings) (i : Instruction)
    → IsTrue (is_admitted_by i.op i.arg) → effect_as setting i ≡ Moves Extends → ⊥
wants_no_registry setting i h = by_setting (λ x. x ≡ Moves Extends → ⊥) setting i
    (no_registry_of i h i.op refl) (λ o e. cc) (λ o e. cc) (λ o e. cc)

-- ---- memory

neither : ⊥ ⊎ ⊥ → ⊥
neither (inl h) = h
neither (inr h) = h

wants_none : (o : Op) → WantsNoMemory o → MayWantMemory (effect_of o) → ⊥
wants_none op.Append b h = neither h
wants_none op.Appends b h = neither h
wants_none op.SetItem b h = neither h
wants_none op.SetItems b h = neither h
wants_none op.AddItems b h = neither h
wants_none op.Build b h = neither h
wants_none op.Pop b h = h
wants_none op.PopMark b h = h
wants_none op.Proto b h = h
wants_none op.Frame b h = h
wants_none op.Stop b h = h
wants_none _ b h = b

old_wants : (o : Op) → is_old_string o ≡ true → WantsNoMemory o → ⊥
old_wants op.String e h = h
old_wants op.BinString e h = h
old_wants op.ShortBinString e h = h
old_wants _ e h = cc

-- a step that never allocates has an effect that never allocates
pub wants_no_memory : (setting : OldStrings) (i : Instruction) → WantsNoMemory i.op
    → MayWantMemory (effect_as setting i) → ⊥
wants_no_memory setting i h =
    by_setting (λ x. MayWantMemory x → ⊥) setting i (wants_none i.op h) (λ o w. old_wants i.op o h)
    (λ o w. old_wants i.op o h) (λ o w. old_wants i.op o h)

-- ---- payloads that may be skipped

not_both : {A : Type 0} (o : Op) → IsTrue (is_passed o) → is_old_string o ≡ true → A
not_both op.String h e = cc
not_both op.BinString h e = cc
not_both op.ShortBinString h e = cc
not_both _ h e = cc

-- skipped payloads are not those of old strings
pub passed_effect : (setting : OldStrings) (i : Instruction) → IsTrue (is_passed i.op)
    → effect_as setting i ≡ effect_of i.op
passed_effect setting i h = by_setting (λ x. x ≡ effect_of i.op) setting i refl (not_both i.op h)
    (not_both i.op h) (not_both i.op h)

-- ---- texts

texts_by_opcode : (o : Op) (count : ℕ) → texts_after (effect_of o) count
    ≡ texts_then Unknown o count
texts_by_opcode op.Int count = refl
texts_by_opcode _ count = refl

no_text : (o : Op) → is_old_string o ≡ true → makes_text o ≡ false
no_text op.String e = refl
no_text op.BinString e = refl
no_text op.ShortBinString e = refl
no_text _ e = cc

or_true : (a b : Bool) → b ≡ true → (a || b) ≡ true
or_true true b e = refl
or_true false b e = e

or_false : (a b : Bool) → b ≡ false → (a || b) ≡ a
or_false true b e = refl
or_false false b e = e

-- the number of texts after a step that does not raise
pub texts_by_setting : (setting : OldStrings) (i : Instruction) (count : ℕ)
    → (effect_as setting i ≡ Raises → ⊥) → texts_after (effect_as setting i) count
    ≡ texts_then setting i.op count
texts_by_setting Unknown i count = λ n. texts_by_opcode i.op count
texts_by_setting Ascii i count =
    elim (is_old_string i.op) as (λ c. is_old_string i.op ≡ c
    → (cond c (ascii_string (unwrap_or (old_bytes i) [])) (effect_of i.op) ≡ Raises → ⊥)
    → texts_after (cond c (ascii_string (unwrap_or (old_bytes i) [])) (effect_of i.op)) count
    ≡ texts_then Ascii i.op count) [
      | true ↦ λ e.
          elim (list_all is_ascii (unwrap_or (old_bytes i) [])) as (λ c.
          (cond c makes_text_effect Raises ≡ Raises → ⊥)
          → texts_after (cond c makes_text_effect Raises) count ≡ texts_then Ascii i.op count) [
            | true ↦ λ n. rw (or_true (makes_text i.op) (is_old_string i.op) e) refl
            | false ↦ λ n. absurd (n refl)
          ]
      | false ↦ λ e n. texts_by_opcode i.op count
          ∙ rw (or_false (makes_text i.op) (is_old_string i.op) e) refl
    ] refl
texts_by_setting Bytes i count =
    elim (is_old_string i.op) as (λ c. is_old_string i.op ≡ c
    → (cond c (pushes class.Bytes) (effect_of i.op) ≡ Raises → ⊥)
    → texts_after (cond c (pushes class.Bytes) (effect_of i.op)) count
    ≡ texts_then Bytes i.op count) [
      | true ↦ λ e n. rw (no_text i.op e) refl
      | false ↦ λ e n. texts_by_opcode i.op count
    ] refl

-- a step that goes on does not raise
pub not_raised : (setting : OldStrings) (p : Policy) (l : Bounds) (i : Instruction) (k : Knowledge)
    (q : Progress) → advance setting p l i k ≡ Ok q → effect_as setting i ≡ Raises → ⊥
not_raised setting p l i k q e r = let f = rw r at e in cc
