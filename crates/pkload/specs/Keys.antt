-- Which objects an instruction hashes: the keys of a dict and the items of a set.
use Rattle.std.specs.Prelude.{List, [], ◌∷◌}
use Rattle.pkops.specs.declared.Op.{Op}
use Rattle.pkops.specs.declared.Op.TheVariants as op

module _ {A : Type 0} where
  -- the first, the third, and so on
  abbrev pub every_other : List A → List A
  every_other [] = []
  every_other (item ∷ []) = item ∷ []
  every_other (item ∷ between ∷ items) = item ∷ every_other items

  -- all but the first
  abbrev pub behind_first : List A → List A
  behind_first [] = []
  behind_first (item ∷ items) = items

  -- the keys among an instruction's operands, which come from the bottom up, the receiver first. A
  -- receiver of any class may hash them
  abbrev pub keys_of : Op → List A → List A
  keys_of op.SetItem operands = every_other (behind_first operands)
  keys_of op.SetItems operands = every_other (behind_first operands)
  keys_of op.Dict operands = every_other operands
  keys_of op.AddItems operands = behind_first operands
  keys_of op.FrozenSet operands = operands
  keys_of _ operands = []
