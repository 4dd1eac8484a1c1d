-- The code of a class is its number plus one, class by class.
use denote.Enum.Declared.{tag_of}
use Rattle.std.proofs.Common.{◌≡◌, ◌+◌, refl}
use Rattle.pkmachine.specs.Private.Packed.{unpacked}
use Rattle.pkmachine.specs.contracts.effect.Class.{the_type}
use Rattle.pkmachine.specs.declared.effect.Class.{Class}
use Rattle.pkmachine.specs.declared.effect.Class.TheVariants as class
use Rattle.pkmachine.specs.declared.value.Value.TheVariants as value
use Rattle.pkmachine.proofs.packed.PackedValue.made.Goals as goal

counted : (c : Class) → unpacked (tag_of the_type c + 1) ≡ value.Made c
counted class.None = refl
counted _ = refl

pub returns : goal.returns
returns c = counted c.args.class
