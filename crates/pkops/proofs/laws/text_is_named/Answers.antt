-- The text decoded from an instruction is the one that the relation names, and vice versa.
use Rattle.pkops.proofs.Instructions.TextNamed.{text_is_named}
use Rattle.pkops.proofs.laws.text_is_named.Goals as goal

pub returns : goal.returns
returns c = text_is_named
