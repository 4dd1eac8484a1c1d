-- The bytes decoded from a Python 2 string are those that the relation names, and vice versa.
use Rattle.pkops.proofs.Instructions.OldBytesNamed.{old_bytes_are_named}
use Rattle.pkops.proofs.laws.old_bytes_are_named.Goals as goal

pub returns : goal.returns
returns c = old_bytes_are_named
