-- The buffer begins with the encoding of the imports passed.
use Rattle.std.proofs.Common.{take}
use Rattle.std.specs.List.{flat_map}
use Rattle.pkguard.specs.Encoding.{encoded}
use Rattle.pkguard.specs.Private.Written.{IsWritten}
use Rattle.pkguard.proofs.encoding.put_imports.Given as goal

abbrev pub invariant-loop-number : goal.invariant-loop-number
invariant-loop-number l =
    IsWritten (flat_map encoded (take l.number l.imports)) l.initial.room l.room l.next
