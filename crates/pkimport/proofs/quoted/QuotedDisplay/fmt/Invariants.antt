-- Behind the opening quote stand the bytes passed so far, each as it is printed in quotes.
use Rattle.std.proofs.Common.{take}
use Rattle.std.specs.List.{flat_map}
use Rattle.std.specs.Fmt.{HasWritten, IsPlainFormatter}
use Rattle.pkimport.specs.Quoted.{quoted_byte}
use Rattle.pkimport.proofs.quoted.QuotedDisplay.fmt.Given as goal

abbrev pub invariant-loop-byte : goal.invariant-loop-byte
invariant-loop-byte g l =
    IsPlainFormatter l.initial.f → HasWritten g.W.Write.write_str_gives l.initial.f
    (flat_map quoted_byte (take l.byte-index l.byte-items)) l.f
