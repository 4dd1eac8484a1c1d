-- The derived comparison of opcodes says yes exactly where they are equal.
use denote.Enum.Bare.{sameb, same_true, same_false}
use Rattle.std.proofs.Common.{◌≡◌, ◌≢◌, Bool, true, false, MatchBool, sym}
use Rattle.pkops.specs.contracts.op.Op.{the_type}
use Rattle.pkops.specs.declared.op.Op.{Op}
use Rattle.pkops.proofs.inst.is_same_opcode.Goals as goal

decides : (first second : Op) (answer : Bool) → answer ≡ sameb the_type first second
    → MatchBool answer (first ≡ second) (first ≢ second)
decides first second true h = same_true the_type tt first second (sym h)
decides first second false h = same_false the_type first second (sym h)

pub returns : goal.returns
returns c = decides c.args.first c.args.second c.eq.result c.eq.ensures
