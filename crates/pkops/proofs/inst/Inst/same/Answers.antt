-- Of two instructions with the same opcode, the arguments decide whether they are the same.
use Rattle.std.proofs.Common.{◌≡◌, ◌≢◌, Bool, true, false, MatchBool}
use Rattle.pkops.specs.Spelling.{Argument, Instruction}
use Rattle.pkops.specs.Inst.{instruction_of}
use Rattle.pkops.proofs.inst.Inst.same.Goals as goal

arg_of : (a b : Instruction) → a ≡ b → a.arg ≡ b.arg
arg_of a b e = λ i. (e i).arg

-- with the same opcode, the arguments decide
by_arguments : (a b : Instruction) (x y : Argument) (answer : Bool) → a.op ≡ b.op → x ≡ a.arg
    → y ≡ b.arg
    → MatchBool answer (x ≡ y) (x ≢ y) → MatchBool answer (a ≡ b) (a ≢ b)
by_arguments a b x y true o h k m =
    let args : a.arg ≡ b.arg = cc (h, k, m) in λ i. record { op = o i; arg = args i }
by_arguments a b x y false o h k m = λ e. m (cc (h, k, arg_of a b e))

pub returns-then-is_same_opcode : goal.returns-then-is_same_opcode
returns-then-is_same_opcode c =
    by_arguments (instruction_of c.args.self.now) (instruction_of c.args.other.now) _ _
    c.is_same_argument.result c.if-is_same_opcode.ensures c.arg.ensures.arg
    c.arg-then-is_same_opcode.ensures.arg c.is_same_argument.ensures
