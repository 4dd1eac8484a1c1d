-- Every arm records the place and the step of an instruction that may change.
use Rattle.std.proofs.Common.{sym, ap, ◌∙◌}
use Rattle.pkops.specs.Inst.{instruction_of}
use Rattle.pkopt.specs.Private.Places.{stays_as_is}
use Rattle.pkopt.proofs.BothRuns.Heard.{other_heard}
use Rattle.pkopt.proofs.trace.TraceListener.hear.Goals as goal

pub returns-in-BinGet : goal.returns-in-BinGet
returns-in-BinGet c = other_heard c.take_binget.result c.args.self.now c.take_binget.new.self
    c.args.at c.args._marks (instruction_of c.args.inst.now)
    (ap stays_as_is (sym c.op-op.ensures.op ∙ c.in-BinGet.is))
    c.take_binget.ensures.places c.take_binget.ensures.step

pub returns-in-Memoize : goal.returns-in-Memoize
returns-in-Memoize c = other_heard c.take_memoize.result c.args.self.now c.take_memoize.new.self
    c.args.at c.args._marks (instruction_of c.args.inst.now)
    (ap stays_as_is (sym c.op-op.ensures.op ∙ c.in-Memoize.is))
    c.take_memoize.ensures.places c.take_memoize.ensures.step

pub returns-in-LongBinPut : goal.returns-in-LongBinPut
returns-in-LongBinPut c = other_heard c.take_long_binput.result c.args.self.now
    c.take_long_binput.new.self c.args.at c.args._marks (instruction_of c.args.inst.now)
    (ap stays_as_is (sym c.op-op.ensures.op ∙ c.in-LongBinPut.is))
    c.take_long_binput.ensures.places c.take_long_binput.ensures.step

pub returns : goal.returns
returns c = other_heard c.take.result c.args.self.now c.take.new.self c.args.at c.args._marks
    (instruction_of c.args.inst.now)
    (ap stays_as_is (sym c.op-op.ensures.op) ∙ sym c.is_plain.ensures ∙ c.if-is_plain.false)
    c.take.ensures.places c.take.ensures.step

pub take-requires : goal.take-requires
take-requires c = ap stays_as_is (sym c.op-op.ensures.op) ∙ sym c.is_plain.ensures
    ∙ c.if-is_plain.false
