-- TUPLE1, TUPLE2 and REDUCE replace one or two objects as their rows of the table say.
use Rattle.std.proofs.Common.{refl, arith}
use Rattle.pkops.specs.declared.Op.TheVariants as op
use Rattle.pkops.specs.Spelling.{Nothing, instruction}
use Rattle.pkmachine.specs.declared.effect.Class.TheVariants as class
use Rattle.pkmachine.specs.declared.effect.Gives.TheVariants.{Answers, Makes}
use Rattle.pkmachine.specs.declared.value.Value.TheVariants.{Made, Unknown}
use Rattle.pkmachine.proofs.StepParts.Replaced.{has_made}
use Rattle.pkmachine.proofs.operate.nameless.make_quickly.Goals as goal

pub returns-in-Tuple1-clause-done : goal.returns-in-Tuple1-clause-done
returns-in-Tuple1-clause-done g c done = rw c.in-Tuple1.is
    (has_made g.D.Domain.follows op.Tuple1 1 (Made class.Tuple) (Makes class.Tuple)
    c.args.stack.now _ c.args.domain.now _
    (λ ts i item. record { is = refl; numbered = tt }) (λ item. refl) (λ ks. refl) (omega arith)
    (let l = rw c.made.ensures at c.make_few.ensures.done done in l)
    (instruction op.None Nothing))

pub returns-in-Tuple2-clause-done : goal.returns-in-Tuple2-clause-done
returns-in-Tuple2-clause-done g c done = rw c.in-Tuple2.is
    (has_made g.D.Domain.follows op.Tuple2 2 (Made class.Tuple) (Makes class.Tuple)
    c.args.stack.now _ c.args.domain.now _
    (λ ts i item. record { is = refl; numbered = tt }) (λ item. refl) (λ ks. refl) (omega arith)
    (let l = rw c.made-in-Tuple2.ensures at c.make_few-in-Tuple2.ensures.done done in l)
    (instruction op.None Nothing))

pub returns-in-Reduce-clause-done : goal.returns-in-Reduce-clause-done
returns-in-Reduce-clause-done g c done = rw c.in-Reduce.is
    (has_made g.D.Domain.follows op.Reduce 2 Unknown Answers c.args.stack.now _ c.args.domain.now _
    (λ ts i item. record { is = refl; numbered = tt }) (λ item. refl) (λ ks. refl) (omega arith)
    (let l = rw c.unknown.ensures at c.make_few-in-Reduce.ensures.done done in l)
    (instruction op.None Nothing))
