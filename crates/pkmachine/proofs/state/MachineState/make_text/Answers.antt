-- The table of texts only grows, so what stack and memo said of older texts stays true.
use Rattle.std.proofs.Common.{Some, Result, Ok, Err, IfErr, OnErr}
use Rattle.pkops.specs.Inst.{instruction_of}
use Rattle.pkmachine.specs.Runs.{Text, text}
use Rattle.pkmachine.proofs.ResolvedEntries.{item_learned, operate_resolves}
use Rattle.pkmachine.proofs.state.MachineState.make_text.Goals as goal

on_err : {A E : Type 0} (P : E → Type 0) (Q : Type 0) (x : Result A E) → ((r : E) → P r → Q)
    → IfErr x P → OnErr x Q
on_err P Q (Ok a) f h = h
on_err P Q (Err r) f h = f r h

pub invariant_of-self : goal.invariant_of-self
invariant_of-self g c = operate_resolves c.make_text.result c.self.inside.table
    c.make_text.new.table c.self.inside.stack c.make_text.new.stack c.self.inside.memo
    c.self.invariant c.make_text.ensures.sees c.make_text.ensures.grows
    (on_err _ _ c.make_text.result (λ r h. (h.0, h.1)) c.make_text.ensures.err)

pub returns-clause-ok : goal.returns-clause-ok
returns-clause-ok g c =
    rw (← c.self.view_is)
    (item_learned c.make_text.result c.self.inside.table.texts c.make_text.new.table.texts
    c.self.inside.memo c.self.inside.stack c.make_text.new.stack
    (Some (Text (text (instruction_of c.args.inst.now)))) c.self.invariant.memo
    c.make_text.ensures.grows c.make_text.ensures.ok)
