-- An import adds no text, so the memo means the same before and after the operation.
use Rattle.std.proofs.Common.{◌≡◌, IfErr, IfOk, Ok, OnOk, subst, sym}
use Rattle.std.proofs.lemmas.Result.{on_ok_weaker}
use Rattle.pkmachine.specs.Effects.{effect_of}
use Rattle.pkmachine.specs.Private.Steps.{IsStepFault}
use Rattle.pkmachine.specs.Private.StepErrors.{Proceeds, pair_of_error}
use Rattle.pkmachine.specs.Following.{followed_by}
use Rattle.pkmachine.specs.Policies.{permit_of}
use Rattle.pkmachine.specs.Private.Items.{carried_with, items_in}
use Rattle.pkmachine.specs.Knowledge.{learn}
use Rattle.pkmachine.specs.Private.Slots.{remembered, resolved, seen}
use Rattle.pkops.specs.Inst.{instruction_of}
use Rattle.pkmachine.proofs.ResolvedEntries.{operate_resolves, remembered_on, table_kept}
use Rattle.pkmachine.proofs.state.MachineState.operate_named.Goals as goal

pub invariant_of-self : goal.invariant_of-self
invariant_of-self g c =
    let h = c.operate_named.ensures in
    operate_resolves c.operate_named.result c.self.inside.table c.operate_named.new.table
    c.self.inside.stack c.operate_named.new.stack c.self.inside.memo c.self.invariant h.sees
    (table_kept _ _ _ h.texts) h.kept

pub returns-clause-ok : goal.returns-clause-ok
returns-clause-ok g c =
    let h = c.operate_named.ensures in
    let old = c.self.inside in
    let new = c.operate_named.new in
    rw (← c.self.view_is)
    (subst (λ o. IfOk c.operate_named.result
    (Proceeds (learn (permit_of c.args.policy.now) (effect_of o) (instruction_of c.args.inst.now)
    (resolved old.table.texts (record { entries = old.stack; memo = old.memo })))
    (resolved new.table.texts (record { entries = new.stack; memo = old.memo }))
    old.table.asked new.table.asked)) c.op.ensures.op
    (remembered_on c.operate_named.result old.table.texts new.table.texts old.memo
    (λ b m. Proceeds (learn (permit_of c.args.policy.now) (effect_of c.op.result)
    (instruction_of c.args.inst.now) (record {
      entries = seen old.table.texts old.stack;
      memo = remembered old.table.texts old.memo;
    }))
    (record { entries = seen new.table.texts new.stack; memo = m })
    old.table.asked new.table.asked b)
    c.self.invariant.memo (table_kept _ _ _ h.texts)
    (h.ok (instruction_of c.args.inst.now) c.lines_of.ensures.named
    (remembered old.table.texts old.memo))))

pub returns-clause-err : goal.returns-clause-err
returns-clause-err g c =
    let old = c.self.inside in
    rw (← c.self.view_is)
    (subst (λ o. IfErr c.operate_named.result (λ d. IsStepFault (permit_of c.args.policy.now)
    c.args.config.now.limits (effect_of o) (instruction_of c.args.inst.now)
    (resolved old.table.texts (record { entries = old.stack; memo = old.memo }))
    d.reason (pair_of_error d))) c.op.ensures.op
    (c.operate_named.ensures.err (instruction_of c.args.inst.now) c.lines_of.ensures.named
    (remembered old.table.texts old.memo)))

pub returns-clause-carried : goal.returns-clause-carried
returns-clause-carried g c =
    let i = instruction_of c.args.inst.now in
    let memo = items_in c.self.inside.memo in
    let new = c.operate_named.new in
    rw (← c.self.view_is)
    (subst (λ o. OnOk c.operate_named.result (followed_by g.D.Domain.follows (effect_of o) i
    (carried_with memo c.self.inside.stack c.self.inside.domain)
    ≡ Ok (carried_with memo new.stack new.domain))) c.op.ensures.op
    (on_ok_weaker c.operate_named.result (λ h. h i (sym c.op.ensures.op) memo)
    c.operate_named.ensures.followed))
