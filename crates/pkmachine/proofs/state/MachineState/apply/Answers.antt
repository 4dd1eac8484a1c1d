-- A move acts on entries as on what they stand for, and keeps their text numbers in the table.
use Rattle.std.proofs.Common.{◌∙◌, ap, length, Result, Ok, Err, IfErr, OnOk}
use Rattle.pkops.specs.Inst.{instruction_of}
use Rattle.pkops.specs.Operands.{memo_number}
use Rattle.pkmachine.specs.Private.Slots.{resolved}
use Rattle.std.proofs.lemmas.Result.{IfErr-weaker, on_ok_weaker}
use Rattle.pkmachine.proofs.FollowedItems.{move_follows}
use Rattle.pkmachine.proofs.ResolvedEntries.{moved_fault, moved_resolves, moved_seen}
use Rattle.pkmachine.proofs.state.MachineState.apply.Goals as goal

-- what follows from either outcome
on_both : {A E : Type 0} (R P : Type 0) (Q : E → Type 0) (x : Result A E) → (P → R)
    → ((e : E) → Q e → R) → OnOk x P → IfErr x Q → R
on_both R P Q (Ok a) f g h k = f h
on_both R P Q (Err e) f g h k = g e k

pub invariant_of-self : goal.invariant_of-self
invariant_of-self g c =
    on_both _ _ _ c.apply.result
    (λ e. moved_resolves c.self.inside.table.texts c.args.what
    (memo_number (instruction_of c.args.inst.now))
    (record { entries = c.self.inside.stack; memo = c.self.inside.memo }) c.self.invariant
    (record { entries = c.apply.new.stack; memo = c.apply.new.memo }) e)
    (λ r h. rw (h.0, h.1) c.self.invariant) c.apply.ensures.ok c.apply.ensures.err

pub returns-clause-ok : goal.returns-clause-ok
returns-clause-ok g c =
    rw (← c.self.view_is)
    (on_ok_weaker c.apply.result (λ e. moved_seen c.self.inside.table.texts c.args.what
    (memo_number (instruction_of c.args.inst.now)) (record
    { entries = c.self.inside.stack; memo = c.self.inside.memo }) c.self.invariant
    (record { entries = c.apply.new.stack; memo = c.apply.new.memo }) e) c.apply.ensures.ok)

pub returns-clause-err : goal.returns-clause-err
returns-clause-err g c =
    rw (← c.self.view_is)
    (IfErr-weaker c.apply.result _ _
    (λ r h. (
      λ i.
          record {
            knowledge = resolved c.self.inside.table.texts
                (record { entries = h.0 i; memo = h.1 i });
            texts = length c.self.inside.table.texts;
            imports = c.self.inside.table.asked;
          },
      moved_fault c.self.inside.table.texts c.args.what
          (memo_number (instruction_of c.args.inst.now)) c.args.limits.now
          (record { entries = c.self.inside.stack; memo = c.self.inside.memo }) r c.self.invariant
          h.2,
    ))
    c.apply.ensures.err)

pub returns-clause-carried : goal.returns-clause-carried
returns-clause-carried g c =
    let i = instruction_of c.args.inst.now in
    let behind = c.moved.ensures ∙ ap (λ kept.
    g.D.Domain.follows.after_move c.self.inside.domain c.args.what kept i) c.len.ensures.value in
    rw (← c.self.view_is)
    (on_ok_weaker c.apply.result (λ e. move_follows g.D.Domain.follows c.args.what i
    (record { entries = c.self.inside.stack; memo = c.self.inside.memo })
    (record { entries = c.apply.new.stack; memo = c.apply.new.memo }) c.self.inside.domain _
    behind e) c.apply.ensures.ok)
