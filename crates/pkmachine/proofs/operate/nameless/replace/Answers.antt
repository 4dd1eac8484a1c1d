-- Missing operands, a receiver of a wrong class and a full stack are faults of the operation.
use Rattle.std.proofs.Common.{◌∙◌, [], None, ap, inl, refl, sym}
use Rattle.std.proofs.lemmas.Result.{err_from_is_err_and}
use Rattle.pkops.specs.declared.Op.TheVariants as op
use Rattle.pkops.specs.Spelling.{Nothing, instruction}
use Rattle.pkops.specs.declared.Reason.TheVariants as reason
use Rattle.pkmachine.specs.declared.effect.Names.TheVariants.{NoName}
use Rattle.pkmachine.specs.Following.{item_left}
use Rattle.pkmachine.specs.Knowledge.{WrongClass}
use Rattle.pkmachine.specs.Private.Slots.{seen}
use Rattle.pkmachine.proofs.FollowedItems.{operation_follows}
use Rattle.pkmachine.proofs.Places.{length_below}
use Rattle.pkmachine.proofs.ResolvedEntries.{found_seen, found_is, found_lacks, put_seen, put_sees}
use Rattle.pkmachine.proofs.ResolvedEntries.{length_seen}
use Rattle.pkmachine.proofs.StepParts.Judged.{lack_errs, judged_errs, judged_ok, judged_wrong}
use Rattle.pkmachine.proofs.StepParts.Judged.{within_errs, does_pass, unroomed, left_there}
use Rattle.pkmachine.proofs.StepParts.Judged.{given_none}
use Rattle.pkmachine.proofs.operate.nameless.replace.Goals as goal

pub returns-in_err-found-clause-err : goal.returns-in_err-found-clause-err
returns-in_err-found-clause-err g c =
    let q = err_from_is_err_and c.from_residual.result c.from_residual.ensures.1 in
    rw (q.1, q.2) (λ ts sees p i m. inl (within_errs _ c.args.limits.now 0
    (record { reason = c.in_err-found.field-0.0; pair = None })
    (lack_errs p c.args.operation.takes NoName c.args.operation.gives i (record
    { entries = seen ts c.args.stack.now; memo = m }) c.in_err-found.field-0.0
    (found_lacks ts c.args.operation.takes c.args.stack.now sees c.in_err-found.field-0.0
    c.in_err-found.ensures.err))))

pub returns-then-receiver_fault-clause-err : goal.returns-then-receiver_fault-clause-err
returns-then-receiver_fault-clause-err g c ts sees p i m =
    let found = found_seen ts c.args.operation.takes c.args.stack.now sees _
    c.in_ok-found.ensures.ok in
    let wrong = rw c.operands-operands.ensures at (sym (c.if-receiver_fault.ensures ts)) in
    inl (within_errs _ c.args.limits.now 0 (record { reason = reason.WrongClass; pair = None })
    (judged_errs p c.args.operation.takes NoName c.args.operation.gives i (record
    { entries = seen ts c.args.stack.now; memo = m }) _ (record
    { reason = reason.WrongClass; pair = None }) found (
      WrongClass,
      judged_wrong p NoName c.args.operation.gives i _ wrong,
      refl,
      refl,
    )))

pub give-requires-clause-first : goal.give-requires-clause-first
give-requires-clause-first g c e =
    let i = instruction op.None Nothing in
    c.in_ok-found.ensures.first
    (left_there c.args.operation.takes c.args.operation.gives i c.requires.given
    (given_none [] c.value_of-value.result _ e (c.value_of-value.ensures.stands [] i)))

pub give-requires-clause-there : goal.give-requires-clause-there
give-requires-clause-there g c e =
    let i = instruction op.None Nothing in
    c.in_ok-found.ensures.there
    (left_there c.args.operation.takes c.args.operation.gives i c.requires.given
    (given_none [] c.value_of-value.result _ e (c.value_of-value.ensures.stands [] i)))

pub returns-in-Ok-clause-ok : goal.returns-in-Ok-clause-ok
returns-in-Ok-clause-ok g c ts sees p i m listed =
    let found = found_seen ts c.args.operation.takes c.args.stack.now sees _
    c.in_ok-found.ensures.ok in
    let is = found_is ts c.args.operation.takes c.args.stack.now sees _ c.in_ok-found.ensures.ok in
    let right = rw c.operands-operands.ensures at (sym (c.if-receiver_fault.ensures ts)) in
    let put = put_seen ts c.value_of-value.result _ (c.value_of-value.ensures.stands ts i) _ is in
    does_pass p c.args.operation.takes NoName c.args.operation.gives i
    (record { entries = seen ts c.args.stack.now; memo = m }) _ ts None found
    (judged_ok p NoName c.args.operation.gives i _ right None refl)
    (seen ts c.give.new.stack) listed listed _ (ap (seen ts) c.in-Ok.ensures.ok ∙ put) refl refl

pub returns-in-Ok-clause-sees : goal.returns-in-Ok-clause-sees
returns-in-Ok-clause-sees g c ts sees =
    let i = instruction op.None Nothing in
    let is = found_is ts c.args.operation.takes c.args.stack.now sees _ c.in_ok-found.ensures.ok in
    rw c.in-Ok.ensures.ok
    (put_sees ts c.value_of-value.result _ (c.value_of-value.ensures.stands ts i) _ is)

pub returns-in-Err-clause-err : goal.returns-in-Err-clause-err
returns-in-Err-clause-err g c ts sees p i m =
    let found = found_seen ts c.args.operation.takes c.args.stack.now sees _
    c.in_ok-found.ensures.ok in
    let right = rw c.operands-operands.ensures at (sym (c.if-receiver_fault.ensures ts)) in
    unroomed p c.args.operation.takes NoName c.args.operation.gives i
    (record { entries = seen ts c.args.stack.now; memo = m }) _ ts None found
    (judged_ok p NoName c.args.operation.gives i _ right None refl)
    ts c.value_of-value.result (c.value_of-value.ensures.stands ts i) c.args.limits.now
    c.in-Err.reason c.in-Err.ensures.err.1
    (rw (
      length_seen,
      length_below c.in_ok-found.found.place c.args.stack.now c.in_ok-found.ensures.within,
    ) c.in-Err.ensures.err.2)

pub returns-in-Ok-clause-follows : goal.returns-in-Ok-clause-follows
returns-in-Ok-clause-follows g c i same memo =
    let left = c.value_of-value.ensures.item
    ∙ ap (item_left c.args.operation.gives) (c.operated-item.ensures.item i same) in
    operation_follows g.D.Domain.follows c.args.operation.takes NoName c.args.operation.gives i memo
    c.args.stack.now _ c.args.domain.now _ _ c.value_of-value.result c.in_ok-found.ensures.ok
    (rw c.operands-operands.ensures at left) c.in-Ok.ensures.ok
    (rw c.operands-operands.ensures at (c.operated-item.ensures.state i same))
