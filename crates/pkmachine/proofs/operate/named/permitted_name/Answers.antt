-- Faults in order: a receiver of a wrong class, an operand that is no text, a forbidden pair.
use Rattle.std.proofs.Common.{◌∙◌, Some, inl, inr, length, map, refl, sym}
use Rattle.std.proofs.lemmas.Result.{err_from_is_err_and}
use Rattle.pkmachine.specs.Knowledge.{WrongClass, NotText}
use Rattle.pkmachine.specs.Policies.{permit_of}
use Rattle.pkimport.specs.Table.{named_asked}
use Rattle.pkmachine.specs.Private.Slots.{known}
use Rattle.pkmachine.proofs.StepParts.Judged.{judged_wrong, judged_err, judged_ok, may_name}
use Rattle.pkmachine.proofs.operate.named.permitted_name.Goals as goal
use Rattle.pkmachine.proofs.operate.named.permitted_name.Goals.{in-Some+in_ok-permit, in_default}

pub returns-then-receiver_fault-clause-err : goal.returns-then-receiver_fault-clause-err
returns-then-receiver_fault-clause-err g c i spelled = inl (
  WrongClass,
  judged_wrong (permit_of c.args.request.now.policy.now)
      c.args.request.now.operation.names c.args.request.now.operation.gives i
      (map (known c.args.table.now.texts) c.args.operands.now)
      (sym (c.if-receiver_fault.ensures c.args.table.now.texts)),
  refl,
  refl,
)

pub returns-in_err-named-clause-err : goal.returns-in_err-named-clause-err
returns-in_err-named-clause-err g c =
    let p = err_from_is_err_and c.from_residual.result c.from_residual.ensures.1 in
    rw (p.1, p.2) (λ i spelled. let a = c.in_err-named.ensures.err i c.args.table.now.texts in
    inl (
      NotText,
      judged_err (permit_of c.args.request.now.policy.now) c.args.request.now.operation.names
          c.args.request.now.operation.gives i
          (map (known c.args.table.now.texts) c.args.operands.now)
          (sym (c.if-receiver_fault.ensures c.args.table.now.texts)) NotText a.0,
      a.1,
      refl,
    ))

pub returns-in_err-permit-clause-err : goal.returns-in_err-permit-clause-err
returns-in_err-permit-clause-err g c =
    let p = err_from_is_err_and c.from_residual-in_err-permit.result
    c.from_residual-in_err-permit.ensures.1 in
    rw (p.1, p.2) (λ i spelled.
    let asks = rw c.in-Some.is at c.in_ok-named.ensures.ok i spelled c.args.table.now.texts in
    elim c.in_err-permit.ensures.err [
      | inl d ↦ inl
          (rw (judged_ok (permit_of c.args.request.now.policy.now)
          c.args.request.now.operation.names c.args.request.now.operation.gives i
          (map (known c.args.table.now.texts) c.args.operands.now)
          (sym (c.if-receiver_fault.ensures c.args.table.now.texts))
          (Some (named_asked c.args.table.now.texts c.in-Some.name)) asks) d)
      | inr m ↦ inr (
        may_name c.args.request.now.operation.names i
            (map (known c.args.table.now.texts) c.args.operands.now)
            (named_asked c.args.table.now.texts c.in-Some.name) asks,
        m,
      )
    ])

pub returns-clause-ok : goal.returns-clause-ok
returns-clause-ok g c i spelled =
    let asks = c.in_ok-named.ensures.ok i spelled c.args.table.now.texts in
    let judges = judged_ok (permit_of c.args.request.now.policy.now)
    c.args.request.now.operation.names c.args.request.now.operation.gives i
    (map (known c.args.table.now.texts) c.args.operands.now)
    (sym (c.if-receiver_fault.ensures c.args.table.now.texts)) _ asks in
    elim c.match-named.branch [
      | in-Some+in_ok-permit w ↦ judges ∙ rw w.in-Some.is w.in_ok-permit.ensures.ok
      | in_default w ↦ judges ∙ rw w.in_default.is refl
    ]

pub returns-clause-within : goal.returns-clause-within
returns-clause-within g c = c.in_ok-named.ensures.within
    (length c.args.table.now.texts) c.requires.numbered
