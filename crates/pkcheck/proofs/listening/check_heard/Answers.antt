-- With payloads held each report is of a whole instruction, which is what a listener hears.
use Rattle.std.proofs.Common.{[], ◌++◌, Err, IfErr, Ok, Result}
use Rattle.pkcheck.specs.Heard.{refused_instruction}
use Rattle.pkcheck.specs.Private.WholeReports.{wholes}
use Rattle.pkcheck.proofs.Wholes.WholeReports.{cut_short, heard_wholes}
use Rattle.pkcheck.proofs.listening.check_heard.Goals as goal

-- whatever the error is
if_err : {X Y : Type 0} {P : Type 0} (r : Result X Y) → P → IfErr r (λ _. P)
if_err (Ok x) h = tt
if_err (Err y) h = h

pub returns-in_err-yes-clause-cut_short : goal.returns-in_err-yes-clause-cut_short
returns-in_err-yes-clause-cut_short g c =
    let s = (let h = rw c.holding_all.ensures at c.in_err-yes.ensures.stopped in h) in
    if_err c.from_residual.result
    (wholes s.0, s.2, cut_short _ _ _ _ s.0 s.3.0 s.3.1, s.4.1)

pub returns-in-Ok-clause-answer : goal.returns-in-Ok-clause-answer
returns-in-Ok-clause-answer g c =
    let a = (let h = rw (c.in-Ok.is, c.holding_all.ensures) at c.in_ok-yes.ensures.answer in h) in (
      wholes a.0,
      record { right = a.1.0; each = heard_wholes [] a.1.0.instructions a.0 a.1.1 },
      a.2.1,
    )

pub returns-in-Err-clause-answer : goal.returns-in-Err-clause-answer
returns-in-Err-clause-answer g c =
    let a = (let h = rw (c.in-Err.is, c.holding_all.ensures) at c.in_ok-yes.ensures.answer in h) in
    let right = a.1.0.refused in
    let read = right.instructions ++ refused_instruction right.why in (
      wholes a.0,
      record { right = right; each = heard_wholes [] read a.0 a.1.1 },
      a.2.1,
    )
