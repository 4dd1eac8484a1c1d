-- What an open reader collects is the next instruction or its refusal, a step of its state.
use Rattle.std.proofs.Common.{◌≡◌, [], refl, subst}
use Rattle.std.proofs.lemmas.Result.{err_from_is_err_and}
use Rattle.pkread.specs.Core.{Open}
use Rattle.pkread.specs.Private.Arms.{Gathers}
use Rattle.pkread.specs.ReaderCalls.{state}
use Rattle.pkread.specs.Rows.{Refuses}
use Rattle.pkread.proofs.Calls.Next.{come, gives_whole, is_allowed, refuses_at, seen_so, shows_open}
use Rattle.pkread.proofs.Calls.Next.{steps_open}
use Rattle.pkread.proofs.Bytes.Judged.{found_gathered}
use Rattle.pkread.proofs.reader.Reader+R.next.Goals as goal

pub returns-in_err-found : goal.returns-in_err-found
returns-in_err-found g c =
    let open' : c.args.self.now.core.phase ≡ Open = cc (c.in-Open.ensures.shown) in
    let p = err_from_is_err_and c.from_residual.result c.from_residual.ensures.1 in
    let e = c.in_err-found.ensures in
    let ends = e.collects.1.0 in
    let old = state g.R.Source.left g.R.Source.failures c.args.self.now in
    let new = c.collect.new.self in
    let reason = c.in_err-found.field-0.0.reason in
    let why = subst (λ s. Refuses old.limits.counted old.source s new.held.bytes old.taken new.taken
    reason) (seen_so new.ahead _ e.advances.ahead) e.collects.1.1 in
    let refuses = refuses_at old _ new.held.bytes _ ends.place why e.collects.0 ends.phase in
    let steps = steps_open old _ _ open' (rw (p.1, p.2) refuses) in
    let shows = shows_open old _ open' (rw (p.1, p.2) ends.place) in (
      (
        refl,
        λ _. tt,
        (
          refl,
          (e.advances.limits, steps),
          (λ ne. absurd (ne open')),
          e.advances.ahead,
        ),
      ),
      record { shows = shows; after = tt },
    )

pub returns : goal.returns
returns g c =
    let open' : c.args.self.now.core.phase ≡ Open = cc (c.in-Open.ensures.shown) in
    let e = c.in_ok-found.ensures in
    let f = e.collects.1 in
    let w = found_gathered _ _ _ _ f.found in
    let h = c.instruction.ensures f.found.arg (rw e.advances.limits f.found.lies) in
    let old = state g.R.Source.left g.R.Source.failures c.args.self.now in
    let new = c.collect.new.self in
    let whole = subst (λ s. Gathers old.limits.counted (come [] old)
    (record { bytes = new.held.bytes; source = s; taken = new.taken }))
    (seen_so new.ahead _ e.advances.ahead) f.gathers in
    let gives = gives_whole old _ _ new.held.bytes c.in_ok-found.found.op _ w h c.taken-at.ensures
    whole f.phase e.advances.within e.collects.0 in
    let shows = shows_open old _ open' (c.taken-at.ensures, is_allowed _ _ _ _ w h) in (
      (
        refl,
        λ _. tt,
        (
          refl,
          (e.advances.limits, steps_open old _ _ open' gives),
          (λ ne. absurd (ne open')),
          e.advances.ahead,
        ),
      ),
      record { shows = shows; after = tt },
    )
