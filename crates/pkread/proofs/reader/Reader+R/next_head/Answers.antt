-- An instruction held, a payload skipped and a refusal are each a step of an open reader.
use Rattle.std.proofs.Common.{◌≡◌, [], refl, subst}
use Rattle.std.proofs.lemmas.Result.{err_from_is_err_and}
use Rattle.pkread.specs.Core.{Open}
use Rattle.pkread.specs.Held.{most_held}
use Rattle.pkread.specs.Private.SkippedBytes.{HeldWhole, RefusedHead, SkippedOne}
use Rattle.pkread.specs.ReaderCalls.{state}
use Rattle.pkread.proofs.Calls.Next.{come, is_allowed, seen_so}
use Rattle.pkread.proofs.Calls.NextHead.{gives_held, gives_skipped, refuses_head, shows_head_open}
use Rattle.pkread.proofs.Calls.NextHead.{steps_head_open}
use Rattle.pkread.proofs.Bytes.Judged.{found_gathered}
use Rattle.pkread.proofs.reader.Reader+R.next_head.Goals as goal

pub returns-in_err-op : goal.returns-in_err-op
returns-in_err-op g c =
    let open' : c.args.self.now.core.phase ≡ Open = cc (c.in-Open.ensures.shown) in
    let p = err_from_is_err_and c.from_residual.result c.from_residual.ensures.1 in
    let e = c.in_err-op.ensures in
    let ends = e.collects.0 in
    let old = state g.R.Source.left g.R.Source.failures c.args.self.now in
    let new = c.collect_head.new.self in
    let reason = c.in_err-op.field-0.0.reason in
    let why = subst (λ s. RefusedHead old.limits (come [] old)
    (record { bytes = new.held.bytes; source = s; taken = new.taken })
    old.most (most_held new.held) reason) (seen_so new.ahead _ e.advances.ahead) e.collects.1 in
    let refuses = refuses_head old _ new.held.bytes _ ends.place e.advances.least why ends.phase in
    let steps = steps_head_open old _ _ open' (rw (p.1, p.2) refuses) in
    let shows = shows_head_open old _ open' (rw (p.1, p.2) ends.place) in (
      (
        refl,
        λ _. tt,
        (
          refl,
          (e.advances.limits, steps),
          (λ ne. absurd (ne open')),
          e.advances.ahead,
        ),
      ),
      record { shows = shows; after = tt },
    )

pub instruction-requires : goal.instruction-requires
instruction-requires g c =
    let e = c.in_ok-op.ensures in
    let took = rw c.in-Held.is at e.collects in
    rw e.advances.limits took.1.found

pub returns-in-Skipped : goal.returns-in-Skipped
returns-in-Skipped g c =
    let open' : c.args.self.now.core.phase ≡ Open = cc (c.in-Open.ensures.shown) in
    let e = c.in_ok-op.ensures in
    let took = rw c.in-Skipped.is at e.collects in
    let old = state g.R.Source.left g.R.Source.failures c.args.self.now in
    let new = c.collect_head.new.self in
    let op = c.in-Skipped.op in
    let count = c.in-Skipped.count in
    let skipped = subst (λ s. SkippedOne old.limits.passed op count (come [] old)
    (record { bytes = new.held.bytes; source = s; taken = new.taken })
    old.most (most_held new.held)) (seen_so new.ahead _ e.advances.ahead) took.1 in
    let gives = gives_skipped old _ _ count op new.held.bytes c.taken-at.ensures skipped
    e.advances.least e.advances.within took.0 in
    let shows = shows_head_open old _ open'
    (c.taken-at.ensures, skipped.passes.payload, skipped.passes.one) in (
      (
        refl,
        λ _. tt,
        (
          refl,
          (e.advances.limits, steps_head_open old _ _ open' gives),
          (λ ne. absurd (ne open')),
          e.advances.ahead,
        ),
      ),
      record { shows = shows; after = tt },
    )

pub returns-in-Held : goal.returns-in-Held
returns-in-Held g c =
    let open' : c.args.self.now.core.phase ≡ Open = cc (c.in-Open.ensures.shown) in
    let e = c.in_ok-op.ensures in
    let took = rw c.in-Held.is at e.collects in
    let phase = took.0 in
    let f = took.1 in
    let found = c.in-Held.found in
    let w = found_gathered _ _ _ _ f.found in
    let h = c.instruction.ensures f.found.arg (rw e.advances.limits f.found.lies) in
    let old = state g.R.Source.left g.R.Source.failures c.args.self.now in
    let new = c.collect_head.new.self in
    let whole = subst (λ s. HeldWhole old.limits.counted found (come [] old)
    (record { bytes = new.held.bytes; source = s; taken = new.taken })
    old.most (most_held new.held)) (seen_so new.ahead _ e.advances.ahead) f in
    let gives = gives_held old _ _ new.held.bytes found _ w h c.taken-at.ensures whole phase
    e.advances.within in
    let shows = shows_head_open old _ open' (c.taken-at.ensures, is_allowed _ _ _ _ w h) in (
      (
        refl,
        λ _. tt,
        (
          refl,
          (e.advances.limits, steps_head_open old _ _ open' gives),
          (λ ne. absurd (ne open')),
          e.advances.ahead,
        ),
      ),
      record { shows = shows; after = tt },
    )
