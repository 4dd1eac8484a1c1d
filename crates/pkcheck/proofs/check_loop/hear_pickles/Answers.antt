-- Each turn carries on what is known along a row of pickles, and each exit gives its answer.
use Rattle.std.proofs.Common.{rules, [], drop, length, refl, sym, ap, ◌∙◌}
use Rattle.std.proofs.Math.Seq.{drop-length}
use Rattle.std.proofs.lemmas.Result.{err_from_is_err_and}
use Rattle.pkread.specs.ReaderCalls.{is_ended}
use Rattle.pkread.specs.Rows.{sight}
use Rattle.pkmachine.specs.Knowledge.{nothing_known}
use Rattle.pkcheck.specs.Private.NextPickle.{listed_in}
use Rattle.pkcheck.specs.RowOfPickles.{begins}
use Rattle.pkcheck.proofs.Wholes.BehindStop.{some_ahead, accepts_alone, accepts_row, going_again}
use Rattle.pkcheck.proofs.Wholes.BehindStop.{refused_again}
use Rattle.pkcheck.proofs.Wholes.Checked.{checked_first}
use Rattle.pkcheck.proofs.Wholes.Given.{seen_so}
use Rattle.pkcheck.proofs.Wholes.Going.{accepted_as, alone_first, phase_open, refused_as}
use Rattle.pkcheck.proofs.Wholes.Going.{stopped_as}
use Rattle.pkcheck.proofs.Wholes.JudgingLaws.{JudgingLaws, bounded}
use Rattle.pkcheck.proofs.Wholes.RowOfPickles.{begins_first, none_before, row_begins}
use Rattle.pkcheck.proofs.Wholes.Turns.{failed_at_hand, failed_next, going_along, going_next}
use Rattle.pkcheck.proofs.Wholes.Turns.{phase_along, refused_at_hand, refused_next}
use Rattle.pkcheck.proofs.check_loop.hear_pickles.Goals as goal

pub instructions-init : goal.instructions-init
instructions-init g c =
    let laws : JudgingLaws = record {
      frames = record {
        more = c.frames.ensures.more;
        all = c.frames.ensures.all;
        refused = c.frames.ensures.refused;
      };
      steps = c.steps.ensures;
    } in
    let memo = c.args.row.now.memo in
    let row = c.requires.row in
    record {
      memo = refl;
      extent = refl;
      same = refl;
      is_open = ap (λ s. s.phase) c.requires.reader;
      going = record {
        laws = record {
          lent = c.heads.ensures.lent;
          twice = c.heads.ensures.twice;
          nexts = c.nexts.ensures.given;
          heads = c.heads.ensures.given;
          passed = c.heads.ensures.passed;
          refused_nexts = c.nexts.ensures.refused;
          refused_heads = c.heads.ensures.refused;
          ended = c.heads.ensures.ended;
          again = c.rows.ensures.begins;
          behind = c.rows.ensures.refused;
          taking = c.rows.ensures.taking;
        };
        one = c.requires.one;
        law = g.met.A.Audience.hears_more;
        bounded = bounded c.bounded_names.ensures c.args.policy.now;
        here = sight g.R.Source.left g.R.Source.failures c.args.reader.now.source.now;
        origin = record { at = 0; beginning = begins memo []; known = nothing_known };
        before = [];
        row = row_begins c.rows.ensures.taking row.pickles row.apart;
        own = row.earlier ∙ sym (ap length (none_before memo));
        more = λ ne. absurd (ne refl);
        alone = alone_first _ _;
        earlier = [];
        of_pickles = refl;
        last = [];
        so_far = record {
          read = [];
          asked = [];
          checked = checked_first laws c.heads.ensures.begins c.requires.reader
              c.requires.session.frame c.requires.session.machine (none_before memo)
              (begins_first memo);
          told = tt;
        };
        heard = g.met.A.Audience.hears_none _;
      };
    }

-- ---- instructions at hand

pub returns-in_err-refusal : goal.returns-in_err-refusal
returns-in_err-refusal g c =
    let now = sight g.R.Source.left g.R.Source.failures c.hear_at_hand.new.reader.source.now in
    let x = failed_at_hand c.instructions.invariant.going g.A.Audience.fails
    c.in_err-refusal.ensures.err in
    let p = err_from_is_err_and c.from_residual.result c.from_residual.ensures.1 in
    let a = stopped_as x (seen_so c.in_err-refusal.ensures.none now) in
    record {
      source = search rules;
      answer = rw p.1 tt;
      stopped = rw (p.1, p.2) a.0;
      count = rw p.1 a.1;
    }

pub returns-in-Err : goal.returns-in-Err
returns-in-Err g c =
    let no = (let h = rw c.in-Err.is at c.in_ok-refusal.ensures.no in h) in
    let none = (let h = rw c.in-Err.is at c.in_ok-refusal.ensures.none in h) in
    let now = sight g.R.Source.left g.R.Source.failures c.hear_at_hand.new.reader.source.now in
    let e = c.refused.ensures in
    let a = refused_as (refused_at_hand c.instructions.invariant.going no)
    (seen_so none now) c.refused.result e.pickle e.no e.imports in
    record { source = search rules; answer = a.0; stopped = tt; count = a.1 }

-- ---- the next one

pub hear_next-requires-clause-running : goal.hear_next-requires-clause-running
hear_next-requires-clause-running g c =
    let go = (let h = rw c.in_default.is at c.in_ok-refusal.ensures.ok in h) in
    (going_along c.instructions.invariant.going go).so_far.checked.stopped
    ∙ ap is_ended (phase_along go.0 ∙ c.instructions.invariant.is_open)

pub hear_next-requires-clause-well : goal.hear_next-requires-clause-well
hear_next-requires-clause-well g c =
    let go = (let h = rw c.in_default.is at c.in_ok-refusal.ensures.ok in h) in
    (going_along c.instructions.invariant.going go).so_far.checked.refused

pub returns-in_err-turned : goal.returns-in_err-turned
returns-in_err-turned g c =
    let go = (let h = rw c.in_default.is at c.in_ok-refusal.ensures.ok in h) in
    let now = sight g.R.Source.left g.R.Source.failures c.hear_next.new.reader.source.now in
    let x = failed_next (going_along c.instructions.invariant.going go) g.A.Audience.fails
    c.in_err-turned.ensures.err in
    let from = c.from_residual-in_err-turned in
    let p = err_from_is_err_and from.result from.ensures.1 in
    let a = stopped_as x (seen_so c.in_err-turned.ensures.none now) in
    record {
      source = search rules;
      answer = rw p.1 tt;
      stopped = rw (p.1, p.2) a.0;
      count = rw p.1 a.1;
    }

pub returns-in-Err-2 : goal.returns-in-Err-2
returns-in-Err-2 g c =
    let go = (let h = rw c.in_default.is at c.in_ok-refusal.ensures.ok in h) in
    let no = (let h = rw c.in-Err-2.is at c.in_ok-turned.ensures.no in h) in
    let now = sight g.R.Source.left g.R.Source.failures c.hear_next.new.reader.source.now in
    let e = c.refused-in-Err-2.ensures in
    let a = refused_as (refused_next (going_along c.instructions.invariant.going go) no)
    (seen_so c.in_ok-turned.ensures.none now) c.refused-in-Err-2.result e.pickle e.no e.imports in
    record { source = search rules; answer = a.0; stopped = tt; count = a.1 }

pub instructions-preserved : goal.instructions-preserved
instructions-preserved g c =
    let go = (let h = rw c.in_default.is at c.in_ok-refusal.ensures.ok in h) in
    let step = (let h = rw c.in_default-2.is at c.in_ok-turned.ensures.ok in h) in
    let v = going_next (going_along c.instructions.invariant.going go) step in
    record {
      memo = c.instructions.invariant.memo;
      extent = c.instructions.invariant.extent;
      same = c.hear_next.ensures.source
          ∙ (c.hear_at_hand.ensures.source ∙ c.instructions.invariant.same);
      is_open = phase_open _ _ v.so_far.checked.reads.so_far
          (sym c.ended.ensures ∙ c.if-ended.false);
      going = v;
    }

-- ---- behind STOP

pub returns-in-OnePickle-clause-answer : goal.returns-in-OnePickle-clause-answer
returns-in-OnePickle-clause-answer g c =
    let go = (let h = rw c.in_default.is at c.in_ok-refusal.ensures.ok in h) in
    let step = (let h = rw c.in_default-2.is at c.in_ok-turned.ensures.ok in h) in
    let v = going_next (going_along c.instructions.invariant.going go) step in
    let now = sight g.R.Source.left g.R.Source.failures c.hear_next.new.reader.source.now in
    let e = c.alone.ensures in
    (accepted_as (accepts_alone v (sym c.ended.ensures ∙ c.if-ended.true)
    (sym c.instructions.invariant.extent ∙ c.in-OnePickle.is))
    (seen_so c.in_ok-turned.ensures.none now) c.alone.result (e.taken ∙ c.taken-taken.ensures)
    e.pickles e.imports).0

pub next-requires-clause-well : goal.next-requires-clause-well
next-requires-clause-well g c =
    let go = (let h = rw c.in_default.is at c.in_ok-refusal.ensures.ok in h) in
    let step = (let h = rw c.in_default-2.is at c.in_ok-turned.ensures.ok in h) in
    (going_next (going_along c.instructions.invariant.going go) step).so_far.checked.refused

pub next-requires-clause-off : goal.next-requires-clause-off
next-requires-clause-off g c =
    let go = (let h = rw c.in_default.is at c.in_ok-refusal.ensures.ok in h) in
    let step = (let h = rw c.in_default-2.is at c.in_ok-turned.ensures.ok in h) in
    (going_next (going_along c.instructions.invariant.going go) step).so_far.checked.off

pub returns-in-Err-next : goal.returns-in-Err-next
returns-in-Err-next g c =
    let go = (let h = rw c.in_default.is at c.in_ok-refusal.ensures.ok in h) in
    let step = (let h = rw c.in_default-2.is at c.in_ok-turned.ensures.ok in h) in
    let v = going_next (going_along c.instructions.invariant.going go) step in
    let looks = c.next.ensures.reader in
    let ahead = (let b = rw c.in-Err-next.is at looks.ahead in b) in
    let off = (let b = rw c.in-Err-next.is at c.next.ensures.session.off in b) in
    let behind = (let b = rw c.in-Err-next.is at looks.refused in b) in
    let now = sight g.R.Source.left g.R.Source.failures c.next.new.reader.source.now in
    let e = c.refused-in-Err-next.ensures in
    let imports = c.next.new.session.machine.imports in
    let none = ap (λ n. drop n imports) c.next.ensures.earlier ∙ drop-length imports in
    let a = refused_as (refused_again v (sym c.ended.ensures ∙ c.if-ended.true)
    (sym c.instructions.invariant.extent ∙ c.in-ToTheEnd.is) behind c.next.ensures.row.number)
    (seen_so ahead now) c.refused-in-Err-next.result e.pickle
    (record { place = e.no.place; why = e.no.why; pair = e.no.pair ∙ off }) (e.imports ∙ none) in
    record { source = search rules; answer = a.0; stopped = tt; count = a.1 }

pub instructions-preserved-in-Ok-true : goal.instructions-preserved-in-Ok-true
instructions-preserved-in-Ok-true g c =
    let go = (let h = rw c.in_default.is at c.in_ok-refusal.ensures.ok in h) in
    let step = (let h = rw c.in_default-2.is at c.in_ok-turned.ensures.ok in h) in
    let v = going_next (going_along c.instructions.invariant.going go) step in
    let counted = c.next.ensures.row in
    let looks = c.next.ensures.reader in
    let steps = (let b = rw (c.in-Ok-true.is, c.in-Ok-true.field-0-test) at looks.steps in b) in
    let ahead = (let b = rw (c.in-Ok-true.is, c.in-Ok-true.field-0-test) at looks.ahead in b) in
    let kept = c.instructions.invariant.memo in
    let apart = (let b = rw (c.in-Ok-true.is, kept) at counted.apart in b) in
    let machine = (let b = rw (c.in-Ok-true.is, kept) at c.next.ensures.session.ready in b) in
    record {
      memo = counted.memo ∙ kept;
      extent = counted.extent ∙ c.instructions.invariant.extent;
      same = looks.source ∙ (c.hear_next.ensures.source
          ∙ (c.hear_at_hand.ensures.source ∙ c.instructions.invariant.same));
      is_open = ap (λ s. s.phase) steps.2;
      going = going_again v (sym c.ended.ensures ∙ c.if-ended.true)
          (sym c.instructions.invariant.extent ∙ c.in-ToTheEnd.is) steps
          (some_ahead ahead.0 _ _ ahead.1) counted.number apart machine c.next.ensures.earlier;
    }

pub returns-in-Ok-false : goal.returns-in-Ok-false
returns-in-Ok-false g c =
    let go = (let h = rw c.in_default.is at c.in_ok-refusal.ensures.ok in h) in
    let step = (let h = rw c.in_default-2.is at c.in_ok-turned.ensures.ok in h) in
    let v = going_next (going_along c.instructions.invariant.going go) step in
    let counted = c.next.ensures.row in
    let looks = c.next.ensures.reader in
    let steps = (let b = rw (c.in-Ok-false.is, c.in-Ok-false.field-0-test) at looks.steps in b) in
    let ahead = (let b = rw (c.in-Ok-false.is, c.in-Ok-false.field-0-test) at looks.ahead in b) in
    let kept = c.instructions.invariant.memo in
    let apart = (let b = rw (c.in-Ok-false.is, kept) at counted.apart in b) in
    let machine = (let b = rw (c.in-Ok-false.is, kept) at c.next.ensures.session.ready in b) in
    let now = sight g.R.Source.left g.R.Source.failures c.next.new.reader.source.now in
    let e = c.accepted.ensures in
    let imports = e.imports ∙ ap (λ m. listed_in m c.next.new.self.apart.asked
    c.next.new.session.machine.imports) (counted.memo ∙ kept) in
    let a = accepted_as (accepts_row v (sym c.ended.ensures ∙ c.if-ended.true)
    (sym c.instructions.invariant.extent ∙ c.in-ToTheEnd.is) _ steps counted.number apart
    machine imports) (seen_so ahead now) c.accepted.result
    (e.taken ∙ c.taken-taken.ensures) e.pickles refl in
    record { source = search rules; answer = a.0; stopped = tt; count = a.1 }
