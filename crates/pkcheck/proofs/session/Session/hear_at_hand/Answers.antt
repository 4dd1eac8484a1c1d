-- The reader takes what was told: the accepted instructions, and the one that ended the check.
use Rattle.std.proofs.Common.{◌+◌, rules, ap, append-nil, arith, inl, inr, refl, subst, sym, ◌∙◌}
use Rattle.pkread.specs.AtHand.{beyond}
use Rattle.pkread.specs.ReaderCalls.{state}
use Rattle.pkmachine.specs.Policies.{permit_of}
use Rattle.pkcheck.proofs.Wholes.InTurn.{pass_within, stops_within}
use Rattle.pkcheck.proofs.session.Session.hear_at_hand.Goals as goal

pub returns-in_default-clause-ok : goal.returns-in_default-clause-ok
returns-in_default-clause-ok g c = (
  inl (refl, refl),
  λ first hs h. subst (g.A.Audience.hears first c.args.audience.now) (sym (append-nil hs)) h,
)

-- ---- all that is lent is accepted

pub advance-requires : goal.advance-requires
advance-requires g c =
    let ok = (let h = rw c.in-Ok-Ok.field-0-is at c.in-Ok-Ok.ensures.ok in h) in
    let few = pass_within g.A.Audience.holding (permit_of c.args.policy.now) _ c.in-Some.bytes.now
    c.args.self.now ok.0 c.hear_all_lent.new.self c.in-Ok-Ok.passed ok.1 ok.2 in
    let hand = c.in-Some.ensures.within in
    let room = c.in-Some.ensures.next.within in
    record {
      within = omega (arith, few, hand);
      room = omega (arith, few, room);
      none = search rules;
    }

pub returns-in-Ok-Ok-clause-ok : goal.returns-in-Ok-Ok-clause-ok
returns-in-Ok-Ok-clause-ok g c =
    let ok = (let h = rw c.in-Ok-Ok.field-0-is at c.in-Ok-Ok.ensures.ok in h) in (
      inr (record {
        bytes = c.in-Some.bytes.now;
        next = c.in-Some.ensures.next;
        number = ok.0;
        count = c.in-Ok-Ok.passed;
        hears = ok.1;
        pass = rw (← c.taken-taken.ensures) ok.2;
        taken = c.advance.ensures.after;
      }),
      ok.3,
    )

-- ---- one is refused

pub overflow_add-turned : goal.overflow_add-turned
overflow_add-turned g c =
    let no = (let h = rw c.in-Ok-Err.field-0-is at c.in-Ok-Err.ensures.no in h) in
    let long = no.0.long in
    let room = c.in-Some.ensures.next.within in
    omega (arith, stops_within no.0.here, room, long)

pub advance-requires-in-Ok-Err : goal.advance-requires-in-Ok-Err
advance-requires-in-Ok-Err g c =
    let no = (let h = rw c.in-Ok-Err.field-0-is at c.in-Ok-Err.ensures.no in h) in
    let long = no.0.long in
    let few = stops_within no.0.here in
    let hand = c.in-Some.ensures.within in
    let room = c.in-Some.ensures.next.within in
    record {
      within = omega (arith, few, hand, long);
      room = omega (arith, few, room, long);
      none = search rules;
    }

pub returns-in-Ok-Err-clause-no : goal.returns-in-Ok-Err-clause-no
returns-in-Ok-Err-clause-no g c =
    let no = (let h = rw (c.in-Ok-Err.field-0-is, c.taken-taken.ensures) at
    c.in-Ok-Err.ensures.no in h) in (
      record {
        bytes = c.in-Some.bytes.now;
        next = c.in-Some.ensures.next;
        turned = c.in-Ok-Err.turned;
        down = no.0;
        taken = c.advance-in-Ok-Err.ensures.after;
        place = ap (λ n. n + c.in-Ok-Err.turned.before) c.taken-taken.ensures;
        why = refl;
      },
      no.1,
    )

-- ---- the audience fails

pub overflow_add-before : goal.overflow_add-before
overflow_add-before g c =
    let err = c.in-Err.ensures.err in
    let long = err.1 in
    let room = c.in-Some.ensures.next.within in
    omega (arith, stops_within err.0, room, long)

pub advance-requires-in-Err : goal.advance-requires-in-Err
advance-requires-in-Err g c =
    let err = c.in-Err.ensures.err in
    let long = err.1 in
    let few = stops_within err.0 in
    let hand = c.in-Some.ensures.within in
    let room = c.in-Some.ensures.next.within in
    record {
      within = omega (arith, few, hand, long);
      room = omega (arith, few, room, long);
      none = search rules;
    }

pub returns-in-Err-clause-err : goal.returns-in-Err-clause-err
returns-in-Err-clause-err g c =
    let err = (let h = rw c.taken-taken.ensures at c.in-Err.ensures.err in h) in
    let s = state g.R.Source.left g.R.Source.failures c.args.reader.now in (
      record {
        bytes = c.in-Some.bytes.now;
        next = c.in-Some.ensures.next;
        before_it = c.in-Err.failed.before;
        here = err.0;
        taken = c.advance-in-Err.ensures.after
            ∙ ap (λ n. beyond (c.in-Err.failed.before + n) s) err.1;
      },
      err.2,
    )
