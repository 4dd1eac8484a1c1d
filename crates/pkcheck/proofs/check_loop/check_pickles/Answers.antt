-- What the loop answers for its reader, it answers for the source behind it.
use Rattle.std.proofs.Common.{rules, ◌≡◌, IfErr, IfOk}
use Rattle.pkread.specs.Rows.{Sight}
use Rattle.pkmachine.specs.Policies.{permit_of}
use Rattle.pkcheck.specs.ThreeEnds.{AnswersTold, StopsTold}
use Rattle.pkcheck.proofs.check_loop.check_pickles.Goals as goal

seen_as : (P : Sight → Sight → Type 0) (a b old new : Sight) → old ≡ a → new ≡ b → P a b
    → P old new
seen_as P a b old new e h p = rw (e, h) p

pub returns-clause-answer : goal.returns-clause-answer
returns-clause-answer g c =
    let told = rw (c.new-row.ensures, c.new-session.ensures) at c.hear_pickles.ensures.answer in
    seen_as (λ old new. IfOk c.hear_pickles.result (AnswersTold g.A.Audience.holding
    c.args.terms.now.loading (permit_of c.args.policy.now) c.args.terms.now.limits old new
    g.A.Audience.hears c.args.audience.now c.hear_pickles.new.audience
    c.args.terms.now.extent)) _ _ _ _ (search rules) (search rules) told

pub returns-clause-stopped : goal.returns-clause-stopped
returns-clause-stopped g c =
    let told = rw (c.new-row.ensures, c.new-session.ensures) at c.hear_pickles.ensures.stopped in
    seen_as (λ old new. IfErr c.hear_pickles.result (StopsTold g.A.Audience.holding
    c.args.terms.now.loading (permit_of c.args.policy.now) c.args.terms.now.limits old new
    g.A.Audience.hears g.A.Audience.fails c.args.audience.now c.hear_pickles.new.audience
    c.args.terms.now.extent)) _ _ _ _ (search rules) (search rules) told
