-- No rule ties arguments together, so matches are a job, and an error in the words means none.
use Rattle.std.proofs.Common.{◌≡◌, sym, subst, refl, true, inr, map}
use Rattle.std.specs.Prelude.{IfNone}
use Rattle.std.specs.Option.{IfSome}
use Rattle.pkargs.proofs.Free.{is_free}
use Rattle.pkargs.proofs.NoJob.{at_fault, if_err}
use Rattle.clap.specs.Words.{HasKind, app_of, fault_of, is_simple_and_free, is_simple}
use Rattle.clap.specs.Words.{subcommand_rows_of}
use Rattle.pkargs.specs.Command.{IsForNone, IsJob}
use Rattle.pkargs.proofs.command.parsed.Goals as goal

pub returns-in-Some-clause-job : goal.returns-in-Some-clause-job
returns-in-Some-clause-job c =
    let program = c.in_ok-program.ensures in
    let simple : is_simple (app_of c.in_ok-program.field-0) ≡ true =
    subst (λ app. is_simple app ≡ true) (sym program.2) refl in
    let met = (c.in_ok-matches.ensures.matches simple).1 in
    let job = subst (λ found. IfSome found (IsJob (subcommand_rows_of c.in_ok-matches.matches)))
    c.in-Some.is c.in_ok-job.ensures.job in
    let free : is_simple_and_free (app_of c.in_ok-program.field-0) ≡ true =
    subst (λ app. is_simple_and_free app ≡ true) (sym program.2) (is_free program.0) in (
      app_of c.in_ok-program.field-0,
      program,
      subst (λ sub. IsJob sub c.in-Some.job) met job,
      c.in_ok-matches.ensures.kinds free,
    )

pub returns-in_err-matches-clause-none : goal.returns-in_err-matches-clause-none
returns-in_err-matches-clause-none c =
    let program = c.in_ok-program.ensures in
    let free : is_simple_and_free (app_of c.in_ok-program.field-0) ≡ true =
    subst (λ app. is_simple_and_free app ≡ true) (sym program.2) (is_free program.0) in
    let kinds = c.in_err-matches.ensures.kinds free in
    if_err _ _ c.from_residual-in_err-matches.result
    (λ error same. at_fault (app_of c.in_ok-program.field-0) _ error program
    (subst (λ x. HasKind (fault_of (app_of c.in_ok-program.field-0)
    (map (λ word. word.now) c.args.words.now)) x) (sym same) kinds))
    c.from_residual-in_err-matches.ensures.1

pub returns-clause-none : goal.returns-clause-none
returns-clause-none c =
    let program = c.in_ok-program.ensures in
    let simple : is_simple (app_of c.in_ok-program.field-0) ≡ true =
    subst (λ app. is_simple app ≡ true) (sym program.2) refl in
    let met = (c.in_ok-matches.ensures.matches simple).1 in
    let none = subst (λ found. IfNone found (IsForNone (subcommand_rows_of
    c.in_ok-matches.matches))) c.in-None.is c.in_ok-job.ensures.none in
    inr (app_of c.in_ok-program.field-0, program, inr (subst IsForNone met none))
