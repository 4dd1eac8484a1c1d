-- An import that fails at any stage, even at a full stack, leaves stack and imports as before.
use Rattle.std.proofs.Common.{◌∙◌, ap, inl, inr, option_map, refl, None}
use Rattle.std.proofs.lemmas.Result.{err_from_is_err_and}
use Rattle.pkops.specs.declared.Op.TheVariants as op
use Rattle.pkops.specs.Spelling.{Nothing, instruction}
use Rattle.pkmachine.specs.Following.{item_left}
use Rattle.pkmachine.specs.Private.Slots.{seen}
use Rattle.pkmachine.specs.Policies.{permit_of}
use Rattle.pkimport.specs.Table.{named_asked}
use Rattle.pkmachine.proofs.AskedOperands.{are_numbered, listed_before}
use Rattle.pkmachine.proofs.FollowedItems.{operation_follows}
use Rattle.pkmachine.proofs.Places.{length_below}
use Rattle.pkmachine.proofs.ResolvedEntries.{found_seen, found_is, found_lacks, put_seen, put_sees}
use Rattle.pkmachine.proofs.ResolvedEntries.{length_seen}
use Rattle.pkmachine.proofs.StepParts.Judged.{lack_errs, judged_errs, within_errs, does_pass}
use Rattle.pkmachine.proofs.StepParts.Judged.{judged_name, unroomed, left_there, given_none}
use Rattle.pkmachine.proofs.operate.named.replace_named.Goals as goal

pub returns-in_err-found : goal.returns-in_err-found
returns-in_err-found g c =
    let p = err_from_is_err_and c.from_residual.result c.from_residual.ensures.1 in
    let texts = c.args.table.now.texts in
    let entries = c.args.stack.now in
    let o = c.args.request.now.operation in
    rw (p.1, p.2) (record {
      ok = λ i named memo. tt;
      followed = tt;
      sees = tt;
      texts = refl;
      room = tt;
      kept = (refl, refl);
      err = λ i named memo. inl (within_errs _ c.args.config.now.limits 0
          (record { reason = c.in_err-found.field-0.0; pair = None })
          (lack_errs (permit_of c.args.request.now.policy.now) o.takes o.names o.gives i
          (record { entries = seen texts entries; memo = memo }) c.in_err-found.field-0.0
          (found_lacks texts o.takes entries c.requires.sees c.in_err-found.field-0.0
          c.in_err-found.ensures.err)));
    })

pub returns-in_err-named : goal.returns-in_err-named
returns-in_err-named g c =
    let p = err_from_is_err_and c.from_residual-in_err-named.result
    c.from_residual-in_err-named.ensures.1 in
    let texts = c.args.table.now.texts in
    let entries = c.args.stack.now in
    let o = c.args.request.now.operation in
    let found = found_seen texts o.takes entries c.requires.sees _ c.in_ok-found.ensures.ok in
    rw (p.1, p.2) (record {
      ok = λ i named memo. tt;
      followed = tt;
      sees = tt;
      texts = refl;
      room = tt;
      kept = (refl, refl);
      err = λ i named memo.
          let d = rw c.operands-operands.ensures at (c.in_err-named.ensures.err i named) in
          elim d [
            | inl e ↦ inl (within_errs _ c.args.config.now.limits 0 c.in_err-named.field-0.0
                (judged_errs (permit_of c.args.request.now.policy.now) o.takes o.names o.gives i
                (record { entries = seen texts entries; memo = memo }) _ c.in_err-named.field-0.0
                found e))
            | inr e ↦ inr (inl e.0, e.1)
          ];
    })

pub permitted_name-requires : goal.permitted_name-requires
permitted_name-requires g c =
    let is = found_is c.args.table.now.texts c.args.request.now.operation.takes c.args.stack.now
    c.requires.sees _ c.in_ok-found.ensures.ok in
    record {
      numbered = rw c.operands-operands.ensures
          (are_numbered c.args.table.now.texts _ _ is.operands);
    }

pub give-requires-clause-first : goal.give-requires-clause-first
give-requires-clause-first g c e =
    let i = instruction op.None Nothing in
    c.in_ok-found.ensures.first
    (left_there c.args.request.now.operation.takes c.args.request.now.operation.gives i
    c.requires.given
    (given_none c.args.table.now.texts c.value_of-value.result _ e
    (c.value_of-value.ensures.stands c.args.table.now.texts i)))

pub give-requires-clause-there : goal.give-requires-clause-there
give-requires-clause-there g c e =
    let i = instruction op.None Nothing in
    c.in_ok-found.ensures.there
    (left_there c.args.request.now.operation.takes c.args.request.now.operation.gives i
    c.requires.given
    (given_none c.args.table.now.texts c.value_of-value.result _ e
    (c.value_of-value.ensures.stands c.args.table.now.texts i)))

pub returns-in_err-is_import : goal.returns-in_err-is_import
returns-in_err-is_import g c =
    let p = err_from_is_err_and c.from_residual-in_err-is_import.result
    c.from_residual-in_err-is_import.ensures.1 in
    let o = c.args.request.now.operation in
    let failed = c.in_err-is_import.ensures.err in
    rw (p.1, p.2, failed.0) (record {
      ok = λ i named memo. tt;
      followed = tt;
      sees = tt;
      texts = refl;
      room = tt;
      kept = (refl, refl);
      err = λ i named memo.
          let fits = rw c.operands-operands.ensures at (c.in_ok-named.ensures.ok i named) in
          inr (
            inl
                (judged_name (permit_of c.args.request.now.policy.now) o.names o.gives i _ _ _
                failed.1 fits),
            (failed.2, refl),
          );
    })

pub returns-in-Ok : goal.returns-in-Ok
returns-in-Ok g c =
    let texts = c.args.table.now.texts in
    let entries = c.args.stack.now in
    let o = c.args.request.now.operation in
    let listed = c.in_ok-is_import.ensures.ok in
    let found = found_seen texts o.takes entries c.requires.sees _ c.in_ok-found.ensures.ok in
    let is = found_is texts o.takes entries c.requires.sees _ c.in_ok-found.ensures.ok in
    let value = c.value_of-value.ensures.stands texts in
    record {
      ok = λ i named memo.
          let fits = rw c.operands-operands.ensures at (c.in_ok-named.ensures.ok i named) in
          let put = put_seen texts c.value_of-value.result _ (value i) _ is in
          rw listed.0
          (does_pass (permit_of c.args.request.now.policy.now) o.takes o.names o.gives i
          (record { entries = seen texts entries; memo = memo }) _ texts c.in_ok-named.named found
          fits (seen texts c.give.new.stack) c.args.table.now.asked _ c.in_ok-is_import.is_import
          (ap (seen texts) c.in-Ok.ensures.ok ∙ put) refl listed.1);
      followed = λ i same memo.
          let left = c.value_of-value.ensures.item
          ∙ ap (item_left o.gives) (c.operated-item.ensures.item i same) in
          operation_follows g.D.Domain.follows o.takes o.names o.gives i memo entries _
          c.args.domain.now _ _ c.value_of-value.result c.in_ok-found.ensures.ok
          (rw c.operands-operands.ensures at left) c.in-Ok.ensures.ok
          (rw c.operands-operands.ensures at (c.operated-item.ensures.state i same));
      sees = rw (listed.0, c.in-Ok.ensures.ok)
          (put_sees texts c.value_of-value.result _ (value (instruction op.None Nothing)) _ is);
      texts = ap (λ l. l.texts) listed.0;
      room = c.in-Ok.ensures.room;
      kept = tt;
      err = λ i named memo. tt;
    }

pub returns-in-Err : goal.returns-in-Err
returns-in-Err g c =
    let texts = c.args.table.now.texts in
    let entries = c.args.stack.now in
    let o = c.args.request.now.operation in
    let before = listed_before (option_map (named_asked texts) c.in_ok-named.named)
    c.args.table.now.asked in
    let found = found_seen texts o.takes entries c.requires.sees _ c.in_ok-found.ensures.ok in
    rw c.from.ensures (record {
      ok = λ i named memo. tt;
      followed = tt;
      sees = tt;
      texts = ap (λ l. l.texts) c.keep.ensures ∙ ap (λ l. l.texts) c.in_ok-is_import.ensures.ok.0;
      room = tt;
      kept = (
        c.in-Err.ensures.err.0,
        rw (c.keep.ensures, c.in_ok-is_import.ensures.ok.0, c.len-count.ensures) (λ i. record {
          texts = texts;
          asked = before i;
        }),
      );
      err = λ i named memo.
          let fits = rw c.operands-operands.ensures at (c.in_ok-named.ensures.ok i named) in
          unroomed (permit_of c.args.request.now.policy.now) o.takes o.names o.gives i
          (record { entries = seen texts entries; memo = memo }) _ texts c.in_ok-named.named found
          fits texts c.value_of-value.result (c.value_of-value.ensures.stands texts i)
          c.args.config.now.limits c.in-Err.reason c.in-Err.ensures.err.1
          (rw (
            length_seen,
            length_below c.in_ok-found.found.place entries c.in_ok-found.ensures.within,
          ) c.in-Err.ensures.err.2);
    })
