-- A plan for the pickle gives its optimized form, unless a write that stays is past the limit.
use Rattle.std.proofs.Common.{◌≡◌, refl, None, List, inl, inr, sym, ap, subst, ◌∙◌}
use Rattle.pkops.specs.declared.Reason.TheVariants.{TooLarge}
use Rattle.pkopt.specs.Answer.{Optimizes, pickle}
use Rattle.pkopt.specs.declared.place.Part.{Part}
use Rattle.pkopt.specs.Private.Places.{places_behind}
use Rattle.pkopt.specs.Private.Produced.{first_past}
use Rattle.pkopt.proofs.Optimized.{few_writes, form_optimizes, past_refused}
use Rattle.pkopt.proofs.optimizing.optimized_form.Goals as goal

pub returns-in-Some-clause-err : goal.returns-in-Some-clause-err
returns-in-Some-clause-err c =
    let x = c.in_ok-taken.field-0 in
    let t = c.in_ok-taken.ensures.ok in
    let plan = c.in-Ok.plan in
    let planned = c.in-Ok.ensures.plan (pickle t.checks) t.tracks.reads in
    let past = ap (λ (l : List Part). first_past plan (places_behind 0 l) 0 0)
    (sym c.deref.ensures.value) ∙ c.in-Some.ensures.some in
    past_refused c.args.limits.now c.args.bytes.now x plan t planned c.in-Ok.ensures.limit
    (record { at = c.in-Some.at; reason = TooLarge }) past refl

pub returns-clause-ok : goal.returns-clause-ok
returns-clause-ok c =
    let x = c.in_ok-taken.field-0 in
    let t = c.in_ok-taken.ensures.ok in
    let plan = c.in-Ok.plan in
    let planned = c.in-Ok.ensures.plan (pickle t.checks) t.tracks.reads in
    let none : first_past plan (places_behind 0 x.trace.parts.items) 0 0 ≡ None =
    elim c.in_default-past_limit.ensures.none [
      | inl few ↦ few_writes c.args.limits.now c.args.bytes.now x plan t planned few
      | inr e ↦ ap (λ (l : List Part). first_past plan (places_behind 0 l) 0 0)
          (sym c.deref.ensures.value) ∙ e
    ] in
    subst (Optimizes c.args.limits.now c.args.bytes.now) (sym c.in-Ok-new.ensures.bytes)
    (form_optimizes c.args.limits.now c.args.bytes.now x plan t planned c.in-Ok.ensures.limit
    c.framed.ensures c.same_ends.ensures.free c.same_ends.ensures.well c.in-Ok.ensures.small
    none c.in-Ok-new.ensures.short)
