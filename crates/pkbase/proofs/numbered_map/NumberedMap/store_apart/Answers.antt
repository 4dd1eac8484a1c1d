-- A number goes to its part, and each part keeps the numbers that belong to it.
use Rattle.std.proofs.Common.{◌+◌, ◌-◌, ◌<◌, ◌≤◌, ◌^◌, ◌∙◌, arith, length, sym}
use Rattle.std.proofs.lemmas.Map.Views.{All-keys-insert_entry}
use Rattle.std.proofs.lemmas.Result.{on_err_weaker, on_ok_weaker}
use Rattle.std.specs.Ordering.{nat_cmp}
use Rattle.std.specs.Result.{OnErr, OnOk}
use Rattle.std.specs.declared.result.Result.{Result}
use Rattle.std.specs.declared.result.Result.TheVariants.{Ok, Err}
use Rattle.pkbase.proofs.Entries.{at_low, at_rest, put_low, put_ordered, put_rest}
use Rattle.pkbase.proofs.numbered_map.NumberedMap.store_apart.Goals as goal

-- what follows from either outcome
either : {T E P Q R : Type 0} (r : Result T E) → OnOk r P → OnErr r Q → (P → R) → (Q → R) → R
either (Ok x) h k f g = f h
either (Err e) h k f g = g k

pub invariant_of-self : goal.invariant_of-self
invariant_of-self g c =
    let m = c.self.inside in
    let parts = c.self.invariant in
    either c.put.result c.put.ensures.ok c.put.ensures.err
    (λ h. record {
      below = rw h (All-keys-insert_entry nat_cmp c.args.number c.args.value
          (λ number. number < m.first) m.low.entries parts.below (omega arith));
      above = parts.above;
      narrow = parts.narrow;
    })
    (λ h. rw h parts)

pub returns-then-number-self-clause-ok : goal.returns-then-number-self-clause-ok
returns-then-number-self-clause-ok g c =
    let m = c.self.inside in
    rw (← c.self.view_is)
    (on_ok_weaker c.put.result
    (λ h. rw h
    (put_low m.low.entries m.first m.ordered m.rest.entries c.self.invariant
    c.args.number c.args.value (omega arith))) c.put.ensures.ok)

pub returns-then-place-len-clause-ok : goal.returns-then-place-len-clause-ok
returns-then-place-len-clause-ok g c =
    let m = c.self.inside in
    rw (← c.self.view_is, c.set.ensures)
    (put_ordered m.low.entries m.first m.ordered m.rest.entries c.self.invariant
    c.args.number (c.args.number - m.first) c.args.value (omega arith) (omega arith))

pub invariant_of-self-2 : goal.invariant_of-self-2
invariant_of-self-2 g c =
    let m = c.self.inside in
    let parts = c.self.invariant in
    either c.put-2.result c.put-2.ensures.ok c.put-2.ensures.err
    (λ h. record {
      below = parts.below;
      above = rw h (All-keys-insert_entry nat_cmp c.args.number c.args.value
          (λ number. m.first + length m.ordered ≤ number) m.rest.entries parts.above
          (omega (arith, c.len.ensures.value)));
      narrow = rw h (All-keys-insert_entry nat_cmp c.args.number c.args.value
          (λ number. number < 2 ^ 32) m.rest.entries parts.narrow (omega arith));
    })
    (λ h. rw h parts)

pub returns-clause-ok : goal.returns-clause-ok
returns-clause-ok g c =
    let m = c.self.inside in
    rw (← c.self.view_is)
    (on_ok_weaker c.put-2.result
    (λ h. rw h
    (put_rest m.low.entries m.first m.ordered m.rest.entries c.self.invariant
    c.args.number c.args.value (omega arith))) c.put-2.ensures.ok)

pub returns-then-number-self-clause-absent : goal.returns-then-number-self-clause-absent
returns-then-number-self-clause-absent g c =
    let m = c.self.inside in
    rw (← c.self.view_is)
    (on_err_weaker c.put.result
    (λ none narrow. sym (at_low m.low.entries m.first m.ordered m.rest.entries c.self.invariant
    c.args.number (omega arith)) ∙ none) c.put.ensures.absent)

pub returns-clause-absent : goal.returns-clause-absent
returns-clause-absent g c =
    let m = c.self.inside in
    rw (← c.self.view_is)
    (on_err_weaker c.put-2.result
    (λ none narrow. sym (at_rest m.low.entries m.first m.ordered m.rest.entries c.self.invariant
    c.args.number (omega arith)) ∙ none) c.put-2.ensures.absent)
