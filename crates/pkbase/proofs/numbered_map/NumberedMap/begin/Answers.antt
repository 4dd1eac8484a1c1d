-- With no entry in any part, the first one begins the row, whatever its number.
use Rattle.std.proofs.Common.{◌+◌, ◌<◌, ◌≤◌, ◌∙◌, ◌^◌, length}
use Rattle.std.proofs.lemmas.List.Elements.{All-nil}
use Rattle.std.proofs.lemmas.Result.{on_err_weaker, on_ok_weaker}
use Rattle.pkbase.proofs.Entries.{no_entries, put_first, still_none}
use Rattle.pkbase.proofs.numbered_map.NumberedMap.begin.Goals as goal

pub invariant_of-self : goal.invariant_of-self
invariant_of-self g c =
    let m = c.self.inside in
    let none = no_entries m.low.entries m.first m.ordered m.rest.entries
    (c.self.view_is ∙ c.requires) in
    rw (none.0, none.2) record {
      below = All-nil (λ number. number < c.args.number);
      above = All-nil (λ number. c.args.number + length c.push.new.self ≤ number);
      narrow = All-nil (λ number. number < 2 ^ 32);
    }

pub returns-clause-ok : goal.returns-clause-ok
returns-clause-ok g c =
    let m = c.self.inside in
    let none = no_entries m.low.entries m.first m.ordered m.rest.entries
    (c.self.view_is ∙ c.requires) in
    rw c.requires
    (on_ok_weaker c.push.result
    (put_first m.low.entries m.ordered _ m.rest.entries c.args.number c.args.value none.0 none.1
    none.2) c.push.ensures.ok)

pub returns-clause-err : goal.returns-clause-err
returns-clause-err g c =
    let m = c.self.inside in
    let none = no_entries m.low.entries m.first m.ordered m.rest.entries
    (c.self.view_is ∙ c.requires) in
    rw c.requires
    (on_err_weaker c.push.result
    (still_none m.low.entries m.ordered _ m.rest.entries c.args.number none.0 none.1 none.2)
    c.push.ensures.err)
