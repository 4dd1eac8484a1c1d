-- What lies before the rest was told and accepted in turn, and each turn shortens the rest.
use Rattle.std.proofs.Common.{◌≡◌, List, length}
use Rattle.pkmachine.specs.Policies.{permit_of}
use Rattle.pkcheck.specs.Private.Lent.{HearsMore}
use Rattle.pkcheck.specs.Reports.{Report}
use Rattle.pkcheck.proofs.Wholes.InTurn.{Along, IsInside}
use Rattle.pkcheck.proofs.session.Session.hear_all_lent.Given as goal

abbrev pub invariant-instructions : goal.invariant-instructions
invariant-instructions g l = record {
  frame : l.self-inside.frames ≡ l.initial.self-inside.frames;
  whole : IsInside l.fn.self.frame l.fn.bytes l.inside;
  hears : List Report;
  along : Along g.A.Audience.holding
      (permit_of l.fn.policy) l.fn.at l.fn.bytes l.inside l.fn.self l.rest
      l.self-inside.machine.view hears;
  heard : HearsMore g.A.Audience.hears l.initial.audience l.audience hears;
}

abbrev pub decreases-instructions : goal.decreases-instructions
decreases-instructions g l = length l.rest
