-- From the state reached, the rest of the line names a text exactly where all of it does.
use Rattle.std.proofs.Common.{◌≡◌, drop, is_some}
use Rattle.pkops.specs.Private.EscapeSteps.{IsPointSoFar}
use Rattle.pkops.specs.Escapes.{points_of}
use Rattle.pkops.proofs.ContentsRules.EscapesRead.{code_points}
use Rattle.pkops.proofs.contents.escapes.spells_escaped.Given as goal

abbrev pub invariant-bytes : goal.invariant-bytes
invariant-bytes l = record {
  kept : is_some (code_points l.state (drop l.byte-index l.line)) ≡ is_some (points_of l.line);
  small : IsPointSoFar l.state;
}
