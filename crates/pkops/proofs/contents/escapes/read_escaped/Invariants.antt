-- The text so far, with what the rest of the line names, is what the whole line names.
use Rattle.std.proofs.Common.{◌≡◌, drop, string_bytes, encode_utf8_all, option_map}
use Rattle.pkops.specs.Private.EscapeSteps.{IsPointSoFar}
use Rattle.pkops.specs.Escapes.{points_of}
use Rattle.pkops.proofs.ContentsRules.EscapesRead.{code_points, escapes}
use Rattle.pkops.proofs.ContentsRules.Loop.{joined}
use Rattle.pkops.proofs.contents.escapes.read_escaped.Given as goal

-- the text so far and what is left give what all names
abbrev pub invariant-bytes : goal.invariant-bytes
invariant-bytes l = record {
  kept : joined escapes (string_bytes l.text) (code_points l.state (drop l.byte-index l.line))
      ≡ option_map encode_utf8_all (points_of l.line);
  small : IsPointSoFar l.state;
}
