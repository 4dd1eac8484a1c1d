-- Code, line and line feed make the length, whichever opcode has one line.
use Rattle.std.proofs.Common.{sym, ap, ◌∙◌}
use Rattle.std.specs.Prelude.{◌==◌, position}
use Rattle.pkjson.proofs.Entries.{all_after}
use Rattle.pkjson.proofs.Runs.Fronts.{line_length}
use Rattle.pkjson.proofs.front.line_length.Goals as goal

pub returns : goal.returns
returns c = line_length c.args.bytes.now c.in-Some.end
    (ap (position (λ byte. byte == 10)) (sym (all_after c.args.bytes.now 1))
    ∙ sym c.end_of_line.ensures ∙ c.in-Some.is)
