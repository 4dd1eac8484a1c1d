-- An accepted pickle's argument is good, so the length alone settles the instruction in front.
use Rattle.pkjson.proofs.Runs.Fronts.{may_spell, front_spelled}
use Rattle.pkjson.proofs.front.spelled_at_front.Goals as goal

pub spelled-requires : goal.spelled-requires
spelled-requires c = may_spell c.one_code.ensures c.args.bytes.now _ _ c.in-Some.ensures.found
    c.in-Some-spelled_length.ensures c.requires

pub returns : goal.returns
returns c = front_spelled c.one_code.ensures c.args.bytes.now _ _ c.in-Some.ensures.found
    c.in-Some-spelled_length.ensures _ c.spelled.ensures
