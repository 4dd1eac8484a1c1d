-- An opcode with a field of fixed width is as long as its code and that field.
use Rattle.pkjson.proofs.Runs.Fronts.{fixed_length, none, u1, u2, u4, i4}
use Rattle.pkjson.proofs.front.spelled_length.Goals as goal

pub returns-in-Nothing : goal.returns-in-Nothing
returns-in-Nothing c = fixed_length _ _ _ _ c.in-Nothing.ensures none

pub returns-in-U1 : goal.returns-in-U1
returns-in-U1 c = fixed_length _ _ _ _ c.in-U1.ensures u1

pub returns-in-U2 : goal.returns-in-U2
returns-in-U2 c = fixed_length _ _ _ _ c.in-U2.ensures u2

pub returns-in-I4 : goal.returns-in-I4
returns-in-I4 c = fixed_length _ _ _ _ c.in-I4.ensures i4

pub returns-in-U4 : goal.returns-in-U4
returns-in-U4 c = fixed_length _ _ _ _ c.in-U4.ensures u4
