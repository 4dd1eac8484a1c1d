-- The row of an opcode is its effect, and the instruction's lines spell the pair it names.
use Rattle.pkmachine.proofs.operate.named.operate_named.Goals as goal

pub returns : goal.returns
returns g c =
    let h = c.replace_named.ensures in
    let is = c.operation_of.ensures c.requires.operation in
    record {
      ok = λ i same memo. rw is (h.ok i (c.names_of.ensures i same) memo);
      followed = rw is h.followed;
      sees = h.sees;
      texts = h.texts;
      room = h.room;
      kept = h.kept;
      err = λ i same memo. rw is (h.err i (c.names_of.ensures i same) memo);
    }
