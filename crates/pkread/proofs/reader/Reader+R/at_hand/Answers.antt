-- What the source shows are its next bytes, and cut to the room left they can all be taken.
use Rattle.std.proofs.Common.{refl, subst, arith}
use Rattle.pkread.specs.Pull.{BeginsWith}
use Rattle.pkread.specs.ReaderCalls.{source_of, state}
use Rattle.pkread.specs.Rows.{Sight, sight}
use Rattle.pkread.proofs.Calls.AtHand.{first_are_next}
use Rattle.pkread.proofs.Calls.Next.{seen_so}
use Rattle.pkread.proofs.reader.Reader+R.at_hand.Goals as goal

pub returns-clause-next : goal.returns-clause-next
returns-clause-next g c =
    let old = state g.R.Source.left g.R.Source.failures c.args.self.now in
    let begins = subst (λ (s : Sight). BeginsWith s.left c.ahead-bytes.result.now)
    (seen_so c.args.self.now.core.ahead
    (sight g.R.Source.left g.R.Source.failures (source_of c.args.self.now))
    (c.if-not-is_open.ensures.none refl)) c.ahead-bytes.ensures.first in
    let room = c.room.ensures in
    let least = c.min-count.ensures in
    first_are_next old _ _ (c.if-not-is_open.ensures.open refl) begins
    (omega (arith, room, least))
