-- Positions are ordered as the texts are, so members by position are members by key.
use Rattle.std.proofs.Common.{◌+◌, refl, length, get_or}
use Rattle.pkjson.specs.Private.Seen.{kept_all}
use Rattle.pkjson.proofs.DictKeys.KeyPlaces.{pairing_goes_on, pairing_ends, text_there}
use Rattle.pkjson.proofs.ranks.Ranks.pairs.Goals as goal

pub loop-index-preserved : goal.loop-index-preserved
loop-index-preserved c =
    pairing_goes_on c.args.self.now.texts.items (kept_all c.args.self.now.objects.now)
    (length c.args.self.now.objects.now) c.args.given.now c.loop-index.index
    c.loop-index.pairs.entries c.insert.new.self.entries c.in-Some.place
    (c.index.result.now.0, get_or c.args.given.now (c.loop-index.index + 1) 0)
    c.requires.ranks.ascending c.loop-index.invariant c.loop-index-test.true c.requires.given
    c.in-Some.ensures
    (text_there c.args.self.now.texts.items c.in-Some.place c.index.result.now c.in-Some.ensures.0
    c.index.ensures) refl c.in_ok-insert.ensures.entries c.in_ok-insert.ensures.ordered

pub returns : goal.returns
returns c = pairing_ends c.args.self.now.texts.items (kept_all c.args.self.now.objects.now)
    (length c.args.self.now.objects.now) c.args.given.now c.loop-index.index
    c.loop-index.pairs.entries c.requires.ranks.ascending c.loop-index.invariant
    c.loop-index-test.false
