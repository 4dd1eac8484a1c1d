-- Each turn adds a note: the position at which the object's text was found, or none.
use Rattle.std.proofs.Common.{◌∙◌, ◌∷◌, [], ap, arith, sym, length-append}
use Rattle.pkjson.specs.Private.Arena.{kind_at}
use Rattle.pkjson.specs.Contents.{characters}
use Rattle.pkjson.specs.Private.Seen.{kept_all}
use Rattle.pkjson.proofs.DictKeys.KeyPlaces.{places_more, short_place}
use Rattle.pkjson.proofs.DictKeys.SettledMembers.{kept_length}
use Rattle.pkjson.proofs.ranks.places_of.Goals as goal

pub loop-number-preserved : goal.loop-number-preserved
loop-number-preserved c =
    let s = rw (c.text_at.ensures ∙ ap (λ i. characters (kind_at (kept_all c.args.objects.now) i))
    (sym c.loop-number.invariant.0)) at (short_place _ _ _ c.place_of.ensures c.short-place.ensures)
    in
    let m = length-append c.loop-number.places.items (c.short-place.result ∷ []) in
    let k = kept_length c.args.objects.now in
    rw c.in_ok-push.ensures.items (
      omega (arith, m, c.loop-number.invariant.0),
      places_more c.args.texts.now (kept_all c.args.objects.now) c.loop-number.places.items
          c.short-place.result c.loop-number.invariant.1
          (omega (arith, k, c.loop-number.invariant.0)) s,
    )
