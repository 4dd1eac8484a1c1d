-- Pieces written one behind the other, with commas between, are the text of the whole.
use Rattle.std.proofs.Common.{◌<◌, ◌-◌, ℕ, length, drop, get_or, arith, rules}
use Rattle.std.specs.Prelude.{All, slice_range}
use Rattle.std.proofs.lemmas.List.Elements.{All-drop, All-get_or, All-take}
use Rattle.std.proofs.lemmas.Result.{on_ok_weaker}
use Rattle.pkjson.specs.Private.Fits.{Fits, ItemsFit, MembersFit}
use Rattle.pkjson.specs.Private.Nodes.{heap, named_members, size}
use Rattle.pkjson.proofs.Parts.Built.{fits_some, fits_items, fits_any, fits_members, item_fits}
use Rattle.pkjson.proofs.Parts.Built.{member_fits}
use Rattle.pkjson.proofs.Parts.NodesHeld.{Member, held, below, no_member}
use Rattle.pkjson.proofs.Parts.Pieces.{dict_written, list_written, more_items, more_members}
use Rattle.pkjson.proofs.Parts.Pieces.{no_items_written, no_members_written, one_item, one_member}
use Rattle.pkjson.proofs.Parts.SomeFit.{some_fit, some_members_fit}
use Rattle.pkjson.proofs.pieces.+putting.Goals as goal

pub write_value-overflow_sub-levels : goal.write_value-overflow_sub-levels
write_value-overflow_sub-levels g t c = fits_some _
    (held c.node.ensures c.in-List.is) c.requires.fits

pub write_value-overflow_sub-levels-in-Dict : goal.write_value-overflow_sub-levels-in-Dict
write_value-overflow_sub-levels-in-Dict g t c = fits_any _
    (held c.node.ensures c.in-Dict.is) c.requires.fits

pub write_value-write_items-requires : goal.write_value-write_items-requires
write_value-write_items-requires g t c κs within =
    let e = held c.node.ensures c.in-List.is in
    let b = below c.node.ensures c.in-List.is c.requires.closed in
    let f = fits_items _ e c.requires.fits in
    let l = fits_some _ e c.requires.fits in
    search (rules, b, f, l)

pub write_value-write_members-requires : goal.write_value-write_members-requires
write_value-write_members-requires g t c κs within =
    let e = held c.node.ensures c.in-Dict.is in
    let b = below c.node.ensures c.in-Dict.is c.requires.closed in
    let f = fits_members _ e c.requires.fits in
    let l = fits_any _ e c.requires.fits in
    search (rules, b, f, l)

pub write_value-returns-in_ok-write_items-in-List
    : goal.write_value-returns-in_ok-write_items-in-List
write_value-returns-in_ok-write_items-in-List g t c = on_ok_weaker c.write_all-in-List.result
    (λ close. list_written _ _ _ _
    (held c.node.ensures c.in-List.is) c.in_ok-write_all-in-List.ensures.bytes
    c.in_ok-write_items-in-List.ensures close)
    c.write_all-in-List.ensures.bytes

pub write_value-returns-in_ok-write_members-in-Dict
    : goal.write_value-returns-in_ok-write_members-in-Dict
write_value-returns-in_ok-write_members-in-Dict g t c = on_ok_weaker c.write_all-in-Dict-2.result
    (λ close. dict_written _ _ _ _
    (held c.node.ensures c.in-Dict.is) c.in_ok-write_all-in-Dict.ensures.bytes
    c.in_ok-write_members-in-Dict.ensures close)
    c.write_all-in-Dict-2.ensures.bytes

pub write_items-loop-first-init : goal.write_items-loop-first-init
write_items-loop-first-init g t c =
    record { within = omega arith; written = no_items_written _ _ }

pub write_items-write_some_items-requires : goal.write_items-write_some_items-requires
write_items-write_some_items-requires g t c κs within =
    let first = c.loop-first.first in
    let end = c.items_end-end.result in
    let below = λ (x : ℕ). x < size c.args.weighed.now.nodes.now in
    let f : ItemsFit (heap c.args.weighed.now.nodes.now) c.args.levels
    (slice_range c.args.items.now first end) =
    some_fit _ _ c.args.items.now first end c.requires.fits in
    let p : All below (slice_range c.args.items.now first end) =
    All-take below (end - first) (drop first c.args.items.now)
    (All-drop below first c.args.items.now c.requires.places) in
    search (rules, f, p)

pub write_items-loop-first-preserved : goal.write_items-loop-first-preserved
write_items-loop-first-preserved g t c =
    record {
      within = c.items_end-end.ensures.within;
      written = more_items _ c.loop-first.first c.items_end-end.result _ _ _ _ c.args.items.now
          c.items_end-end.ensures.later c.items_end-end.ensures.within
          c.loop-first.invariant.written c.in_ok-write_comma.ensures
          c.in_ok-write_some_items.ensures;
    }

pub write_some_items-write_value-requires : goal.write_some_items-write_value-requires
write_some_items-write_value-requires g t c κs within =
    let l : 0 < length c.args.items.now = omega (arith, c.if-items-eq1.true) in
    let f = item_fits _ _ c.args.items.now 0 l c.requires.fits in
    search (rules, f, l)

pub write_some_items-returns-then-items-eq1 : goal.write_some_items-returns-then-items-eq1
write_some_items-returns-then-items-eq1 g t c = on_ok_weaker c.write_value.result
    (λ w. one_item _ c.args.items.now _ _ (omega (arith, c.if-items-eq1.true)) w)
    c.write_value.ensures

pub write_members-loop-first-init : goal.write_members-loop-first-init
write_members-loop-first-init g t c =
    record { within = omega arith; written = no_members_written _ _ }

pub write_members-write_some_members-requires : goal.write_members-write_some_members-requires
write_members-write_some_members-requires g t c κs within =
    let first = c.loop-first.first in
    let end = c.members_end-end.result in
    let below = λ (p : Member). p.1 < size c.args.weighed.now.nodes.now in
    let f : MembersFit (heap c.args.weighed.now.nodes.now) c.args.levels
    (named_members (slice_range c.args.members.now first end)) =
    some_members_fit _ _ c.args.members.now first end c.requires.fits in
    let p : All below (slice_range c.args.members.now first end) =
    All-take below (end - first) (drop first c.args.members.now)
    (All-drop below first c.args.members.now c.requires.places) in
    search (rules, f, p)

pub write_members-loop-first-preserved : goal.write_members-loop-first-preserved
write_members-loop-first-preserved g t c =
    record {
      within = c.members_end-end.ensures.within;
      written = more_members _ c.loop-first.first c.members_end-end.result _ _ _ _
          c.args.members.now c.members_end-end.ensures.later c.members_end-end.ensures.within
          c.loop-first.invariant.written c.in_ok-write_comma.ensures
          c.in_ok-write_some_members.ensures;
    }

pub write_some_members-write_value-requires : goal.write_some_members-write_value-requires
write_some_members-write_value-requires g t c κs within =
    let l : 0 < length c.args.members.now = omega (arith, c.if-members-eq1.true) in
    let member = get_or c.args.members.now 0 no_member in
    let p : member.1 < size c.args.weighed.now.nodes.now = All-get_or
    (λ (p : Member). p.1 < size c.args.weighed.now.nodes.now) c.args.members.now 0 no_member l
    c.requires.places in
    let f : Fits (heap c.args.weighed.now.nodes.now) c.args.levels member.1 =
    member_fits _ _ c.args.members.now 0 no_member l c.requires.fits in
    search (rules, c.requires.closed, p, f)

pub write_some_members-returns-then-members-eq1 : goal.write_some_members-returns-then-members-eq1
write_some_members-returns-then-members-eq1 g t c = on_ok_weaker c.write_value.result
    (λ w. one_member _ c.args.members.now _ _ _ (omega (arith, c.if-members-eq1.true))
    c.in_ok-write_key.ensures w)
    c.write_value.ensures
