-- A value is built of the values of what the object holds, each of one level less.
use Rattle.std.proofs.Common.{rules, get_or}
use Rattle.pkjson.specs.Private.Fits.{Fits}
use Rattle.pkjson.specs.Private.Nodes.{heap}
use Rattle.pkjson.proofs.Parts.NodesHeld.{held, below, ordered, no_member}
use Rattle.pkjson.proofs.Parts.Built.{fits_some, fits_items, fits_any, fits_members, item_fits}
use Rattle.pkjson.proofs.Parts.Built.{member_fits, item_built, member_built, view_null, view_bool}
use Rattle.pkjson.proofs.Parts.Built.{view_string}
use Rattle.serde_json.proofs.Views.{view-Array, view-Object}
use Rattle.pkjson.proofs.build.+building.Goals as goal

pub build-overflow_sub-levels : goal.build-overflow_sub-levels
build-overflow_sub-levels t c = fits_some _ (held c.node.ensures c.in-List.is)
    c.requires.fits

pub build-overflow_sub-levels-in-Dict : goal.build-overflow_sub-levels-in-Dict
build-overflow_sub-levels-in-Dict t c = fits_any _
    (held c.node.ensures c.in-Dict.is) c.requires.fits

pub build-returns-in-Null : goal.build-returns-in-Null
build-returns-in-Null t c = rw view_null (held c.node.ensures c.in-Null.is).is

pub build-returns-in-Bool : goal.build-returns-in-Bool
build-returns-in-Bool t c = rw (view_bool c.in-Bool.truth)
    (held c.node.ensures c.in-Bool.is).is

pub build-returns-in_ok-to_string-in-Text : goal.build-returns-in_ok-to_string-in-Text
build-returns-in_ok-to_string-in-Text t c = let e = (held c.node.ensures c.in-Text.is).is in
    rw (view_string c.in_ok-to_string-in-Text.field-0, c.in_ok-to_string-in-Text.ensures.ok) e

pub build-build_items-requires : goal.build-build_items-requires
build-build_items-requires t c =
    let e = held c.node.ensures c.in-List.is in
    let b = below c.node.ensures c.in-List.is c.requires.closed in
    let f = fits_items _ e c.requires.fits in
    let g = fits_some _ e c.requires.fits in
    search (rules, b, f, g)

pub build-build_members-requires : goal.build-build_members-requires
build-build_members-requires t c =
    let e = held c.node.ensures c.in-Dict.is in
    let b = below c.node.ensures c.in-Dict.is c.requires.closed in
    let o = ordered c.node.ensures c.in-Dict.is c.requires.ordered in
    let f = fits_members _ e c.requires.fits in
    let g = fits_any _ e c.requires.fits in
    (search (rules, b, o, f, g))

pub build-returns-in_ok-build_items-in-List : goal.build-returns-in_ok-build_items-in-List
build-returns-in_ok-build_items-in-List t c = rw (view-Array c.in_ok-build_items-in-List.field-0)
    (_, (held c.node.ensures c.in-List.is).is, c.in_ok-build_items-in-List.ensures)

pub build-returns-in_ok-build_members-in-Dict : goal.build-returns-in_ok-build_members-in-Dict
build-returns-in_ok-build_members-in-Dict t c =
    rw (view-Object c.in_ok-build_members-in-Dict.field-0)
    (_, (held c.node.ensures c.in-Dict.is).is, c.in_ok-build_members-in-Dict.ensures)

pub build_items-build-requires : goal.build_items-build-requires
build_items-build-requires t c = let f = item_fits _ _ c.args.items.now c.loop-item.item-index
    c.loop-item-test.true c.requires.fits in search (rules, f)

pub build_items-loop-item-preserved : goal.build_items-loop-item-preserved
build_items-loop-item-preserved t c = rw c.in_ok-push.ensures.items
    (item_built _ c.args.items.now c.loop-item.item-index _ _ c.loop-item-test.true
    c.loop-item.invariant c.in_ok-value.ensures)

pub build_members-build-requires : goal.build_members-build-requires
build_members-build-requires t c = let f : Fits (heap c.args.nodes.now) c.args.levels
    (get_or c.args.members.now c.loop-key.key-index no_member).1 = member_fits _ _
    c.args.members.now c.loop-key.key-index no_member c.loop-key-test.true c.requires.fits in
    search (rules, f)

pub build_members-loop-key-preserved : goal.build_members-loop-key-preserved
build_members-loop-key-preserved t c = rw c.in_ok-put.ensures.ok
    (member_built _ c.args.members.now c.loop-key.key-index no_member _ _ c.loop-key-test.true
    c.requires.ascending c.loop-key.invariant c.in_ok-member.ensures)
