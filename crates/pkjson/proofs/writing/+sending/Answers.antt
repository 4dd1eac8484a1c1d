-- What an object sends is what its items or members send, enclosed and one level deeper.
use Rattle.std.proofs.Common.{◌≡◌, ◌<◌, get_or, rules}
use Rattle.std.proofs.Math.Logic.{∥∥₁_elim, ∥∥₁_map}
use Rattle.std.proofs.Math.Bridge.{le_prop}
use Rattle.std.proofs.lemmas.List.Elements.{All-get_or}
use Rattle.std.proofs.lemmas.Result.{on_ok_weaker}
use Rattle.serde_json.specs.Find.{of_integer}
use Rattle.serde_json.specs.View.{number_view}
use Rattle.pkjson.specs.Private.Fits.{Fits}
use Rattle.pkjson.specs.Private.Nodes.{heap, size}
use Rattle.pkjson.proofs.Parts.NodesHeld.{held, below, no_member}
use Rattle.pkjson.proofs.Parts.Built.{fits_some, fits_items, fits_any, fits_members, item_fits}
use Rattle.pkjson.proofs.Parts.Built.{member_fits}
use Rattle.pkjson.proofs.Parts.Sent.{array_sent, item_sent, member_sent, no_items_sent}
use Rattle.pkjson.proofs.Parts.Sent.{no_members_sent, object_sent, sends_array, sends_bool}
use Rattle.pkjson.proofs.Parts.Sent.{sends_int, sends_null, sends_object, sends_text}
use Rattle.pkjson.proofs.writing.+sending.Goals as goal

pub send-overflow_sub-levels : goal.send-overflow_sub-levels
send-overflow_sub-levels g t c = ∥∥₁_elim c.requires.fits le_prop
    (fits_some _ (held c.node.ensures c.in-List.is))

pub send-overflow_sub-levels-in-Dict : goal.send-overflow_sub-levels-in-Dict
send-overflow_sub-levels-in-Dict g t c = ∥∥₁_elim c.requires.fits le_prop
    (fits_any _ (held c.node.ensures c.in-Dict.is))

pub send-send_items-requires : goal.send-send_items-requires
send-send_items-requires g t c =
    let e = held c.node.ensures c.in-List.is in
    let b = below c.node.ensures c.in-List.is c.requires.closed in
    let f = ∥∥₁_map c.requires.fits (fits_items _ e) in
    let l = ∥∥₁_elim c.requires.fits le_prop (fits_some _ e) in
    search (rules, b, f, l)

pub send-send_members-requires : goal.send-send_members-requires
send-send_members-requires g t c =
    let e = held c.node.ensures c.in-Dict.is in
    let b = below c.node.ensures c.in-Dict.is c.requires.closed in
    let f = ∥∥₁_map c.requires.fits (fits_members _ e) in
    let l = ∥∥₁_elim c.requires.fits le_prop (fits_any _ e) in
    (search (rules, b, f, l))

pub send-returns-in-Null : goal.send-returns-in-Null
send-returns-in-Null g t c = let e = held c.node.ensures c.in-Null.is in
    on_ok_weaker c.unit.result (λ w. sends_null _ _ e w) c.unit.ensures

pub send-returns-in-Bool : goal.send-returns-in-Bool
send-returns-in-Bool g t c = let e = held c.node.ensures c.in-Bool.is in
    on_ok_weaker c.bool.result (λ w. sends_bool _ _ e w) c.bool.ensures

pub send-returns-in-Int : goal.send-returns-in-Int
send-returns-in-Int g t c = let e = held c.node.ensures c.in-Int.is in
    let is : number_view c.from.result ≡ of_integer c.in-Int.number =
    search (rules, c.from.ensures) in
    on_ok_weaker c.serialize.result (λ w. sends_int _ _ c.in-Int.number _ e is w)
    c.serialize.ensures

pub send-returns-in-Text : goal.send-returns-in-Text
send-returns-in-Text g t c = let e = held c.node.ensures c.in-Text.is in
    on_ok_weaker c.str.result (λ w. sends_text _ _ e w) c.str.ensures

pub send-returns-in-List : goal.send-returns-in-List
send-returns-in-List g t c = let e = held c.node.ensures c.in-List.is in
    on_ok_weaker c.send_items.result (λ w. sends_array _ _ e w) c.send_items.ensures

pub send-returns-in-Dict : goal.send-returns-in-Dict
send-returns-in-Dict g t c = let e = held c.node.ensures c.in-Dict.is in
    on_ok_weaker c.send_members.result (λ w. sends_object _ _ e w) c.send_members.ensures

pub send_items-loop-item-init : goal.send_items-loop-item-init
send_items-loop-item-init g t c = no_items_sent _ _ _

pub send_items-send-requires : goal.send_items-send-requires
send_items-send-requires g t c = let f = ∥∥₁_map c.requires.fits
    (item_fits _ _ c.args.items.now c.loop-item.item-index c.loop-item-test.true) in
    search (rules, f)

pub send_items-loop-item-preserved : goal.send_items-loop-item-preserved
send_items-loop-item-preserved g t c = item_sent _ c.args.items.now c.loop-item.item-index _ _ _
    c.loop-item-test.true c.loop-item.invariant c.in_ok-send.ensures

pub send_items-returns : goal.send_items-returns
send_items-returns g t c =
    on_ok_weaker c.end_seq.result
    (λ e. array_sent _ c.args.items.now c.loop-item.item-index _ _ _ _
    (search (rules, c.loop-item-test.false)) c.in_ok-begin_seq.ensures c.loop-item.invariant e)
    c.end_seq.ensures

pub send_members-loop-key-init : goal.send_members-loop-key-init
send_members-loop-key-init g t c = no_members_sent _ _ _

pub send_members-send-requires : goal.send_members-send-requires
send_members-send-requires g t c =
    let member = get_or c.args.members.now c.loop-key.key-index no_member in
    let p : member.1 < size c.args.nodes.now = All-get_or
    (λ p. p.1 < size c.args.nodes.now) c.args.members.now c.loop-key.key-index no_member
    c.loop-key-test.true c.requires.places in
    let f : ∥ Fits (heap c.args.nodes.now) c.args.levels member.1 ∥₁ = ∥∥₁_map c.requires.fits
    (member_fits _ _ c.args.members.now c.loop-key.key-index no_member c.loop-key-test.true) in
    search (rules, c.requires.closed, p, f)

pub send_members-loop-key-preserved : goal.send_members-loop-key-preserved
send_members-loop-key-preserved g t c = member_sent _ c.args.members.now c.loop-key.key-index
    no_member _ _ _ _ c.loop-key-test.true c.loop-key.invariant c.in_ok-key.ensures
    c.in_ok-send.ensures

pub send_members-returns : goal.send_members-returns
send_members-returns g t c =
    on_ok_weaker c.end_map.result
    (λ e. object_sent _ c.args.members.now c.loop-key.key-index _ _ _ _
    (search (rules, c.loop-key-test.false)) c.in_ok-begin_map.ensures c.loop-key.invariant e)
    c.end_map.ensures
