-- An operation that replaces the topmost objects with a new one, or with the lowest of them.
use Rattle.std.proofs.Common.{◌≡◌, ℕ, zero, suc, ◌+◌, ◌<◌, ◌≤◌, ◌∙◌, List, [], ◌∷◌, ◌++◌, length}
use Rattle.std.proofs.Common.{Option, Some, None, Ok, false, map, option_map, refl, ap, arith}
use Rattle.std.proofs.Common.{length-append, sym}
use Rattle.pkops.specs.Limits.{Bounds}
use Rattle.pkops.specs.declared.Op.{Op}
use Rattle.pkops.specs.Spelling.{Instruction}
use Rattle.pkmachine.specs.declared.held.Held.{Held}
use Rattle.pkmachine.specs.declared.value.Value.{Value}
use Rattle.pkmachine.specs.Effects.{Effect, Operates, fills, Gives, Leaves, NoName, Objects, Wanted}
use Rattle.pkmachine.specs.Following.{Follower, item_left}
use Rattle.pkmachine.specs.Knowledge.{Known, known_given, wrong_first, wrong_receiver}
use Rattle.pkstack.specs.Places.{ItemsFrom, above, below}
use Rattle.pkmachine.specs.Private.NamelessOperations.{HasOperated, HasReplaced, MakesOf}
use Rattle.pkmachine.specs.Private.NamelessOperations.{Replaces, StaysSeen}
use Rattle.pkmachine.specs.Private.Items.{FollowsEffect, item_of}
use Rattle.pkmachine.specs.Private.Slots.{StandsIf, known, seen}
use Rattle.pkstack.specs.Shape.{Entry, Item, Taken, items, put}
use Rattle.pkmachine.proofs.FollowedItems.{operation_follows}
use Rattle.pkmachine.proofs.ResolvedEntries.{found_is, found_seen, put_seen, put_sees}
use Rattle.pkmachine.proofs.StepParts.Judged.{does_pass, judged_ok}

items_long : {A : Type 0} (count : ℕ) (es : List (Entry A)) (above : List A) (t : Taken A)
    → items count es above ≡ Ok t → length es ≡ count + length t.below
items_long zero es above t e = let is : es ≡ t.below = cc in rw is (omega arith)
items_long (suc count) (Item x ∷ es) above t e =
    let h = items_long count es (x ∷ above) t e in omega (arith, h)
items_long (suc count) _ above t e = cc

put_short : {A : Type 0} (v : Option A) (ks : List A) → length (put v ks) ≤ 1
put_short None (k ∷ ks) = omega arith
put_short _ _ = omega arith

-- an operation that found its operands and can take the first of them
module _ {I D : Type 0} (follows : Follower I D) (op : Op) (count : ℕ) (v : Option (Held I))
    (gives : Gives) (old new : List (Entry (Held I))) (was after : D) (t : Taken (Held I))
    (e : items count old [] ≡ Ok t)
    (is : new ≡ put v t.operands ++ t.below)
    (given : (ts : List (List ℕ)) (i : Instruction) → StandsIf ts v (known_given gives i))
    (right : (ts : List (List ℕ)) → wrong_receiver gives (map (known ts) t.operands) ≡ false)
    (left : (i : Instruction) → i.op ≡ op
    → option_map item_of v ≡ item_left gives (follows.given was i (map item_of t.operands)))
    (behind : (i : Instruction) → i.op ≡ op
    → after ≡ follows.after was i (map item_of t.operands))
    (some : 0 < count) where
  replaces : Replaces (Operates (Objects count) NoName gives) old new
  replaces ts sees p i m listed =
      let found = found_seen ts (Objects count) old sees t e in
      let taken = found_is ts (Objects count) old sees t e in
      let put = put_seen ts v _ (given ts i) t taken in
      does_pass p (Objects count) NoName gives i (record { entries = seen ts old; memo = m }) _ ts
      None found (judged_ok p NoName gives i _ (right ts) None refl)
      (seen ts new) listed listed _ (ap (seen ts) is ∙ put) refl refl

  stays : Instruction → StaysSeen old new
  stays i ts sees =
      let taken = found_is ts (Objects count) old sees t e in
      rw is (put_sees ts v _ (given ts i) t taken)

  follow : FollowsEffect follows op (Operates (Objects count) NoName gives) old was new after
  follow i same memo =
      operation_follows follows (Objects count) NoName gives i memo old new was after t v e
      (left i same) is (behind i same)

  operated : Instruction
      → HasReplaced follows op (Operates (Objects count) NoName gives) old was new after
  operated i = record {
    ok = replaces;
    followed = follow;
    sees = stays i;
    fewer = (let long = items_long count old [] t e in
        let short = put_short v t.operands in
        rw is (omega (arith, long, short, some, length-append (put v t.operands) t.below)));
  }

-- a new object about which this is known, whatever the operands are
pub has_made : {I D : Type 0} (follows : Follower I D) (op : Op) (count : ℕ) (v : Value)
    (gives : Gives) (old new : List (Entry (Held I))) (was after : D)
    → ((ts : List (List ℕ)) (i : Instruction) (item : I)
    → StandsIf ts (Some (record { value = v; item = item })) (known_given gives i))
    → ((item : I) → item_left gives item ≡ Some item)
    → ((ks : List Known) → wrong_receiver gives ks ≡ false) → 0 < count
    → MakesOf follows op count v old was new after → Instruction
    → HasReplaced follows op (Operates (Objects count) NoName gives) old was new after
has_made follows op count v gives old new was after given leaves right some made i =
    operated follows op count (Some (record { value = v; item = made.item })) gives old new was
    after _ made.from.found made.made (λ ts i. given ts i made.item)
    (λ ts. right (map (known ts) (above made.place old)))
    (λ i same. ap Some (made.given i same) ∙ sym (leaves _)) made.after some i

-- the receiver, which doesn't have a wrong class
pub has_filled : {I D : Type 0} (follows : Follower I D) (op : Op) (count place : ℕ)
    (wanted : Wanted) (old new : List (Entry (Held I))) (was after : D) → ItemsFrom count place old
    → ((ts : List (List ℕ)) → wrong_first wanted (map (known ts) (above place old)) ≡ false)
    → ((i : Instruction) → i.op ≡ op → after ≡ follows.after was i (map item_of (above place old)))
    → 0 < count → new ≡ below (place + 1) old → Instruction
    → HasReplaced follows op (fills (Objects count) wanted) old was new after
has_filled follows op count place wanted old new was after from right behind some is i =
    operated follows op count None (Leaves wanted) old new was after _ from.found
    (is ∙ from.first some) (λ ts i. tt) right (λ i same. refl) behind some i

-- the operation whose operands were there answers within the limits
pub has_operated : {A I D : Type 0} {answer : A} {follows : Follower I D} {op : Op} {e : Effect}
    {old new : List (Entry (Held I))} {was after : D} (limits : Bounds) → length old ≤ limits.stack
    → HasReplaced follows op e old was new after
    → HasOperated follows limits op e old was new after (Ok answer)
has_operated limits within made = record {
  ok = made.ok;
  followed = made.followed;
  sees = made.sees;
  room = (let fewer = made.fewer in omega (arith, fewer, within));
  kept = tt;
  err = tt;
}
