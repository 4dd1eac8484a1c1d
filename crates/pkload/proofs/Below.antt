-- What keys count in a pickle is below the ceiling behind its reports.
use Rattle.std.proofs.Common.{◌≡◌, ◌<◌, ◌≤◌, ℕ, suc, ◌+◌, ◌^◌, Bool, true, false, cond}
use Rattle.std.proofs.Common.{List, [], ◌∷◌, ◌++◌, length, Option, None, Result, Ok, Err}
use Rattle.std.proofs.Common.{IfOk, refl, sym, ap, subst, ◌∙◌, arith, length-append}
use Rattle.std.proofs.lemmas.Grind.{flat_map-append}
use Rattle.pkops.specs.Operands.{memo_number}
use Rattle.pkops.specs.Payloads.{is_passed}
use Rattle.pkops.specs.Spelling.{Instruction, spelling}
use Rattle.pkops.specs.declared.Op.{Op}
use Rattle.pkops.specs.declared.Op.TheVariants as op
use Rattle.pkread.specs.Sequence.{spellings}
use Rattle.pkmachine.specs.AlikeLaws.{Alike-map, AlikeTaken, AlikeTop, Pointwise-append, SameResult}
use Rattle.pkmachine.specs.AlikeLaws.{front_alike, moved_alike, operands_alike, top_alike}
use Rattle.pkmachine.specs.Covers.{Alike, AlikeEntry}
use Rattle.pkmachine.specs.Effects.{Effect, Operates, Moves, Stops, Raises, effect_of}
use Rattle.pkmachine.specs.RowRuns.{Beginning}
use Rattle.pkmachine.specs.declared.effect.Gives.{Gives}
use Rattle.pkmachine.specs.declared.effect.Gives.TheVariants.{Leaves}
use Rattle.pkmachine.specs.declared.old_strings.OldStrings.{OldStrings}
use Rattle.pkcheck.specs.Reports.{AreReportsBehind, Report, Skipped, Whole, told_of}
use Rattle.pkstack.specs.Shape.{Breach, NoItem, Entry, Mark, Item, Shape, Taken, front, moved}
use Rattle.pkstack.specs.Shape.{operands, put, top}
use Rattle.pkstack.specs.declared.Move.{Move}
use Rattle.pkload.proofs.Few.{AddsOne, AreFew, held_few, most_held, most_of, most_taken}
use Rattle.pkload.proofs.Few.{moved_few, ok_then, operands_few, put_few, top_few}
use Rattle.pkload.proofs.Flat.{AreTied, operands_tied, taken_by}
use Rattle.pkload.proofs.Lighter.{keys_alike}
use Rattle.pkload.proofs.Linear.{spelled_long}
use Rattle.pkload.proofs.Stock.{Grows, Weighs, all_left, doubles, hold_keys, moved_weigh}
use Rattle.pkload.proofs.Stock.{operands_weigh, weight_left, weights_append, weights_on}
use Rattle.pkload.proofs.Together.{again_by, doubles_by, keys_add, keys_held, more_by}
use Rattle.pkload.proofs.Together.{repeats, still_none, still_together}
use Rattle.pkload.proofs.Tops.{IsSeen, seen_behind}
use Rattle.pkload.proofs.Under.{IsSound, IsUnder, Rises, object_under, raised_rises}
use Rattle.pkload.proofs.Under.{under_higher}
use Rattle.pkload.specs.Bill.{Bill, all_billed, billed, billed_by, heft_given, move_billed, no_bill}
use Rattle.pkload.specs.Bill.{operation_billed, stop_billed}
use Rattle.pkload.specs.Heft.{Heft, argument_size, heft_of, weights_of}
use Rattle.pkload.specs.Keys.{keys_of}
use Rattle.pkload.specs.Memory.{number_kept}
use Rattle.pkload.specs.declared.ceiling.Ceiling.{Ceiling}
use Rattle.pkload.specs.Private.Ceiling.{IsBelow, all_raised, heaviest, lowest, most_counted}
use Rattle.pkload.specs.Private.Ceiling.{raised, together, told_raised}
use Rattle.pkload.specs.Tally.{with_keys}

-- ---- bills below a ceiling

-- behind so many bytes, each object is under the ceiling, and so is what was counted. All objects
-- on the stack and all keys together weigh what the ceiling says
record IsBounded (c : Ceiling) (bytes : ℕ) (b : Bill) : Type 0 where
  pub sound : IsSound c
  pub shape : Alike (IsUnder c) b.shape b.shape
  pub levels : b.tally.levels ≤ c.depth
  pub weight : b.tally.weight ≤ heaviest c
  pub clash : b.tally.clash ≤ b.tally.work
  pub builds : c.builds ≡ false → b.tally.builds ≡ false
  pub stock : c.again < most_counted
      → b.tally.work + weights_on b.shape.entries ≤ together bytes c
  pub room : length b.shape.entries ≤ bytes

module _ (i : Instruction) (size at n : ℕ) (c : Ceiling) (b : Bill)
    (less : argument_size i.arg ≤ size) (here : n ≤ at) (short : n < 2 ^ 63)
    (h : IsBounded c n b) where
  -- the ceiling behind the instruction, and the bytes
  abbrev next : Ceiling
  next = raised i.op size at c

  abbrev after : ℕ
  after = n + length (spelling i)

  rises : Rises c next
  rises = raised_rises i.op size at c h.sound

  -- what is under the ceiling is under the next one
  higher : (a : Shape Heft) → Alike (IsUnder c) a a → Alike (IsUnder next) a a
  higher a u = Alike-map (IsUnder c) (IsUnder next) (λ x y. under_higher c next x y rises) a a u

  -- the instruction has a byte at least
  some : 1 ≤ length (spelling i)
  some = omega (arith, spelled_long i)

  -- all together weigh what the next ceiling says
  stocked : (work : ℕ) (es : List (Entry Heft))
      → work + weights_on es
      ≤ b.tally.work + weights_on b.shape.entries + length (spelling i)
      + cond (repeats i.op) (heaviest next) 0
      → next.again < most_counted → work + weights_on es ≤ together after next
  stocked work es g l = still_together (repeats i.op) c.again next.again n (length (spelling i))
      (heaviest c) (heaviest next) (b.tally.work + weights_on b.shape.entries)
      (work + weights_on es) (again_by i.op size at c) l rises.weight h.stock g

  -- an instruction that counts nothing, and adds at most one entry, keeps the bill below
  same_tally : (e : Bill) → e.tally ≡ b.tally → Alike (IsUnder c) e.shape e.shape
      → weights_on e.shape.entries
      ≤ weights_on b.shape.entries + cond (repeats i.op) (heaviest next) 0
      → length e.shape.entries ≤ suc (length b.shape.entries) → IsBounded next after e
  same_tally e q u w l = record {
    sound = record { shallow = rises.shallow };
    shape = higher e.shape u;
    levels = omega (arith, ap (λ t. t.levels) q, h.levels, rises.depth);
    weight = omega (arith, ap (λ t. t.weight) q, h.weight, rises.weight);
    clash = omega (arith, ap (λ t. t.clash) q, ap (λ t. t.work) q, h.clash);
    builds = λ f. ap (λ t. t.builds) q ∙ h.builds (rises.builds f);
    stock = stocked e.tally.work e.shape.entries (omega (arith, ap (λ t. t.work) q, w));
    room = omega (arith, h.room, l, some);
  }

  -- doubling an object of this weight is paid for at the next ceiling
  doubled : (again : Bool) (old now extra : ℕ) → now ≤ old + extra
      → extra ≤ cond again (heaviest c) 0 → now ≤ old + cond again (heaviest next) 0
  doubled true old now extra g k = omega (arith, g, k, rises.weight)
  doubled false old now extra g k = omega (arith, g, k)

  move_bounded : (m : Move) (k : ℕ) (x : Result (Shape Heft) Breach)
      → cond (doubles m) (heaviest c) 0 ≤ cond (repeats i.op) (heaviest c) 0
      → SameResult (Alike (IsUnder c)) x x
      → IfOk x (AddsOne b.shape) → Grows c m b.shape x
      → IfOk (move_billed m k b x) (IsBounded next after)
  move_bounded m k (Ok s) d u l w =
      same_tally _ refl u (doubled (repeats i.op) _ _ _ w d) l.entries
  move_bounded m k (Err e) d u l w = tt

  stop_bounded : (x : Result (Heft × List (Entry Heft)) Breach)
      → SameResult (AlikeTop (IsUnder c)) x x
      → IfOk x (λ t. length t.1 ≤ length b.shape.entries)
      → IfOk x (λ t. weights_on t.1 ≤ weights_on b.shape.entries)
      → IfOk (stop_billed b x) (IsBounded next after)
  stop_bounded (Ok t) u l w = same_tally _ refl
      (record { entries = u.below; memo = h.shape.memo }) (omega (arith, w)) (omega (arith, l))
  stop_bounded (Err e) u l w = tt

  module _ (t : Taken Heft) (a : AlikeTaken (IsUnder c) t t)
      (few : AreFew (most_held i.op at) (length b.shape.entries) t)
      (tied : AreTied i.op c t.operands) (weighs : Weighs (weights_on b.shape.entries) t) where
    -- the stack with what an operation leaves
    abbrev left : Option Heft → Shape Heft
    left o = record { entries = put o t.operands ++ t.below; memo = b.shape.memo }

    -- the new object is under the next ceiling
    made_under : IsUnder next (heft_of i t.operands) (heft_of i t.operands)
    made_under = object_under i.op (argument_size i.arg) size at t.operands c
        (heft_of i t.operands) less a.operands few.operands tied

    -- the stack is under the next ceiling
    left_under : (gives : Gives)
        → Alike (IsUnder next) (left (heft_given gives i t.operands))
        (left (heft_given gives i t.operands))
    left_under (Leaves wanted) = higher (left None)
        (record {
          entries = Pointwise-append (AlikeEntry (IsUnder c)) (front t.operands)
              (front t.operands) t.below t.below
              (front_alike (IsUnder c) t.operands t.operands a.operands) a.below;
          memo = h.shape.memo;
        })
    left_under gives =
        let old = higher (record { entries = t.below; memo = b.shape.memo })
        (record { entries = a.below; memo = h.shape.memo }) in
        record { entries = (made_under, old.entries); memo = old.memo }

    -- the bill after an operation is below the next ceiling
    taken_bounded : (gives : Gives)
        → weights_on (put (heft_given gives i t.operands) t.operands)
        + weights_of (keys_of i.op t.operands)
        ≤ weights_of t.operands + length (spelling i)
        + cond (hold_keys i.op) (heft_of i t.operands).weight 0
        → IfOk (operation_billed gives i b (Ok t)) (IsBounded next after)
    taken_bounded gives pays =
        let keys = keys_of i.op t.operands in
        let added = keys_add c b.tally keys (keys_alike (IsUnder c) i.op t.operands t.operands
        a.operands) h.levels h.weight h.clash in
        record {
          sound = record { shallow = rises.shallow };
          shape = left_under gives;
          levels = omega (arith, added.levels, rises.depth);
          weight = omega (arith, added.weight, rises.weight);
          clash = added.clash;
          builds = still_none i.op size at c t.operands (with_keys b.tally keys).builds
              (λ f. added.builds ∙ h.builds f);
          stock = stocked (with_keys b.tally keys).work
              (put (heft_given gives i t.operands) t.operands ++ t.below) (omega (
                arith,
                added.work,
                pays,
                weighs,
                weights_append (put (heft_given gives i t.operands) t.operands) t.below,
                keys_held i.op (heft_of i t.operands).weight (heaviest next) made_under.weight,
              ));
          room = omega (
            arith,
            h.room,
            some,
            few.together,
            put_few (heft_given gives i t.operands) t.operands,
            length-append (put (heft_given gives i t.operands) t.operands) t.below,
          );
        }

  operation_bounded : (gives : Gives) (x : Result (Taken Heft) Breach)
      → SameResult (AlikeTaken (IsUnder c)) x x
      → IfOk x (AreFew (most_held i.op at) (length b.shape.entries))
      → IfOk x (λ t. AreTied i.op c t.operands)
      → IfOk x (Weighs (weights_on b.shape.entries))
      → ((xs : List Heft) → weights_on (put (heft_given gives i xs) xs)
      + weights_of (keys_of i.op xs)
      ≤ weights_of xs + length (spelling i) + cond (hold_keys i.op) (heft_of i xs).weight 0)
      → IfOk (operation_billed gives i b x) (IsBounded next after)
  operation_bounded gives (Ok t) a few tied weighs pays =
      taken_bounded t a few tied weighs gives (pays t.operands)
  operation_bounded gives (Err e) a few tied weighs pays = tt

  -- what is few enough is few enough for a higher bound
  few_enough : (most : ℕ) (x : Result (Taken Heft) Breach)
      → most ≤ most_held i.op at → IfOk x (AreFew most (length b.shape.entries))
      → IfOk x (AreFew (most_held i.op at) (length b.shape.entries))
  few_enough most (Ok t) l w =
      record { operands = omega (arith, l, w.operands); together = w.together }
  few_enough most (Err e) l w = tt

  -- what is known of an instruction with this effect
  record IsPaid (e : Effect) : Type 0 where
    few : most_of e (length b.shape.entries) ≤ most_held i.op at
    tied : IfOk (taken_by e b.shape.entries) (λ t. AreTied i.op c t.operands)
    pays : (xs : List Heft) → weight_left e i xs + weights_of (keys_of i.op xs)
        ≤ weights_of xs + length (spelling i) + cond (hold_keys i.op) (heft_of i xs).weight 0
    more : cond (doubles_by e) (heaviest c) 0 ≤ cond (repeats i.op) (heaviest c) 0

  top_lighter : (es : List (Entry Heft)) → IfOk (top es) (λ t. weights_on t.1 ≤ weights_on es)
  top_lighter [] = tt
  top_lighter (Mark ∷ es) = tt
  top_lighter (Item x ∷ es) = omega arith

  effect_bounded : (e : Effect) → IsPaid e → IfOk (billed_by e i b) (IsBounded next after)
  effect_bounded (Operates takes names gives) p =
      operation_bounded gives (operands takes b.shape.entries)
      (operands_alike (IsUnder c) takes b.shape.entries b.shape.entries h.shape.entries)
      (few_enough (most_taken takes (length b.shape.entries)) (operands takes b.shape.entries)
      p.few (operands_few takes b.shape.entries)) p.tied (operands_weigh takes b.shape.entries)
      p.pays
  effect_bounded (Moves m) p =
      let alike = moved_alike (IsUnder c) m (memo_number i) b.shape b.shape h.shape in
      move_bounded m (number_kept m (memo_number i) (length b.shape.memo))
      (moved m (memo_number i) b.shape)
      p.more alike (moved_few m (memo_number i) b.shape)
      (moved_weigh c m (memo_number i) b.shape h.shape alike)
  effect_bounded Stops p =
      stop_bounded (top b.shape.entries)
      (top_alike (IsUnder c) b.shape.entries b.shape.entries h.shape.entries)
      (top_few b.shape.entries) (top_lighter b.shape.entries)
  effect_bounded Raises p = same_tally b refl h.shape (omega arith) (omega arith)

  -- more entries may hold more operands
  held_more : (o : Op) (m k : ℕ) → m ≤ k → most_held o m ≤ most_held o k
  held_more op.EmptyTuple m k l = omega arith
  held_more op.Tuple1 m k l = omega arith
  held_more op.Tuple2 m k l = omega arith
  held_more op.Tuple3 m k l = omega arith
  held_more op.Reduce m k l = omega arith
  held_more op.NewObj m k l = omega arith
  held_more op.NewObjEx m k l = omega arith
  held_more op.BinPersid m k l = omega arith
  held_more op.ReadonlyBuffer m k l = omega arith
  held_more o m k l = l

  -- one more instruction keeps the bill below
  one_bounded : IsSeen c b → IfOk (billed i b) (λ e. IsBounded next after e × IsSeen next e)
  one_bounded seen = unless_ended b.ended (billed_by (effect_of i.op) i b)
      (both (billed_by (effect_of i.op) i b)
      (effect_bounded (effect_of i.op)
      (record {
        few = omega (
          arith,
          held_few i.op (length b.shape.entries),
          held_more i.op (length b.shape.entries) at (omega (arith, h.room, here)),
        );
        tied = operands_tied i.op c b.shape.entries seen;
        pays = all_left i;
        more = more_by i.op (heaviest c);
      })) (seen_behind i size at c b less (omega (arith, h.room, short)) seen))
    where
      both : (x : Result Bill Breach) → IfOk x (IsBounded next after) → IfOk x (IsSeen next)
          → IfOk x (λ e. IsBounded next after e × IsSeen next e)
      both (Ok e) p q = (p, q)
      both (Err r) p q = tt

      unless_ended : (q : Bool) (x : Result Bill Breach)
          → IfOk x (λ e. IsBounded next after e × IsSeen next e)
          → IfOk (cond q (Err NoItem) x) (λ e. IsBounded next after e × IsSeen next e)
      unless_ended true x g = tt
      unless_ended false x g = g

-- ---- whole pickles

-- behind so many bytes, the bill is below the ceiling, and what it knows of the top is true
abbrev IsFollowed : Ceiling → ℕ → Bill → Type 0
IsFollowed c bytes b = IsBounded c bytes b × IsSeen c b

module _ (setting : OldStrings) (beginning : Beginning) where
  abbrev AreReports : List Instruction → List Instruction → List Report → Type 0
  AreReports = AreReportsBehind false setting beginning 0

  -- what is told of an instruction bounds it, whole or skipped
  told_bounded : (i : Instruction) (r : Report) (n : ℕ) (c : Ceiling) (b : Bill)
      → r.told ≡ told_of false i → n ≤ r.at → n < 2 ^ 63 → IsFollowed c n b
      → IfOk (billed i b) (IsFollowed (told_raised r.told r.at c) (n + length (spelling i)))
  told_bounded i r n c b same here short h = subst
      (λ t. IfOk (billed i b) (IsFollowed (told_raised t r.at c) (n + length (spelling i))))
      (sym same) (either (is_passed i.op))
    where
      either : (q : Bool)
          → IfOk (billed i b) (IsFollowed (told_raised
          (cond q (Skipped i.op (length (spelling i))) (Whole i)) r.at c)
          (n + length (spelling i)))
      either true = one_bounded i (length (spelling i)) r.at n c b
          (omega (arith, spelled_long i)) here short h.0 h.1
      either false = one_bounded i (length (spelling i)) r.at n c b
          (omega (arith, spelled_long i)) here short h.0 h.1

  -- one more instruction adds its own bytes
  spelled_behind : (before : List Instruction) (i : Instruction)
      → length (spellings (before ++ i ∷ []))
      ≡ length (spellings before) + length (spelling i)
  spelled_behind before i = omega (
    arith,
    ap length (flat_map-append spelling before (i ∷ [])),
    length-append (spellings before) (spellings (i ∷ [])),
    length-append (spelling i) [],
  )

  -- all instructions keep the bill below
  all_bounded : (before is : List Instruction) (rs : List Report) (c : Ceiling) (b : Bill)
      → AreReports before is rs → length (spellings before) + length (spellings is) < 2 ^ 63
      → IsFollowed c (length (spellings before)) b
      → IfOk (all_billed is b)
      (IsFollowed (all_raised rs c) (length (spellings before) + length (spellings is)))
  all_bounded before [] [] c b h short g =
      subst (λ n. IsFollowed c n b) (omega arith) g
  all_bounded before [] (r ∷ rs) c b h short g = absurd h
  all_bounded before (i ∷ is) [] c b h short g = absurd h
  all_bounded before (i ∷ is) (r ∷ rs) c b h short g =
      let d = told_raised r.told r.at c in
      let n = length (spellings before) in
      let m = length (spellings (before ++ i ∷ [])) in
      let all = n + length (spellings (i ∷ is)) in
      let spelled : n + length (spelling i) ≡ m = sym (spelled_behind before i) in
      let whole : m + length (spellings is) ≡ all =
      omega (arith, spelled, length-append (spelling i) (spellings is)) in
      ok_then (IsFollowed d (n + length (spelling i))) (IsFollowed (all_raised rs d) all)
      (billed i b) _
      (told_bounded i r n c b h.0.same (omega (arith, h.0.place)) (omega (arith, short)) g)
      (λ e k. subst (λ w. IfOk (all_billed is e) (IsFollowed (all_raised rs d) w)) whole
      (all_bounded (before ++ i ∷ []) is rs d e h.1 (omega (arith, short, whole))
      (subst (λ w. IsFollowed d w e) spelled k)))

-- the bill at the start is below
started : IsFollowed lowest 0 no_bill
started = (
  record {
    sound = record { shallow = omega arith };
    shape = record { entries = tt; memo = tt };
    levels = omega arith;
    weight = omega arith;
    clash = omega arith;
    builds = λ e. refl;
    stock = λ l. omega arith;
    room = omega arith;
  },
  tt,
)

-- what keys count in a pickle is below the ceiling behind its reports
pub is_below : (setting : OldStrings) (beginning : Beginning) (is : List Instruction)
    (rs : List Report) (bill : Bill)
    → AreReportsBehind false setting beginning 0 [] is rs
    → length (spellings is) < 2 ^ 63 → (all_raised rs lowest).again < most_counted
    → all_billed is no_bill ≡ Ok bill
    → IsBelow (all_raised rs lowest) (length (spellings is)) bill.tally
is_below setting beginning is rs bill told short few e =
    let c = all_raised rs lowest in
    let w : IsFollowed c (0 + length (spellings is)) bill =
    subst (λ x. IfOk x (IsFollowed c (0 + length (spellings is)))) e
    (all_bounded setting beginning [] is rs lowest no_bill told (omega (arith, short)) started) in
    record {
      levels = w.0.levels;
      weight = w.0.weight;
      work = omega (arith, w.0.stock few);
      clash = w.0.clash;
      builds = w.0.builds;
    }
