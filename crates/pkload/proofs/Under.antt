-- What an instruction makes is under the ceiling behind it.
use Rattle.std.proofs.Common.{◌≡◌, ◌≤◌, ℕ, ◌+◌, ◌*◌, ◌/◌, max, min, Bool, true, false, cond, leb}
use Rattle.std.proofs.Common.{ltb, List, [], ◌∷◌, length, refl, arith}
use Rattle.std.proofs.Math.Nat.{suc-mul}
use Rattle.std.proofs.lemmas.Nat.{mul-le}
use Rattle.pkops.specs.declared.Op.{Op}
use Rattle.pkops.specs.declared.Op.TheVariants as op
use Rattle.pkmachine.specs.Covers.{Pointwise}
use Rattle.pkload.proofs.Few.{most_held}
use Rattle.pkload.proofs.Flat.{AreKnown, AreTied, plain_deepest, plain_weights}
use Rattle.pkload.specs.Heft.{Heft, asks_operands, deepest_of, heft_made, holds_operands}
use Rattle.pkload.specs.Heft.{makes_long, makes_string, most_depth, most_weight, payload_weight}
use Rattle.pkload.specs.Heft.{weights_of}
use Rattle.pkload.specs.declared.ceiling.Ceiling.{Ceiling}
use Rattle.pkload.specs.Private.Ceiling.{heaviest, held, most_counted, plain_weight, pushed}
use Rattle.pkload.specs.Private.Ceiling.{raised, repeated, tied}

-- ---- ceilings rise

-- a depth that can be counted
pub record IsSound (c : Ceiling) : Type 0 where
  pub shallow : c.depth ≤ most_depth

-- the later ceiling is at least as high
pub record Rises (c d : Ceiling) : Type 0 where
  pub weight : heaviest c ≤ heaviest d
  pub depth : c.depth ≤ d.depth
  pub again : c.again ≤ d.again
  pub builds : d.builds ≡ false → c.builds ≡ false
  pub shallow : d.depth ≤ most_depth

-- a ceiling is as high as itself
pub stays : (c : Ceiling) → IsSound c → Rises c c
stays c h = record {
  weight = omega arith;
  depth = omega arith;
  again = omega arith;
  builds = λ e. e;
  shallow = h.shallow;
}

pushed_rises : (more : ℕ) (c : Ceiling) → IsSound c → Rises c (pushed more c)
pushed_rises more c h = record {
  weight = omega arith;
  depth = omega arith;
  again = omega arith;
  builds = λ e. e;
  shallow = h.shallow;
}

-- counting on lowers no number
counts_on : (q : Bool) (n : ℕ) → n ≤ cond q (1 + n) n
counts_on true n = omega arith
counts_on false n = omega arith

repeated_rises : (c : Ceiling) → IsSound c → Rises c (repeated c)
repeated_rises c h = record {
  weight = omega arith;
  depth = omega arith;
  again = counts_on (ltb c.again most_counted) c.again;
  builds = λ e. e;
  shallow = h.shallow;
}

tied_rises : (is_flat : Bool) (count : ℕ) (c : Ceiling) → IsSound c → Rises c (tied is_flat count c)
tied_rises true count c h = record {
  weight = omega arith;
  depth = omega arith;
  again = omega arith;
  builds = λ e. e;
  shallow = omega (arith, h.shallow);
}
tied_rises false count c h = record {
  weight = omega arith;
  depth = omega (arith, h.shallow);
  again = omega arith;
  builds = λ e. e;
  shallow = omega arith;
}

frozen_rises : (at : ℕ) (c : Ceiling) → IsSound c → Rises c (repeated (held at (heaviest c) c))
frozen_rises at c h = record {
  weight = omega arith;
  depth = omega arith;
  again = counts_on (ltb c.again most_counted) c.again;
  builds = λ e. e;
  shallow = h.shallow;
}

build_rises : (c : Ceiling) → IsSound c → Rises c (raised op.Build 1 0 c)
build_rises c h = record {
  weight = omega arith;
  depth = omega arith;
  again = omega arith;
  builds = λ e. cc;
  shallow = h.shallow;
}

-- what only changes what is known of the top is as high
tops_rise : (flat : ℕ) (marked : Bool) (c : Ceiling) → IsSound c
    → Rises c (record c { flat = flat; marked = marked })
tops_rise flat marked c h = record {
  weight = omega arith;
  depth = omega arith;
  again = omega arith;
  builds = λ e. e;
  shallow = h.shallow;
}

-- an instruction lowers no ceiling
pub raised_rises : (o : Op) (size at : ℕ) (c : Ceiling) → IsSound c → Rises c (raised o size at c)
raised_rises op.Memoize size at c h = stays c h
raised_rises op.BinPut size at c h = stays c h
raised_rises op.LongBinPut size at c h = stays c h
raised_rises op.Put size at c h = stays c h
raised_rises op.Proto size at c h = stays c h
raised_rises op.Frame size at c h = stays c h
raised_rises op.Mark size at c h = tops_rise 0 true c h
raised_rises op.BinGet size at c h = repeated_rises c h
raised_rises op.LongBinGet size at c h = repeated_rises c h
raised_rises op.Get size at c h = repeated_rises c h
raised_rises op.Dup size at c h = repeated_rises c h
raised_rises op.EmptyTuple size at c h = tied_rises true 0 c h
raised_rises op.Tuple1 size at c h = tied_rises (leb 1 c.flat) 1 c h
raised_rises op.Tuple2 size at c h = tied_rises (leb 2 c.flat) 2 c h
raised_rises op.Tuple3 size at c h = tied_rises (leb 3 c.flat) 3 c h
raised_rises op.Tuple size at c h = tied_rises c.marked (cond c.marked c.flat at) c h
raised_rises op.FrozenSet size at c h = frozen_rises at c h
raised_rises op.Build size at c h = build_rises c h
raised_rises op.Append size at c h = tops_rise 0 false c h
raised_rises op.Appends size at c h = tops_rise 0 false c h
raised_rises op.SetItem size at c h = tops_rise 0 false c h
raised_rises op.SetItems size at c h = tops_rise 0 false c h
raised_rises op.AddItems size at c h = tops_rise 0 false c h
raised_rises op.List size at c h = tops_rise 0 false c h
raised_rises op.Dict size at c h = tops_rise 0 false c h
raised_rises op.StackGlobal size at c h = tops_rise 0 false c h
raised_rises op.Reduce size at c h = tied_rises false 2 c h
raised_rises op.NewObj size at c h = tied_rises false 2 c h
raised_rises op.NewObjEx size at c h = tied_rises false 3 c h
raised_rises op.Obj size at c h = tied_rises false at c h
raised_rises op.Inst size at c h = tied_rises false at c h
raised_rises op.BinPersid size at c h = tied_rises false 1 c h
raised_rises op.ReadonlyBuffer size at c h = tied_rises false 1 c h
raised_rises op.Pop size at c h = tops_rise 0 false c h
raised_rises op.PopMark size at c h = tops_rise 0 false c h
raised_rises op.Ext1 size at c h = tops_rise 0 false c h
raised_rises op.Ext2 size at c h = tops_rise 0 false c h
raised_rises op.Ext4 size at c h = tops_rise 0 false c h
raised_rises op.Stop size at c h = tops_rise 0 false c h
raised_rises o size at c h = pushed_rises (payload_weight o size) c h

-- ---- objects under a ceiling

-- the object weighs at most this, and is at most this deep; the other object says nothing
pub record IsUnder (c : Ceiling) (h g : Heft) : Type 0 where
  pub weight : h.weight ≤ heaviest c
  pub depth : h.depth ≤ c.depth

abbrev pub AreUnder : Ceiling → List Heft → Type 0
AreUnder c hs = Pointwise (IsUnder c) hs hs

-- what is under a ceiling is under each higher one
pub under_higher : (c d : Ceiling) (h g : Heft) → Rises c d → IsUnder c h g → IsUnder d h g
under_higher c d h g r u =
    record { weight = omega (arith, r.weight, u.weight); depth = omega (arith, r.depth, u.depth) }

-- together they weigh at most their number times the ceiling
weights_under : (c : Ceiling) (hs : List Heft) → AreUnder c hs
    → weights_of hs ≤ length hs * heaviest c
weights_under c [] h = omega arith
weights_under c (x ∷ hs) h =
    omega (arith, h.0.weight, weights_under c hs h.1, suc-mul (length hs) (heaviest c))

-- the deepest of them is under the ceiling
deepest_under : (c : Ceiling) (hs : List Heft) → AreUnder c hs → deepest_of hs ≤ c.depth
deepest_under c [] h = omega arith
deepest_under c (x ∷ hs) h = omega (arith, h.0.depth, deepest_under c hs h.1)

-- at most so many objects weigh at most so much together
count_under : (c : Ceiling) (hs : List Heft) (count : ℕ) → AreUnder c hs → length hs ≤ count
    → weights_of hs ≤ count * heaviest c
count_under c hs count h few =
    let all = weights_under c hs h in
    let more = mul-le (length hs) (heaviest c) count (heaviest c) few (omega arith) in
    omega (arith, all, more)

-- a tuple or an answer is under the ceiling of one with at least as many items
tuple_under : (o : Op) (small count : ℕ) (is_flat : Bool) (hs : List Heft) (c : Ceiling) (g : Heft)
    → payload_weight o small ≡ 0 → AreUnder c hs → (is_flat ≡ false → length hs ≤ count)
    → AreKnown is_flat count (plain_weight c) hs
    → IsUnder (tied is_flat count c) (heft_made o small hs) g
tuple_under o small count true hs c g none h few known = record {
  weight = weight (holds_operands o) (payload_weight o small) none;
  depth = depth (asks_operands o);
}
  where
    all : weights_of hs ≤ count * plain_weight c
    all =
        let more = mul-le (length hs) (plain_weight c) count (plain_weight c) known.0 (omega arith)
        in omega (arith, plain_weights (plain_weight c) hs known.1, more)

    weight : (q : Bool) (p : ℕ) → p ≡ 0
        → min most_weight (1 + (p + cond q (weights_of hs) 0)) ≤ heaviest (tied true count c)
    weight true p e = omega (arith, all)
    weight false p e = omega arith

    depth : (q : Bool) → cond q (min most_depth (1 + deepest_of hs)) 0 ≤ (tied true count c).depth
    depth true = omega (arith, plain_deepest (plain_weight c) hs known.1)
    depth false = omega arith
tuple_under o small count false hs c g none h few known = record {
  weight = weight (holds_operands o) (payload_weight o small) none;
  depth = depth (asks_operands o);
}
  where
    weight : (q : Bool) (p : ℕ) → p ≡ 0
        → min most_weight (1 + (p + cond q (weights_of hs) 0)) ≤ heaviest (tied false count c)
    weight true p e = omega (arith, count_under c hs count h (few refl))
    weight false p e = omega arith

    depth : (q : Bool) → cond q (min most_depth (1 + deepest_of hs)) 0 ≤ (tied false count c).depth
    depth true = omega (arith, deepest_under c hs h)
    depth false = omega arith

-- the number of items is known where they lie above a mark that is known
few_by : (marked : Bool) (flat at size : ℕ) → size ≤ at → marked ≡ false
    → size ≤ cond marked flat at
few_by false flat at size h e = h
few_by true flat at size h e = cc

known_by : (marked : Bool) (flat at weight : ℕ) (hs : List Heft) → AreKnown marked flat weight hs
    → AreKnown marked (cond marked flat at) weight hs
known_by true flat at weight hs h = h
known_by false flat at weight hs h = tt

-- an object that holds no operands is under the ceiling of its payload
pushed_under : (o : Op) (small size : ℕ) (hs : List Heft) (c : Ceiling) (g : Heft)
    → holds_operands o ≡ false → asks_operands o ≡ false → small ≤ size
    → IsUnder (pushed (payload_weight o size) c) (heft_made o small hs) g
pushed_under o small size hs c g holds ties less = record {
  weight = weight (makes_long o) (makes_string o) (holds_operands o) holds;
  depth = depth (asks_operands o) ties;
}
  where
    -- the weight of a payload of an int, of a text, or of neither
    paid : Bool → Bool → ℕ → ℕ
    paid long string n = cond long (n / 8) (cond string (n / 64) 0)

    weight : (long string held : Bool) → held ≡ false
        → min most_weight (1 + (paid long string small + cond held (weights_of hs) 0))
        ≤ max c.tied (min most_weight (1 + max c.plain (paid long string size)))
    weight true string false e = omega (arith, less)
    weight false true false e = omega (arith, less)
    weight false false false e = omega arith
    weight long string true e = cc

    depth : (ties : Bool) → ties ≡ false
        → cond ties (min most_depth (1 + deepest_of hs)) 0 ≤ c.depth
    depth false e = omega arith
    depth true e = cc

-- what an instruction makes is under the ceiling behind it
pub object_under : (o : Op) (small size at : ℕ) (hs : List Heft) (c : Ceiling) (g : Heft)
    → small ≤ size → AreUnder c hs → length hs ≤ most_held o at → AreTied o c hs
    → IsUnder (raised o size at c) (heft_made o small hs) g
object_under op.EmptyTuple small size at hs c g less h few known =
    tuple_under op.EmptyTuple small 0 true hs c g refl h (λ e. few) known
object_under op.Tuple1 small size at hs c g less h few known =
    tuple_under op.Tuple1 small 1 (leb 1 c.flat) hs c g refl h (λ e. few) known
object_under op.Tuple2 small size at hs c g less h few known =
    tuple_under op.Tuple2 small 2 (leb 2 c.flat) hs c g refl h (λ e. few) known
object_under op.Tuple3 small size at hs c g less h few known =
    tuple_under op.Tuple3 small 3 (leb 3 c.flat) hs c g refl h (λ e. few) known
object_under op.Tuple small size at hs c g less h few known =
    tuple_under op.Tuple small (cond c.marked c.flat at) c.marked hs c g refl h
    (few_by c.marked c.flat at (length hs) few)
    (known_by c.marked c.flat at (plain_weight c) hs known)
object_under op.FrozenSet small size at hs c g less h few known =
    record { weight = omega (arith, count_under c hs at h few); depth = omega arith }
object_under op.Memoize small size at hs c g less h few known =
    record { weight = omega arith; depth = omega arith }
object_under op.BinPut small size at hs c g less h few known =
    record { weight = omega arith; depth = omega arith }
object_under op.LongBinPut small size at hs c g less h few known =
    record { weight = omega arith; depth = omega arith }
object_under op.Put small size at hs c g less h few known =
    record { weight = omega arith; depth = omega arith }
object_under op.Proto small size at hs c g less h few known =
    record { weight = omega arith; depth = omega arith }
object_under op.Frame small size at hs c g less h few known =
    record { weight = omega arith; depth = omega arith }
object_under op.Mark small size at hs c g less h few known =
    record { weight = omega arith; depth = omega arith }
object_under op.BinGet small size at hs c g less h few known =
    record { weight = omega arith; depth = omega arith }
object_under op.LongBinGet small size at hs c g less h few known =
    record { weight = omega arith; depth = omega arith }
object_under op.Get small size at hs c g less h few known =
    record { weight = omega arith; depth = omega arith }
object_under op.Dup small size at hs c g less h few known =
    record { weight = omega arith; depth = omega arith }
object_under op.Build small size at hs c g less h few known =
    record { weight = omega arith; depth = omega arith }
object_under op.Append small size at hs c g less h few known =
    record { weight = omega arith; depth = omega arith }
object_under op.Appends small size at hs c g less h few known =
    record { weight = omega arith; depth = omega arith }
object_under op.SetItem small size at hs c g less h few known =
    record { weight = omega arith; depth = omega arith }
object_under op.SetItems small size at hs c g less h few known =
    record { weight = omega arith; depth = omega arith }
object_under op.AddItems small size at hs c g less h few known =
    record { weight = omega arith; depth = omega arith }
object_under op.List small size at hs c g less h few known =
    record { weight = omega arith; depth = omega arith }
object_under op.Dict small size at hs c g less h few known =
    record { weight = omega arith; depth = omega arith }
object_under op.StackGlobal small size at hs c g less h few known =
    record { weight = omega arith; depth = omega arith }
object_under op.Reduce small size at hs c g less h few known =
    tuple_under op.Reduce small 2 false hs c g refl h (λ e. few) known
object_under op.NewObj small size at hs c g less h few known =
    tuple_under op.NewObj small 2 false hs c g refl h (λ e. few) known
object_under op.NewObjEx small size at hs c g less h few known =
    tuple_under op.NewObjEx small 3 false hs c g refl h (λ e. few) known
object_under op.Obj small size at hs c g less h few known =
    tuple_under op.Obj small at false hs c g refl h (λ e. few) known
object_under op.Inst small size at hs c g less h few known =
    tuple_under op.Inst small at false hs c g refl h (λ e. few) known
object_under op.BinPersid small size at hs c g less h few known =
    tuple_under op.BinPersid small 1 false hs c g refl h (λ e. few) known
object_under op.ReadonlyBuffer small size at hs c g less h few known =
    tuple_under op.ReadonlyBuffer small 1 false hs c g refl h (λ e. few) known
object_under op.Pop small size at hs c g less h few known =
    record { weight = omega arith; depth = omega arith }
object_under op.PopMark small size at hs c g less h few known =
    record { weight = omega arith; depth = omega arith }
object_under op.Ext1 small size at hs c g less h few known =
    record { weight = omega arith; depth = omega arith }
object_under op.Ext2 small size at hs c g less h few known =
    record { weight = omega arith; depth = omega arith }
object_under op.Ext4 small size at hs c g less h few known =
    record { weight = omega arith; depth = omega arith }
object_under op.Stop small size at hs c g less h few known =
    record { weight = omega arith; depth = omega arith }
object_under o small size at hs c g less h few known =
    pushed_under o small size hs c g refl refl less
