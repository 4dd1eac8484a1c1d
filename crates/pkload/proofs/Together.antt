-- What keys and objects that are pushed again weigh together, below a ceiling.
use Rattle.std.proofs.Common.{◌≡◌, ◌<◌, ◌≤◌, ℕ, suc, ◌+◌, ◌*◌, Bool, true, false, cond, ◌||◌, ltb}
use Rattle.std.proofs.Common.{List, [], ◌∷◌, refl, ap, arith, ltb-false}
use Rattle.std.proofs.Math.Nat.{suc-mul}
use Rattle.std.proofs.lemmas.Nat.{mul-le}
use Rattle.pkops.specs.declared.Op.{Op}
use Rattle.pkops.specs.declared.Op.TheVariants as op
use Rattle.pkmachine.specs.Effects.{Effect, Moves, effect_of}
use Rattle.pkload.proofs.Stock.{doubles, hold_keys}
use Rattle.pkload.proofs.Under.{AreUnder}
use Rattle.pkload.specs.Heft.{Heft, weights_of}
use Rattle.pkload.specs.declared.ceiling.Ceiling.{Ceiling}
use Rattle.pkload.specs.Private.Ceiling.{heaviest, most_counted, raised}
use Rattle.pkload.specs.Tally.{builds_import, with_keys}
use Rattle.pkload.specs.declared.tally.Tally.{Tally}

-- ---- keys

-- what keys add to a tally keeps below the ceiling, and is what they weigh
pub record Adds (c : Ceiling) (more : ℕ) (t u : Tally) : Type 0 where
  pub levels : u.levels ≤ c.depth
  pub weight : u.weight ≤ heaviest c
  pub work : u.work ≡ t.work + more
  pub clash : u.clash ≤ u.work
  pub builds : u.builds ≡ t.builds

-- keys under a ceiling add so
pub keys_add : (c : Ceiling) (t : Tally) (hs : List Heft) → AreUnder c hs → t.levels ≤ c.depth
    → t.weight ≤ heaviest c → t.clash ≤ t.work → Adds c (weights_of hs) t (with_keys t hs)
keys_add c t [] h levels weight clash = record {
  levels = levels;
  weight = weight;
  work = omega arith;
  clash = clash;
  builds = refl;
}
keys_add c t (x ∷ hs) h levels weight clash =
    let rest = keys_add c t hs h.1 levels weight clash in
    record {
      levels = omega (arith, rest.levels, h.0.depth);
      weight = omega (arith, rest.weight, h.0.weight);
      work = omega (arith, rest.work);
      clash = clashes x.salted (with_keys t hs) x.weight rest.clash;
      builds = rest.builds;
    }
  where
    clashes : (q : Bool) (u : Tally) (w : ℕ) → u.clash ≤ u.work
        → cond q u.clash (u.clash + w) ≤ u.work + w
    clashes true u w k = omega (arith, k)
    clashes false u w k = omega (arith, k)

-- no BUILD adds none
no_build : (p q : Bool) → (p ≡ false → q ≡ false) → p ≡ false → (q || false) ≡ false
no_build p true h e = h e
no_build p false h e = refl

-- without BUILD nothing imported is built
pub still_none : (o : Op) (size at : ℕ) (c : Ceiling) (hs : List Heft) (built : Bool)
    → (c.builds ≡ false → built ≡ false) → (raised o size at c).builds ≡ false
    → (built || builds_import o hs) ≡ false
still_none op.Build size at c hs built h e = cc
still_none o size at c hs built h e = no_build c.builds built h e

-- ---- objects that are pushed again

-- an opcode that pushes an object again, or puts keys into a frozenset
abbrev pub repeats : Op → Bool
repeats op.Dup = true
repeats op.Get = true
repeats op.BinGet = true
repeats op.LongBinGet = true
repeats op.FrozenSet = true
repeats _ = false

abbrev pub doubles_by : Effect → Bool
doubles_by (Moves m) = doubles m
doubles_by effect = false

-- what more an instruction pushes than its bytes pay for
pub more_by : (o : Op) (heavy : ℕ)
    → cond (doubles_by (effect_of o)) heavy 0 ≤ cond (repeats o) heavy 0
more_by op.Dup heavy = omega arith
more_by op.Get heavy = omega arith
more_by op.BinGet heavy = omega arith
more_by op.LongBinGet heavy = omega arith
more_by o heavy = omega arith

-- a frozenset is such an opcode
pub keys_held : (o : Op) (weight heavy : ℕ) → weight ≤ heavy
    → cond (hold_keys o) weight 0 ≤ cond (repeats o) heavy 0
keys_held op.FrozenSet weight heavy h = h
keys_held o weight heavy h = omega arith

-- the ceiling counts each of them, up to a number
abbrev counted : Bool → ℕ → ℕ
counted again n = cond again (cond (ltb n most_counted) (1 + n) n) n

pub again_by : (o : Op) (size at : ℕ) (c : Ceiling)
    → (raised o size at c).again ≡ counted (repeats o) c.again
again_by op.Dup size at c = refl
again_by op.Get size at c = refl
again_by op.BinGet size at c = refl
again_by op.LongBinGet size at c = refl
again_by op.FrozenSet size at c = refl
again_by o size at c = refl

-- what weighs so much together still does with one more instruction, which pays for it by its
-- bytes, or pushes an object again
pub still_together : (again : Bool) (few few_now n bytes heavy heavy_now old now : ℕ)
    → few_now ≡ counted again few → few_now < most_counted → heavy ≤ heavy_now
    → (few < most_counted → old ≤ n + few * heavy)
    → now ≤ old + bytes + cond again heavy_now 0
    → now ≤ n + bytes + few_now * heavy_now
still_together false few few_now n bytes heavy heavy_now old now e l rises h g =
    let same : few_now * heavy_now ≡ few * heavy_now = ap (λ k. k * heavy_now) e in
    omega (
      arith,
      h (omega (arith, e, l)),
      g,
      same,
      mul-le few heavy few heavy_now (omega arith) rises,
    )
still_together true few few_now n bytes heavy heavy_now old now e l rises h g =
    either (ltb few most_counted) refl e
  where
    either : (q : Bool) → ltb few most_counted ≡ q → few_now ≡ cond q (1 + few) few
        → now ≤ n + bytes + few_now * heavy_now
    either true k is =
        let one : few_now ≡ suc few = omega (arith, is) in
        let same : few_now * heavy_now ≡ suc few * heavy_now = ap (λ j. j * heavy_now) one in
        omega (
          arith,
          h (omega (arith, is, l)),
          g,
          same,
          suc-mul few heavy_now,
          mul-le few heavy few heavy_now (omega arith) rises,
        )
    either false k is = absurd (omega (arith, is, l, ltb-false few most_counted k))
