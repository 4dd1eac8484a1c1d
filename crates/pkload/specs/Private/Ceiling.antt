-- What bounds the cost of loading a pickle from above. It follows neither the whole stack nor the
-- memo, only which objects on top of the stack hold no others.
use Rattle.std.proofs.Common.{◌≡◌, ◌+◌, ◌*◌, ◌%◌, ◌^◌, ◌<◌, ◌≤◌, ℕ, max, min, Bool, false, true}
use Rattle.std.proofs.Common.{List, [], ◌∷◌, ◌++◌, length, leb, ltb, refl, ap, ◌∙◌}
use Rattle.std.specs.Prelude.{if◌then◌else◌, Result, Ok, Err}
use Rattle.pkops.specs.Spelling.{spelling}
use Rattle.pkops.specs.declared.Op.{Op}
use Rattle.pkops.specs.declared.Op.TheVariants as op
use Rattle.pkcheck.specs.Reports.{Report, Skipped, Told, Whole}
use Rattle.pkcheck.specs.declared.check_loop.RefusedPickle.{RefusedPickle}
use Rattle.pkcheck.specs.declared.row_of_pickles.YesAll.{YesAll}
use Rattle.pkload.specs.Heft.{most_depth, most_weight, payload_weight}
use Rattle.pkload.specs.Tally.{Implies}
use Rattle.pkload.specs.declared.ceiling.Ceiling.{Ceiling}
use Rattle.pkload.specs.declared.ceiling.Estimate.{Estimate}
use Rattle.pkload.specs.declared.tally.Tally.{Tally}
use Rattle.pkload.specs.declared.tolls.Tolls.{Tolls}

-- so many objects that are pushed again are counted at most
abbrev pub most_counted : ℕ
most_counted = 1_073_741_824

-- where a pickle begins
abbrev pub lowest : Ceiling
lowest = record {
  tied = 0;
  plain = 0;
  depth = 0;
  flat = 0;
  marked = false;
  again = 0;
  builds = false;
}

-- no object weighs more but tuples, frozensets and answers that may hold others
abbrev pub plain_weight : Ceiling → ℕ
plain_weight c = min most_weight (1 + c.plain)

-- no object weighs more
abbrev pub heaviest : Ceiling → ℕ
heaviest c = max c.tied (plain_weight c)

-- nothing is known about the top of the stack
abbrev pub blind : Ceiling → Ceiling
blind c = record c { flat = 0; marked = false }

-- an object is pushed that holds no others, and weighs one and so much more
abbrev pub pushed : ℕ → Ceiling → Ceiling
pushed more c = record c { plain = max c.plain more; flat = (c.flat + 1) % 2 ^ 64 }

-- one more object is pushed that was counted before
abbrev pub repeated : Ceiling → Ceiling
repeated c = record (blind c) {
  again = if ltb c.again most_counted then 1 + c.again else c.again;
}

-- at most so many objects, none heavier than this, are put into one
abbrev pub held : (count weight : ℕ) → Ceiling → Ceiling
held count weight c =
    record (blind c) { tied = max c.tied (min most_weight (1 + count * weight)) }

-- they are put into a tuple, or an answer. Either all of them are known to hold no others, or they
-- may be the heaviest and the deepest that there are
abbrev pub tied : (is_flat : Bool) (count : ℕ) → Ceiling → Ceiling
tied is_flat count c =
    record (held count (if is_flat then plain_weight c else heaviest c) c) {
      depth = if is_flat then max c.depth 1 else min most_depth (1 + c.depth);
    }

-- after an instruction with this opcode and so many bytes at this offset. Each object that is on
-- the stack was pushed by an instruction of its own, so that there are at most as many as bytes
abbrev pub raised : Op → (size at : ℕ) → Ceiling → Ceiling
-- what leaves the stack as it is, or marks it
raised op.Memoize size at c = c
raised op.BinPut size at c = c
raised op.LongBinPut size at c = c
raised op.Put size at c = c
raised op.Proto size at c = c
raised op.Frame size at c = c
raised op.Mark size at c = record c { flat = 0; marked = true }
-- what pushes an object again
raised op.BinGet size at c = repeated c
raised op.LongBinGet size at c = repeated c
raised op.Get size at c = repeated c
raised op.Dup size at c = repeated c
-- what holds its operands. Those of a frozenset are its keys too
raised op.EmptyTuple size at c = tied true 0 c
raised op.Tuple1 size at c = tied (leb 1 c.flat) 1 c
raised op.Tuple2 size at c = tied (leb 2 c.flat) 2 c
raised op.Tuple3 size at c = tied (leb 3 c.flat) 3 c
raised op.Tuple size at c = tied c.marked (if c.marked then c.flat else at) c
raised op.FrozenSet size at c = repeated (held at (heaviest c) c)
-- what answers something about its operands, which it may hold
raised op.Reduce size at c = tied false 2 c
raised op.NewObj size at c = tied false 2 c
raised op.NewObjEx size at c = tied false 3 c
raised op.Obj size at c = tied false at c
raised op.Inst size at c = tied false at c
raised op.BinPersid size at c = tied false 1 c
raised op.ReadonlyBuffer size at c = tied false 1 c
-- what takes objects away
raised op.Build size at c = record (blind c) { builds = true }
raised op.Append size at c = blind c
raised op.Appends size at c = blind c
raised op.SetItem size at c = blind c
raised op.SetItems size at c = blind c
raised op.AddItems size at c = blind c
raised op.List size at c = blind c
raised op.Dict size at c = blind c
raised op.StackGlobal size at c = blind c
raised op.Pop size at c = blind c
raised op.PopMark size at c = blind c
raised op.Ext1 size at c = blind c
raised op.Ext2 size at c = blind c
raised op.Ext4 size at c = blind c
raised op.Stop size at c = blind c
-- what pushes an object, and takes none
raised o size at c = pushed (payload_weight o size) c

-- opcodes that may make an object heavier or deeper than any before, push one again or give it a
-- state, apart from those with a payload or a memo number
abbrev pub may_exceed : Op → Bool
may_exceed op.Tuple1 = true
may_exceed op.Tuple2 = true
may_exceed op.Tuple3 = true
may_exceed op.Tuple = true
may_exceed op.FrozenSet = true
may_exceed op.Reduce = true
may_exceed op.NewObj = true
may_exceed op.NewObjEx = true
may_exceed op.Obj = true
may_exceed op.Inst = true
may_exceed op.BinPersid = true
may_exceed op.ReadonlyBuffer = true
may_exceed op.Build = true
may_exceed op.Dup = true
may_exceed _ = false

-- after such an instruction at this offset; no other one is followed
abbrev pub exceeded : Op → (at : ℕ) → Ceiling → Ceiling
exceeded o at c = if may_exceed o then raised o 1 at c else c

-- after something is reported. A line or payload has fewer bytes than its instruction
abbrev pub told_raised : Told → ℕ → Ceiling → Ceiling
told_raised (Whole i) at c = raised i.op (length (spelling i)) at c
told_raised (Skipped o count) at c = raised o count at c

-- after these reports
abbrev pub all_raised : List Report → Ceiling → Ceiling
all_raised [] c = c
all_raised (r ∷ rs) c = all_raised rs (told_raised r.told r.at c)

-- between two states of the audience its ceiling was raised by these reports
abbrev pub Follows : Estimate → Estimate → List Report → Type 0
Follows x y rs = y.ceiling ≡ all_raised rs x.ceiling

pub follows_none : (x : Estimate) → Follows x x []
follows_none x = refl

raised_more : (c d e : Ceiling) (rs : List Report) (r : Report) → d ≡ all_raised rs c
    → e ≡ all_raised (r ∷ []) d → e ≡ all_raised (rs ++ r ∷ []) c
raised_more c d e [] r h g = g ∙ ap (all_raised (r ∷ [])) h
raised_more c d e (q ∷ rs) r h g = raised_more (told_raised q.told q.at c) d e rs r h g

pub follows_more : (x y z : Estimate) (rs : List Report) (r : Report) → Follows x y rs
    → Follows y z (r ∷ []) → Follows x z (rs ++ r ∷ [])
follows_more x y z rs r h g = raised_more x.ceiling y.ceiling z.ceiling rs r h g

-- the bytes of the accepted pickle, or of the instructions before the refused one
abbrev pub bytes_of : Result YesAll RefusedPickle → ℕ
bytes_of (Ok accepted) = accepted.taken
bytes_of (Err refused) = refused.no.at

-- the keys of a pickle of so many bytes weigh at most this together. Each object weighs at most as
-- much as the instruction that pushes it has bytes, and is a key once, unless it is pushed again
abbrev pub together : (bytes : ℕ) → Ceiling → ℕ
together bytes c = bytes + c.again * heaviest c

-- the ceiling of a pickle of so many bytes is within the limits, of which memory has none. That
-- few bytes can't take so much memory that its sum wouldn't fit 64 bits
pub record FitsUnder (tolls : Tolls) (bytes : ℕ) (c : Ceiling) : Type 0 where
  pub levels : c.depth ≤ tolls.levels
  pub weight : heaviest c ≤ tolls.weight
  pub counted : c.again < most_counted
  pub work : together bytes c ≤ tolls.work
  pub clash : together bytes c ≤ tolls.clash
  pub builds : Implies c.builds tolls.builds
  pub memory : tolls.memory ≡ 18_446_744_073_709_551_615
  pub few : bytes ≤ 1_099_511_627_776

-- what keys count in a pickle of so many bytes is at most what the ceiling says
pub record IsBelow (c : Ceiling) (bytes : ℕ) (tally : Tally) : Type 0 where
  pub levels : tally.levels ≤ c.depth
  pub weight : tally.weight ≤ heaviest c
  pub work : tally.work ≤ together bytes c
  pub clash : tally.clash ≤ tally.work
  pub builds : c.builds ≡ false → tally.builds ≡ false
