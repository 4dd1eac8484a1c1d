-- Numbers below the row are few, so the counts of the three parts add up in 64 bits.
use Rattle.std.proofs.Common.{◌≡◌, ◌+◌, ◌^◌, arith, length}
use Rattle.std.proofs.lemmas.Map.Entries.{length-keys_of}
use Rattle.std.proofs.lemmas.Map.Views.{length-le_from_below}
use Rattle.std.specs.Map.{keys_of}
use Rattle.pkbase.proofs.Entries.{entries, length-entries, rising}
use Rattle.pkbase.proofs.numbered_map.NumberedMap.len.Goals as goal

-- numbers of 32 bits in order are no more than there are
pub overflow_add-result-2 : goal.overflow_add-result-2
overflow_add-result-2 g c =
    let m = c.self.inside in
    let few = length-le_from_below m.first (keys_of m.low.entries) c.len.ensures.ordered
    c.self.invariant.below in
    let others = length-le_from_below (2 ^ 32) (keys_of m.rest.entries) c.len-2.ensures.ordered
    c.self.invariant.narrow in
    omega (
      arith,
      few,
      others,
      length-keys_of m.low.entries,
      length-keys_of m.rest.entries,
      c.len.ensures.len,
      c.len-2.ensures.len,
      c.len-3.ensures.small,
    )

pub returns-clause-rising : goal.returns-clause-rising
returns-clause-rising g c =
    let m = c.self.inside in
    rw (← c.self.view_is)
    (rising m.low.entries m.first m.ordered m.rest.entries c.self.invariant c.len.ensures.ordered
    c.len-2.ensures.ordered)

pub returns-clause-value : goal.returns-clause-value
returns-clause-value g c =
    let m = c.self.inside in
    let all = length-entries m.low.entries m.first m.ordered m.rest.entries in
    let sum : c.len.result + c.len-2.result + c.len-3.result
    ≡ length (entries m.low.entries m.first m.ordered m.rest.entries) =
    omega (arith, all, c.len.ensures.len, c.len-2.ensures.len, c.len-3.ensures.value) in
    rw (← c.self.view_is) sum
