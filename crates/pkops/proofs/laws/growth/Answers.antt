-- What begins an instruction, what a field completes, and what a count and its payload do.
use Rattle.pkops.proofs.Begun.Counts.{begun_is_counted}
use Rattle.pkops.proofs.Begun.Fronts.{fronts_begin}
use Rattle.pkops.proofs.Begun.Growth.{count_large, count_negative, field_begun, field_lies}
use Rattle.pkops.proofs.Begun.Growth.{lies_begun, payload_begun, payload_lies}
use Rattle.pkops.proofs.ExactReaders.Scans.{nothing_begun}
use Rattle.pkops.proofs.Begun.Sizes.{begun_is_short}
use Rattle.pkops.proofs.laws.growth.Goals as goal

pub returns-clause-begun : goal.returns-clause-begun
returns-clause-begun c = record {
  nothing = nothing_begun;
  fronts = fronts_begin;
  whole = lies_begun;
  short = begun_is_short;
  counted = begun_is_counted;
}

pub returns-clause-field : goal.returns-clause-field
returns-clause-field c = record { begun = field_begun; whole = field_lies }

pub returns-clause-count : goal.returns-clause-count
returns-clause-count c = record {
  negative = λ limit op size signed field is fit over.
      count_negative limit op size signed is.lay field is.len fit over;
  large = λ limit op size signed field is fit under over.
      count_large limit op size signed is.lay field is.len fit under over;
  begun = λ limit op size signed field payload is fit under within lacks.
      payload_begun limit op size signed is.lay field is.len payload fit under within lacks;
  whole = λ limit op size signed field payload is fit under within all.
      payload_lies limit op size signed is.lay field is.len payload fit under within all;
}
