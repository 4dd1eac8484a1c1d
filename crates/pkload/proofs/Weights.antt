-- What an answer leaves as it is, and what old strings do.
use Rattle.std.proofs.Common.{◌≡◌, ℕ, true, List, length, refl, length-set}
use Rattle.pkops.specs.declared.Op.{Op}
use Rattle.pkops.specs.declared.Op.TheVariants as op
use Rattle.pkmachine.specs.Effects.{answers, effect_of, is_old_string}
use Rattle.pkstack.specs.declared.Takes.TheVariants.{Objects}
use Rattle.pkload.specs.Heft.{Heft}
use Rattle.pkload.specs.Weighed.{answered_again, heavier, heft_at}

pub again_count : (answer : Heft) (k : ℕ) (hefts : List Heft)
    → length (answered_again answer k hefts) ≡ length hefts
again_count answer k hefts = length-set hefts k (heavier (heft_at hefts k) answer)

-- an old string answers, if its decoding isn't set
pub old_string_answers : (o : Op) → is_old_string o ≡ true → effect_of o ≡ answers (Objects 0)
old_string_answers op.String h = refl
old_string_answers op.BinString h = refl
old_string_answers op.ShortBinString h = refl
old_string_answers _ h = cc
