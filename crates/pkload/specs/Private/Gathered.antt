-- What is gathered of objects.
use Rattle.std.specs.Prelude.{◌≡◌, ◌+◌, ◌||◌, ℕ, Bool, List, false, max, min, nat_eq, true}
use Rattle.pkload.specs.Heft.{Heft, deepest_of, most_depth, most_weight, weights_of}
use Rattle.pkload.specs.declared.tally.Tally.{Tally}

-- the tally with so many keys that weigh one, with an unsalted hash or a salted one
abbrev pub with_lights : ℕ → ℕ → Tally → Tally
with_lights plain salted tally = record tally {
  weight = max tally.weight (min 1 (plain + salted));
  work = tally.work + (plain + salted);
  clash = tally.clash + plain;
}

-- the code is that of an object that weighs one
abbrev pub is_light : ℕ → Bool
is_light code = nat_eq code 4096 || nat_eq code 4097

-- a tuple of these objects costs this
abbrev pub IsTied : List Heft → Heft → Type 0
IsTied hefts heft = heft ≡ record {
  weight = min most_weight (1 + weights_of hefts);
  depth = min most_depth (1 + deepest_of hefts);
  salted = false;
  imported = false;
}

-- an answer about these objects costs this
abbrev pub IsAnswerAbout : List Heft → Heft → Type 0
IsAnswerAbout hefts heft = heft ≡ record {
  weight = min most_weight (1 + weights_of hefts);
  depth = min most_depth (1 + deepest_of hefts);
  salted = true;
  imported = false;
}
