-- For each policy there is a text longer than all its names.
use Rattle.std.proofs.Common.{ℕ, ◌+◌, ◌<◌, Bool, List, None, Some, arith}
use Rattle.std.specs.Prelude.{replicate}
use Rattle.std.proofs.lemmas.List.{length-replicate}
use Rattle.pkmachine.specs.declared.policy.Permit.{Permit}
use Rattle.pkmachine.specs.declared.policy.Permit.TheVariants.{By, Pairs, Sorted}
use Rattle.pkmachine.specs.declared.policy.Policy.TheVariants.{Listed, AnyImport}
use Rattle.pklist.specs.Allow.{lists}
use Rattle.pklist.specs.Bounded.{HasLongest, NamesAreBounded}
use Rattle.pklist.specs.Pairs.{found, have}
use Rattle.pkmachine.specs.Knowledge.{Policy}
use Rattle.pkmachine.specs.Policies.{permit_of}
use Rattle.pkmachine.specs.StepLaws.{IsBounded}
use Rattle.std.proofs.lemmas.List.Elements.{All-replicate}
use Rattle.std.proofs.lemmas.Str.{IsUtf8-from_ascii}
use Rattle.std.proofs.lemmas.Str.Ascii.{IsAscii-from_all}
use Rattle.pkmachine.specs.Witnesses.{Word}
use Rattle.pkmachine.proofs.Coverage.ShownFaults.{IsLonger}

-- a word of n letters
abbrev letters : ℕ → Word
letters n =
    record {
      text = replicate n 97;
      utf8 = IsUtf8-from_ascii _
          (IsAscii-from_all _ (All-replicate (λ b. b < 128) n 97 (omega arith)));
    }

-- if the names of a list have a bounded length, some text is longer
longer : (list : List ℕ → List ℕ → Bool) → HasLongest list
    → (v : Word) × IsLonger (Some list) v.text
longer list (bound, below) = (
  letters (bound + 1),
  λ m n h. let g = below m n h in let r =
      length-replicate {A = ℕ} (bound + 1) 97 in (omega (arith, g.0, r), omega (arith, g.1, r)),
)

pub longer_than : (policy : Policy) → IsBounded policy → (v : Word) × IsLonger policy v.text
longer_than None bounded = (letters 0, tt)
longer_than (Some list) bounded = longer list bounded

pub longest : NamesAreBounded → (policy : Permit) → (v : Word) × IsLonger (permit_of policy) v.text
longest bounded (By (Listed list)) = longer (lists list.now) (bounded.of_list list.now)
longest bounded (Pairs pairs) = longer (have pairs.now) (bounded.of_array pairs.now)
longest bounded (Sorted pairs) = longer (found pairs.now) (bounded.of_search pairs.now)
longest bounded (By AnyImport) = (letters 0, tt)
