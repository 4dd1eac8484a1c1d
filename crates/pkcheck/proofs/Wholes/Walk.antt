-- What the checker accepts, list by list, and what is known along it.
use Rattle.std.proofs.Common.{◌≡◌, List, [], ◌∷◌, ◌++◌, Option, Ok, refl, ap, subst, ◌∙◌}
use Rattle.std.proofs.lemmas.List.Elements.{All-nil}
use Rattle.pkops.specs.Limits.{Bounds}
use Rattle.pkops.specs.Spelling.{Instruction}
use Rattle.pkimport.specs.Import.{Asked}
use Rattle.pkmachine.specs.Covers.{Covers}
use Rattle.pkmachine.specs.Knowledge.{Knowledge, Policy, Progress, advance}
use Rattle.pkmachine.specs.Runs.{CanCome, State, step_as}
use Rattle.pkmachine.specs.StepLaws.{StepLaws}
use Rattle.pkmachine.specs.WholeRuns.{CanGetTo, GetsTo, first_outcome, go_on, run_as}
use Rattle.pkmachine.specs.Witnesses.{Answered, CoversBy, Word, new_text}
use Rattle.pkmachine.specs.declared.old_strings.OldStrings.{OldStrings}
use Rattle.pkcheck.proofs.Wholes.RunSteps.{gets_past, gone, never_stops, run_on, same_reached}
use Rattle.pkcheck.proofs.Wholes.Stops.{StopsNowhere}

-- the checker accepts these instructions, beginning with what is known first, and knows this behind
-- them; the last list has the import of each instruction, if it makes one
pub data Accepts (setting : OldStrings) (p : Policy) (l : Bounds) :
    List Instruction → Knowledge → Knowledge → List (Option Asked) → Type 0 where
  accepts_none : {k : Knowledge} → Accepts setting p l [] k k []
  accepts_first : {i : Instruction} {is : List Instruction} {k known : Knowledge}
      {asked : List (Option Asked)} (q : Progress) → advance setting p l i k ≡ Ok q
      → Accepts setting p l is q.after known asked
      → Accepts setting p l (i ∷ is) k known (q.import ∷ asked)

-- accepted instructions, split before one of them
pub record Split (setting : OldStrings) (p : Policy) (l : Bounds) (before : List Instruction)
    (i : Instruction) (k : Knowledge) (asked : List (Option Asked)) : Type 0 where
  pub known : Knowledge
  pub earlier : List (Option Asked)
  pub later : List (Option Asked)
  pub passed : Progress
  pub accepts : Accepts setting p l before k known earlier
  pub passes : advance setting p l i known ≡ Ok passed
  pub listed : asked ≡ earlier ++ passed.import ∷ later

-- what is known after these instructions, and that some run gets past them
pub record Along (setting : OldStrings) (is : List Instruction) (k known : Knowledge)
    : Type 0 where
  pub each : (s t : State) → Covers k s → GetsTo setting is s t → Covers known t
  pub some : (v : Word) (s : State) → CoversBy (Answered v.text) k s
      → (t : State) × CanGetTo setting is s t × CoversBy (Answered v.text) known t

module _ {setting : OldStrings} {p : Policy} {l : Bounds} where
  pub accepts_last : {is : List Instruction} {k j : Knowledge} {asked : List (Option Asked)}
      {q : Progress} → Accepts setting p l is k j asked → (i : Instruction)
      → advance setting p l i j ≡ Ok q
      → Accepts setting p l (is ++ i ∷ []) k q.after (asked ++ q.import ∷ [])
  accepts_last accepts_none i g = accepts_first _ g accepts_none
  accepts_last (accepts_first q e h) i g = accepts_first q e (accepts_last h i g)

  pub accepts_split : (before : List Instruction) (i : Instruction) (after : List Instruction)
      {k j : Knowledge} {asked : List (Option Asked)}
      → Accepts setting p l (before ++ i ∷ after) k j asked → Split setting p l before i k asked
  accepts_split [] i after (accepts_first q e h) = record {
    known = _;
    earlier = [];
    later = _;
    passed = q;
    accepts = accepts_none;
    passes = e;
    listed = refl;
  }
  accepts_split (x ∷ before) i after (accepts_first q e h) =
      let s = accepts_split before i after h in
      record {
        known = s.known;
        earlier = q.import ∷ s.earlier;
        later = s.later;
        passed = s.passed;
        accepts = accepts_first q e s.accepts;
        passes = s.passes;
        listed = ap (λ bs. q.import ∷ bs) s.listed;
      }

  pub along : StepLaws → {is : List Instruction} {k known : Knowledge}
      {asked : List (Option Asked)} → StopsNowhere is → Accepts setting p l is k known asked
      → Along setting is k known
  along laws on accepts_none = record {
    each = λ s t c h. subst (Covers _) (same_reached s t h.1) c;
    some = λ v s c. (s, ([], All-nil CanCome, refl), c);
  }
  along laws on (accepts_first {i = i} {is = is} {k = k} q e h) =
      let next = along laws on.1 h in
      record {
        each = λ s t c g.
            let o = first_outcome g.0 in
            let w = gets_past q s (step_as setting i s o) (run_as setting is _) t
            (laws.sound setting p l i k q e s o c) g.1 in
            next.each w.0 t w.1 (_, w.3);
        some = λ word s c.
            let v = word.text in
            let o = new_text v s in
            let w = gone v q (step_as setting i s o) (never_stops setting i on.0 s o)
            (laws.goes_on setting p l i k q e v s c) in
            let m = next.some word w.0 w.2 in (
              m.0,
              run_on setting i is s o m.1.0 word.utf8 m.1.1
                  (ap (λ st. go_on st (run_as setting is m.1.0)) w.1 ∙ m.1.2),
              m.2,
            );
      }
