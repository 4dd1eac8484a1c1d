-- What the next instruction of an accepted pickle says, as it is followed.
use Rattle.std.proofs.Common.{◌≡◌, ◌≢◌, ℕ, true, false, ◌+◌, ◌<◌, ◌≤◌, List, ◌++◌, length, drop}
use Rattle.std.proofs.Common.{Option, refl, sym, ap, ◌∙◌, subst, arith, Some, None, Ok}
use Rattle.std.proofs.Common.{length-append}
use Rattle.pkops.specs.declared.Inst.{Inst}
use Rattle.pkops.specs.declared.Op.{Op}
use Rattle.pkops.specs.declared.Op.TheVariants as op
use Rattle.pkops.specs.Inst.{instruction_of}
use Rattle.pkops.specs.Limits.{Bounds}
use Rattle.pkops.specs.Spelling.{Argument, Instruction, instruction, spelling}
use Rattle.pkread.specs.Sequence.{spellings}
use Rattle.pkmachine.specs.Effects as effect
use Rattle.pkmachine.specs.Effects.{effect_of}
use Rattle.pkstack.specs.Shape.{Entry, top}
use Rattle.pkjson.specs.declared.action.Action.{Action}
use Rattle.pkjson.specs.declared.action.Action.TheVariants.{Stops}
use Rattle.pkjson.specs.declared.arena.Arena.{Arena as Held}
use Rattle.pkjson.specs.Private.PlainActions.{acted, fault_acted, ActsAs, KindsAgree, IsLacking}
use Rattle.pkjson.specs.Contents.{kind_by_effect}
use Rattle.pkjson.specs.Export.{AcceptedAs, IsAccepted, FaultsAt}
use Rattle.pkjson.specs.Private.Held.{parts}
use Rattle.pkjson.specs.Private.Mirrors.{EntriesBelow}
use Rattle.pkjson.specs.Plain.{Fault, OtherOpcode, is_plain_data}
use Rattle.pkjson.specs.Private.Replayed.{Replays}
use Rattle.pkjson.specs.Private.Fronts.{HasFront, IsFront}
use Rattle.pkjson.proofs.Runs.PlainRun.{Stands, StandsAt, stands_at, other_opcode, faulty}
use Rattle.pkjson.proofs.Runs.PlainRun.{lacks_nothing, stands_behind, stops_here}
use Rattle.pkjson.proofs.Runs.Answered.{replays}
use Rattle.pkjson.proofs.Runs.RunToStop.{rest_is}

only_stop : (action : Action) → ActsAs action effect.Stops → action ≡ Stops
only_stop Stops w = refl
only_stop action w = absurd w

-- an accepted pickle was replayed up to these bytes, and these are its objects
pub record Replaying (limits : Bounds) (bytes rest : List ℕ) (at : ℕ) (h : Held) : Type 0 where
  pub stands : (p : List Instruction) → AcceptedAs limits bytes p
      → Stands limits.counted p rest at (parts h)

module _ {limits : Bounds} {bytes rest : List ℕ} {at : ℕ} {h : Held} (acc : IsAccepted limits bytes)
    (r : Replaying limits bytes rest at h) where
  pub entries_there : EntriesBelow (length (parts h).kept) (parts h).shape.entries
  entries_there = (r.stands acc.0 acc.1).mirrors.held.entries

  pub a_front : HasFront limits.counted rest
  a_front = let s = stands_at limits.counted acc.0 rest at (parts h) (r.stands acc.0 acc.1) in
      (s.0, spellings s.1.after ++ s.1.tail, s.1.spelled, s.1.here)

  pub no_front : {o : Option (Inst × ℕ)} → IsFront limits.counted rest o → o ≡ None → ⊥
  no_front f none = (rw none at f) a_front.0 a_front.1 a_front.2 a_front.3

  module _ {front : Option (Inst × ℕ)} {inst : Inst} {n : ℕ}
      (found : IsFront limits.counted rest front) (is_some : front ≡ Some (inst, n)) where
    f : IsFront limits.counted rest (Some (inst, n))
    f = subst (IsFront limits.counted rest) is_some found

    here : (p : List Instruction) → AcceptedAs limits bytes p
        → StandsAt limits.counted p rest at (parts h) (instruction_of inst)
    here p w = let s = stands_at limits.counted p rest at (parts h) (r.stands p w) in
        subst (StandsAt limits.counted p rest at (parts h))
        (sym (f s.0 (spellings s.1.after ++ s.1.tail) s.1.spelled s.1.here).0) s.1

    long : n ≡ length (spelling (instruction_of inst))
    long = let s = here acc.0 acc.1 in
        (f (instruction_of inst) (spellings s.after ++ s.tail) s.spelled s.here).1

    pub within : n ≤ length rest
    within = let s = here acc.0 acc.1 in
        omega (
          arith,
          long,
          ap length s.spelled,
          length-append (spelling (instruction_of inst)) (spellings s.after ++ s.tail),
        )

    pub some : 0 < n
    some = omega (arith, long)

    module _ {o : Op} (is : o ≡ (instruction_of inst).op) where
      pub other : is_plain_data o ≡ false → FaultsAt limits bytes at (OtherOpcode o)
      other e = subst (λ z. FaultsAt limits bytes at (OtherOpcode z)) (sym is) (
        acc.0,
        acc.1,
        other_opcode limits.counted acc.0 rest at (parts h) (instruction_of inst)
            (here acc.0 acc.1) (ap is_plain_data (sym is) ∙ e),
      )

      module _ (action : Action) (plain : is_plain_data o ≡ true)
          (acts : ActsAs action (effect_of o)) where
        plain_here : is_plain_data (instruction_of inst).op ≡ true
        plain_here = ap is_plain_data (sym is) ∙ plain

        acts_here : ActsAs action (effect_of (instruction_of inst).op)
        acts_here = subst (λ z. ActsAs action (effect_of z)) is acts

        pub faults : (g : Fault) → fault_acted action (instruction_of inst) (parts h) ≡ Some g
            → FaultsAt limits bytes at g
        faults g e = (
          acc.0,
          acc.1,
          faulty limits.counted acc.0 rest at (parts h) (instruction_of inst)
              (here acc.0 acc.1) action plain_here acts_here g e,
        )

        module _
            (kinds : (arg : Argument) → KindsAgree action (instruction o arg)
            (kind_by_effect (instruction o arg))) (goes : action ≢ Stops) where
          kinds_here : KindsAgree action (instruction_of inst)
              (kind_by_effect (instruction_of inst))
          kinds_here = rw is at (kinds (instruction_of inst).arg)

          not_stop : (instruction_of inst).op ≢ op.Stop
          not_stop e =
              goes (only_stop action (subst (λ z. ActsAs action (effect_of z)) e acts_here))

          pub never_lacks : IsLacking (acted action (instruction_of inst) (parts h)) → ⊥
          never_lacks b = lacks_nothing limits.counted acc.0 rest at (parts h) (instruction_of inst)
              (here acc.0 acc.1) action plain_here acts_here kinds_here goes b.0 b.1

          pub on : (g : Held) → (fault_acted action (instruction_of inst) (parts h) ≡ None)
              → (acted action (instruction_of inst) (parts h) ≡ Ok (parts g))
              → Replaying limits bytes (drop n rest) (at + n) g
          on g e k = record {
            stands = λ p w.
                let s = here p w in
                let q = stands_behind limits.counted p rest at (parts h) (instruction_of inst) s
                action plain_here acts_here kinds_here goes (parts g) not_stop e k in
                let l = rest_is rest (spellings s.after ++ s.tail)
                (instruction_of inst) n s.spelled long in
                subst (λ z. Stands limits.counted p z (at + n) (parts g)) (sym l)
                (subst
                (λ z. Stands limits.counted p (spellings s.after ++ s.tail) (at + z) (parts g))
                (sym long) q);
          }

      module _ (plain : is_plain_data o ≡ true) (acts : ActsAs Stops (effect_of o)) where
        pub never_empty : IsLacking (top (parts h).shape.entries) → ⊥
        never_empty b =
            let t = stops_here limits.counted acc.0 rest at (parts h) (instruction_of inst)
            (here acc.0 acc.1) (plain_here Stops plain acts) (acts_here Stops plain acts) in
            let q = sym b.1 ∙ t.1 in cc

        pub ends : (x : ℕ) (es : List (Entry ℕ)) → top (parts h).shape.entries ≡ Ok (x, es)
            → Replays limits bytes (parts h).kept x
        ends x es t = replays limits bytes acc.0 rest at h (instruction_of inst) acc.1
            (here acc.0 acc.1) (plain_here Stops plain acts) (acts_here Stops plain acts) x es t
