-- The instructions that a walk over a slice has given.
use Rattle.std.proofs.Common.{◌≡◌, ◌≢◌, ℕ, Bool, true, false, List, [], ◌∷◌, ◌++◌, length, Option}
use Rattle.std.proofs.Common.{Some, None, Result, Ok, Err, refl, sym, ap, ◌∙◌, subst, arith}
use Rattle.std.proofs.Common.{length-append, append_assoc, MatchBool, MatchOption}
use Rattle.std.proofs.lemmas.List.Elements.{All-nil, All-push}
use Rattle.pkops.specs.Inst.{instruction_of}
use Rattle.pkops.specs.Spelling.{Instruction, spelling}
use Rattle.pkops.specs.declared.Inst.{Inst}
use Rattle.pkops.specs.declared.Op.{Op}
use Rattle.pkops.specs.declared.Op.TheVariants as op
use Rattle.pkops.specs.declared.Refusal.{Refusal}
use Rattle.pkread.proofs.Loops.Run.{spellings-more}
use Rattle.pkread.specs.Admission.{IsAllowed}
use Rattle.pkread.specs.Genops.{GivesItem, RefusesItem, Walk, Yields, is_stop}
use Rattle.pkread.specs.Sequence.{NoStop, StopIsLast, spellings}
use Rattle.pkread.specs.Walked.{EndIsWalked, ItemIsWalked, RefusalIsWalked, WalkBegins}

pub walk_begins : WalkBegins
walk_begins bytes limit = record {
  same_limit = refl;
  each = All-nil (IsAllowed limit);
  so_far = All-nil (λ i. i.op ≢ op.Stop);
  parts = refl;
  offset = refl;
}

-- what one call does, by whether the walk is done
abbrev WalksFrom : Bool → Walk → Option (Result (ℕ × Inst) Refusal) → Walk → Type 0
WalksFrom done old item new = MatchBool done ((item ≡ None) × (new ≡ old))
    (MatchOption item ⊥ (λ x. Yields old x new))

item_given : (p : List Instruction) (d : Bool) (w v : Walk)
    (item : Option (Result (ℕ × Inst) Refusal)) (at : ℕ) (i : Inst)
    → MatchBool d (StopIsLast p) (NoStop p) → WalksFrom d w item v → item ≡ Some (Ok (at, i))
    → NoStop p × GivesItem w at (instruction_of i) v
item_given p true w v item at i so h e = let f = h.0 in absurd cc
item_given p false w v item at i so h e = (so, rw e at h)

refusal_given : (p : List Instruction) (d : Bool) (w v : Walk)
    (item : Option (Result (ℕ × Inst) Refusal)) (r : Refusal)
    → MatchBool d (StopIsLast p) (NoStop p) → WalksFrom d w item v → item ≡ Some (Err r)
    → NoStop p × RefusesItem w r v
refusal_given p true w v item r so h e = let f = h.0 in absurd cc
refusal_given p false w v item r so h e = (so, rw e at h)

none_given : (p : List Instruction) (d : Bool) (w v : Walk)
    (item : Option (Result (ℕ × Inst) Refusal)) → MatchBool d (StopIsLast p) (NoStop p)
    → WalksFrom d w item v → item ≡ None → StopIsLast p × (v ≡ w)
none_given p true w v item so h e = (so, h.1)
none_given p false w v item so h e = absurd (rw e at h)

-- STOP ends the instructions, and no other does
so_far_by : (p : List Instruction) (i : Instruction) (o : Op) → NoStop p → i.op ≡ o
    → MatchBool (is_stop o) (StopIsLast (p ++ i ∷ [])) (NoStop (p ++ i ∷ []))
so_far_by p i op.Stop a e = (p, i, refl, e, a)
so_far_by p i _ a e = All-push (λ j. j.op ≢ op.Stop) p i a (λ f. cc)

pub item_is_walked : ItemIsWalked
item_is_walked bytes limit p w v item at i h k e =
    let o = item_given p w.done w v item at i h.so_far k e in
    let g = o.1 in
    let j = instruction_of i in
    let allowed : IsAllowed limit j = subst (λ (l : ℕ). IsAllowed l j) h.same_limit g.allowed in (
      o.0,
      record {
        same_limit = g.limit ∙ h.same_limit;
        each = All-push (IsAllowed limit) p j h.each allowed;
        so_far = subst (λ (d : Bool). MatchBool d (StopIsLast (p ++ j ∷ [])) (NoStop (p ++ j ∷ [])))
            (sym g.done) (so_far_by p j j.op o.0 refl);
        parts = h.parts
            ∙ (ap (λ (b : List ℕ). spellings p ++ b) g.bytes
            ∙ (sym (append_assoc (spellings p) (spelling j) v.bytes)
            ∙ ap (λ (b : List ℕ). b ++ v.bytes) (sym (spellings-more p j))));
        offset = omega (
          arith,
          g.offset,
          h.offset,
          ap length (spellings-more p j),
          length-append (spellings p) (spelling j),
        );
      },
      g,
    )

pub end_is_walked : EndIsWalked
end_is_walked bytes limit p w v item h k e =
    let o = none_given p w.done w v item h.so_far k e in
    (record { each = h.each; stops = o.0 }, o.1)

pub refusal_is_walked : RefusalIsWalked
refusal_is_walked bytes limit p w v item r h k e = refusal_given p w.done w v item r h.so_far k e
