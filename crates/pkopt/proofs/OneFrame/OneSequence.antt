-- The optimized form is one sequence of instructions.
use Rattle.std.proofs.Common.{◌≡◌, ℕ, ◌<◌, ◌^◌, Bool, true, false, cond, List, [], ◌∷◌, ◌++◌}
use Rattle.std.proofs.Common.{length, inl, inr, refl, sym, ap, ◌∙◌, arith, length-append}
use Rattle.std.specs.Prelude.{◌≢◌, All}
use Rattle.std.proofs.lemmas.List.Elements.{All-nil, All-cons}
use Rattle.pkops.specs.declared.Op.{Op}
use Rattle.pkops.specs.declared.Op.TheVariants as op
use Rattle.pkops.specs.Spelling.{Instruction, spelling}
use Rattle.pkread.specs.Admission.{IsAllowed}
use Rattle.pkread.specs.Genops.{is_stop}
use Rattle.pkread.specs.Sequence.{IsSequence, spellings}
use Rattle.pkopt.proofs.SlimForm.Allowed.{EndsInStop, AreAllowed, slim_allowed}
use Rattle.pkopt.specs.OneFrame.{is_proto, has_frame, frame_around, in_frame, optimized}
use Rattle.pkopt.specs.Slim.{slim}
use Rattle.pkopt.specs.Writers.{sources, new_number, after_all}
use Rattle.pkopt.proofs.OneFrame.FramedForm.{EndsByStop, slim_stops, proto_no_stop}

stop_is : (o : Op) → is_stop o ≡ true → o ≡ op.Stop
stop_is op.Stop e = refl
stop_is o e = cc

no_stop : (o : Op) → is_stop o ≡ false → o ≢ op.Stop
no_stop o e q = let c : is_stop o ≡ true = ap is_stop q in let f : true ≡ false = sym c ∙ e in cc

abbrev Stops : List Instruction → Type 0
Stops p = (front : List Instruction) × (last : Instruction) × (p ≡ front ++ last ∷ [])
    × (last.op ≡ op.Stop) × All (λ i. i.op ≢ op.Stop) front

stops_last : (q : List Instruction) → EndsByStop q → Stops q
stops_last [] h = absurd h
stops_last (i ∷ is) (inl h) = (
  [],
  i,
  ap (λ (l : List Instruction). i ∷ l) h.1,
  stop_is i.op h.0,
  All-nil (λ i. i.op ≢ op.Stop),
)
stops_last (i ∷ is) (inr h) =
    let r = stops_last is h.1 in (
      i ∷ r.0,
      r.1,
      ap (λ (l : List Instruction). i ∷ l) r.2,
      r.3,
      All-cons (λ i. i.op ≢ op.Stop) i r.0 (no_stop i.op h.0) r.4,
    )

module _ (limit : ℕ) where
  all_allowed : (q : List Instruction) → AreAllowed limit q → All (IsAllowed limit) q
  all_allowed [] h = All-nil (IsAllowed limit)
  all_allowed (i ∷ is) h = All-cons (IsAllowed limit) i is h.0 (all_allowed is h.1)

  frame_allowed : (is : List Instruction) → length (spellings is) < 2 ^ 64
      → IsAllowed limit (frame_around is)
  frame_allowed is lt =
      record { good = record { suits = (refl, lt); contents = tt }; within = tt; admitted = refl }

  rest_short : (i : Instruction) (is : List Instruction) → length (spellings (i ∷ is)) < 2 ^ 64
      → length (spellings is) < 2 ^ 64
  rest_short i is lt = let l = length-append (spelling i) (spellings is) in omega (arith, l, lt)

  framed_allowed : (b : Bool) (i : Instruction) (is : List Instruction)
      → length (spellings (i ∷ is)) < 2 ^ 64 → AreAllowed limit (i ∷ is)
      → AreAllowed limit (cond b (i ∷ frame_around is ∷ is) (frame_around (i ∷ is) ∷ i ∷ is))
  framed_allowed true i is lt h = (h.0, (frame_allowed is (rest_short i is lt), h.1))
  framed_allowed false i is lt h = (frame_allowed (i ∷ is) lt, h)

  in_frame_allowed : (q : List Instruction) → length (spellings q) < 2 ^ 64 → AreAllowed limit q
      → AreAllowed limit (in_frame q)
  in_frame_allowed [] lt h = tt
  in_frame_allowed (i ∷ is) lt h = framed_allowed (is_proto i.op) i is lt h

  optimized_allowed : (b : Bool) (q : List Instruction) → length (spellings q) < 2 ^ 64
      → AreAllowed limit q → AreAllowed limit (cond b (in_frame q) q)
  optimized_allowed true q lt h = in_frame_allowed q lt h
  optimized_allowed false q lt h = h

framed_ends : (b : Bool) (i : Instruction) (is : List Instruction) → is_proto i.op ≡ b
    → EndsByStop (i ∷ is)
    → EndsByStop (cond b (i ∷ frame_around is ∷ is) (frame_around (i ∷ is) ∷ i ∷ is))
framed_ends true i is p (inl h) = absurd (proto_no_stop i.op p h.0)
framed_ends true i is p (inr h) = inr (h.0, inr (refl, h.1))
framed_ends false i is p h = inr (refl, h)

in_frame_ends : (q : List Instruction) → EndsByStop q → EndsByStop (in_frame q)
in_frame_ends [] h = absurd h
in_frame_ends (i ∷ is) h = framed_ends (is_proto i.op) i is refl h

optimized_ends : (b : Bool) (q : List Instruction) → EndsByStop q
    → EndsByStop (cond b (in_frame q) q)
optimized_ends true q h = in_frame_ends q h
optimized_ends false q h = h

-- each instruction is allowed, the last is STOP, and no other is
pub optimized_sequence : (limit : ℕ) (p : List Instruction)
    → ((w : ℕ) → w < length (after_all p []) → new_number (sources [] p) w < 2 ^ 32)
    → length (spellings (slim p)) < 2 ^ 64 → EndsInStop limit p
    → IsSequence (λ _. limit) (optimized p)
optimized_sequence limit p small short h = record {
  each = all_allowed limit (optimized p)
      (optimized_allowed limit (has_frame p) (slim p) short (slim_allowed limit p small h));
  stops = stops_last (optimized p) (optimized_ends (has_frame p) (slim p) (slim_stops limit p h));
}
