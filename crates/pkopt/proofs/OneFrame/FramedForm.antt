-- The optimized form is framed, and has the same runs.
use Rattle.std.proofs.Common.{◌≡◌, ℕ, ◌+◌, ◌-◌, ◌<◌, Bool, true, false, cond, ◌||◌, List, [], ◌∷◌}
use Rattle.std.proofs.Common.{◌++◌, length, map, Option, None, Some, option_map, All, ◌⊎◌, inl, inr}
use Rattle.std.proofs.Common.{refl, sym, ap, subst, ◌∙◌, arith, length-append}
use Rattle.std.specs.Prelude.{◌≢◌}
use Rattle.std.proofs.lemmas.Bool.{or_parts}
use Rattle.std.proofs.lemmas.Bool.Decides.{nat_tests}
use Rattle.std.proofs.lemmas.List.Elements.{All-nil, All-cons}
use Rattle.pkops.specs.declared.Op.{Op}
use Rattle.pkops.specs.declared.Op.TheVariants as op
use Rattle.pkops.specs.Spelling.{Instruction, spelling}
use Rattle.pkread.specs.Framing.{Role, stop, other, total, counted, one_later, refused_at, Framed}
use Rattle.pkread.specs.Framing.{CountingIsExact}
use Rattle.pkread.specs.Genops.{is_stop}
use Rattle.pkread.specs.Pieces.{role_of, number_of, piece_of}
use Rattle.pkread.specs.Sequence.{spellings}
use Rattle.pkmachine.specs.Effects.{effect_of}
use Rattle.pkcheck.specs.Ends.{SameEnd}
use Rattle.pkmachine.specs.Runs.{State, Outcome, start}
use Rattle.pkmachine.specs.WholeRuns.{run}
use Rattle.pkopt.proofs.SlimForm.Allowed.{EndsInStop}
use Rattle.pkopt.specs.OneFrame.{is_proto, has_frame, frame_around, in_frame, optimized}
use Rattle.pkopt.specs.RunsAlike.{RunsAlike}
use Rattle.pkopt.specs.Slim.{is_frame, renumbered, left_of, slim_from, slim}
use Rattle.pkopt.specs.Writers.{Writes, after, sources, new_number}
use Rattle.pkopt.proofs.SlimForm.NewForms.{form_keeps, left_by}
use Rattle.pkopt.proofs.BothRuns.SlimRuns.{frame_effect}

-- a frame around changes no run
in_frame_by : (b : Bool) (i : Instruction) (is : List Instruction) (os : List Outcome) (s : State)
    → run (cond b (i ∷ frame_around is ∷ is) (frame_around (i ∷ is) ∷ i ∷ is)) os s
    ≡ run (i ∷ is) os s
in_frame_by true i is os s = refl
in_frame_by false i is os s = refl

in_frame_runs : (q : List Instruction) (os : List Outcome) (s : State)
    → run (in_frame q) os s ≡ run q os s
in_frame_runs [] os s = refl
in_frame_runs (i ∷ is) os s = in_frame_by (is_proto i.op) i is os s

framed_by : (b : Bool) (p q : List Instruction) → RunsAlike p q
    → RunsAlike p (cond b (in_frame q) q)
framed_by true p q h os = subst (SameEnd (run p os start)) (sym (in_frame_runs q os start)) (h os)
framed_by false p q h os = h os

pub optimized_alike : (p : List Instruction) → RunsAlike p (slim p) → RunsAlike p (optimized p)
optimized_alike p h = framed_by (has_frame p) p (slim p) h

role_stop : (o : Op) (n : ℕ) → is_stop o ≡ true → role_of o n ≡ stop
role_stop op.Stop n e = refl
role_stop o n e = cc

role_other : (o : Op) (n : ℕ) → is_stop o ≡ false → is_frame o ≡ false → role_of o n ≡ other
role_other op.Stop n e f = cc
role_other op.Frame n e f = cc
role_other o n e f = refl

counted_stop : (n len : ℕ) → 0 < len → n ≡ len + 0
    → counted n (record { length = len; role = stop }) ≡ Some 0
counted_stop n len lt e = grind (arith, nat_tests)

counted_other : (n len rest : ℕ) → 0 < len → n ≡ len + rest
    → counted n (record { length = len; role = other }) ≡ Some rest
counted_other n len rest lt e = let s : n - len ≡ rest = omega (arith, e) in
    grind (arith, nat_tests, s)

-- ended by its only STOP
abbrev pub EndsByStop : List Instruction → Type 0
EndsByStop [] = ⊥
EndsByStop (i ∷ is) = ((is_stop i.op ≡ true) × (is ≡ [])) ⊎ ((is_stop i.op ≡ false) × EndsByStop is)

some_bytes : (i : Instruction) → 0 < length (spelling i)
some_bytes i = omega arith

total_bytes : (q : List Instruction) → total (map piece_of q) ≡ length (spellings q)
total_bytes [] = refl
total_bytes (i ∷ is) = ap (λ n. length (spelling i) + n) (total_bytes is)
    ∙ sym (length-append (spelling i) (spellings is))

piece_is : (r : Role) (i : Instruction) → role_of i.op (number_of i.arg) ≡ r
    → piece_of i ≡ record { length = length (spelling i); role = r }
piece_is r i e = ap (λ r. record { length = length (spelling i); role = r }) e

-- as many bytes as are left are counted down to the end
counts_down : (q : List Instruction) (n : ℕ) → EndsByStop q → has_frame q ≡ false
    → n ≡ total (map piece_of q) → refused_at n (map piece_of q) ≡ None
counts_down [] n h f e = refl
counts_down (i ∷ is) n (inl h) f e =
    let c : counted n (piece_of i) ≡ Some 0 = ap (counted n)
    (piece_is stop i (role_stop i.op (number_of i.arg) h.0))
    ∙ counted_stop n (length (spelling i)) (some_bytes i)
    (e ∙ ap (λ is. length (spelling i) + total (map piece_of is)) h.1) in
    ap (λ c. one_later c (λ m. refused_at m (map piece_of is))) c
    ∙ ap (λ is. option_map (λ k. k + 1) (refused_at 0 (map piece_of is))) h.1
counts_down (i ∷ is) n (inr h) f e =
    let g = or_parts (is_frame i.op) (has_frame is) f in
    let c : counted n (piece_of i) ≡ Some (total (map piece_of is)) = ap (counted n)
    (piece_is other i (role_other i.op (number_of i.arg) h.0 g.0))
    ∙ counted_other n (length (spelling i)) (total (map piece_of is)) (some_bytes i) e in
    ap (λ c. one_later c (λ m. refused_at m (map piece_of is))) c
    ∙ ap (option_map (λ k. k + 1)) (counts_down is _ h.1 g.1 refl)

opens_nothing : (o : Op) (len n : ℕ) → is_frame o ≡ false
    → counted 0 (record { length = len; role = role_of o n }) ≡ Some 0
opens_nothing op.Frame len n e = cc
opens_nothing o len n e = refl

-- without a frame nothing is refused
goes_on : (q : List Instruction) → has_frame q ≡ false → refused_at 0 (map piece_of q) ≡ None
goes_on [] f = refl
goes_on (i ∷ is) f =
    let g = or_parts (is_frame i.op) (has_frame is) f in
    ap (λ c. one_later c (λ m. refused_at m (map piece_of is)))
    (opens_nothing i.op (length (spelling i)) (number_of i.arg) g.0)
    ∙ ap (option_map (λ k. k + 1)) (goes_on is g.1)

proto_opens_nothing : (o : Op) (len n : ℕ) → is_proto o ≡ true
    → counted 0 (record { length = len; role = role_of o n }) ≡ Some 0
proto_opens_nothing op.Proto len n e = refl
proto_opens_nothing o len n e = cc

pub proto_no_stop : (o : Op) → is_proto o ≡ true → is_stop o ≡ true → ⊥
proto_no_stop op.Proto e f = cc
proto_no_stop o e f = cc

after_proto : (i : Instruction) (is : List Instruction) → is_proto i.op ≡ true → EndsByStop (i ∷ is)
    → EndsByStop is
after_proto i is p (inl h) = absurd (proto_no_stop i.op p h.0)
after_proto i is p (inr h) = h.1

around : (q : List Instruction) → EndsByStop q → has_frame q ≡ false
    → refused_at 0 (map piece_of (frame_around q ∷ q)) ≡ None
around q h f = ap (option_map (λ k. k + 1)) (counts_down q _ h f (sym (total_bytes q)))

through_by : (b : Bool) (i : Instruction) (is : List Instruction) → is_proto i.op ≡ b
    → EndsByStop (i ∷ is) → has_frame (i ∷ is) ≡ false
    → refused_at 0
    (map piece_of (cond b (i ∷ frame_around is ∷ is) (frame_around (i ∷ is) ∷ i ∷ is))) ≡ None
through_by true i is p h f =
    ap (λ c. one_later c (λ m. refused_at m (map piece_of (frame_around is ∷ is))))
    (proto_opens_nothing i.op (length (spelling i)) (number_of i.arg) p)
    ∙ ap (option_map (λ k. k + 1))
    (around is (after_proto i is p h) (or_parts (is_frame i.op) (has_frame is) f).1)
through_by false i is p h f = around (i ∷ is) h f

-- the rule goes through, with a PROTO before the frame or none
goes_through : (q : List Instruction) → EndsByStop q → has_frame q ≡ false
    → refused_at 0 (map piece_of (in_frame q)) ≡ None
goes_through [] h f = refl
goes_through (i ∷ is) h f = through_by (is_proto i.op) i is refl h f

goes_by : (b : Bool) (q : List Instruction) → EndsByStop q → has_frame q ≡ false
    → refused_at 0 (map piece_of (cond b (in_frame q) q)) ≡ None
goes_by true q h f = goes_through q h f
goes_by false q h f = goes_on q f

all_some : (q : List Instruction) → All (λ p. 0 < p.length) (map piece_of q)
all_some [] = All-nil (λ p. 0 < p.length)
all_some (i ∷ is) = All-cons (λ p. 0 < p.length) (piece_of i) (map piece_of is) (some_bytes i)
    (all_some is)

-- what is left of an instruction is no frame and no stop, where it was none
abbrev IsPlain : Instruction → Type 0
IsPlain i = (is_frame i.op ≡ false) × (is_stop i.op ≡ false)

abbrev ArePlain : List Instruction → Type 0
ArePlain [] = Unit {0}
ArePlain (i ∷ is) = IsPlain i × ArePlain is

stop_stays : (vs : List (Option ℕ)) (ws : Writes) (o : Op) (i : Instruction) → is_stop o ≡ true
    → is_frame i.op ≡ false → left_of vs ws (effect_of o) i ≡ i ∷ []
stop_stays vs ws op.Stop i e f = ap (λ b. cond b [] (i ∷ [])) f
stop_stays vs ws o i e f = cc

stop_frame : (o : Op) → is_stop o ≡ true → is_frame o ≡ false
stop_frame op.Stop e = refl
stop_frame o e = cc

is_no_stop : (o : Op) → o ≢ op.Stop → is_stop o ≡ false
is_no_stop op.Stop h = absurd (h refl)
is_no_stop o h = refl

pub ends_by : (limit : ℕ) (p : List Instruction) → EndsInStop limit p → EndsByStop p
ends_by limit [] h = absurd h
ends_by limit (i ∷ is) (a, inl h) = inl (ap is_stop h.0, h.1)
ends_by limit (i ∷ is) (a, inr h) = inr (is_no_stop i.op h.0, ends_by limit is h.1)

module _ (vs : List (Option ℕ)) where
  form_plain : (n : ℕ) (i : Instruction) → IsPlain i → IsPlain (renumbered n i)
  form_plain n i h = (
    form_keeps is_frame refl refl i.op n ∙ h.0,
    form_keeps is_stop refl refl i.op n ∙ h.1,
  )

  kept_plain : (b : Bool) (ws : Writes) (i : Instruction) → is_frame i.op ≡ b → is_stop i.op ≡ false
      → ArePlain (left_of vs ws (effect_of i.op) i)
  kept_plain true ws i f s = subst ArePlain
      (sym (ap (λ e. left_of vs ws e i) (frame_effect i.op f) ∙ ap (λ b. cond b [] (i ∷ [])) f)) tt
  kept_plain false ws i f s = left_by ArePlain vs ws i (effect_of i.op) tt ((f, s), tt)
      (λ w names lt. (form_plain (new_number vs w) i (f, s), tt))

  -- ended by its only STOP, without frames
  abbrev Ends : List Instruction → Type 0
  Ends q = EndsByStop q × (has_frame q ≡ false)

  ends_after : (as' q : List Instruction) → ArePlain as' → Ends q → Ends (as' ++ q)
  ends_after [] q h e = e
  ends_after (a ∷ as') q h e = let r = ends_after as' q h.1 e in
      (inr (h.0.1, r.0), ap (λ b. b || has_frame (as' ++ q)) h.0.0 ∙ r.1)

  pub slim_ends : (ws : Writes) (is : List Instruction) → EndsByStop is → Ends (slim_from vs ws is)
  slim_ends ws [] h = absurd h
  slim_ends ws (i ∷ is) (inl h) =
      let f = stop_frame i.op h.0 in
      let q : slim_from vs ws (i ∷ is) ≡ i ∷ [] = ap
      (λ is. left_of vs ws (effect_of i.op) i ++ slim_from vs (after i ws) is) h.1
      ∙ ap (λ (l : List Instruction). l ++ []) (stop_stays vs ws i.op i h.0 f) in
      let g : has_frame (i ∷ []) ≡ false = ap (λ b. b || false) f in
      subst Ends (sym q) (inl (h.0, refl), g)
  slim_ends ws (i ∷ is) (inr h) = ends_after (left_of vs ws (effect_of i.op) i) _
      (kept_plain (is_frame i.op) ws i refl h.0) (slim_ends (after i ws) is h.1)

pub slim_stops : (limit : ℕ) (p : List Instruction) → EndsInStop limit p → EndsByStop (slim p)
slim_stops limit p h = (slim_ends (sources [] p) [] p (ends_by limit p h)).0

-- each instruction of the optimized form lies whole within its frame
pub optimized_framed : CountingIsExact → (limit : ℕ) (p : List Instruction) → EndsInStop limit p
    → Framed (map piece_of (optimized p))
optimized_framed exact limit p h =
    let e = slim_ends (sources [] p) [] p (ends_by limit p h) in
    let q = optimized p in
    rw (goes_by (has_frame p) (slim p) e.0 e.1) at (exact (map piece_of q) (all_some q))
