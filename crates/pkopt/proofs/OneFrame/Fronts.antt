-- The front of a form, from the measure of the slim form.
use Rattle.std.proofs.Common.{◌≡◌, ℕ, ◌+◌, ◌-◌, ◌≤◌, Bool, true, false, cond, List, [], ◌∷◌, ◌++◌}
use Rattle.std.proofs.Common.{length, take, drop, suc, ap, refl, sym, ◌∙◌, arith, subst}
use Rattle.std.proofs.Common.{append_assoc, length-append, length-drop}
use Rattle.std.specs.Prelude.{nat_eq, nat_le}
use Rattle.std.proofs.lemmas.Bool.{le-leb}
use Rattle.pkopt.specs.declared.measure.Measure.{Measure}
use Rattle.pkopt.specs.Private.FrameBytes.{frame_before, framed_bytes, front_from, head_from}
use Rattle.pkopt.specs.Private.FrameBytes.{head_length}
use Rattle.pkopt.specs.Private.Sinks.{Counts, Measures, unmeasured}

-- the head that the measure shows
head_measured : (m : Measure) (bytes : List ℕ) → Measures m bytes
    → (head_from m ≡ head_length bytes)
    × (take (head_from m) (m.first ∷ m.second ∷ []) ≡ take (head_length bytes) bytes)
head_measured m (x ∷ y ∷ bytes) h =
    let first : x ≡ m.first = h.first_so (omega arith) in
    let second : y ≡ m.second = h.second_so (omega arith) in
    let two : nat_le 2 m.len ≡ true = ap (nat_le 2) h.count
    ∙ le-leb 2 (suc (suc (length bytes))) (omega arith) in
    let e : head_from m ≡ cond (nat_eq x 128) 2 0 = ap
    (λ b. cond b (cond (nat_eq m.first 128) 2 0) 0) two
    ∙ ap (λ n. cond (nat_eq n 128) 2 0) (sym first) in (
      e,
      ap (λ n. take n (m.first ∷ m.second ∷ [])) e
          ∙ ap (λ a. take (cond (nat_eq x 128) 2 0) (a ∷ m.second ∷ [])) (sym first)
          ∙ ap (λ a. take (cond (nat_eq x 128) 2 0) (x ∷ a ∷ [])) (sym second)
          ∙ elim (nat_eq x 128) as (λ b. take (cond b 2 0) (x ∷ y ∷ [])
          ≡ take (cond b 2 0) (x ∷ y ∷ bytes)) [ true ↦ refl | false ↦ refl ],
    )
head_measured m bytes h =
    let e = ap (λ n. cond (nat_le 2 n) (cond (nat_eq m.first 128) 2 0) 0) h.count in
    (e, ap (λ n. take n (m.first ∷ m.second ∷ [])) e)

-- the front and the bytes behind the head are the bytes in one frame
pub front_measured : (m : Measure) (bytes : List ℕ) → Measures m bytes
    → front_from m ++ drop (head_from m) bytes ≡ framed_bytes bytes
front_measured m bytes h =
    let e = head_measured m bytes h in
    let size : m.len - head_from m ≡ length bytes - head_length bytes =
    ap (λ n. n - head_from m) h.count ∙ ap (λ n. length bytes - n) e.0 in
    ap (λ (l : List ℕ). (l ++ frame_before (m.len - head_from m)) ++ drop (head_from m) bytes) e.1
    ∙ ap (λ n. (take (head_length bytes) bytes ++ frame_before n) ++ drop (head_from m) bytes) size
    ∙ ap (λ n. (take (head_length bytes) bytes ++ frame_before (length bytes - head_length bytes))
    ++ drop n bytes) e.0
    ∙ append_assoc (take (head_length bytes) bytes)
    (frame_before (length bytes - head_length bytes)) (drop (head_length bytes) bytes)

-- a measure that was empty has measured the piece
pub measured : (start m : Measure) (piece : List ℕ) → start ≡ unmeasured → Counts start m piece
    → Measures m piece
measured start m piece e h = subst (λ (s : Measure). Counts s m piece) e h []
    (record { count = refl; first_so = λ lt. refl; second_so = λ lt. refl })

-- the front and the bytes behind the head, with or without a frame
pub fronted : (b : Bool) (m : Measure) (bytes front : List ℕ) (head : ℕ) → Measures m bytes
    → front ≡ cond b (front_from m) [] → head ≡ cond b (head_from m) 0
    → front ++ drop head bytes ≡ cond b (framed_bytes bytes) bytes
fronted true m bytes front head h f e = ap (λ (l : List ℕ). l ++ drop head bytes) f
    ∙ ap (λ n. front_from m ++ drop n bytes) e ∙ front_measured m bytes h
fronted false m bytes front head h f e = ap (λ (l : List ℕ). l ++ drop head bytes) f
    ∙ ap (λ n. drop n bytes) e

-- their length
pub fronted_length : (m : Measure) (bytes front : List ℕ) (head rest len : ℕ) → Measures m bytes
    → head ≤ m.len → rest ≡ m.len - head → len ≡ rest + length front
    → len ≡ length (front ++ drop head bytes)
fronted_length m bytes front head rest len h fits r e =
    let count = h.count in
    let l = length-append front (drop head bytes) in
    let d = length-drop head bytes in
    omega (arith, count, fits, r, e, l, d)
