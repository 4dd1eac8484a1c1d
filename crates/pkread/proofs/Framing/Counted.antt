-- The counting rule refuses first at the first piece that isn't framed.
use Rattle.std.proofs.Common.{◌≡◌, ℕ, ◌+◌, ◌-◌, ◌<◌, ◌≤◌, ◌⊎◌, List, [], ◌∷◌, ◌++◌, length}
use Rattle.std.proofs.Common.{Contains, All, Option, MatchOption, option_map, None, Some}
use Rattle.std.proofs.Common.{refl, sym, ap, ◌∙◌, inl, inr, arith, append_assoc, append-nil}
use Rattle.std.proofs.Common.{zero-add, add_assoc}
use Rattle.std.proofs.lemmas.Bool.{cases_lt}
use Rattle.std.proofs.lemmas.Bool.Decides.{nat_tests}
use Rattle.std.proofs.lemmas.List.Elements.{Contains-push_cases, Contains-append_cases}
use Rattle.std.proofs.lemmas.List.Elements.{Contains-append_left, Contains-push, All-head, All-tail}
use Rattle.pkread.specs.Framing.{Role, frame, stop, other, Piece, Span, LiesInside, total}
use Rattle.pkread.specs.Framing.{contents_of, frame_spans, span_after, MeetsNone, IsFramed, Framed}
use Rattle.pkread.specs.Framing.{FirstUnframed, opened, counted, one_later, refused_at}
use Rattle.pkread.specs.Framing.{CountingIsExact}

-- a piece of this length and role
abbrev pub piece : ℕ → Role → Piece
piece len k = record { length = len; role = k }

-- nothing stands in an empty list
pub contains_none : (c : Span) → Contains [] c → ⊥
contains_none c h = omega (arith, h.1)

-- one thing stands in a list of one
pub contains_one : (x c : Span) → Contains (x ∷ []) c → x ≡ c
contains_one x c h =
    elim (Contains-push_cases [] x c h) [ inl i ↦ absurd (contains_none c i) | inr e ↦ e ]

-- two lists take what both take
pub total-append : (xs ys : List Piece) → total (xs ++ ys) ≡ total xs + total ys
total-append [] ys = omega arith
total-append (x ∷ xs) ys = omega (arith, total-append xs ys)

-- the contents of two lists are those of both
pub contents-append : (at : ℕ) (xs ys : List Piece)
    → frame_spans at (xs ++ ys) ≡ frame_spans at xs ++ frame_spans (at + total xs) ys
contents-append at [] ys = let e : at + 0 ≡ at = omega arith in rw e
contents-append at (x ∷ xs) ys =
    rw (contents-append (at + x.length) xs ys, add_assoc at x.length (total xs))
    (sym (append_assoc (contents_of (at + x.length) x.role) (frame_spans (at + x.length) xs) _))

-- contents begin where the span of their FRAME ends
pub later_one : (at : ℕ) (k : Role) (c : Span) → Contains (contents_of at k) c → at ≤ c.from
later_one at (frame n) c h = let e : record { from = at; to = at + n } ≡ c = contains_one _ c h in
    omega (arith, ap (λ (s : Span). s.from) e)
later_one at stop c h = absurd (contains_none c h)
later_one at other c h = absurd (contains_none c h)

-- the contents of a list begin behind where it begins
pub later : (at : ℕ) (ps : List Piece) (c : Span) → Contains (frame_spans at ps) c → at ≤ c.from
later at [] c h = absurd (contains_none c h)
later at (p ∷ ps) c h =
    elim (Contains-append_cases (contents_of (at + p.length) p.role)
    (frame_spans (at + p.length) ps) c h) [
      | inl i ↦ omega (arith, later_one (at + p.length) p.role c i)
      | inr i ↦ omega (arith, later (at + p.length) ps c i)
    ]

-- of the spans all end at `at` or before, but for those that hold `at` and end n bytes later
pub record Open (at n : ℕ) (cs : List Span) : Type 0 where
  pub each : (c : Span) → Contains cs c → (c.to ≤ at) ⊎ ((c.from ≤ at) × (c.to ≡ at + n))
  pub one : 0 < n → (c : Span) × Contains cs c × (c.from ≤ at) × (c.to ≡ at + n)

-- behind these pieces n bytes are left in the open frame
abbrev pub IsOpen : ℕ → List Piece → Type 0
IsOpen n done = Open (total done) n (frame_spans 0 done)

-- no contents go on behind what is open
pub ends_within : (at n : ℕ) (cs : List Span) → Open at n cs → (c : Span) → Contains cs c
    → c.to ≤ at + n
ends_within at n cs o c h =
    elim (o.each c h) [ inl i ↦ omega (arith, i) | inr i ↦ omega (arith, i.1) ]

-- what stands in the contents of the whole list: those before, the piece's own, or a later one
pub stands : (done : List Piece) (p : Piece) (ps : List Piece) (c : Span)
    → Contains (frame_spans 0 (done ++ p ∷ ps)) c → Contains (frame_spans 0 done) c
    ⊎ (total done + p.length ≤ c.from)
stands done p ps c h =
    let h' = rw (contents-append 0 done (p ∷ ps)) at h in
    elim (Contains-append_cases (frame_spans 0 done) (frame_spans (0 + total done) (p ∷ ps)) c h') [
      | inl i ↦ inl i
      | inr i ↦
          elim (Contains-append_cases (contents_of (0 + total done + p.length) p.role)
          (frame_spans (0 + total done + p.length) ps) c i) [
            | inl j ↦ inr (omega (arith, later_one (0 + total done + p.length) p.role c j))
            | inr j ↦ inr (omega (arith, later (0 + total done + p.length) ps c j))
          ]
    ]

-- where all spans before are shut, the piece meets none
pub meets_none : (done : List Piece) (p : Piece) (ps : List Piece) → IsOpen 0 done
    → MeetsNone (span_after done p) (frame_spans 0 (done ++ p ∷ ps))
meets_none done p ps o c h m = elim (stands done p ps c h) [
  | inl i ↦ omega (arith, ends_within (total done) 0 (frame_spans 0 done) o c i, m.1, m.2)
  | inr i ↦ omega (arith, i, m.1, m.2)
]

-- where a span before is open, the piece meets it
pub meets_one : (done : List Piece) (p : Piece) (ps : List Piece) (n : ℕ) → IsOpen n done
    → 0 < n → 0 < p.length → MeetsNone (span_after done p) (frame_spans 0 (done ++ p ∷ ps)) → ⊥
meets_one done p ps n o z l none =
    let w = o.one z in
    let i : Contains (frame_spans 0 (done ++ p ∷ ps)) w.0 =
    rw (contents-append 0 done (p ∷ ps)) (Contains-append_left _ _ w.0 w.1) in
    none w.0 i (total done, (omega arith, omega arith), (omega (arith, w.2), omega (arith, w.3)))

-- the spans after one more piece
pub more : (done : List Piece) (p : Piece) → frame_spans 0 (done ++ p ∷ []) ≡ frame_spans 0 done
    ++ contents_of (total done + p.length) p.role
more done p = rw (contents-append 0 done (p ∷ []), append-nil, zero-add (total done)) refl

-- one piece more takes as much more
pub total-more : (done : List Piece) (p : Piece) → total (done ++ p ∷ []) ≡ total done + p.length
total-more done p = omega (arith, total-append done (p ∷ []))

-- a piece that opens nothing
pub goes_on : (done : List Piece) (p : Piece) (n m : ℕ)
    → contents_of (total done + p.length) p.role ≡ [] → IsOpen n done
    → p.length + m ≡ n ⊎ ((n ≡ 0) × (m ≡ 0)) → IsOpen m (done ++ p ∷ [])
goes_on done p n m e o way =
    let same : frame_spans 0 (done ++ p ∷ []) ≡ frame_spans 0 done =
    more done p ∙ rw e (append-nil (frame_spans 0 done)) in
    rw (same, total-more done p) (record {
      each = λ c i. elim way [
        | inl w ↦ elim (o.each c i) [
          | inl j ↦ inl (omega (arith, j))
          | inr j ↦ inr (omega (arith, j.0), omega (arith, j.1, w))
        ]
        | inr w ↦ inl (omega (arith, ends_within (total done) n (frame_spans 0 done) o c i, w.0))
      ];
      one = λ z. elim way [
        | inl w ↦ let x = o.one (omega (arith, w)) in
            (x.0, x.1, omega (arith, x.2), omega (arith, x.3, w))
        | inr w ↦ absurd (omega (arith, w.1))
      ];
    })

-- a FRAME where nothing is open
pub begins : (done : List Piece) (len m : ℕ) → IsOpen 0 done
    → IsOpen m (done ++ (piece len (frame m)) ∷ [])
begins done len m o =
    let p : Piece = piece len (frame m) in
    rw (more done p, total-more done p) (record {
      each = λ c i. elim (Contains-push_cases (frame_spans 0 done) _ c i) [
        | inl j ↦ inl (omega (arith, ends_within (total done) 0 (frame_spans 0 done) o c j))
        | inr e ↦ inr
            (omega (arith, ap (λ (s : Span). s.from) e), omega (arith, ap (λ (s : Span). s.to) e))
      ];
      one = λ z. (_, Contains-push (frame_spans 0 done) _, omega arith, refl);
    })

-- nothing open: each piece is framed, and goes on
pub accepts_shut : (done : List Piece) (p : Piece) (ps : List Piece) → IsOpen 0 done
    → IsFramed done p ps
accepts_shut done p ps o = record {
  whole = inr (meets_none done p ps o);
  frame = λ _. meets_none done p ps o;
  stop = λ _ c i. omega (arith, ends_within (total done) 0 (frame_spans 0 done) o c i);
}

-- what a piece opens where nothing was open
pub opens : (done : List Piece) (len : ℕ) (k : Role) → IsOpen 0 done
    → IsOpen (opened k) (done ++ (piece len k) ∷ [])
opens done len (frame m) o = begins done len m o
opens done len stop o = goes_on done _ 0 0 refl o (inr (refl, refl))
opens done len other o = goes_on done _ 0 0 refl o (inr (refl, refl))

-- a piece inside the open frame
pub lies_inside : (done : List Piece) (p : Piece) (n : ℕ) → IsOpen n done → 0 < n
    → p.length ≤ n → (c : Span) × Contains (frame_spans 0 done) c × LiesInside (span_after done p) c
lies_inside done p n o z w = let x = o.one z in (x.0, x.1, (omega (arith, x.2), omega (arith, x.3)))

-- inside a frame an accepted piece is framed, and the rule knows what stays open
pub accepts_open : (done : List Piece) (len : ℕ) (k : Role) (ps : List Piece) (n m : ℕ)
    → IsOpen n done → 0 < n → counted n (piece len k) ≡ Some m
    → IsFramed done (piece len k) ps × IsOpen m (done ++ (piece len k) ∷ [])
accepts_open done len (frame a) ps n m o z h = absurd (grind (arith, nat_tests))
accepts_open done len stop ps n m o z h =
    let e : (len ≡ n) × (m ≡ 0) = (grind (arith, nat_tests), grind (arith, nat_tests)) in (
      record {
        whole = inl
            (lies_inside done (piece len stop) n o z (omega (arith, e.0)));
        frame = λ i. absurd i;
        stop = λ _ c i. omega (arith, ends_within (total done) n (frame_spans 0 done) o c i, e.0);
      },
      goes_on done (piece len stop) n m refl o
          (inl (omega (arith, e.0, e.1))),
    )
accepts_open done len other ps n m o z h =
    let e : (len ≤ n) × (m ≡ n - len) = (grind (arith, nat_tests), grind (arith, nat_tests)) in (
      record {
        whole = inl
            (lies_inside done (piece len other) n o z (omega (arith, e.0)));
        frame = λ i. absurd i;
        stop = λ i. absurd i;
      },
      goes_on done (piece len other) n m refl o
          (inl (omega (arith, e.0, e.1))),
    )

-- an accepted piece is framed, and the rule knows what stays open
pub accepts : (done : List Piece) (len : ℕ) (k : Role) (ps : List Piece) (n m : ℕ)
    → IsOpen n done → counted n (piece len k) ≡ Some m
    → IsFramed done (piece len k) ps × IsOpen m (done ++ (piece len k) ∷ [])
accepts done len k ps n m o h = elim (cases_lt 0 n) [
  | inr le ↦
      let e : n ≡ 0 = omega arith in
      let o' : IsOpen 0 done = rw e at o in
      let e' : m ≡ opened k = grind (arith, nat_tests) in
      (accepts_shut done _ ps o', rw e' (opens done len k o'))
  | inl z ↦ accepts_open done len k ps n m o z h
]

-- a piece that is refused isn't framed
pub refuses_role : (done : List Piece) (len : ℕ) (k : Role) (ps : List Piece) (n : ℕ)
    → IsOpen n done → 0 < len → 0 < n → counted n (piece len k) ≡ None
    → IsFramed done (piece len k) ps → ⊥
refuses_role done len (frame a) ps n o l z h f = meets_one done _ ps n o z l (f.frame tt)
refuses_role done len stop ps n o l z h f = elim f.whole [
  | inl w ↦ let x = o.one z in let other : len ≡ n → ⊥ = λ s. grind (arith, nat_tests) in other
      (omega (
        arith,
        w.2,
        ends_within (total done) n (frame_spans 0 done) o w.0 w.1,
        f.stop tt x.0 x.1,
        x.3,
      ))
  | inr w ↦ meets_one done _ ps n o z l w
]
refuses_role done len other ps n o l z h f = elim f.whole [
  | inl w ↦ let long : n < len = grind (arith, nat_tests) in omega
      (arith, long, ends_within (total done) n (frame_spans 0 done) o w.0 w.1, w.2)
  | inr w ↦ meets_one done _ ps n o z l w
]

-- a refused piece is not framed
pub refuses : (done : List Piece) (len : ℕ) (k : Role) (ps : List Piece) (n : ℕ) → IsOpen n done
    → 0 < len → counted n (piece len k) ≡ None → IsFramed done (piece len k) ps → ⊥
refuses done len k ps n o l h = refuses_role done len k ps n o l (grind (arith, nat_tests)) h

-- what the rule says of the pieces that come after those done
pub record Rest (done ps : List Piece) : Type 0 where
  pub framed : (before : List Piece) (p : Piece) (after : List Piece) → ps ≡ before ++ p ∷ after
      → IsFramed (done ++ before) p after

-- the same up to the piece at k, which is not framed
pub record RestUntil (done ps : List Piece) (k : ℕ) : Type 0 where
  pub here : (before : List Piece) × (p : Piece) × (after : List Piece) × (ps ≡ before ++ p ∷ after)
      × (length before ≡ k) × (IsFramed (done ++ before) p after → ⊥)
  pub earlier : (before : List Piece) (p : Piece) (after : List Piece) → ps ≡ before ++ p ∷ after
      → length before < k → IsFramed (done ++ before) p after

abbrev pub Says : List Piece → List Piece → Option ℕ → Type 0
Says done ps r = MatchOption r (Rest done ps) (RestUntil done ps)

-- what is framed stays so by another name
pub head_framed : (done : List Piece) (p q : Piece) (ps after : List Piece) → p ∷ ps ≡ q ∷ after
    → IsFramed done p ps → IsFramed (done ++ []) q after
head_framed done p q ps after e f = let e1 : p ≡ q = cc in let e2 : ps ≡ after = cc in
    rw (append-nil done, ← e1, ← e2) f

-- the same of a piece further back
pub tail_framed : (done : List Piece) (p x q : Piece) (b after : List Piece) → p ≡ x
    → IsFramed ((done ++ p ∷ []) ++ b) q after → IsFramed (done ++ x ∷ b) q after
tail_framed done p x q b after e f =
    let e' : (done ++ p ∷ []) ++ b ≡ done ++ x ∷ b = append_assoc done (p ∷ []) b
    ∙ ap (λ (y : Piece). done ++ y ∷ b) e in
    rw (← e') f

-- where the first and all others are framed, each is
pub framed_more : (done : List Piece) (p : Piece) (ps : List Piece) → IsFramed done p ps
    → Rest (done ++ p ∷ []) ps → (before : List Piece) (q : Piece) (after : List Piece)
    → p ∷ ps ≡ before ++ q ∷ after → IsFramed (done ++ before) q after
framed_more done p ps f r [] q after e = head_framed done p q ps after e f
framed_more done p ps f r (x ∷ b) q after e =
    tail_framed done p x q b after (cc) (r.framed b q after (cc))

-- the same up to the first that is not
pub earlier_more : (done : List Piece) (p : Piece) (ps : List Piece) (k : ℕ) → IsFramed done p ps
    → RestUntil (done ++ p ∷ []) ps k → (before : List Piece) (q : Piece) (after : List Piece)
    → p ∷ ps ≡ before ++ q ∷ after → length before < k + 1 → IsFramed (done ++ before) q after
earlier_more done p ps k f r [] q after e l = head_framed done p q ps after e f
earlier_more done p ps k f r (x ∷ b) q after e l =
    tail_framed done p x q b after (cc) (r.earlier b q after (cc) (omega arith))

-- the first piece is framed, and the others are as the rule says
pub says_more : (done : List Piece) (p : Piece) (ps : List Piece) (r : Option ℕ)
    → IsFramed done p ps → Says (done ++ p ∷ []) ps r
    → Says done (p ∷ ps) (option_map (λ k. k + 1) r)
says_more done p ps None f s = record { framed = framed_more done p ps f s }
says_more done p ps (Some k) f s =
    let h = s.here in
    record {
      here = (
        p ∷ h.0,
        h.1,
        h.2,
        ap (λ (l : List Piece). p ∷ l) h.3,
        omega (arith, h.4),
        λ g. h.5 (rw (append_assoc done (p ∷ []) h.0) g),
      );
      earlier = earlier_more done p ps k f s;
    }

-- an empty list has no piece
pub none_at_end : (before : List Piece) (p : Piece) (after : List Piece) → [] ≡ before ++ p ∷ after
    → ⊥
none_at_end [] p after e = cc
none_at_end (x ∷ b) p after e = cc

-- the rule from one piece on, by its answer for that piece
pub says_after : (done : List Piece) (p : Piece) (ps : List Piece) (n : ℕ) (o : IsOpen n done) (l :
    0 < p.length) (r : Option ℕ) → counted n p ≡ r → ((done' : List Piece) (m : ℕ)
    → IsOpen m done' → Says done' ps (refused_at m ps))
    → Says done (p ∷ ps) (one_later r (λ m. refused_at m ps))
says_after done p ps n o l None h go = record {
  here = (
    [],
    p,
    ps,
    refl,
    refl,
    λ f. refuses done p.length p.role ps n o l h (rw (append-nil done) at f),
  );
  earlier = λ before q after e m. absurd (omega (arith, m));
}
says_after done p ps n o l (Some m) h go = let a = accepts done p.length p.role ps n m o h in
    says_more done p ps (refused_at m ps) a.0 (go (done ++ p ∷ []) m a.1)

-- the rule along a list
pub says_all : (done ps : List Piece) (n : ℕ) → IsOpen n done → All (λ p. 0 < p.length) ps
    → Says done ps (refused_at n ps)
says_all done [] n o l =
    record { framed = λ before p after e. absurd (none_at_end before p after e) }
says_all done (p ∷ ps) n o l = says_after done p ps n o (All-head (λ x. 0 < x.length) p ps l)
    (counted n p) refl (λ done' m o'. says_all done' ps m o' (All-tail (λ x. 0 < x.length) p ps l))

-- the rule from the start
pub from_start : (ps : List Piece) (r : Option ℕ) → Says [] ps r
    → MatchOption r (Framed ps) (FirstUnframed ps)
from_start ps None s = s.framed
from_start ps (Some k) s = record { here = s.here; earlier = s.earlier }

-- the law
pub counting_is_exact : CountingIsExact
counting_is_exact ps l =
    let o : Open 0 0 [] =
    record { each = λ c i. absurd (contains_none c i); one = λ z. absurd (omega (arith, z)) } in
    from_start ps (refused_at 0 ps) (says_all [] ps 0 o l)
