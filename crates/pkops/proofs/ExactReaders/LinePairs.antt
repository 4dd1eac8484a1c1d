-- The reader of two lines is exact.
use Rattle.std.proofs.Common.{◌≡◌, ◌⊎◌, ℕ, ◌<◌, List, [], ◌++◌, length, Result, Ok, Err, refl, sym}
use Rattle.std.proofs.Common.{ap, subst, ◌∙◌, append_assoc, arith, inl, inr, length-append}
use Rattle.std.proofs.lemmas.Bool.{cases_lt}
use Rattle.pkops.specs.declared.layout.Layout.TheVariants as layout
use Rattle.pkops.specs.Spelling.{IsLine}
use Rattle.pkops.specs.Private.FirstFaults.{◌>>=◌, line_at, pair_at}
use Rattle.pkops.proofs.ExactReaders.Exact.{ArgFault, IsBytes, IsExact, Lacks, Takes, Fault}
use Rattle.pkops.proofs.ExactReaders.Exact.{UnknownOpcode, BadArgument, TooLarge, Unread, Short}
use Rattle.pkops.proofs.ExactReaders.Exact.{Bad}
use Rattle.pkops.proofs.ExactReaders.Fields.{ok_is, not_nil}
use Rattle.pkops.proofs.ExactReaders.Lines.{line_text, line_exact}
use Rattle.pkops.proofs.ExactReaders.Payloads.{cut}

-- the value of a step that did not fail, and the fault of one that did
pub bind_ok : {A B : Type 0} (r : Result A Unread) (f : A → Result B Unread) (y : B)
    → (r >>= f) ≡ Ok y → (x : A) × (r ≡ Ok x) × (f x ≡ Ok y)
bind_ok (Ok x) f y e = (x, refl, e)
bind_ok (Err d) f y e = absurd cc

pub bind_err : {A B : Type 0} (r : Result A Unread) (f : A → Result B Unread) (d : Unread)
    → (r >>= f) ≡ Err d → (r ≡ Err d) ⊎ ((x : A) × (r ≡ Ok x) × (f x ≡ Err d))
bind_err (Ok x) f d e = inr (x, refl, e)
bind_err (Err d') f d e = inl (let same : d' ≡ d = cc in cc)

abbrev pub pair_text : List ℕ × List ℕ → List ℕ
pair_text p = line_text p.0 ++ line_text p.1

abbrev pub IsPair : ℕ → List ℕ × List ℕ → Type 0
IsPair most p = IsLine most p.0 × IsLine most p.1

module _ (limit most : ℕ) where
  abbrev end : List ℕ → List ℕ × List ℕ → Result ((List ℕ × List ℕ) × List ℕ) Unread
  end first second = Ok ((first, second.0), second.1)

  abbrev then : List ℕ × List ℕ → Result ((List ℕ × List ℕ) × List ℕ) Unread
  then first = line_at most first.1 >>= end first.0

  pair_takes : (bytes : List ℕ) (x : List ℕ × List ℕ) (rest : List ℕ) → IsBytes bytes
      → pair_at most bytes ≡ Ok (x, rest) → Takes (IsPair most) pair_text bytes x rest
  pair_takes bytes x rest fits e =
      let a = bind_ok (line_at most bytes) then (x, rest) e in
      let b = bind_ok (line_at most a.0.1) (end a.0.0) (x, rest) a.2 in
      let s = (line_exact limit most).takes bytes a.0.0 a.0.1 fits a.1 in
      let t = (line_exact limit most).takes a.0.1 b.0.0 b.0.1 s.rest_fits b.1 in
      let made : Takes (IsPair most) pair_text bytes (a.0.0, b.0.0) b.0.1 = record {
        is = (s.is, t.is);
        parts = s.parts
            ∙ (ap (λ (r : List ℕ). line_text a.0.0 ++ r) t.parts
            ∙ sym (append_assoc (line_text a.0.0) (line_text b.0.0) b.0.1));
        rest_fits = t.rest_fits;
      } in
      subst (λ (p : (List ℕ × List ℕ) × List ℕ). Takes (IsPair most) pair_text bytes p.0 p.1)
      (ok_is ((a.0.0, b.0.0), b.0.1) (x, rest) b.2) made

  first_read : (bytes first rest : List ℕ) → IsLine most first → bytes ≡ line_text first ++ rest
      → pair_at most bytes ≡ (line_at most rest >>= end first)
  first_read bytes first rest h e = ap (pair_at most) e
      ∙ rw ((line_exact limit most).again first rest h) refl

  pair_again : (x : List ℕ × List ℕ) (rest : List ℕ) → IsPair most x
      → pair_at most (pair_text x ++ rest) ≡ Ok (x, rest)
  pair_again x rest h =
      first_read (pair_text x ++ rest) x.0 (line_text x.1 ++ rest) h.0
      (append_assoc (line_text x.0) (line_text x.1) rest)
      ∙ rw ((line_exact limit most).again x.1 rest h.1) refl

  empty_line : IsLine most []
  empty_line = record { short = omega arith; whole = tt }

  pair_short : (bytes : List ℕ) → IsBytes bytes → pair_at most bytes ≡ Err Short
      → Lacks (λ x _. IsPair most x) pair_text bytes
  pair_short bytes fits e = elim (bind_err (line_at most bytes) then Short e) [
    | inl f ↦
        let l = (line_exact limit most).short bytes fits f in
        record {
          value = (l.value, []);
          more = l.more ++ line_text [];
          may = (l.may, empty_line);
          parts = ap (λ (t : List ℕ). t ++ line_text []) l.parts
              ∙ append_assoc bytes l.more (line_text []);
          lacks =
              not_nil (l.more ++ line_text []) (omega (arith, length-append l.more (line_text [])));
        }
    | inr f ↦ elim (bind_err (line_at most f.0.1) (end f.0.0) Short f.2) [
      | inl g ↦
          let s = (line_exact limit most).takes bytes f.0.0 f.0.1 fits f.1 in
          let l = (line_exact limit most).short f.0.1 s.rest_fits g in
          record {
            value = (f.0.0, l.value);
            more = l.more;
            may = (s.is, l.may);
            parts = ap (λ (t : List ℕ). line_text f.0.0 ++ t) l.parts
                ∙ (sym (append_assoc (line_text f.0.0) f.0.1 l.more)
                ∙ ap (λ (t : List ℕ). t ++ l.more) (sym s.parts));
            lacks = l.lacks;
          }
      | inr g ↦ absurd (let h = g.2 in cc)
    ]
  ]

  pair_stays : (bytes : List ℕ) → Lacks (λ x _. IsPair most x) pair_text bytes
      → pair_at most bytes ≡ Err Short
  pair_stays bytes h = elim (cases_lt (length bytes) (length (line_text h.value.0))) [
    | inl lt ↦
        let c = cut bytes h.more (line_text h.value.0) (line_text h.value.1) (sym h.parts)
        (omega arith) in
        let some : 0 < length c.0 = omega (arith, ap length c.1, length-append bytes c.0) in
        let f = (line_exact limit most).stays bytes
        (record {
          value = h.value.0;
          more = c.0;
          may = h.may.0;
          parts = c.1;
          lacks = not_nil c.0 some;
        }) in
        rw f refl
    | inr le ↦
        let c = cut (line_text h.value.0) (line_text h.value.1) bytes h.more h.parts le in
        let f = (line_exact limit most).stays c.0
        (record {
          value = h.value.1;
          more = h.more;
          may = h.may.1;
          parts = c.2;
          lacks = h.lacks;
        }) in
        first_read bytes h.value.0 c.0 h.may.0 c.1 ∙ rw f refl
  ]

  first_fault : (fault : Fault) (bytes : List ℕ) → ArgFault limit (layout.Line most) fault bytes
      → ArgFault limit (layout.Pair most) fault bytes
  first_fault (UnknownOpcode code) bytes h = h
  first_fault BadArgument bytes h = h
  first_fault TooLarge bytes h = inl h

  second_fault : (fault : Fault) (bytes first after : List ℕ) → IsLine most first
      → bytes ≡ line_text first ++ after → ArgFault limit (layout.Line most) fault after
      → ArgFault limit (layout.Pair most) fault bytes
  second_fault (UnknownOpcode code) bytes first after is e h = h
  second_fault BadArgument bytes first after is e h = h
  second_fault TooLarge bytes first after is e h = inr (first, after, is, e, h)

  pair_bad : (bytes : List ℕ) (fault : Fault) → IsBytes bytes → pair_at most bytes ≡ Err (Bad fault)
      → ArgFault limit (layout.Pair most) fault bytes
  pair_bad bytes fault fits e = elim (bind_err (line_at most bytes) then (Bad fault) e) [
    | inl f ↦ first_fault fault bytes ((line_exact limit most).bad bytes fault fits f)
    | inr f ↦ elim (bind_err (line_at most f.0.1) (end f.0.0) (Bad fault) f.2) [
      | inl g ↦
          let s = (line_exact limit most).takes bytes f.0.0 f.0.1 fits f.1 in
          second_fault fault bytes f.0.0 f.0.1 s.is s.parts
          ((line_exact limit most).bad f.0.1 fault s.rest_fits g)
      | inr g ↦ absurd (let h = g.2 in cc)
    ]
  ]

  pair_faulty : (bytes : List ℕ) (fault : Fault) → ArgFault limit (layout.Pair most) fault bytes
      → pair_at most bytes ≡ Err (Bad fault)
  pair_faulty bytes (UnknownOpcode code) h = absurd h
  pair_faulty bytes BadArgument h = absurd h
  pair_faulty bytes TooLarge h = elim h [
    | inl long ↦ rw ((line_exact limit most).faulty bytes TooLarge long) refl
    | inr s ↦ first_read bytes s.0 s.1 s.2 s.3
        ∙ rw ((line_exact limit most).faulty s.1 TooLarge s.4) refl
  ]

  pub pair_exact : IsExact (pair_at most) (IsPair most) (λ x _. IsPair most x) pair_text
      (ArgFault limit (layout.Pair most))
  pair_exact = record {
    takes = pair_takes;
    again = pair_again;
    short = pair_short;
    stays = pair_stays;
    bad = pair_bad;
    faulty = pair_faulty;
  }
