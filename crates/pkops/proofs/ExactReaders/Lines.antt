-- The reader of a line is exact.
use Rattle.std.proofs.Common.{◌≡◌, ◌≢◌, ℕ, zero, suc, ◌+◌, ◌<◌, ◌≤◌, true, false, leb, nat_eq, List}
use Rattle.std.proofs.Common.{[], ◌∷◌, ◌++◌, length, take, drop, Some, None, Ok, Err, refl, sym, ap}
use Rattle.std.proofs.Common.{subst, ◌∙◌, append_assoc, arith, inl, inr}
use Rattle.std.specs.Prelude.{position}
use Rattle.std.proofs.lemmas.Bool.{cases_lt, lt-ltb, le-ltb, le-leb, leb-true}
use Rattle.std.proofs.lemmas.List.{take_at, drop_at, length-append, take-append-le}
use Rattle.pkops.specs.declared.layout.Layout.TheVariants as layout
use Rattle.pkops.specs.Spelling.{IsLine}
use Rattle.pkops.specs.Private.FirstFaults.{line_at}
use Rattle.pkops.specs.Scans.{IsLong}
use Rattle.pkops.proofs.ExactReaders.LineEnds.{Clean, end_of, end_at, no_end, IsSplit, either_end}
use Rattle.pkops.proofs.ExactReaders.Exact.{ArgFault, IsBytes, IsExact, Lacks, Takes, Fault}
use Rattle.pkops.proofs.ExactReaders.Exact.{UnknownOpcode, BadArgument, TooLarge, Short, Bad}
use Rattle.pkops.proofs.ExactReaders.Fields.{after_fits, not_nil, some_left, ok_is}

pub lt-leb : (a b : ℕ) → b < a → leb a b ≡ false
lt-leb a b h = elim (leb a b) as (λ v. leb a b ≡ v
    → leb a b ≡ false) [
      | true ↦ λ e. absurd (let le = leb-true a b e in omega arith)
      | false ↦ λ e. e
    ] refl

Clean-take : (n : ℕ) (a : List ℕ) → Clean a → Clean (take n a)
Clean-take zero a h = tt
Clean-take (suc n) [] h = tt
Clean-take (suc n) (x ∷ a) h = (h.0, Clean-take n a h.1)

-- the bytes before an end are clean no further than to it
clean_to : (n : ℕ) (a rest : List ℕ) → Clean (take n (a ++ 10 ∷ rest)) → n ≤ length a
clean_to zero a rest h = omega arith
clean_to (suc n) [] rest h = absurd (h.0 refl)
clean_to (suc n) (x ∷ a) rest h = let ih = clean_to n a rest h.1 in omega arith

Clean-front : (a b : List ℕ) → Clean (a ++ b) → Clean a
Clean-front [] b h = tt
Clean-front (x ∷ a) b h = (h.0, Clean-front a b h.1)

abbrev pub line_text : List ℕ → List ℕ
line_text text = text ++ 10 ∷ []

module _ (most : ℕ) (bytes text rest : List ℕ) (s : IsSplit bytes text rest) where
  place_is : position (λ byte. nat_eq byte 10) bytes ≡ Some (length text)
  place_is =
      let e = s.place in
      let lt : end_of bytes < length bytes = omega (
        arith,
        e,
        ap length s.parts,
        length-append (line_text text) rest,
        length-append text (10 ∷ []),
      ) in
      rw (lt-ltb _ _ lt, e) refl

  bytes_is : bytes ≡ text ++ 10 ∷ rest
  bytes_is = s.parts ∙ append_assoc text (10 ∷ []) rest

  line_ends : length text ≤ most → line_at most bytes ≡ Ok (text, rest)
  unfolding line_at
  line_ends le =
      let front : take (length text) bytes ≡ text = ap (take (length text)) bytes_is
      ∙ take_at text (10 ∷ rest) (length text) refl in
      let back : drop (length text + 1) bytes ≡ rest = ap (drop (length text + 1)) s.parts
      ∙ drop_at (line_text text) rest (length text + 1) (length-append text (10 ∷ [])) in
      rw (place_is, le-leb _ _ le, front, back) refl

  line_over : most < length text → line_at most bytes ≡ Err (Bad TooLarge)
  unfolding line_at
  line_over lt = rw (place_is, lt-leb _ _ lt) refl

  over_is : most < length text → IsLong most bytes
  over_is lt = record {
    long = omega (arith, ap length bytes_is, length-append text (10 ∷ rest));
    endless = rw (bytes_is, take-append-le (most + 1) text (10 ∷ rest) (omega arith))
        (Clean-take (most + 1) text s.clean);
  }

  not_long : length text ≤ most → IsLong most bytes → ⊥
  not_long le h = let far : most + 1 ≤ length text =
      clean_to (most + 1) text rest (rw bytes_is at h.endless) in omega arith

module _ (most : ℕ) (bytes : List ℕ) (clean : Clean bytes) where
  no_place : position (λ byte. nat_eq byte 10) bytes ≡ None
  no_place = let e = no_end bytes clean in rw (le-ltb (end_of bytes) (length bytes) (omega arith))
      refl

  line_short : length bytes ≤ most → line_at most bytes ≡ Err Short
  unfolding line_at
  line_short le = rw (no_place, le-leb _ _ le) refl

  line_long : most < length bytes → line_at most bytes ≡ Err (Bad TooLarge)
  unfolding line_at
  line_long lt = rw (no_place, lt-leb _ _ lt) refl

line_takes : (most : ℕ) (bytes x rest : List ℕ) → IsBytes bytes → line_at most bytes ≡ Ok (x, rest)
    → Takes (IsLine most) line_text bytes x rest
line_takes most bytes x rest fits e =
    elim (either_end bytes) [
      | inr clean ↦ elim (cases_lt most (length bytes)) [
        | inl lt ↦ absurd (let f = line_long most bytes clean lt in cc)
        | inr le ↦ absurd (let f = line_short most bytes clean le in cc)
      ]
      | inl s ↦ elim (cases_lt most (length s.0)) [
        | inl lt ↦ absurd (let f = line_over most bytes s.0 s.1 s.2 lt in cc)
        | inr le ↦
            let same = ok_is _ _ (sym (line_ends most bytes s.0 s.1 s.2 le) ∙ e) in
            let made : Takes (IsLine most) line_text bytes s.0 s.1 = record {
              is = record { short = le; whole = s.2.clean };
              parts = s.2.parts;
              rest_fits = after_fits (line_text s.0) s.1 (rw s.2.parts at fits);
            } in
            subst (λ (p : List ℕ × List ℕ). Takes (IsLine most) line_text bytes p.0 p.1) same made
      ]
    ]

line_again : (most : ℕ) (x rest : List ℕ) → IsLine most x
    → line_at most (line_text x ++ rest) ≡ Ok (x, rest)
line_again most x rest h =
    line_ends most (line_text x ++ rest) x rest
    (record {
      clean = h.whole;
      parts = refl;
      place = ap end_of (append_assoc x (10 ∷ []) rest) ∙ end_at x rest h.whole;
    }) h.short

line_lacks : (most : ℕ) (bytes : List ℕ) → line_at most bytes ≡ Err Short
    → Lacks (λ y _. IsLine most y) line_text bytes
line_lacks most bytes e =
    elim (either_end bytes) [
      | inl s ↦ elim (cases_lt most (length s.0)) [
        | inl lt ↦ absurd (let f = line_over most bytes s.0 s.1 s.2 lt in cc)
        | inr le ↦ absurd (let f = line_ends most bytes s.0 s.1 s.2 le in cc)
      ]
      | inr clean ↦ elim (cases_lt most (length bytes)) [
        | inl lt ↦ absurd (let f = line_long most bytes clean lt in cc)
        | inr le ↦ record {
          value = bytes;
          more = 10 ∷ [];
          may = record { short = le; whole = clean };
          parts = refl;
          lacks = not_nil (10 ∷ []) (omega arith);
        }
      ]
    ]

-- a front of a line that isn't the whole of it has no end
front_of_line : (text bytes more : List ℕ) → text ++ 10 ∷ [] ≡ bytes ++ more → more ≢ []
    → (rest : List ℕ) × (text ≡ bytes ++ rest)
front_of_line text [] more e h = (text, refl)
front_of_line [] (x ∷ bytes) more e h = absurd
    (let lens = ap length e in let some = some_left more h in
    omega (arith, length-append bytes more))
front_of_line (y ∷ text) (x ∷ bytes) more e h =
    let tails : text ++ 10 ∷ [] ≡ bytes ++ more = cc in
    let ih = front_of_line text bytes more tails h in
    let heads : y ≡ x = cc in
    (ih.0, let f = ih.1 in cc)

line_stays : (most : ℕ) (bytes : List ℕ) → Lacks (λ y _. IsLine most y) line_text bytes
    → line_at most bytes ≡ Err Short
line_stays most bytes h =
    let f = front_of_line h.value bytes h.more h.parts h.lacks in
    line_short most bytes (Clean-front bytes f.0 (rw f.1 at h.may.whole))
    (let s = h.may.short in omega (arith, ap length f.1, length-append bytes f.0))

line_bad : (limit most : ℕ) (bytes : List ℕ) (fault : Fault)
    → line_at most bytes ≡ Err (Bad fault) → ArgFault limit (layout.Line most) fault bytes
line_bad limit most bytes fault e =
    let found : IsLong most bytes → line_at most bytes ≡ Err (Bad TooLarge)
    → ArgFault limit (layout.Line most) fault bytes = λ long f. let same : TooLarge ≡ fault = cc in
    subst (λ (d : Fault). ArgFault limit (layout.Line most) d bytes) same long in
    elim (either_end bytes) [
      | inl s ↦ elim (cases_lt most (length s.0)) [
        | inl lt ↦ found (over_is most bytes s.0 s.1 s.2 lt) (line_over most bytes s.0 s.1 s.2 lt)
        | inr le ↦ absurd (let f = line_ends most bytes s.0 s.1 s.2 le in cc)
      ]
      | inr clean ↦ elim (cases_lt most (length bytes)) [
        | inl lt ↦ found (record { long = lt; endless = Clean-take (most + 1) bytes clean })
            (line_long most bytes clean lt)
        | inr le ↦ absurd (let f = line_short most bytes clean le in cc)
      ]
    ]

line_faulty : (limit most : ℕ) (bytes : List ℕ) (fault : Fault)
    → ArgFault limit (layout.Line most) fault bytes → line_at most bytes ≡ Err (Bad fault)
line_faulty limit most bytes (UnknownOpcode code) h = absurd h
line_faulty limit most bytes BadArgument h = absurd h
line_faulty limit most bytes TooLarge h =
    elim (either_end bytes) [
      | inl s ↦ elim (cases_lt most (length s.0)) [
        | inl lt ↦ line_over most bytes s.0 s.1 s.2 lt
        | inr le ↦ absurd (not_long most bytes s.0 s.1 s.2 le h)
      ]
      | inr clean ↦ line_long most bytes clean h.long
    ]

pub line_exact : (limit most : ℕ) → IsExact (line_at most) (IsLine most) (λ y _. IsLine most y)
    line_text (ArgFault limit (layout.Line most))
line_exact limit most = record {
  takes = line_takes most;
  again = line_again most;
  short = λ bytes fits e. line_lacks most bytes e;
  stays = line_stays most;
  bad = λ bytes fault fits e. line_bad limit most bytes fault e;
  faulty = line_faulty limit most;
}
