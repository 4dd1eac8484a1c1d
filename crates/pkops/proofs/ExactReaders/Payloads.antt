-- The reader of a counted payload is exact.
use Rattle.std.proofs.Common.{◌≡◌, ℕ, zero, suc, ◌+◌, ◌-◌, ◌^◌, ◌<◌, ◌≤◌, Bool, true, false, List}
use Rattle.std.proofs.Common.{[], ◌∷◌, ◌++◌, length, take, drop, replicate, Result, Ok, Err, refl}
use Rattle.std.proofs.Common.{sym, ap, subst, ◌∙◌, append_assoc, arith, inl, inr, take_at, drop_at}
use Rattle.std.proofs.Common.{take-append-drop, length-append, append-nil}
use Rattle.std.proofs.Math.Nat.{pow-le-pow_right, pow-succ'}
use Rattle.std.proofs.lemmas.Bool.{cases_lt, lt-ltb, le-ltb, le-leb}
use Rattle.byteorder.specs.Endian.{little_bytes, little_number, little_from}
use Rattle.byteorder.specs.Numbers.{little_from-cons, little_number-reads_back}
use Rattle.byteorder.specs.Numbers.{length-bytes_low_first}
use Rattle.pkops.specs.declared.layout.Layout.TheVariants as layout
use Rattle.pkops.specs.declared.layout.Width.TheVariants.{One, Four, Eight}
use Rattle.pkops.specs.Spelling.{Width, size_of, count_limit}
use Rattle.pkops.specs.Private.FirstFaults.{bytes_at, payload_at}
use Rattle.pkops.proofs.ExactReaders.Exact.{ArgFault, IsBytes, IsExact, Lacks, Takes, Fault}
use Rattle.pkops.proofs.ExactReaders.Exact.{UnknownOpcode, BadArgument, TooLarge, Unread, Short}
use Rattle.pkops.proofs.ExactReaders.Exact.{Bad}
use Rattle.pkops.proofs.ExactReaders.Fields.{IsBytes-drop, not_nil, some_left, zeros_fit}
use Rattle.pkops.proofs.ExactReaders.Fields.{length-zeros, bytes_back, too_few, enough, few_bytes}
use Rattle.pkops.proofs.ExactReaders.Fields.{many_bytes, bytes_again, bytes_takes}
use Rattle.pkops.proofs.ExactReaders.Lines.{lt-leb}

-- bytes and then zeros read as a small number
zeros_are : (n : ℕ) → little_from 0 n (replicate n 0) ≡ 0
zeros_are zero = refl
zeros_are (suc n) = rw (little_from-cons 0 n 0 (replicate n 0), zeros_are n) refl

filled : (bytes : List ℕ) (n k : ℕ) → n ≡ length bytes + k → IsBytes bytes
    → little_from 0 n (bytes ++ replicate k 0) < 256 ^ length bytes
filled [] n k e h = let same : n ≡ k = omega arith in rw (same, zeros_are k) (omega arith)
filled (x ∷ bytes) zero k e h = absurd (omega arith)
filled (x ∷ bytes) (suc n) k e h =
    let ih = filled bytes n k (omega arith) (λ i. h (suc i)) in
    let small : x < 256 = h 0 in
    rw (little_from-cons 0 n x (bytes ++ replicate k 0), pow-succ' 256 (length bytes)) (omega arith)

powers : (k m : ℕ) → k ≤ m → 256 ^ k ≤ 256 ^ m
powers k m h = let base : 0 < 256 = omega arith in pow-le-pow_right base h

-- a count that lacks a byte may be filled up to one that is not negative
room : (size : Width) (signed : Bool) (k : ℕ) → k < size_of size → 256 ^ k ≤ count_limit size signed
room One true k h = let e : k ≡ 0 = omega arith in rw e (omega arith)
room One false k h = let e : k ≡ 0 = omega arith in rw e (omega arith)
room Four true k h = let small : k ≤ 3 = omega arith in let le : 256 ^ k ≤ 256 ^ 3 =
    powers k _ small in omega arith
room Four false k h = let small : k ≤ 3 = omega arith in let le : 256 ^ k ≤ 256 ^ 3 =
    powers k _ small in omega arith
room Eight true k h = let small : k ≤ 7 = omega arith in let le : 256 ^ k ≤ 256 ^ 7 =
    powers k _ small in omega arith
room Eight false k h = let small : k ≤ 7 = omega arith in let le : 256 ^ k ≤ 256 ^ 7 =
    powers k _ small in omega arith

pub limit_fits : (size : Width) (signed : Bool) → count_limit size signed ≤ 256 ^ size_of size
limit_fits One true = omega arith
limit_fits Four true = omega arith
limit_fits Eight true = omega arith
limit_fits size false = omega arith

pub record IsPayload (limit : ℕ) (size : Width) (signed : Bool) (payload : List ℕ) : Type 0 where
  pub fits : length payload < count_limit size signed
  pub within : length payload ≤ limit

pub record MayPayload (limit : ℕ) (size : Width) (signed : Bool)
    (payload bytes : List ℕ) : Type 0 where
  pub fits : length payload < count_limit size signed
  pub within : size_of size ≤ length bytes → length payload ≤ limit

abbrev pub counted : Width → List ℕ → List ℕ
counted size payload = little_bytes (size_of size) (length payload) ++ payload

module _ (limit : ℕ) (size : Width) (signed : Bool) (bytes : List ℕ) where
  abbrev pub count : ℕ
  count = little_number (size_of size) bytes

  abbrev pub after : List ℕ
  after = drop (size_of size) bytes

  abbrev pub read : Result (List ℕ × List ℕ) Unread
  read = payload_at limit size signed bytes

  pub no_count : length bytes < size_of size → read ≡ Err Short
  unfolding payload_at
  no_count lt = rw (too_few (size_of size) bytes lt) refl

  pub negative : size_of size ≤ length bytes → count_limit size signed ≤ count
      → read ≡ Err (Bad BadArgument)
  unfolding payload_at
  negative le over = rw (enough (size_of size) bytes le, le-leb _ _ over) refl

  pub large : size_of size ≤ length bytes → count < count_limit size signed → limit < count
      → read ≡ Err (Bad TooLarge)
  unfolding payload_at
  large le under over = rw (enough (size_of size) bytes le, lt-leb _ _ under, lt-ltb _ _ over) refl

  pub plain : size_of size ≤ length bytes → count < count_limit size signed → count ≤ limit
      → read ≡ bytes_at count after
  unfolding payload_at
  plain le under within = rw (enough (size_of size) bytes le, lt-leb _ _ under, le-ltb _ _ within)
      refl

  -- the four cases
  data Case : Type 0 where
    none : length bytes < size_of size → read ≡ Err Short → Case
    minus : size_of size ≤ length bytes → count_limit size signed ≤ count
        → read ≡ Err (Bad BadArgument) → Case
    much : size_of size ≤ length bytes → count < count_limit size signed → limit < count
        → read ≡ Err (Bad TooLarge) → Case
    fine : size_of size ≤ length bytes → count < count_limit size signed → count ≤ limit
        → read ≡ bytes_at count after → Case

  case : Case
  case = elim (cases_lt (length bytes) (size_of size)) [
    | inl lt ↦ none lt (no_count lt)
    | inr le ↦ elim (cases_lt count (count_limit size signed)) [
      | inr over ↦ minus le over (negative le over)
      | inl under ↦ elim (cases_lt limit count) [
        | inl over ↦ much le under over (large le under over)
        | inr within ↦ fine le under within (plain le under within)
      ]
    ]
  ]

  count_back : IsBytes bytes → size_of size ≤ length bytes
      → bytes ≡ little_bytes (size_of size) count ++ after
  count_back fits le = rw (bytes_back (size_of size) bytes le fits)
      (sym (take-append-drop (size_of size) bytes))

  payload_takes : (x rest : List ℕ) → IsBytes bytes → read ≡ Ok (x, rest)
      → Takes (IsPayload limit size signed) (counted size) bytes x rest
  payload_takes x rest fits e = elim case [
    | none lt f ↦ absurd cc
    | minus le over f ↦ absurd cc
    | much le under over f ↦ absurd cc
    | fine le under within f ↦
        let t = bytes_takes count after x rest (IsBytes-drop (size_of size) bytes fits)
        (sym f ∙ e) in
        let len = t.is in
        record {
          is = record { fits = omega arith; within = omega arith };
          parts = count_back fits le
              ∙ (ap (λ (r : List ℕ). little_bytes (size_of size) count ++ r) t.parts
              ∙ (ap (λ (n : ℕ). little_bytes (size_of size) n ++ (x ++ rest)) (sym len)
              ∙ sym (append_assoc (little_bytes (size_of size) (length x)) x rest)));
          rest_fits = t.rest_fits;
        }
  ]

  payload_short : IsBytes bytes → read ≡ Err Short
      → Lacks (MayPayload limit size signed) (counted size) bytes
  payload_short fits e = elim case [
    | minus le over f ↦ absurd cc
    | much le under over f ↦ absurd cc
    | none lt f ↦
        let k = size_of size - length bytes in
        let whole = bytes ++ replicate k 0 in
        let len : length whole ≡ size_of size = omega
        (arith, length-append bytes (replicate k 0), length-zeros k) in
        let n = little_number (size_of size) whole in
        let small = filled bytes (size_of size) k (omega arith) fits in
        let fits_limit = room size signed (length bytes) lt in
        let payload : List ℕ = replicate n 0 in
        let front : little_bytes (size_of size) n ≡ whole = bytes_back (size_of size) whole
        (omega arith) (zeros_fit bytes k fits)
        ∙ (ap (λ (t : List ℕ). take (size_of size) t) (sym (append-nil whole))
        ∙ take_at whole [] (size_of size) len) in
        record {
          value = payload;
          more = replicate k 0 ++ payload;
          may =
              record { fits = omega (arith, length-zeros n); within = λ le. absurd (omega arith) };
          parts = ap (λ (m : ℕ). little_bytes (size_of size) m ++ payload) (length-zeros n)
              ∙ (ap (λ (t : List ℕ). t ++ payload) front
              ∙ append_assoc bytes (replicate k 0) payload);
          lacks = not_nil (replicate k 0 ++ payload)
              (omega (arith, length-append (replicate k 0) payload, length-zeros k));
        }
    | fine le under within f ↦ elim (cases_lt (length after) count) [
      | inr long ↦ absurd (let g = many_bytes count after long in cc)
      | inl lt ↦
          let k = count - length after in
          let payload = after ++ replicate k 0 in
          let len : length payload ≡ count = omega
          (arith, length-append after (replicate k 0), length-zeros k) in
          record {
            value = payload;
            more = replicate k 0;
            may = record { fits = omega arith; within = λ _. omega arith };
            parts = ap (λ (m : ℕ). little_bytes (size_of size) m ++ payload) len
                ∙ (sym (append_assoc (little_bytes (size_of size) count) after (replicate k 0))
                ∙ ap (λ (t : List ℕ). t ++ replicate k 0) (sym (count_back fits le)));
            lacks = not_nil (replicate k 0) (omega (arith, length-zeros k));
          }
    ]
  ]

  payload_bad : (fault : Fault) → read ≡ Err (Bad fault)
      → ArgFault limit (layout.Counted size signed) fault bytes
  payload_bad fault e = elim case [
    | none lt f ↦ absurd cc
    | minus le over f ↦ let same : BadArgument ≡ fault = cc in
        subst (λ (d : Fault). ArgFault limit (layout.Counted size signed) d bytes) same (le, over)
    | much le under over f ↦ let same : TooLarge ≡ fault = cc in
        subst (λ (d : Fault). ArgFault limit (layout.Counted size signed) d bytes) same
        (le, under, over)
    | fine le under within f ↦ elim (cases_lt (length after) count) [
      | inl lt ↦ absurd (let g = few_bytes count after lt in cc)
      | inr long ↦ absurd (let g = many_bytes count after long in cc)
    ]
  ]

payload_faulty : (limit : ℕ) (size : Width) (signed : Bool) (bytes : List ℕ) (fault : Fault)
    → ArgFault limit (layout.Counted size signed) fault bytes
    → payload_at limit size signed bytes ≡ Err (Bad fault)
payload_faulty limit size signed bytes (UnknownOpcode code) h = absurd h
payload_faulty limit size signed bytes BadArgument h = negative limit size signed bytes h.0 h.1
payload_faulty limit size signed bytes TooLarge h = large limit size signed bytes h.0 h.1 h.2

payload_again : (limit : ℕ) (size : Width) (signed : Bool) (x rest : List ℕ)
    → IsPayload limit size signed x → payload_at limit size signed (counted size x ++ rest)
    ≡ Ok (x, rest)
payload_again limit size signed x rest h =
    let field = little_bytes (size_of size) (length x) in
    let whole = counted size x ++ rest in
    let grouped : whole ≡ field ++ (x ++ rest) = append_assoc field x rest in
    let len : length field ≡ size_of size = length-bytes_low_first 0 (size_of size) (length x) in
    let fits = h.fits in
    let within = h.within in
    let n_is : little_number (size_of size) whole
    ≡ length x = ap (little_number (size_of size)) grouped
    ∙ little_number-reads_back (size_of size) (length x) (x ++ rest)
    (omega (arith, limit_fits size signed)) in
    let rest_is : drop (size_of size) whole ≡ x ++ rest = ap (drop (size_of size)) grouped
    ∙ drop_at field (x ++ rest) (size_of size) len in
    plain limit size signed whole
    (omega (arith, ap length grouped, length-append field (x ++ rest))) (omega arith)
    (omega arith)
    ∙ (ap (λ (n : ℕ). bytes_at n (drop (size_of size) whole)) n_is
    ∙ (ap (bytes_at (length x)) rest_is ∙ bytes_again (length x) x rest refl))

-- where two ways to cut a list meet
pub cut : (a c b d : List ℕ) → a ++ c ≡ b ++ d → length a ≤ length b
    → (mid : List ℕ) × (b ≡ a ++ mid) × (c ≡ mid ++ d)
cut [] c b d e le = (b, refl, e)
cut (x ∷ a) c [] d e le = absurd (omega arith)
cut (x ∷ a) c (y ∷ b) d e le =
    let tails : a ++ c ≡ b ++ d = cc in
    let heads : x ≡ y = cc in
    let ih = cut a c b d tails (omega arith) in
    let first = ih.1 in
    (ih.0, cc, ih.2)

payload_stays : (limit : ℕ) (size : Width) (signed : Bool) (bytes : List ℕ)
    → Lacks (MayPayload limit size signed) (counted size) bytes
    → payload_at limit size signed bytes ≡ Err Short
payload_stays limit size signed bytes h =
    let field = little_bytes (size_of size) (length h.value) in
    let len : length field ≡ size_of size = length-bytes_low_first 0 (size_of size)
    (length h.value) in
    elim (cases_lt (length bytes) (size_of size)) [
      | inl lt ↦ no_count limit size signed bytes lt
      | inr le ↦
          let c = cut field h.value bytes h.more h.parts (omega arith) in
          let fits = h.may.fits in
          let within = h.may.within le in
          let n_is : little_number (size_of size) bytes
          ≡ length h.value = ap (little_number (size_of size)) c.1
          ∙ little_number-reads_back (size_of size) (length h.value) c.0
          (omega (arith, limit_fits size signed)) in
          let rest_is : drop (size_of size) bytes ≡ c.0 = ap (drop (size_of size)) c.1
          ∙ drop_at field c.0 (size_of size) len in
          plain limit size signed bytes le (omega arith) (omega arith)
          ∙ (ap (λ (n : ℕ). bytes_at n (drop (size_of size) bytes)) n_is
          ∙ (ap (bytes_at (length h.value)) rest_is
          ∙ few_bytes (length h.value) c.0
          (omega (arith, ap length c.2, length-append c.0 h.more, some_left h.more h.lacks))))
    ]

pub payload_exact : (limit : ℕ) (size : Width) (signed : Bool)
    → IsExact (payload_at limit size signed) (IsPayload limit size signed)
    (MayPayload limit size signed) (counted size) (ArgFault limit (layout.Counted size signed))
payload_exact limit size signed = record {
  takes = payload_takes limit size signed;
  again = payload_again limit size signed;
  short = payload_short limit size signed;
  stays = payload_stays limit size signed;
  bad = λ bytes fault fits e. payload_bad limit size signed bytes fault e;
  faulty = payload_faulty limit size signed;
}
