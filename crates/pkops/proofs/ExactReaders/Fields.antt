-- The readers of one field are exact.
use Rattle.std.proofs.Common.{◌≡◌, ◌≢◌, ℕ, zero, suc, ◌+◌, ◌-◌, ◌*◌, ◌/◌, ◌%◌, ◌^◌, ◌<◌, ◌≤◌, List}
use Rattle.std.proofs.Common.{[], ◌∷◌, ◌++◌, length, take, drop, replicate, Result, Ok, Err, refl}
use Rattle.std.proofs.Common.{sym, ap, subst, ◌∙◌, arith, inl, inr, take_at, drop_at}
use Rattle.std.proofs.Common.{take-append-drop, length-append, length-take, get_or-drop, append-nil}
use Rattle.std.proofs.Math.Nat.{div-div-eq-div-mul, pow-succ'}
use Rattle.std.proofs.lemmas.Bool.{cases_lt, lt-ltb, le-ltb}
use Rattle.std.specs.Int.{byte_at, bytes_low_first}
use Rattle.byteorder.specs.Endian.{little_bytes, little_number, little_from}
use Rattle.byteorder.specs.Numbers.{little_from-cons, little_from-lt, little_number-reads_back}
use Rattle.byteorder.specs.Numbers.{length-bytes_low_first}
use Rattle.pkops.specs.Private.FirstFaults.{bytes_at, number_at}
use Rattle.pkops.proofs.ExactReaders.Exact.{IsBytes, Lacks, Takes, IsExact, Fault, Unread, Short}
use Rattle.pkops.proofs.ExactReaders.Exact.{Bad}

pub IsBytes-drop : (n : ℕ) (bytes : List ℕ) → IsBytes bytes → IsBytes (drop n bytes)
IsBytes-drop n bytes h i = rw get_or-drop (h (n + i))

-- bytes, and then zeros
pub zeros_fit : (bytes : List ℕ) (n : ℕ) → IsBytes bytes → IsBytes (bytes ++ replicate n 0)
zeros_fit [] zero h i = h i
zeros_fit [] (suc n) h zero = omega arith
zeros_fit [] (suc n) h (suc i) = zeros_fit [] n h i
zeros_fit (x ∷ bytes) n h zero = h 0
zeros_fit (x ∷ bytes) n h (suc i) = zeros_fit bytes n (λ k. h (suc k)) i

pub length-zeros : (n : ℕ) → length {A = ℕ} (replicate n 0) ≡ n
length-zeros zero = refl
length-zeros (suc n) = ap suc (length-zeros n)

pub not_nil : (xs : List ℕ) → 0 < length xs → xs ≢ []
not_nil [] h e = omega arith
not_nil (x ∷ xs) h e = absurd cc

pub some_left : (xs : List ℕ) → xs ≢ [] → 0 < length xs
some_left [] h = absurd (h refl)
some_left (x ∷ xs) h = omega arith

-- ---- numbers

shift_at : (j x m : ℕ) → x < 256 → byte_at (suc j) (x + 256 * m) ≡ byte_at j m
shift_at zero x m h = let e : (x + 256 * m) / 256 ≡ m = omega arith in ap (λ (y : ℕ). y % 256) e
shift_at (suc j) x m h =
    let e : (x + 256 * m) / 256 ≡ m = omega arith in
    ap (λ (p : ℕ). (x + 256 * m) / p % 256) (pow-succ' 256 (suc j))
    ∙ ap (λ (y : ℕ). y % 256) (sym (div-div-eq-div-mul (x + 256 * m) 256 (256 ^ suc j)))
    ∙ ap (λ (y : ℕ). y / 256 ^ suc j % 256) e

shifted : (k j x m : ℕ) → x < 256 → bytes_low_first (suc j) k (x + 256 * m) ≡ bytes_low_first j k m
shifted zero j x m h = refl
shifted (suc k) j x m h = rw (shift_at j x m h, shifted k (suc j) x m h) refl

-- the bytes of the number that bytes read as
pub bytes_back : (n : ℕ) (bytes : List ℕ) → n ≤ length bytes → IsBytes bytes
    → bytes_low_first 0 n (little_from 0 n bytes) ≡ take n bytes
bytes_back zero bytes le h = refl
bytes_back (suc n) [] le h = absurd (omega arith)
bytes_back (suc n) (x ∷ bytes) le h =
    let small : x < 256 = h 0 in
    let m = little_from 0 n bytes in
    let low : (x + 256 * m) % 256 ≡ x = omega arith in
    let ih : bytes_low_first 0 n m ≡ take n bytes =
    bytes_back n bytes (omega arith) (λ i. h (suc i)) in
    rw (little_from-cons 0 n x bytes, low, shifted n 0 x m small, ih) refl

pub too_few : (n : ℕ) (bytes : List ℕ) → length bytes < n → number_at n bytes ≡ Err Short
too_few n bytes h = rw (lt-ltb _ _ h) refl

pub enough : (n : ℕ) (bytes : List ℕ) → n ≤ length bytes
    → number_at n bytes ≡ Ok (little_number n bytes, drop n bytes)
enough n bytes h = rw (le-ltb _ _ h) refl

abbrev ok : {A : Type 0} → A → Result A Unread
ok x = Ok x

pub ok_is : {A : Type 0} (x y : A) → ok x ≡ ok y → x ≡ y
ok_is x y e = cc

abbrev pub NoFault : Fault → List ℕ → Type 0
NoFault fault bytes = ⊥

number_takes : (n : ℕ) (bytes : List ℕ) (x : ℕ) (rest : List ℕ) → IsBytes bytes
    → number_at n bytes ≡ Ok (x, rest) → Takes (λ y. y < 256 ^ n) (little_bytes n) bytes x rest
number_takes n bytes x rest fits e =
    elim (cases_lt (length bytes) n) [
      | inl lt ↦ absurd (let f = too_few n bytes lt in cc)
      | inr le ↦
          let same = ok_is _ _ (sym (enough n bytes le) ∙ e) in
          let made : Takes (λ y. y < 256 ^ n) (little_bytes n) bytes (little_number n bytes)
          (drop n bytes) = record {
            is = little_from-lt 0 n bytes fits;
            parts = rw (bytes_back n bytes le fits) (sym (take-append-drop n bytes));
            rest_fits = IsBytes-drop n bytes fits;
          } in
          subst (λ (p : ℕ × List ℕ). Takes (λ y. y < 256 ^ n) (little_bytes n) bytes p.0 p.1) same
          made
    ]

number_again : (n x : ℕ) (rest : List ℕ) → x < 256 ^ n
    → number_at n (little_bytes n x ++ rest) ≡ Ok (x, rest)
number_again n x rest lt =
    let len = length-bytes_low_first 0 n x in
    let long : n ≤ length (little_bytes n x ++ rest) =
    omega (arith, length-append (little_bytes n x) rest) in
    enough n (little_bytes n x ++ rest) long
    ∙ rw (little_number-reads_back n x rest lt, drop_at (little_bytes n x) rest n len) refl

number_short : (n : ℕ) (bytes : List ℕ) → IsBytes bytes → number_at n bytes ≡ Err Short
    → Lacks (λ y _. y < 256 ^ n) (little_bytes n) bytes
number_short n bytes fits e =
    elim (cases_lt (length bytes) n) [
      | inr le ↦ absurd (let f = enough n bytes le in cc)
      | inl lt ↦
          let more = replicate (n - length bytes) 0 in
          let whole = bytes ++ more in
          let len : length whole ≡ n =
          omega (arith, length-append bytes more, length-zeros (n - length bytes)) in
          let all_fit = zeros_fit bytes (n - length bytes) fits in
          record {
            value = little_number n whole;
            more = more;
            may = little_from-lt 0 n whole all_fit;
            parts = bytes_back n whole (omega arith) all_fit
                ∙ (ap (λ (t : List ℕ). take n t) (sym (append-nil whole)) ∙ take_at whole [] n len);
            lacks = not_nil more (omega (arith, length-zeros (n - length bytes)));
          }
    ]

number_stays : (n : ℕ) (bytes : List ℕ) → Lacks (λ y _. y < 256 ^ n) (little_bytes n) bytes
    → number_at n bytes ≡ Err Short
number_stays n bytes h =
    too_few n bytes
    (omega (
      arith,
      length-bytes_low_first 0 n h.value,
      ap length h.parts,
      length-append bytes h.more,
      some_left h.more h.lacks,
    ))

number_bad : (n : ℕ) (bytes : List ℕ) (fault : Fault) → number_at n bytes ≡ Err (Bad fault) → ⊥
number_bad n bytes fault e =
    elim (cases_lt (length bytes) n) [
      | inl lt ↦ let f = too_few n bytes lt in
          cc
      | inr le ↦ let f = enough n bytes le in cc
    ]

pub number_exact : (n : ℕ) → IsExact (number_at n) (λ y. y < 256 ^ n) (λ y _. y < 256 ^ n)
    (little_bytes n) NoFault
number_exact n = record {
  takes = number_takes n;
  again = number_again n;
  short = number_short n;
  stays = number_stays n;
  bad = λ bytes fault fits e. number_bad n bytes fault e;
  faulty = λ bytes fault h. absurd h;
}

-- ---- so many bytes

pub few_bytes : (n : ℕ) (bytes : List ℕ) → length bytes < n → bytes_at n bytes ≡ Err Short
few_bytes n bytes h = rw (lt-ltb _ _ h) refl

pub many_bytes : (n : ℕ) (bytes : List ℕ) → n ≤ length bytes
    → bytes_at n bytes ≡ Ok (take n bytes, drop n bytes)
many_bytes n bytes h = rw (le-ltb _ _ h) refl

abbrev pub self : List ℕ → List ℕ
self text = text

pub bytes_takes : (n : ℕ) (bytes x rest : List ℕ) → IsBytes bytes → bytes_at n bytes ≡ Ok (x, rest)
    → Takes (λ y. length y ≡ n) self bytes x rest
bytes_takes n bytes x rest fits e =
    elim (cases_lt (length bytes) n) [
      | inl lt ↦ absurd (let f = few_bytes n bytes lt in cc)
      | inr le ↦
          let same = ok_is _ _ (sym (many_bytes n bytes le) ∙ e) in
          let made : Takes (λ y. length y ≡ n) self bytes (take n bytes) (drop n bytes) = record {
            is = omega (arith, length-take n bytes);
            parts = sym (take-append-drop n bytes);
            rest_fits = IsBytes-drop n bytes fits;
          } in
          subst (λ (p : List ℕ × List ℕ). Takes (λ y. length y ≡ n) self bytes p.0 p.1) same made
    ]

pub bytes_again : (n : ℕ) (x rest : List ℕ) → length x ≡ n → bytes_at n (x ++ rest) ≡ Ok (x, rest)
bytes_again n x rest len =
    let long : n ≤ length (x ++ rest) = omega (arith, length-append x rest) in
    many_bytes n (x ++ rest) long ∙ rw (take_at x rest n len, drop_at x rest n len) refl

bytes_short : (n : ℕ) (bytes : List ℕ) → bytes_at n bytes ≡ Err Short
    → Lacks (λ y _. length y ≡ n) self bytes
bytes_short n bytes e =
    elim (cases_lt (length bytes) n) [
      | inr le ↦ absurd (let f = many_bytes n bytes le in cc)
      | inl lt ↦
          let more = replicate (n - length bytes) 0 in
          record {
            value = bytes ++ more;
            more = more;
            may = omega (arith, length-append bytes more, length-zeros (n - length bytes));
            parts = refl;
            lacks = not_nil more (omega (arith, length-zeros (n - length bytes)));
          }
    ]

bytes_stays : (n : ℕ) (bytes : List ℕ) → Lacks (λ y _. length y ≡ n) self bytes
    → bytes_at n bytes ≡ Err Short
bytes_stays n bytes h =
    let e = h.may in
    few_bytes n bytes
    (omega (arith, e, ap length h.parts, length-append bytes h.more, some_left h.more h.lacks))

bytes_bad : (n : ℕ) (bytes : List ℕ) (fault : Fault) → bytes_at n bytes ≡ Err (Bad fault) → ⊥
bytes_bad n bytes fault e =
    elim (cases_lt (length bytes) n) [
      | inl lt ↦ let f = few_bytes n bytes lt in
          cc
      | inr le ↦ let f = many_bytes n bytes le in cc
    ]

pub bytes_exact : (n : ℕ) → IsExact (bytes_at n) (λ y. length y ≡ n)
    (λ y _. length y ≡ n) self NoFault
bytes_exact n = record {
  takes = bytes_takes n;
  again = bytes_again n;
  short = λ bytes fits e. bytes_short n bytes e;
  stays = bytes_stays n;
  bad = λ bytes fault fits e. bytes_bad n bytes fault e;
  faulty = λ bytes fault h. absurd h;
}

pub after_fits : (a rest : List ℕ) → IsBytes (a ++ rest) → IsBytes rest
after_fits [] rest h = h
after_fits (x ∷ a) rest h = after_fits a rest (λ i. h (suc i))
