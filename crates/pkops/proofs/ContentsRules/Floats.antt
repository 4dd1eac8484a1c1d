-- The test of floats holds exactly of the lines of the grammar.
use Rattle.std.proofs.Common.{◌≡◌, ℕ, suc, ◌+◌, ◌-◌, ◌<◌, Bool, true, false, ◌||◌, eqb, nat_lt}
use Rattle.std.proofs.Common.{position, not, List, [], ◌∷◌, ◌++◌, length, take, drop, Some, None}
use Rattle.std.proofs.Common.{refl, sym, ap, ◌∙◌, arith, inl, inr}
use Rattle.std.specs.List.{list_all, position_or_len}
use Rattle.std.specs.Char.{is_ascii_digit}
use Rattle.std.proofs.lemmas.Bool.{and_parts, and_from, or_cases, cases_Bool, eqb-true, ltb-false}
use Rattle.std.proofs.lemmas.Bool.{both_ways}
use Rattle.std.proofs.lemmas.List.{take_rest, nil_from_length, length-drop}
use Rattle.std.proofs.lemmas.List.Sums.{AllPass-from_list_all, list_all-from_AllPass}
use Rattle.pkops.specs.Floats.{IsDigits, IsFraction, IsSign, IsExponent, Optional, IsDecimal}
use Rattle.pkops.specs.Floats.{IsUnsigned, IsFloatLine}
use Rattle.pkops.specs.RuleTests.{starts_with_digit, after_digits, is_digits, is_signed_digits}
use Rattle.pkops.specs.RuleTests.{is_exponent_or_end, is_after_whole, is_decimal, is_word}
use Rattle.pkops.specs.RuleTests.{is_unsigned, is_float_line}
use Rattle.pkops.proofs.ContentsRules.Numerals.{or_right}

-- ---- digits at the front

abbrev no_digit : ℕ → Bool
no_digit byte = not (is_ascii_digit byte)

dropped : (text : List ℕ) → drop (position_or_len no_digit text) text ≡ after_digits text
dropped [] = refl
dropped (x ∷ text) = elim (cases_Bool (is_ascii_digit x)) [
  | inl d ↦
      let n = position_or_len no_digit text in
      let next : 1 + n ≡ suc n = omega arith in
      rw d (ap (λ (k : ℕ). drop k (x ∷ text)) next ∙ dropped text)
  | inr n ↦ rw n refl
]

pub after_end : (text : List ℕ) (end : ℕ) → position no_digit text ≡ Some end
    → take (length text - end) (drop end text) ≡ after_digits text
after_end text end e = take_rest text end
    ∙ elim (cases_Bool (nat_lt (position_or_len no_digit text) (length text))) [
      | inl lt ↦ let is : position_or_len no_digit text ≡ end = (let f = rw lt at e in cc) in
          ap (λ (n : ℕ). drop n text) (sym is) ∙ dropped text
      | inr ge ↦ absurd (let f = rw ge at e in cc)
    ]

pub no_end : (text : List ℕ) → position no_digit text ≡ None → [] ≡ after_digits text
no_end text e = elim (cases_Bool (nat_lt (position_or_len no_digit text) (length text))) [
  | inl lt ↦ absurd (let f = rw lt at e in cc)
  | inr ge ↦
      let none : drop (position_or_len no_digit text) text
      ≡ [] = nil_from_length _
      (omega (arith, length-drop (position_or_len no_digit text) text, ltb-false _ _ ge)) in
      sym none ∙ dropped text
]

-- text is digits and then what is after them
record IsCut (text : List ℕ) : Type 0 where
  front : List ℕ
  digits : list_all is_ascii_digit front ≡ true
  parts : text ≡ front ++ after_digits text
  some : starts_with_digit text ≡ true → 0 < length front

cut : (text : List ℕ) → IsCut text
cut [] = record { front = []; digits = refl; parts = refl; some = λ e. absurd cc }
cut (x ∷ text) = elim (cases_Bool (is_ascii_digit x)) [
  | inl d ↦
      let c = cut text in
      record {
        front = x ∷ c.front;
        digits = and_from _ _ d c.digits;
        parts = rw d (ap (λ (t : List ℕ). x ∷ t) c.parts);
        some = λ e. omega arith;
      }
  | inr n ↦ record {
    front = [];
    digits = refl;
    parts = rw n refl;
    some = λ e. absurd (both_ways _ n e);
  }
]

digits_of : (text : List ℕ) (some : starts_with_digit text ≡ true) → IsDigits (cut text).front
digits_of text some =
    let c = cut text in
    record { some = c.some some; digits = AllPass-from_list_all is_ascii_digit c.front c.digits }

-- digits are passed over, up to what starts with none
passed : (digits rest : List ℕ) → list_all is_ascii_digit digits ≡ true
    → starts_with_digit rest ≡ false → after_digits (digits ++ rest) ≡ rest
passed [] [] h stops = refl
passed [] (x ∷ rest) h stops = rw stops refl
passed (x ∷ digits) rest h stops =
    let p = and_parts (is_ascii_digit x) (list_all is_ascii_digit digits) h in
    rw p.0 (passed digits rest p.1 stops)

starts : (digits rest : List ℕ) → 0 < length digits → list_all is_ascii_digit digits ≡ true
    → starts_with_digit (digits ++ rest) ≡ true
starts [] rest some h = absurd (omega arith)
starts (x ∷ digits) rest some h =
    (and_parts (is_ascii_digit x) (list_all is_ascii_digit digits) h).0

all_of : (digits : List ℕ) → IsDigits digits → list_all is_ascii_digit digits ≡ true
all_of digits h = list_all-from_AllPass is_ascii_digit digits h.digits

-- ---- the exponent

is_digits_is : (text : List ℕ) → is_digits text ≡ true → IsDigits text
is_digits_is [] e = absurd cc
is_digits_is (x ∷ text) e =
    let p = and_parts (is_ascii_digit x) _ e in
    record { some = omega arith; digits = AllPass-from_list_all is_ascii_digit (x ∷ text) p.1 }

is_digits_of : (text : List ℕ) → IsDigits text → is_digits text ≡ true
is_digits_of [] h = absurd (let some = h.some in omega arith)
is_digits_of (x ∷ text) h = let all = all_of (x ∷ text) h in
    and_from (is_ascii_digit x) (list_all is_ascii_digit (x ∷ text))
    (and_parts (is_ascii_digit x) (list_all is_ascii_digit text) all).0 all

sign_is : (sign : ℕ) → (eqb sign 43 || eqb sign 45) ≡ true → IsSign (sign ∷ [])
sign_is sign e = elim (or_cases (eqb sign 43) (eqb sign 45) e) [
  | inl p ↦ inl (ap (λ (s : ℕ). s ∷ []) (eqb-true sign 43 p))
  | inr m ↦ inr (ap (λ (s : ℕ). s ∷ []) (eqb-true sign 45 m))
]

exponent_is : (text : List ℕ) → is_exponent_or_end text ≡ true → Optional IsExponent text
exponent_is [] e = inl refl
exponent_is (x ∷ []) e = absurd (let p = and_parts (eqb x 101) false e in let f = p.1 in cc)
exponent_is (x ∷ sign ∷ digits) e =
    let p = and_parts (eqb x 101) (is_signed_digits (sign ∷ digits)) e in
    let q = and_parts (eqb sign 43 || eqb sign 45) (is_digits digits) p.1 in
    inr (
      sign ∷ [],
      digits,
      sign_is sign q.0,
      is_digits_is digits q.1,
      ap (λ (y : ℕ). y ∷ sign ∷ digits) (eqb-true x 101 p.0),
    )

signed_of : (sign digits : List ℕ) → IsSign sign → IsDigits digits
    → is_signed_digits (sign ++ digits) ≡ true
signed_of sign digits (inl e) d = ap (λ (s : List ℕ). is_signed_digits (s ++ digits)) e
    ∙ is_digits_of digits d
signed_of sign digits (inr e) d = ap (λ (s : List ℕ). is_signed_digits (s ++ digits)) e
    ∙ is_digits_of digits d

exponent_of : (text : List ℕ) → Optional IsExponent text → (is_exponent_or_end text ≡ true)
    × (starts_with_digit text ≡ false)
exponent_of text (inl e) = (ap is_exponent_or_end e, ap starts_with_digit e)
exponent_of text (inr (sign, digits, s, d, e)) =
    (ap is_exponent_or_end e ∙ signed_of sign digits s d, ap starts_with_digit e)

-- ---- the fraction

-- what follows the digits before the point: a fraction and an exponent, each or not
record IsTail (text : List ℕ) : Type 0 where
  fraction : List ℕ
  exponent : List ℕ
  fraction_is : Optional IsFraction fraction
  exponent_is : Optional IsExponent exponent
  parts : text ≡ fraction ++ exponent

tail_is : (text : List ℕ) → is_after_whole text ≡ true → IsTail text
tail_is [] e = record {
  fraction = [];
  exponent = [];
  fraction_is = inl refl;
  exponent_is = inl refl;
  parts = refl;
}
tail_is (x ∷ rest) e = elim (cases_Bool (eqb x 46)) [
  | inl point ↦
      let p = and_parts (starts_with_digit rest) (is_exponent_or_end (after_digits rest))
      (rw point at e) in
      let c = cut rest in
      record {
        fraction = 46 ∷ c.front;
        exponent = after_digits rest;
        fraction_is = inr (c.front, digits_of rest p.0, refl);
        exponent_is = exponent_is (after_digits rest) p.1;
        parts = ap (λ (y : ℕ). y ∷ rest) (eqb-true x 46 point)
            ∙ ap (λ (t : List ℕ). 46 ∷ t) c.parts;
      }
  | inr other ↦ record {
    fraction = [];
    exponent = x ∷ rest;
    fraction_is = inl refl;
    exponent_is = exponent_is (x ∷ rest) (rw other at e);
    parts = refl;
  }
]

-- an exponent, or nothing, is no fraction
only_exponent : (text : List ℕ) → Optional IsExponent text → is_after_whole text ≡ true
only_exponent text (inl e) = ap is_after_whole e
only_exponent text (inr (sign, digits, s, d, e)) = ap is_after_whole e ∙ signed_of sign digits s d

tail_of : (fraction exponent : List ℕ) → Optional IsFraction fraction → Optional IsExponent exponent
    → (is_after_whole (fraction ++ exponent) ≡ true)
    × (starts_with_digit (fraction ++ exponent) ≡ false)
tail_of fraction exponent (inl e) x =
    let same : fraction ++ exponent ≡ exponent = ap (λ (f : List ℕ). f ++ exponent) e in (
      ap is_after_whole same ∙ only_exponent exponent x,
      ap starts_with_digit same ∙ (exponent_of exponent x).1,
    )
tail_of fraction exponent (inr (digits, d, e)) x =
    let same : fraction ++ exponent ≡ 46 ∷ (digits ++ exponent) =
    ap (λ (f : List ℕ). f ++ exponent) e in
    let y = exponent_of exponent x in
    let all = all_of digits d in
    let after : after_digits (digits ++ exponent) ≡ exponent = passed digits exponent all y.1 in (
      ap is_after_whole same ∙ and_from _ _ (starts digits exponent d.some all)
          (ap is_exponent_or_end after ∙ y.0),
      ap starts_with_digit same,
    )

-- ---- the whole

decimal_is : (text : List ℕ) → is_decimal text ≡ true → IsDecimal text
decimal_is text e =
    let p = and_parts (starts_with_digit text) _ e in
    let c = cut text in
    let t = tail_is (after_digits text) p.1 in
    record {
      whole = c.front;
      fraction = t.fraction;
      exponent = t.exponent;
      whole_is = digits_of text p.0;
      fraction_is = t.fraction_is;
      exponent_is = t.exponent_is;
      parts = c.parts ∙ ap (λ (rest : List ℕ). c.front ++ rest) t.parts;
    }

is_decimal_of : (text : List ℕ) → IsDecimal text → is_decimal text ≡ true
is_decimal_of text h =
    let tail = h.fraction ++ h.exponent in
    let t = tail_of h.fraction h.exponent h.fraction_is h.exponent_is in
    let all = all_of h.whole h.whole_is in
    let after : after_digits (h.whole ++ tail) ≡ tail = passed h.whole tail all t.1 in
    ap is_decimal h.parts ∙ and_from _ _ (starts h.whole tail h.whole_is.some all)
    (ap is_after_whole after ∙ t.0)

word_is : (a b c : ℕ) (text : List ℕ) → is_word a b c text ≡ true → text ≡ a ∷ b ∷ c ∷ []
word_is a b c [] e = absurd cc
word_is a b c (x ∷ []) e = absurd cc
word_is a b c (x ∷ y ∷ []) e = absurd cc
word_is a b c (x ∷ y ∷ z ∷ []) e =
    let p = and_parts (eqb x a) _ e in
    let q = and_parts (eqb y b) _ p.1 in
    ap (λ (v : ℕ). v ∷ y ∷ z ∷ []) (eqb-true x a p.0)
    ∙ (ap (λ (v : ℕ). a ∷ v ∷ z ∷ []) (eqb-true y b q.0)
    ∙ ap (λ (v : ℕ). a ∷ b ∷ v ∷ []) (eqb-true z c q.1))
word_is a b c (x ∷ y ∷ z ∷ w ∷ rest) e = absurd cc

unsigned_is : (text : List ℕ) → is_unsigned text ≡ true → IsUnsigned text
unsigned_is text e = elim (or_cases _ (is_decimal text) e) [
  | inl w ↦ elim (or_cases (is_word 105 110 102 text) (is_word 110 97 110 text) w) [
    | inl i ↦ inl (word_is 105 110 102 text i)
    | inr n ↦ inr (inl (word_is 110 97 110 text n))
  ]
  | inr d ↦ inr (inr (decimal_is text d))
]

is_unsigned_of : (text : List ℕ) → IsUnsigned text → is_unsigned text ≡ true
is_unsigned_of text (inl e) = ap is_unsigned e
is_unsigned_of text (inr (inl e)) = ap is_unsigned e
is_unsigned_of text (inr (inr d)) = or_right _ (is_decimal text) (is_decimal_of text d)

pub float_is : (line : List ℕ) → is_float_line line ≡ true → IsFloatLine line
float_is [] e = absurd cc
float_is (x ∷ rest) e = elim (cases_Bool (eqb x 45)) [
  | inl minus ↦ inr
      (rest, unsigned_is rest (rw minus at e), ap (λ (y : ℕ). y ∷ rest) (eqb-true x 45 minus))
  | inr other ↦ inl (unsigned_is (x ∷ rest) (rw other at e))
]

-- a text without a sign does not begin with a minus
no_minus : (rest : List ℕ) → is_unsigned (45 ∷ rest) ≡ false
no_minus [] = refl
no_minus (y ∷ []) = refl
no_minus (y ∷ z ∷ []) = refl
no_minus (y ∷ z ∷ w ∷ rest) = refl

pub is_float_of : (line : List ℕ) → IsFloatLine line → is_float_line line ≡ true
is_float_of [] (inl u) = absurd (let e = is_unsigned_of [] u in cc)
is_float_of (x ∷ rest) (inl u) = elim (cases_Bool (eqb x 45)) [
  | inl minus ↦ absurd
      (both_ways _ (ap (λ (y : ℕ). is_unsigned (y ∷ rest)) (eqb-true x 45 minus) ∙ no_minus rest)
      (is_unsigned_of (x ∷ rest) u))
  | inr other ↦ rw other (is_unsigned_of (x ∷ rest) u)
]
is_float_of line (inr (rest, u, e)) = ap is_float_line e ∙ is_unsigned_of rest u
