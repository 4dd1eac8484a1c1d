-- The tests of numerals hold exactly of the numerals.
use Rattle.std.proofs.Common.{◌≡◌, ℕ, suc, ◌+◌, ◌*◌, ◌-◌, ◌^◌, ◌<◌, Bool, true, false, ◌||◌, eqb}
use Rattle.std.proofs.Common.{leb, List, [], ◌∷◌, ◌++◌, length, take, drop, get_or, refl, sym, ap}
use Rattle.std.proofs.Common.{subst, ◌∙◌, arith, inl, inr, codes, take_at, length-append, ◌≢◌, ◌==◌}
use Rattle.std.proofs.Common.{if◌then◌else◌}
use Rattle.std.proofs.lemmas.Bool.Decides.{nat_tests}
use Rattle.std.specs.Char.{digit_value, is_ascii_digit}
use Rattle.std.specs.List.{list_all}
use Rattle.std.specs.Str.Parse.{AllDigits, digits_value}
use Rattle.std.proofs.lemmas.Bool.{and_parts, and_from, or_cases, eqb-true, leb-true, ltb-true}
use Rattle.std.proofs.lemmas.Bool.{le-leb, lt-ltb}
use Rattle.std.proofs.lemmas.Int.Digits.{digits_value-lt, digits_value_more}
use Rattle.std.proofs.lemmas.Str.{digit_value_digit}
use Rattle.std.proofs.Math.Nat.{pow-le-pow_right}
use Rattle.std.proofs.lemmas.Str.Parse.{digits_value-take-le}
use Rattle.std.proofs.lemmas.List.Sums.{AllPass-from_list_all, list_all-from_AllPass}
use Rattle.std.proofs.Math.Seq.{get_or-append_seam}
use Rattle.pkops.specs.Numerals.{is_bool_line, IsPositive, IsNatural, IsNumeral, IsIntLine}
use Rattle.pkops.specs.Numerals.{IsLongLine, IsMemoNumber}
use Rattle.pkops.specs.RuleTests.{is_zero, is_positive, is_natural, is_negative, is_numeral}
use Rattle.pkops.specs.RuleTests.{is_int_line, ends_in_l, unmarked, is_long_line, is_memo_number}

pub or_left : (a b : Bool) → a ≡ true → (a || b) ≡ true
or_left a b e = rw e refl

pub or_right : (a b : Bool) → b ≡ true → (a || b) ≡ true
or_right true b e = refl
or_right false b e = e

positive_is : (text : List ℕ) → is_positive text ≡ true → IsPositive text
positive_is [] e = absurd cc
positive_is (first ∷ rest) e =
    let p = and_parts _ _ e in
    (first, rest, p.0, AllPass-from_list_all is_ascii_digit rest p.1, refl)

is_positive_of : (text : List ℕ) → IsPositive text → is_positive text ≡ true
is_positive_of text (first, rest, nonzero, digits, e) =
    ap is_positive e ∙ and_from _ _ nonzero (list_all-from_AllPass is_ascii_digit rest digits)

zero_is : (text : List ℕ) → is_zero text ≡ true → text ≡ codes "0"
zero_is [] e = absurd cc
zero_is (digit ∷ []) e = ap (λ (d : ℕ). d ∷ []) (eqb-true digit 48 e)
zero_is (digit ∷ next ∷ rest) e = absurd cc

pub natural_is : (text : List ℕ) → is_natural text ≡ true → IsNatural text
natural_is text e = elim (or_cases (is_zero text) (is_positive text) e) [
  | inl z ↦ inl (zero_is text z)
  | inr p ↦ inr (positive_is text p)
]

pub is_natural_of : (text : List ℕ) → IsNatural text → is_natural text ≡ true
is_natural_of text (inl e) = ap is_natural e
is_natural_of text (inr p) = or_right (is_zero text) _ (is_positive_of text p)

negative_is : (text : List ℕ) → is_negative text ≡ true → (digits : List ℕ) × IsPositive digits
    × (text ≡ codes "-" ++ digits)
negative_is [] e = absurd cc
negative_is (sign ∷ digits) e =
    let p = and_parts _ _ e in
    (digits, positive_is digits p.1, ap (λ (s : ℕ). s ∷ digits) (eqb-true sign 45 p.0))

numeral_is : (text : List ℕ) → is_numeral text ≡ true → IsNumeral text
numeral_is text e = elim (or_cases (is_natural text) (is_negative text) e) [
  | inl n ↦ inl (natural_is text n)
  | inr n ↦ inr (negative_is text n)
]

is_numeral_of : (text : List ℕ) → IsNumeral text → is_numeral text ≡ true
is_numeral_of text (inl n) = or_left (is_natural text) _ (is_natural_of text n)
is_numeral_of text (inr (digits, p, e)) = or_right (is_natural text) _
    (ap is_negative e ∙ is_positive_of digits p)

pub int_is : (line : List ℕ) → is_int_line line ≡ true → IsIntLine line
int_is line e = elim (or_cases (is_bool_line line) (is_numeral line) e) [
  | inl b ↦ inl b
  | inr n ↦ inr (numeral_is line n)
]

pub is_int_of : (line : List ℕ) → IsIntLine line → is_int_line line ≡ true
is_int_of line (inl b) = or_left (is_bool_line line) _ b
is_int_of line (inr n) = or_right (is_bool_line line) _ (is_numeral_of line n)

-- a line that ends in an L is what is before it, and the L
marked : (line : List ℕ) → 0 < length line → get_or line (length line - 1) 0 ≡ 76
    → line ≡ take (length line - 1) line ++ 76 ∷ []
marked [] some e = absurd (omega arith)
marked (a ∷ []) some e = ap (λ (x : ℕ). x ∷ []) e
marked (a ∷ b ∷ rest) some e =
    let i : length (a ∷ b ∷ rest) - 1 ≡ suc (length (b ∷ rest) - 1) = omega arith in
    let last = sym (ap (λ (n : ℕ). get_or (a ∷ b ∷ rest) n 0) i) ∙ e in
    rw i (ap (λ (t : List ℕ). a ∷ t) (marked (b ∷ rest) (omega arith) last))

long_by : (line : List ℕ) (marks : Bool) → ends_in_l line ≡ marks
    → is_numeral (if marks then take (length line - 1) line else line) ≡ true → IsLongLine line
long_by line true m e =
    let q = and_parts _ (eqb (get_or line (length line - 1) 0) 76) m in
    inr (
      take (length line - 1) line,
      numeral_is _ e,
      marked line (ltb-true 0 (length line) q.0) (eqb-true _ 76 q.1),
    )
long_by line false m e = inl (numeral_is line e)

pub long_is : (line : List ℕ) → is_long_line line ≡ true → IsLongLine line
long_is line e = long_by line (ends_in_l line) refl e

-- the last of some digits, or what stands alone before them, is no L
last_digit : (x : ℕ) (rest : List ℕ) → x ≢ 76 → list_all is_ascii_digit rest ≡ true
    → get_or (x ∷ rest) (length rest) 0 ≢ 76
last_digit x [] other digits is = other is
last_digit x (y ∷ rest) other digits is =
    let p = and_parts (is_ascii_digit y) _ digits in
    last_digit y rest (λ e. let digit = rw e at p.0 in cc) p.1 is

unmarked_last : (x : ℕ) (rest : List ℕ) → get_or (x ∷ rest) (length rest) 0 ≢ 76
    → unmarked (x ∷ rest) ≡ x ∷ rest
unmarked_last x rest other =
    let i : length (x ∷ rest) - 1 ≡ length rest = omega arith in
    let no : (get_or (x ∷ rest) (length rest) 0 == 76) ≡ false = grind (arith, nat_tests, other) in
    rw (i, no, lt-ltb 0 (length (x ∷ rest)) (omega arith)) refl

positive_last : (digits : List ℕ) (p : IsPositive digits)
    → get_or (p.0 ∷ p.1) (length p.1) 0 ≢ 76
positive_last digits (first, rest, nonzero, behind, e) =
    last_digit first rest (λ is. let digit = rw is at nonzero in cc)
    (list_all-from_AllPass is_ascii_digit rest behind)

-- so no numeral ends in one
numeral_unmarked : (line : List ℕ) → IsNumeral line → unmarked line ≡ line
numeral_unmarked line (inl (inl e)) = ap unmarked e ∙ sym e
numeral_unmarked line (inl (inr p)) =
    let e = p.4 in ap unmarked e ∙ unmarked_last p.0 p.1 (positive_last line p) ∙ sym e
numeral_unmarked line (inr (digits, p, e)) =
    let is : line ≡ 45 ∷ p.0 ∷ p.1 = e ∙ ap (λ (d : List ℕ). 45 ∷ d) p.4 in
    ap unmarked is ∙ unmarked_last 45 (p.0 ∷ p.1) (positive_last digits p) ∙ sym is

unmarked_of : (numeral : List ℕ) → unmarked (numeral ++ 76 ∷ []) ≡ numeral
unmarked_of numeral =
    let len : length (numeral ++ 76 ∷ []) ≡ length numeral + 1 = length-append numeral (76 ∷ []) in
    let before : length (numeral ++ 76 ∷ []) - 1 ≡ length numeral = omega (arith, len) in
    let some : 0 < length (numeral ++ 76 ∷ []) = omega (arith, len) in
    let last : get_or (numeral ++ 76 ∷ []) (length numeral) 0 ≡ 76 =
    get_or-append_seam numeral 76 [] 0 in
    rw (lt-ltb 0 _ some, before, last) (take_at numeral (76 ∷ []) (length numeral) refl)

pub is_long_of : (line : List ℕ) → IsLongLine line → is_long_line line ≡ true
is_long_of line (inl n) = ap is_numeral (numeral_unmarked line n) ∙ is_numeral_of line n
is_long_of line (inr (numeral, n, e)) =
    ap is_long_line e ∙ ap is_numeral (unmarked_of numeral) ∙ is_numeral_of numeral n

pub memo_number_is : (line : List ℕ) → is_memo_number line ≡ true → IsMemoNumber line
memo_number_is line e =
    let p = and_parts (is_natural line) _ e in
    record { natural = natural_is line p.0; small = ltb-true _ _ p.1 }

pub is_memo_number_of : (line : List ℕ) → IsMemoNumber line → is_memo_number line ≡ true
is_memo_number_of line h = and_from _ _ (is_natural_of line h.natural) (lt-ltb _ _ h.small)

-- what is said by one digit more
pub one_more : (number said i : ℕ) (ds : List ℕ) → i < length ds
    → number ≡ digits_value 10 (take i ds) → said ≡ number * 10 + digit_value (get_or ds i 0)
    → said ≡ digits_value 10 (take (i + 1) ds)
one_more number said i ds within so_far is =
    is ∙ ap (λ n. n * 10 + digit_value (get_or ds i 0)) so_far
    ∙ sym (digits_value_more 10 ds i within)

-- it stays within what all digits say
pub one_more_small : (number said i : ℕ) (ds : List ℕ) → IsMemoNumber ds → i < length ds
    → number ≡ digits_value 10 (take i ds) → said ≡ number * 10 + digit_value (get_or ds i 0)
    → said < 2 ^ 32
one_more_small number said i ds is within so_far e =
    let more = one_more number said i ds within so_far e in
    let small = is.small in
    let le = digits_value-take-le 10 ds (i + 1) (omega arith) in
    omega arith

all_digits : (ds : List ℕ) → list_all is_ascii_digit ds ≡ true → AllDigits 10 ds
all_digits [] e = tt
all_digits (d ∷ ds) e =
    let p = and_parts (is_ascii_digit d) _ e in
    let q = and_parts (leb 48 d) (leb d 57) p.0 in
    let value = digit_value_digit d (leb-true 48 d q.0, leb-true d 57 q.1) in
    let high = leb-true d 57 q.1 in
    (omega arith, all_digits ds p.1)

-- nine digits say a number of 32 bits
pub few_digits : (ds : List ℕ) → list_all is_ascii_digit ds ≡ true → length ds < 10
    → digits_value 10 ds < 2 ^ 32
few_digits ds e short =
    let below = digits_value-lt 10 ds (all_digits ds e) in
    let most = pow-le-pow_right {n = 10} (omega arith) {i = length ds} {j = 9} (omega arith) in
    omega arith

-- the only digit of a natural number
only_digit : (digit : ℕ) → IsNatural (digit ∷ []) → is_ascii_digit digit ≡ true
only_digit digit (inl e) = subst (λ (l : List ℕ). is_ascii_digit (get_or l 0 0) ≡ true) (sym e) refl
only_digit digit (inr (first, rest, nonzero, digits, e)) =
    let p = and_parts (leb 49 first) (leb first 57) nonzero in
    let low = leb-true 49 first p.0 in
    let same : digit ≡ first = ap (λ (l : List ℕ). get_or l 0 0) e in
    rw same (and_from _ _ (le-leb 48 first (omega (arith, low))) p.1)

-- a memo number of one digit, between two bytes
pub one_digit : (bytes : List ℕ) → length bytes ≡ 3
    → IsMemoNumber (take (length bytes - 2) (drop 1 bytes))
    → (is_ascii_digit (get_or bytes 1 0) ≡ true)
    × (digit_value (get_or bytes 1 0) ≡ digits_value 10 (take (length bytes - 2) (drop 1 bytes)))
one_digit [] three is = absurd (omega (arith, three))
one_digit (a ∷ []) three is = absurd (omega (arith, three))
one_digit (a ∷ digit ∷ []) three is = absurd (omega (arith, three))
one_digit (a ∷ digit ∷ b ∷ []) three is = (only_digit digit is.natural, omega arith)
one_digit (a ∷ digit ∷ b ∷ c ∷ rest) three is = absurd (omega (arith, three))
