-- What is read of a line of text with escapes is exactly the text that it spells.
use Rattle.std.proofs.Common.{◌≡◌, ◌≢◌, ℕ, ◌+◌, ◌-◌, ◌*◌, ◌<◌, ◌≤◌, Bool, true, false, eqb, ltb}
use Rattle.std.proofs.Common.{leb, List, [], ◌∷◌, ◌++◌, length, map, Option, Some, None, refl, sym}
use Rattle.std.proofs.Common.{ap, subst, ◌∙◌, append_assoc, arith, inl, inr, IfSome}
use Rattle.std.proofs.Common.{encode_utf8_all, All, flat_map, option_map, length-append}
use Rattle.std.specs.Prelude.{encode_utf8}
use Rattle.std.specs.List.{list_all}
use Rattle.std.specs.Char.{IsScalar, is_ascii_hexdigit, digit_value}
use Rattle.std.specs.Str.Parse.{digits_value, digits_value_after}
use Rattle.std.proofs.lemmas.Bool.{and_parts, and_from, or_cases, cases_Bool, eqb-true, eqb-false}
use Rattle.std.proofs.lemmas.Bool.{ne_eqb, ltb-true, ltb-false, lt-ltb, le-ltb, leb-true, le-leb}
use Rattle.std.proofs.lemmas.List.Elements.{All-nil, All-cons, All-head, All-tail}
use Rattle.std.proofs.lemmas.List.Sums.{AllPass-from_list_all, list_all-from_AllPass}
use Rattle.std.proofs.lemmas.List.Folds.{list_all-append}
use Rattle.pkops.specs.declared.contents.escapes.State.{State}
use Rattle.pkops.specs.declared.contents.escapes.State.TheVariants.{Outside, Behind, Digits}
use Rattle.pkops.specs.Escapes.{Character, plain, short, long, print_character, code_point}
use Rattle.pkops.specs.Escapes.{IsEscape, IsCharacter, SpellsText, points_of}
use Rattle.pkops.specs.Private.EscapeSteps.{is_scalar, escape_step}
use Rattle.pkops.proofs.ContentsRules.EscapesSpelled.{points_of_spelled, spelled_points}
use Rattle.pkops.proofs.ContentsRules.Loop.{Machine, alike, completes, items_from, joined, passes}
use Rattle.pkops.proofs.ContentsRules.Loop.{read_so, with_item}

abbrev pub ended : State → Bool
ended Outside = true
ended _ = false

pub not_ended : (state : State) → state ≢ Outside → ended state ≡ false
not_ended Outside h = absurd (h refl)
not_ended _ h = refl

-- how a line is read, and its code points written as text
abbrev pub escapes : Machine
escapes = record {
  Point = State;
  ended = ended;
  step = escape_step;
  write = encode_utf8_all;
  one = encode_utf8;
  more = λ point points. refl;
}

-- the code points of the characters that bytes end, from a state on; none if they end inside one
abbrev pub code_points : State → List ℕ → Option (List ℕ)
code_points state bytes = items_from escapes state bytes

-- ---- code points

scalar_is : (n : ℕ) → is_scalar n ≡ true → IsScalar n
scalar_is n e = elim (or_cases (ltb n 55296) _ e) [
  | inl low ↦ rw low refl
  | inr high ↦
      let p = and_parts (ltb 57343 n) (ltb n 1114112) high in
      let over = ltb-true 57343 n p.0 in
      rw (le-ltb n 55296 (omega arith), le-leb 57344 n (omega arith), p.1) refl
]

is_scalar_of : (n : ℕ) → IsScalar n → is_scalar n ≡ true
is_scalar_of n e = elim (cases_Bool (ltb n 55296)) [
  | inl low ↦ rw low refl
  | inr high ↦
      let p = and_parts (leb 57344 n) (ltb n 1114112) (rw high at e) in
      let over = leb-true 57344 n p.0 in
      rw (high, lt-ltb 57343 n (omega arith), p.1) refl
]

scalar_below : (n : ℕ) → IsScalar n → n < 1114112
scalar_below n e = elim (or_cases (ltb n 55296) _ (is_scalar_of n e)) [
  | inl low ↦ let lt = ltb-true _ _ low in omega arith
  | inr high ↦ ltb-true _ _ (and_parts (ltb 57343 n) (ltb n 1114112) high).1
]

-- ---- digits

value_snoc : (n : ℕ) (digits : List ℕ) (digit : ℕ)
    → digits_value_after 16 n (digits ++ digit ∷ []) ≡ digits_value_after 16 n digits * 16
    + digit_value digit
value_snoc n [] digit = refl
value_snoc n (d ∷ digits) digit = value_snoc (n * 16 + digit_value d) digits digit

value_grows : (n : ℕ) (digits : List ℕ) → n ≤ digits_value_after 16 n digits
value_grows n [] = omega arith
value_grows n (d ∷ digits) = let more = value_grows (n * 16 + digit_value d) digits in omega arith

all_snoc : (digits : List ℕ) (digit : ℕ) → list_all is_ascii_hexdigit digits ≡ true
    → is_ascii_hexdigit digit ≡ true → list_all is_ascii_hexdigit (digits ++ digit ∷ []) ≡ true
all_snoc digits digit all h = list_all-append is_ascii_hexdigit digits (digit ∷ [])
    ∙ and_from _ _ all (and_from (is_ascii_hexdigit digit) true h refl)

-- ---- what is read is spelled

one_more : (character : Character) (bytes points : List ℕ) → IsCharacter character
    → SpellsText bytes points → SpellsText (print_character character ++ bytes)
    (code_point character ∷ points)
one_more character bytes points h (characters, all, line, named) = (
  character ∷ characters,
  All-cons IsCharacter character characters h all,
  ap (λ (rest : List ℕ). print_character character ++ rest) line,
  ap (λ (rest : List ℕ). code_point character ∷ rest) named,
)

-- the letter of an escape with so many digits, and the characters that it makes
record IsForm (letter count : ℕ) : Type 0 where
  make : List ℕ → Character
  prints : (digits : List ℕ) → print_character (make digits) ≡ 92 ∷ letter ∷ digits
  good : (digits : List ℕ) → IsEscape count digits → IsCharacter (make digits)
  point : (digits : List ℕ) → code_point (make digits) ≡ digits_value 16 digits

-- the digits so far of an escape of which so many are left
record IsSoFar (letter size : ℕ) (digits : List ℕ) (left value : ℕ) : Type 0 where
  form : IsForm letter size
  some : 1 ≤ left
  count : length digits + left ≡ size
  all : list_all is_ascii_hexdigit digits ≡ true
  value_is : digits_value 16 digits ≡ value

-- bytes that are read from a state on: with the bytes before the state they spell the text
abbrev Completes : State → (bytes points : List ℕ) → Type 0
Completes Outside bytes points = SpellsText bytes points
Completes Behind bytes points = SpellsText (92 ∷ bytes) points
Completes (Digits left value) bytes points =
    (letter size : ℕ) (digits : List ℕ) → IsSoFar letter size digits left value
    → SpellsText (92 ∷ letter ∷ (digits ++ bytes)) points

at_end : (state : State) → ended state ≡ true → Completes state [] []
at_end Outside e = ([], All-nil IsCharacter, refl, refl)
at_end _ e = absurd cc

-- no digit of an escape yet
begun : (letter size : ℕ) → IsForm letter size → 1 ≤ size → IsSoFar letter size [] size 0
begun letter size form some =
    record { form = form; some = some; count = omega arith; all = refl; value_is = refl }

-- the last digit of an escape
last : (left value byte letter size : ℕ) (digits bytes points : List ℕ)
    → IsSoFar letter size digits left value → is_ascii_hexdigit byte ≡ true → left < 2
    → is_scalar (value * 16 + digit_value byte) ≡ true → SpellsText bytes points
    → SpellsText (92 ∷ letter ∷ (digits ++ byte ∷ bytes)) ((value * 16 + digit_value byte) ∷ points)
last left value byte letter size digits bytes points far h lt s spelled =
    let all = digits ++ byte ∷ [] in
    let some = far.some in
    let count = far.count in
    let named : digits_value 16 all ≡ value * 16 + digit_value byte = value_snoc 0 digits byte
    ∙ ap (λ (v : ℕ). v * 16 + digit_value byte) far.value_is in
    let more = one_more (far.form.make all) bytes points
    (far.form.good all (record {
      count = omega (arith, length-append digits (byte ∷ []));
      hexadecimal = AllPass-from_list_all is_ascii_hexdigit all (all_snoc digits byte far.all h);
      scalar = subst IsScalar (sym named) (scalar_is (value * 16 + digit_value byte) s);
    })) spelled in
    subst (λ (t : List ℕ). SpellsText (92 ∷ letter ∷ t) ((value * 16 + digit_value byte) ∷ points))
    (append_assoc digits (byte ∷ []) bytes)
    (rw (far.form.prints all, far.form.point all, named) at more)

-- a digit that isn't the last
further : (left value byte letter size : ℕ) (digits : List ℕ)
    → IsSoFar letter size digits left value → is_ascii_hexdigit byte ≡ true → 2 ≤ left
    → IsSoFar letter size (digits ++ byte ∷ []) (left - 1) (value * 16 + digit_value byte)
further left value byte letter size digits far h ge =
    let count = far.count in
    record {
      form = far.form;
      some = omega (arith, ge);
      count = omega (arith, ge, count, length-append digits (byte ∷ []));
      all = all_snoc digits byte far.all h;
      value_is = value_snoc 0 digits byte
          ∙ ap (λ (v : ℕ). v * 16 + digit_value byte) far.value_is;
    }

leads : (state : State) (byte : ℕ) (bytes points : List ℕ) → IfSome (escape_step state byte)
    (λ next. Completes next.0 bytes points
    → Completes state (byte ∷ bytes) (with_item next.1 points))
leads Outside byte bytes points = elim (cases_Bool (eqb byte 92)) [
  | inl b ↦ rw b (λ ih. subst (λ (x : ℕ). SpellsText (x ∷ bytes) points)
      (sym (eqb-true byte 92 b)) ih)
  | inr n ↦ rw n (λ ih. one_more (plain byte) bytes points (eqb-false byte 92 n) ih)
]
leads Behind byte bytes points = elim (cases_Bool (eqb byte 117)) [
  | inl u ↦ rw u (λ ih. ih byte 4 [] (begun byte 4 (rw (eqb-true byte 117 u) (record {
    make = short;
    prints = λ digits. refl;
    good = λ digits is. is;
    point = λ digits. refl;
  })) (omega arith)))
  | inr nu ↦ elim (cases_Bool (eqb byte 85)) [
    | inl u ↦ rw (nu, u) (λ ih. ih byte 8 [] (begun byte 8 (rw (eqb-true byte 85 u) (record {
      make = long;
      prints = λ digits. refl;
      good = λ digits is. is;
      point = λ digits. refl;
    })) (omega arith)))
    | inr n ↦ rw (nu, n) tt
  ]
]
leads (Digits left value) byte bytes points = elim (cases_Bool (is_ascii_hexdigit byte)) [
  | inr n ↦ rw n tt
  | inl h ↦ elim (cases_Bool (ltb left 2)) [
    | inl lt ↦ elim (cases_Bool (is_scalar (value * 16 + digit_value byte))) [
      | inl s ↦ rw (h, lt, s) (λ ih letter size digits far.
          last left value byte letter size digits bytes points far h (ltb-true left 2 lt) s ih)
      | inr n ↦ rw (h, lt, n) tt
    ]
    | inr ge ↦ elim (cases_Bool (ltb (value * 16 + digit_value byte) 1114112)) [
      | inl small ↦ rw (h, ge, small) (λ ih letter size digits far.
          subst (λ (t : List ℕ). SpellsText (92 ∷ letter ∷ t) points)
          (append_assoc digits (byte ∷ []) bytes) (ih letter size (digits ++ byte ∷ [])
          (further left value byte letter size digits far h (ltb-false left 2 ge))))
      | inr n ↦ rw (h, ge, n) tt
    ]
  ]
]

-- ---- what is spelled is read

abbrev after : ℕ → List ℕ → Option (List ℕ)
after point bytes = option_map (with_item (Some point)) (code_points Outside bytes)

digits_read : (digits : List ℕ) (value : ℕ) (bytes : List ℕ) → 1 ≤ length digits
    → list_all is_ascii_hexdigit digits ≡ true → IsScalar (digits_value_after 16 value digits)
    → code_points (Digits (length digits) value) (digits ++ bytes)
    ≡ after (digits_value_after 16 value digits) bytes
digits_read [] value bytes some all scalar = absurd (omega arith)
digits_read (digit ∷ []) value bytes some all scalar =
    let h = (and_parts (is_ascii_hexdigit digit) true all).0 in
    let now = value * 16 + digit_value digit in
    let s : is_scalar now ≡ true = is_scalar_of now scalar in
    completes escapes (Digits 1 value) Outside digit now bytes (rw (h, s) refl)
digits_read (digit ∷ next ∷ digits) value bytes some all scalar =
    let p = and_parts (is_ascii_hexdigit digit) (list_all is_ascii_hexdigit (next ∷ digits)) all in
    let now = value * 16 + digit_value digit in
    let below = scalar_below (digits_value_after 16 value (digit ∷ next ∷ digits)) scalar in
    let grows = value_grows now (next ∷ digits) in
    let small : ltb now 1114112 ≡ true = lt-ltb now 1114112 (omega arith) in
    let long : ltb (length (digit ∷ next ∷ digits)) 2 ≡ false = le-ltb _ _ (omega arith) in
    let left : length (digit ∷ next ∷ digits) - 1 ≡ length (next ∷ digits) = omega arith in
    passes escapes (Digits (length (digit ∷ next ∷ digits)) value)
    (Digits (length (next ∷ digits)) now) digit ((next ∷ digits) ++ bytes)
    (rw (p.0, long, small, left) refl)
    ∙ digits_read (next ∷ digits) now bytes (omega arith) p.1 scalar

escape_read : (letter size : ℕ) (digits bytes : List ℕ) → 1 ≤ size
    → escape_step Behind letter ≡ Some (Digits size 0, None) → IsEscape size digits
    → code_points Outside (92 ∷ letter ∷ (digits ++ bytes)) ≡ after (digits_value 16 digits) bytes
escape_read letter size digits bytes some step h =
    let count = h.count in
    let same : size ≡ length digits = sym count in
    passes escapes Outside Behind 92 (letter ∷ (digits ++ bytes)) refl
    ∙ (passes escapes Behind (Digits size 0) letter (digits ++ bytes) step
    ∙ (ap (λ (n : ℕ). code_points (Digits n 0) (digits ++ bytes)) same
    ∙ digits_read digits 0 bytes (omega arith)
    (list_all-from_AllPass is_ascii_hexdigit digits h.hexadecimal) h.scalar))

character_read : (character : Character) (bytes : List ℕ) → IsCharacter character
    → code_points Outside (print_character character ++ bytes) ≡ after (code_point character) bytes
character_read (plain byte) bytes h =
    completes escapes Outside Outside byte byte bytes (rw (ne_eqb byte 92 h) refl)
character_read (short digits) bytes h = escape_read 117 4 digits bytes (omega arith) refl h
character_read (long digits) bytes h = escape_read 85 8 digits bytes (omega arith) refl h

characters_read : (characters : List Character) → All IsCharacter characters
    → code_points Outside (flat_map print_character characters) ≡ Some (map code_point characters)
unfolding items_from
characters_read [] h = refl
characters_read (character ∷ characters) h =
    character_read character (flat_map print_character characters)
    (All-head IsCharacter character characters h)
    ∙ ap (option_map (with_item (Some (code_point character))))
    (characters_read characters (All-tail IsCharacter character characters h))

spelled_is_read : (line points : List ℕ) → SpellsText line points
    → code_points Outside line ≡ Some points
spelled_is_read line points (characters, all, line_is, points_is) =
    ap (code_points Outside) line_is
    ∙ (characters_read characters all ∙ ap (λ (p : List ℕ). Some p) (sym points_is))

-- ---- what is read byte by byte is what is read character by character

pub named_is : (line : List ℕ) → code_points Outside line ≡ points_of line
named_is line =
    alike (code_points Outside line) (points_of line)
    (λ points e. points_of_spelled line points
    (read_so escapes Completes at_end leads line Outside points e))
    (λ points e. spelled_is_read line points (spelled_points line points e))

nothing_before : (read : Option (List ℕ)) → joined escapes [] read ≡ option_map encode_utf8_all read
nothing_before None = refl
nothing_before (Some points) = refl

pub joined_is : (text line : List ℕ) → text ≡ []
    → joined escapes text (code_points Outside line) ≡ option_map encode_utf8_all (points_of line)
joined_is text line e = ap (λ (t : List ℕ). joined escapes t (code_points Outside line)) e
    ∙ (nothing_before (code_points Outside line) ∙ ap (option_map encode_utf8_all) (named_is line))
