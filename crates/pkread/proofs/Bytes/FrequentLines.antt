-- The lines of GET, PUT, INT and UNICODE that one pass finds and judges.
use Rattle.std.proofs.Common.{◌≡◌, ℕ, suc, zero, ◌+◌, ◌<◌, ◌≤◌, ◌^◌, Bool, false, true, List, []}
use Rattle.std.proofs.Common.{◌∷◌, ◌++◌, length, take, drop, get_or, Some, refl, leb, sym, ap}
use Rattle.std.proofs.Common.{subst, ◌∙◌, arith, append_assoc, length-append, inl, inr, not, ◌≢◌}
use Rattle.std.proofs.Common.{◌↔◌, ◌==◌, ◌||◌, map, position, All, flat_map, get_or-take}
use Rattle.std.proofs.Common.{length-take, take-append-drop, take-take, take_at}
use Rattle.std.specs.Char.{is_ascii_digit}
use Rattle.std.specs.List.{AllByRecursion, list_all}
use Rattle.std.specs.Str.Parse.{AllDigits, digits_value}
use Rattle.std.proofs.Math.Nat.{pow-le-pow_right}
use Rattle.std.proofs.lemmas.Bool.{and_from, and_parts, cases_Bool, eqb-false, eqb-true, le-leb}
use Rattle.std.proofs.lemmas.Bool.{leb-true, lt-ltb, or_cases, or_left, or_right}
use Rattle.std.proofs.lemmas.Int.Digits.{digits_value-lt}
use Rattle.std.proofs.lemmas.List.{take_more}
use Rattle.std.proofs.lemmas.List.Concat.{flat_map-cons}
use Rattle.std.proofs.lemmas.List.Elements.{All-cons, All-nil}
use Rattle.std.proofs.lemmas.List.Quantifiers.{position-Some}
use Rattle.std.proofs.lemmas.Str.{digit_value_digit}
use Rattle.pkops.specs.Contents.{Keeps, rule_of}
use Rattle.pkops.specs.Escapes.{IsCharacter, code_point, plain, print_character}
use Rattle.pkops.specs.Limits.{Bounds}
use Rattle.pkops.specs.Numerals.{is_bool_line, is_nonzero_digit}
use Rattle.pkops.specs.RuleTests.{is_natural, is_negative, is_numeral, is_positive, is_zero, passes}
use Rattle.pkops.specs.Spelling.{Argument, Line, Suits, layout_at, line_feed}
use Rattle.pkops.specs.Table.{code_of}
use Rattle.pkops.specs.declared.Layout.TheVariants as layout
use Rattle.pkops.specs.declared.Op.{Op}
use Rattle.pkops.specs.declared.Op.TheVariants as op
use Rattle.pkops.specs.declared.Rule.{Rule}
use Rattle.pkops.specs.declared.Rule.TheVariants as rule
use Rattle.pkread.proofs.Bytes.FrontLines.{no_two_lines, other_role}
use Rattle.pkread.proofs.Bytes.Texts.{line_admitted}
use Rattle.pkread.specs.Private.Arms.{BeginsWithNumber, HasCode, HasLine, IsFront}
use Rattle.pkread.specs.Private.Arms.{IsInFront}

-- ---- few digits without a leading zero are a memo number

is_digit : (byte : ℕ) → not (is_ascii_digit byte) ≡ false → is_ascii_digit byte ≡ true
is_digit byte e = elim (cases_Bool (is_ascii_digit byte)) [
  | inl d ↦ d
  | inr n ↦ absurd (let f = rw n at e in cc)
]

digits_before : (xs : List ℕ) (n : ℕ) → n ≤ length xs →
    ((k : ℕ) → k < n → not (is_ascii_digit (get_or xs k 0)) ≡ false) →
    list_all is_ascii_digit (take n xs) ≡ true
digits_before xs zero le h = refl
digits_before [] (suc n) le h = absurd (omega (arith, le))
digits_before (x ∷ xs) (suc n) le h =
    and_from _ _ (is_digit x (h 0 (omega arith)))
    (digits_before xs n (omega (arith, le)) (λ k lt. h (suc k) (omega (arith, lt))))

bounds : (byte : ℕ) → is_ascii_digit byte ≡ true → (48 ≤ byte) × (byte ≤ 57)
bounds byte d =
    let p = and_parts (leb 48 byte) (leb byte 57) d in
    (leb-true 48 byte p.0, leb-true byte 57 p.1)

all_digits : (text : List ℕ) → list_all is_ascii_digit text ≡ true → AllDigits 10 text
all_digits [] e = tt
all_digits (x ∷ text) e =
    let p = and_parts (is_ascii_digit x) _ e in
    let range = bounds x p.0 in
    let value = digit_value_digit x range in
    let high = range.1 in
    (omega (arith, value, high), all_digits text p.1)

few_digits : (text : List ℕ) → list_all is_ascii_digit text ≡ true → length text < 10 →
    digits_value 10 text < 2 ^ 32
few_digits text e short =
    let below = digits_value-lt 10 text (all_digits text e) in
    let most = pow-le-pow_right {n = 10} (omega arith) {i = length text} {j = 9} (omega arith) in
    omega arith

nonzero : (x : ℕ) → (48 ≤ x) × (x ≤ 57) → (x == 48) ≡ false → is_nonzero_digit x ≡ true
nonzero x range other =
    let low = range.0 in
    let high = range.1 in
    let differs = eqb-false x 48 other in
    and_from _ _ (le-leb 49 x (omega (arith, low, differs))) (le-leb x 57 high)

zero_alone : (x : ℕ) (text : List ℕ) → (x == 48) ≡ true → length (x ∷ text) ≤ 1 →
    is_natural (x ∷ text) ≡ true
zero_alone x [] is short = or_left (x == 48) (is_positive (x ∷ [])) is
zero_alone x (y ∷ text) is short = absurd (omega (arith, short))

-- digits, of which the first is zero only if it is alone
natural_text : (text : List ℕ) → 0 < length text → list_all is_ascii_digit text ≡ true →
    (get_or text 0 0 ≡ 48 → length text ≤ 1) → is_natural text ≡ true
natural_text [] some e lead = absurd (omega (arith, some))
natural_text (x ∷ text) some e lead =
    let p = and_parts (is_ascii_digit x) _ e in
    elim (cases_Bool (x == 48)) [
      | inl is ↦ zero_alone x text is (lead (eqb-true x 48 is))
      | inr other ↦ or_right (is_zero (x ∷ text)) (is_positive (x ∷ text))
          (and_from _ _ (nonzero x (bounds x p.0) other) p.1)
    ]

-- and what does not begin with zero is positive
positive_of : (text : List ℕ) → is_natural text ≡ true → get_or text 0 0 ≢ 48 →
    is_positive text ≡ true
positive_of [] e other = absurd cc
positive_of (x ∷ []) e other = elim (or_cases (x == 48) (is_positive (x ∷ [])) e) [
  | inl z ↦ absurd (other (eqb-true x 48 z))
  | inr p ↦ p
]
positive_of (x ∷ y ∷ text) e other = e

-- ---- the first byte that ends a line of digits or text

abbrev no_digit : ℕ → Bool
no_digit byte = not (is_ascii_digit byte)

abbrev is_mark : ℕ → Bool
is_mark byte = (byte == 10) || (byte == 92)

-- the digits that the bytes begin with are a number if a line feed follows
pub number_front : (n : ℕ) (bytes : List ℕ) → position no_digit bytes ≡ Some n →
    get_or bytes n 0 ≡ 10 → (get_or bytes 0 0 ≡ 48 → n ≤ 1) → n ≢ 0 → BeginsWithNumber n bytes
number_front n bytes found feed lead some =
    let ends = position-Some no_digit bytes n 0 found in
    let inside = ends.0 in
    let long : length (take n bytes) ≡ n = omega (arith, length-take n bytes, inside) in
    let digits = digits_before bytes n (omega (arith, inside)) ends.2 in
    let first = get_or-take n bytes 0 0 (omega (arith, some)) in
    let alone : get_or (take n bytes) 0 0 ≡ 48 → length (take n bytes) ≤ 1 =
    λ e. let le = lead (sym first ∙ e) in omega (arith, le, long) in
    record {
      inside = inside;
      feed = feed;
      digits = digits;
      natural = natural_text (take n bytes) (omega (arith, long, some)) digits alone;
    }

-- bytes up to one of them
cut_at : (n k : ℕ) (bytes : List ℕ) → n < length (take k bytes) →
    get_or (take k bytes) n 0 ≡ 10 → bytes ≡ take n (take k bytes) ++ 10 ∷ drop (n + 1) bytes
cut_at n k bytes inside feed =
    let le : n < k = omega (arith, length-take k bytes, inside) in
    let far : n < length bytes = omega (arith, length-take k bytes, inside) in
    let same : take n (take k bytes) ≡ take n bytes = take-take n k bytes (omega (arith, le)) in
    let at : get_or bytes n 0 ≡ 10 = sym (get_or-take k bytes n 0 le) ∙ feed in
    sym (take-append-drop (n + 1) bytes)
    ∙ (ap (λ (l : List ℕ). l ++ drop (n + 1) bytes)
    (take_more bytes n 0 far ∙ ap (λ b. take n bytes ++ b ∷ []) at)
    ∙ (append_assoc (take n bytes) (10 ∷ []) (drop (n + 1) bytes)
    ∙ ap (λ (l : List ℕ). l ++ 10 ∷ drop (n + 1) bytes) (sym same)))

no_feed_in : (text : List ℕ) → list_all is_ascii_digit text ≡ true →
    AllByRecursion (λ byte. byte ≢ line_feed) text
no_feed_in [] e = tt
no_feed_in (x ∷ text) e =
    let p = and_parts (is_ascii_digit x) _ e in
    let low = (bounds x p.0).0 in
    (λ e. omega (arith, low, e), no_feed_in text p.1)

-- ---- each kind of line

abbrev RulesCompute : Type 0
RulesCompute = (r : Rule) (arg : Argument) → Keeps r arg ↔ (passes r arg ≡ true)

-- a number in the ten bytes at hand
module _ (computed : RulesCompute) (n : ℕ) (x : ℕ) (rest : List ℕ)
    (number : BeginsWithNumber n (take 10 rest)) where
  few : n < 10
  few = let inside = number.inside in omega (arith, length-take 10 rest, inside)

  long : length (take n (take 10 rest)) ≡ n
  long = let inside = number.inside in omega (arith, length-take n (take 10 rest), inside)

  whole : rest ≡ take n (take 10 rest) ++ 10 ∷ drop (n + 1) rest
  whole = cut_at n 10 rest number.inside number.feed

  natural_at : (r : Rule) → Keeps r (Line (take n (take 10 rest))) → HasLine r (n + 2) (x ∷ rest)
  natural_at r obeys = record {
    line = take n (take 10 rest);
    behind = drop (n + 1) rest;
    spelled = ap (λ (l : List ℕ). x ∷ l) whole;
    count = omega (arith, long);
    short = record {
      short = omega (arith, long, few);
      whole = no_feed_in (take n (take 10 rest)) number.digits;
    };
    obeys = obeys;
  }

  pub memo_at : HasLine rule.MemoNumber (n + 2) (x ∷ rest)
  memo_at = natural_at rule.MemoNumber ((computed rule.MemoNumber (Line (take n (take 10 rest)))).1
      (and_from _ _ number.natural
      (lt-ltb _ _ (few_digits (take n (take 10 rest)) number.digits (omega (arith, long, few))))))

  pub natural_int_at : HasLine rule.Int (n + 2) (x ∷ rest)
  natural_int_at =
      let text = take n (take 10 rest) in
      natural_at rule.Int ((computed rule.Int (Line text)).1
      (or_right (is_bool_line text) (is_numeral text)
      (or_left (is_natural text) (is_negative text) number.natural)))

  pub negative_at : n ≢ 0 → get_or rest 0 0 ≢ 48 → HasLine rule.Int (n + 3) (x ∷ 45 ∷ rest)
  negative_at some other =
      let text = take n (take 10 rest) in
      let first : get_or text 0 0 ≡ get_or rest 0 0 =
      get_or-take n (take 10 rest) 0 0 (omega (arith, some))
      ∙ get_or-take 10 rest 0 0 (omega arith) in
      let positive = positive_of text number.natural (λ e. other (sym first ∙ e)) in
      record {
        line = 45 ∷ text;
        behind = drop (n + 1) rest;
        spelled = ap (λ (l : List ℕ). x ∷ 45 ∷ l) whole;
        count = omega (arith, long);
        short = record {
          short = omega (arith, long, few);
          whole = (λ e. absurd cc, no_feed_in text number.digits);
        };
        obeys = (computed rule.Int (Line (45 ∷ text))).1
            (or_right (is_bool_line (45 ∷ text)) (is_numeral (45 ∷ text))
            (or_right (is_natural (45 ∷ text)) (is_negative (45 ∷ text)) positive));
      }

-- a number behind the code
pub memo_line : RulesCompute → (n : ℕ) (bytes : List ℕ) → 10 < length bytes →
    BeginsWithNumber n (take 10 (drop 1 bytes)) → HasLine rule.MemoNumber (n + 2) bytes
memo_line computed n [] room number = absurd (omega (arith, room))
memo_line computed n (x ∷ rest) room number = memo_at computed n x rest number

pub natural_line : RulesCompute → (n : ℕ) (bytes : List ℕ) → 10 < length bytes →
    BeginsWithNumber n (take 10 (drop 1 bytes)) → HasLine rule.Int (n + 2) bytes
natural_line computed n [] room number = absurd (omega (arith, room))
natural_line computed n (x ∷ rest) room number = natural_int_at computed n x rest number

-- a number behind the code and a minus
pub negative_line : RulesCompute → (n : ℕ) (bytes : List ℕ) → 11 < length bytes →
    get_or bytes 1 0 ≡ 45 → get_or bytes 2 0 ≢ 48 → n ≢ 0 →
    BeginsWithNumber n (take 10 (drop 2 bytes)) → HasLine rule.Int (n + 3) bytes
negative_line computed n [] room minus other some number = absurd (omega (arith, room))
negative_line computed n (x ∷ []) room minus other some number = absurd (omega (arith, room))
negative_line computed n (x ∷ y ∷ rest) room minus other some number =
    subst (λ (b : ℕ). HasLine rule.Int (n + 3) (x ∷ b ∷ rest)) (sym minus)
    (negative_at computed n x rest number some other)

-- a bool behind the code
pub bool_line : (digit : ℕ) (bytes : List ℕ) → 4 ≤ length bytes → get_or bytes 1 0 ≡ 48 →
    get_or bytes 2 0 ≡ digit → get_or bytes 3 0 ≡ 10 → digit ≢ 10 →
    is_bool_line (48 ∷ digit ∷ []) ≡ true → HasLine rule.Int 4 bytes
bool_line digit [] room lead is feed other obeys = absurd (omega (arith, room))
bool_line digit (x ∷ []) room lead is feed other obeys = absurd (omega (arith, room))
bool_line digit (x ∷ a ∷ []) room lead is feed other obeys = absurd (omega (arith, room))
bool_line digit (x ∷ a ∷ b ∷ []) room lead is feed other obeys = absurd (omega (arith, room))
bool_line digit (x ∷ a ∷ b ∷ c ∷ rest) room lead is feed other obeys =
    record {
      line = 48 ∷ digit ∷ [];
      behind = rest;
      spelled = cc;
      count = refl;
      short = record { short = omega arith; whole = (λ e. absurd cc, (other, tt)) };
      obeys = inl obeys;
    }

-- ---- text

no_mark : (x : ℕ) → is_mark x ≡ false → (x ≢ 10) × (x ≢ 92)
no_mark x h = (
  λ e. let f : true ≡ false = rw e at h in absurd cc,
  λ e. let f : true ≡ false = rw e at h in absurd cc,
)

-- text without a line feed or a backslash spells itself
record IsPlainText (text : List ℕ) : Type 0 where
  unfed : AllByRecursion (λ byte. byte ≢ line_feed) text
  characters : All IsCharacter (map plain text)
  printed : text ≡ flat_map print_character (map plain text)

plain_text : (xs : List ℕ) (n : ℕ) → n ≤ length xs →
    ((k : ℕ) → k < n → is_mark (get_or xs k 0) ≡ false) → IsPlainText (take n xs)
plain_text xs zero le h = record {
  unfed = tt;
  characters = All-nil IsCharacter;
  printed = refl;
}
plain_text [] (suc n) le h = absurd (omega (arith, le))
plain_text (x ∷ xs) (suc n) le h =
    let text = take n xs in
    let more = plain_text xs n (omega (arith, le)) (λ k lt. h (suc k) (omega (arith, lt))) in
    let other = no_mark x (h 0 (omega arith)) in
    record {
      unfed = (other.0, more.unfed);
      characters = All-cons IsCharacter (plain x) (map plain text) other.1 more.characters;
      printed = ap (λ (l : List ℕ). x ∷ l) more.printed
          ∙ sym (flat_map-cons print_character (plain x) (map plain text));
    }

text_at : (n k x : ℕ) (rest : List ℕ) → k ≤ 256 → position is_mark (take k rest) ≡ Some n →
    get_or (take k rest) n 0 ≡ 10 → HasLine rule.Escapes (n + 2) (x ∷ rest)
text_at n k x rest low found feed =
    let ends = position-Some is_mark (take k rest) n 0 found in
    let inside = ends.0 in
    let text = take n (take k rest) in
    let long : length text ≡ n = omega (arith, length-take n (take k rest), inside) in
    let itself = plain_text (take k rest) n (omega (arith, inside)) ends.2 in
    record {
      line = text;
      behind = drop (n + 1) rest;
      spelled = ap (λ (l : List ℕ). x ∷ l) (cut_at n k rest inside feed);
      count = omega (arith, long);
      short = record {
        short = omega (arith, long, inside, length-take k rest, low);
        whole = itself.unfed;
      };
      obeys = (
        map code_point (map plain text),
        (map plain text, itself.characters, itself.printed, refl),
      );
    }

pub text_line : (n k : ℕ) (bytes : List ℕ) → 0 < length bytes → k ≤ 256 →
    position is_mark (take k (drop 1 bytes)) ≡ Some n →
    get_or (take k (drop 1 bytes)) n 0 ≡ 10 → HasLine rule.Escapes (n + 2) bytes
text_line n k [] some low found feed = absurd (omega (arith, some))
text_line n k (x ∷ rest) some low found feed = text_at n k x rest low found feed

-- ---- the instruction

-- an opcode with a good line is in front
pub line_in_front : (limits : Bounds) (o : Op) (n most : ℕ) (bytes : List ℕ) →
    layout_at o ≡ layout.Line most → 256 ≤ most → code_of o ≡ get_or bytes 0 0 →
    HasLine (rule_of o) n bytes → IsFront limits o 0 n bytes
line_in_front limits o n most bytes lay room code h =
    let e : n ≡ suc (length (h.line ++ line_feed ∷ [])) =
    omega (arith, h.count, length-append h.line (line_feed ∷ [])) in
    let whole : get_or bytes 0 0 ∷ (h.line ++ line_feed ∷ h.behind)
    ≡ (get_or bytes 0 0 ∷ (h.line ++ line_feed ∷ [])) ++ h.behind =
    ap (λ (l : List ℕ). get_or bytes 0 0 ∷ l) (sym (append_assoc h.line (line_feed ∷ []) h.behind))
    in
    let cut : take n bytes ≡ get_or bytes 0 0 ∷ (h.line ++ line_feed ∷ []) =
    ap (take n) (h.spelled ∙ whole)
    ∙ take_at (get_or bytes 0 0 ∷ (h.line ++ line_feed ∷ [])) h.behind n (sym e) in
    let front = get_or bytes 0 0 ∷ (h.line ++ line_feed ∷ []) in
    let total : length bytes ≡ length (front ++ h.behind) = ap length (h.spelled ∙ whole) in
    let sum = length-append front h.behind in
    let short = h.short.short in
    let suits : Suits (layout_at o) (Line h.line) =
    rw lay (record { short = omega (arith, short, room); whole = h.short.whole }) in
    record {
      found = record {
        arg = Line h.line;
        lies = record {
          laid = record { suits = suits; within = tt };
          spelled = rw code cut;
          split_is = refl;
        };
        good = record { suits = suits; contents = h.obeys };
        admitted = line_admitted o most (Line h.line) lay;
      };
      role = other_role o (rw lay (λ e. cc)) (rw lay (λ e. cc));
      within = omega (arith, e, total, sum);
    }

-- and so is an opcode that is this one
pub line_of : (limits : Bounds) (o named : Op) (n most : ℕ) (bytes : List ℕ) → named ≡ o →
    layout_at o ≡ layout.Line most → 256 ≤ most → o ≢ op.Stop → HasCode named bytes →
    HasLine (rule_of o) n bytes → IsInFront limits named n bytes
line_of limits o named n most bytes is lay room unlike code h =
    let same = subst (λ (x : Op). HasCode x bytes) is code unlike in
    let front = line_in_front limits o n most bytes lay room same h in
    let single = no_two_lines o (λ m. rw lay (λ e. cc)) in
    subst (λ (x : Op). IsInFront limits x n bytes) (sym is) (rw single front)
