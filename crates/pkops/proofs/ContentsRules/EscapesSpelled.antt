-- Text with escapes, read from left to right, is the text that the line spells.
use Rattle.std.proofs.Common.{◌≡◌, ℕ, true, eqb, List, [], ◌∷◌, ◌++◌, length, map, take, drop, Some}
use Rattle.std.proofs.Common.{refl, sym, ap, subst, ◌∙◌, arith, inl, inr, option_map, take_at}
use Rattle.std.proofs.Common.{take-append-drop}
use Rattle.std.specs.List.{list_all}
use Rattle.std.specs.Char.{is_ascii_hexdigit}
use Rattle.std.proofs.lemmas.Bool.{and_parts, and_from, cases_Bool, eqb-true, eqb-false, eq-eqb}
use Rattle.std.proofs.lemmas.Bool.{ne_eqb}
use Rattle.std.proofs.lemmas.List.Sums.{AllPass-from_list_all, list_all-from_AllPass}
use Rattle.pkops.specs.Escapes.{Character, plain, short, long, print_character, code_point}
use Rattle.pkops.specs.Escapes.{IsEscape, IsCharacter, SpellsText, is_escape, digits_at, escape_at}
use Rattle.pkops.specs.Escapes.{character_at, points_of}
use Rattle.pkops.specs.Forms.{forms_of}
use Rattle.pkops.proofs.ContentsRules.Loop.{mapped}
use Rattle.pkops.proofs.ContentsRules.FormsRead.{IsRead, IsPrinted, AreInverse, read_of, printed_of}

-- ---- one escape

is_escape_of : (n : ℕ) (digits : List ℕ) → IsEscape n digits → is_escape n digits ≡ true
is_escape_of n digits h =
    and_from (eqb (length digits) n) _ (eq-eqb (length digits) n h.count)
    (and_from (list_all is_ascii_hexdigit digits) _
    (list_all-from_AllPass is_ascii_hexdigit digits h.hexadecimal) h.scalar)

escape_is : (n : ℕ) (digits : List ℕ) → is_escape n digits ≡ true → IsEscape n digits
escape_is n digits e =
    let p = and_parts (eqb (length digits) n) _ e in
    let q = and_parts (list_all is_ascii_hexdigit digits) _ p.1 in
    record {
      count = eqb-true (length digits) n p.0;
      hexadecimal = AllPass-from_list_all is_ascii_hexdigit digits q.0;
      scalar = q.1;
    }

digits_forth : (n : ℕ) (digits rest : List ℕ) → IsEscape n digits
    → digits_at n (digits ++ rest) ≡ Some digits
digits_forth n digits rest h = let front : take n (digits ++ rest) ≡ digits =
    take_at digits rest n h.count in rw (front, is_escape_of n digits h) refl

digits_back : (n : ℕ) (text digits : List ℕ) → digits_at n text ≡ Some digits
    → IsEscape n digits × (text ≡ digits ++ drop n text)
digits_back n text digits e = elim (cases_Bool (is_escape n (take n text))) [
  | inr other ↦ absurd (let f = rw other at e in cc)
  | inl good ↦
      let same : take n text ≡ digits = (let f = rw good at e in cc) in (
        subst (IsEscape n) same (escape_is n (take n text) good),
        sym (take-append-drop n text) ∙ ap (λ (front : List ℕ). front ++ drop n text) same,
      )
]

-- ---- one character

forth : (character : Character) (rest : List ℕ) → IsCharacter character
    → IsRead character_at print_character character rest
forth (plain byte) rest h =
    record { byte = byte; others = []; printed = refl; read = rw (ne_eqb byte 92 h) refl }
forth (short digits) rest h = record {
  byte = 92;
  others = 117 ∷ digits;
  printed = refl;
  read = ap (option_map short) (digits_forth 4 digits rest h);
}
forth (long digits) rest h = record {
  byte = 92;
  others = 85 ∷ digits;
  printed = refl;
  read = ap (option_map long) (digits_forth 8 digits rest h);
}

short_back : (text : List ℕ) (character : Character)
    → option_map short (digits_at 4 text) ≡ Some character
    → IsPrinted print_character IsCharacter character 92 (117 ∷ text)
short_back text character e =
    let m = mapped short (digits_at 4 text) character e in
    let d = digits_back 4 text m.0 m.1 in
    let count = d.0.count in
    subst (λ (c : Character). IsPrinted print_character IsCharacter c 92 (117 ∷ text)) m.2
    (record {
      is = d.0;
      others = 5;
      len = omega arith;
      parts = ap (λ (t : List ℕ). 92 ∷ 117 ∷ t) d.1;
    })

long_back : (text : List ℕ) (character : Character)
    → option_map long (digits_at 8 text) ≡ Some character
    → IsPrinted print_character IsCharacter character 92 (85 ∷ text)
long_back text character e =
    let m = mapped long (digits_at 8 text) character e in
    let d = digits_back 8 text m.0 m.1 in
    let count = d.0.count in
    subst (λ (c : Character). IsPrinted print_character IsCharacter c 92 (85 ∷ text)) m.2
    (record {
      is = d.0;
      others = 9;
      len = omega arith;
      parts = ap (λ (t : List ℕ). 92 ∷ 85 ∷ t) d.1;
    })

escape_back : (text : List ℕ) (character : Character) → escape_at text ≡ Some character
    → IsPrinted print_character IsCharacter character 92 text
escape_back [] character e = absurd cc
escape_back (letter ∷ text) character e = elim (cases_Bool (eqb letter 117)) [
  | inl u ↦ subst (λ (l : ℕ). IsPrinted print_character IsCharacter character 92 (l ∷ text))
      (sym (eqb-true letter 117 u)) (short_back text character (rw u at e))
  | inr nu ↦ elim (cases_Bool (eqb letter 85)) [
    | inl u ↦ subst (λ (l : ℕ). IsPrinted print_character IsCharacter character 92 (l ∷ text))
        (sym (eqb-true letter 85 u)) (long_back text character (rw (nu, u) at e))
    | inr n ↦ absurd (let f = rw (nu, n) at e in cc)
  ]
]

back : (byte : ℕ) (rest : List ℕ) (character : Character) → character_at byte rest ≡ Some character
    → IsPrinted print_character IsCharacter character byte rest
back byte rest character e = elim (cases_Bool (eqb byte 92)) [
  | inl b ↦ subst (λ (x : ℕ). IsPrinted print_character IsCharacter character x rest)
      (sym (eqb-true byte 92 b)) (escape_back rest character (rw b at e))
  | inr n ↦
      let same : plain byte ≡ character = (let f = rw n at e in cc) in
      subst (λ (c : Character). IsPrinted print_character IsCharacter c byte rest) same
      (record { is = eqb-false byte 92 n; others = 0; len = refl; parts = refl })
]

characters : AreInverse character_at print_character IsCharacter
characters = record { forth = forth; back = back }

-- ---- a line

pub points_of_spelled : (line points : List ℕ) → SpellsText line points
    → points_of line ≡ Some points
points_of_spelled line points (cs, all, line_is, points_is) =
    ap points_of line_is
    ∙ (ap (option_map (map code_point))
    (read_of character_at print_character IsCharacter characters cs all)
    ∙ ap (λ (p : List ℕ). Some p) (sym points_is))

pub spelled_points : (line points : List ℕ) → points_of line ≡ Some points → SpellsText line points
spelled_points line points e =
    let m = mapped (map code_point) (forms_of character_at print_character line) points e in
    let p = printed_of character_at print_character IsCharacter characters line m.0 m.1 in
    (m.0, p.0, p.1, sym m.2)
