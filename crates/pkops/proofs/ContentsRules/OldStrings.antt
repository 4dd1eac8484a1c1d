-- The test of strings in quotes holds exactly of the lines of the grammar.
use Rattle.std.proofs.Common.{◌≡◌, ◌≢◌, ℕ, suc, ◌+◌, ◌-◌, ◌*◌, ◌≤◌, Bool, true, false, ◌&&◌, eqb}
use Rattle.std.proofs.Common.{leb, List, [], ◌∷◌, ◌++◌, length, map, take, drop, get_or, Option}
use Rattle.std.proofs.Common.{Some, None, refl, sym, ap, subst, ◌∙◌, arith, inl, inr, IfSome}
use Rattle.std.proofs.Common.{is_some, All, flat_map, option_map, take_at, length-append}
use Rattle.std.specs.Char.{is_ascii_hexdigit, digit_value}
use Rattle.std.proofs.lemmas.Bool.{and_parts, or_cases, cases_Bool, eqb-true, eqb-false, eq-eqb}
use Rattle.std.proofs.lemmas.Bool.{ne_eqb, leb-true, le-leb}
use Rattle.std.proofs.lemmas.List.Elements.{All-nil, All-cons, All-head, All-tail}
use Rattle.std.proofs.Math.Seq.{get_or-append_seam}
use Rattle.pkops.specs.declared.contents.old_string.Place.{Place}
use Rattle.pkops.specs.declared.contents.old_string.Place.TheVariants.{Outside, Behind, High, Low}
use Rattle.pkops.specs.OldBytes.{byte_of, bytes_between, letter_byte}
use Rattle.pkops.specs.OldStrings.{Item, plain, escape, hex, print_item, is_escape_letter, IsItem}
use Rattle.pkops.specs.OldStrings.{IsQuote, IsStringLine, items_of}
use Rattle.pkops.specs.Private.Places.{place_step}
use Rattle.pkops.specs.RuleTests.{are_items, is_quote, is_string_line}
use Rattle.pkops.proofs.ContentsRules.Loop.{Machine, alike, completes, items_from, joined, mapped}
use Rattle.pkops.proofs.ContentsRules.Loop.{mapped_some, passes, read_so, with_item}
use Rattle.pkops.proofs.ContentsRules.OldStringsSpelled.{not_x, items_is, is_items_of}
use Rattle.pkops.proofs.ContentsRules.OldStringsSpelled.{items_of_printed, items_printed}

abbrev pub ended : Place → Bool
ended Outside = true
ended _ = false

pub not_ended : (place : Place) → place ≢ Outside → ended place ≡ false
not_ended Outside h = absurd (h refl)
not_ended _ h = refl

-- how what these quotes enclose is read
abbrev pub old_items : (quote : ℕ) → Machine
old_items quote = record {
  Point = Place;
  ended = ended;
  step = place_step quote;
  write = λ bytes. bytes;
  one = λ byte. byte ∷ [];
  more = λ byte bytes. refl;
}

-- the bytes that are spelled from a place on; none if what is left ends inside an escape
abbrev pub spelled : (quote : ℕ) → Place → List ℕ → Option (List ℕ)
spelled quote place bytes = items_from (old_items quote) place bytes

-- ---- items

-- these bytes are items that stand for those bytes
abbrev Spells : ℕ → (line bytes : List ℕ) → Type 0
Spells quote line bytes = (items : List Item) × All (IsItem quote) items
    × (line ≡ flat_map print_item items) × (bytes ≡ map byte_of items)

one_more : (quote : ℕ) (item : Item) (line bytes : List ℕ) → IsItem quote item
    → Spells quote line bytes → Spells quote (print_item item ++ line) (byte_of item ∷ bytes)
one_more quote item line bytes h (items, all, e, b) = (
  item ∷ items,
  All-cons (IsItem quote) item items h all,
  ap (λ (rest : List ℕ). print_item item ++ rest) e,
  ap (λ (rest : List ℕ). byte_of item ∷ rest) b,
)

-- what is known of bytes that are read from a place on: with the bytes before the place they are
-- items
abbrev Completes : ℕ → Place → (line bytes : List ℕ) → Type 0
Completes quote Outside line bytes = Spells quote line bytes
Completes quote Behind line bytes = Spells quote (92 ∷ line) bytes
Completes quote High line bytes = Spells quote (92 ∷ 120 ∷ line) bytes
Completes quote (Low value) line bytes = (high : ℕ) → is_ascii_hexdigit high ≡ true
    → digit_value high ≡ value → Spells quote (92 ∷ 120 ∷ high ∷ line) bytes

-- the byte of two digits
two_digits : (high low : ℕ) → byte_of (hex high low) ≡ digit_value high * 16 + digit_value low
two_digits high low = omega arith

at_end : (quote : ℕ) (place : Place) → ended place ≡ true → Completes quote place [] []
at_end quote Outside e = ([], All-nil (IsItem quote), refl, refl)
at_end quote _ e = absurd cc

-- one byte, given what the bytes after it do from wherever it leads
leads : (quote : ℕ) (place : Place) (byte : ℕ) (line bytes : List ℕ)
    → IfSome (place_step quote place byte) (λ next. Completes quote next.0 line bytes
    → Completes quote place (byte ∷ line) (with_item next.1 bytes))
leads quote Outside byte line bytes = elim (cases_Bool (eqb byte 92)) [
  | inl b ↦ rw b (λ ih. subst (λ (x : ℕ). Spells quote (x ∷ line) bytes)
      (sym (eqb-true byte 92 b)) ih)
  | inr nb ↦ elim (cases_Bool (eqb byte quote)) [
    | inl q ↦ rw (nb, q) tt
    | inr nq ↦ elim (cases_Bool (leb 32 byte && leb byte 126)) [
      | inl within ↦ rw (nb, nq, within) (λ ih.
          let p = and_parts (leb 32 byte) (leb byte 126) within in
          one_more quote (plain byte) line bytes
          (record {
            low = leb-true _ _ p.0;
            high = leb-true _ _ p.1;
            no_backslash = eqb-false byte 92 nb;
            no_quote = eqb-false byte quote nq;
          }) ih)
      | inr out ↦ rw (nb, nq, out) tt
    ]
  ]
]
leads quote Behind byte line bytes = elim (cases_Bool (eqb byte 120)) [
  | inl x ↦ rw x (λ ih. subst (λ (y : ℕ). Spells quote (92 ∷ y ∷ line) bytes)
      (sym (eqb-true byte 120 x)) ih)
  | inr nx ↦ elim (cases_Bool (is_escape_letter byte)) [
    | inl l ↦ rw (nx, l) (λ ih. one_more quote (escape byte) line bytes l ih)
    | inr nl ↦ rw (nx, nl) tt
  ]
]
leads quote High byte line bytes = elim (cases_Bool (is_ascii_hexdigit byte)) [
  | inl h ↦ rw h (λ ih. ih byte h refl)
  | inr n ↦ rw n tt
]
leads quote (Low value) byte line bytes = elim (cases_Bool (is_ascii_hexdigit byte)) [
  | inl h ↦ rw h (λ ih high is same. subst
      (λ (b : ℕ). Spells quote (92 ∷ 120 ∷ high ∷ byte ∷ line) (b ∷ bytes))
      (two_digits high byte ∙ ap (λ (v : ℕ). v * 16 + digit_value byte) same)
      (one_more quote (hex high byte) line bytes (is, h) ih))
  | inr n ↦ rw n tt
]

-- ---- items are read

abbrev after : ℕ → ℕ → List ℕ → Option (List ℕ)
after quote byte line = option_map (with_item (Some byte)) (spelled quote Outside line)

item_read : (quote : ℕ) (item : Item) (line : List ℕ) → IsItem quote item
    → spelled quote Outside (print_item item ++ line) ≡ after quote (byte_of item) line
item_read quote (plain byte) line h =
    completes (old_items quote) Outside Outside byte byte line
    (rw (
      ne_eqb byte 92 h.no_backslash,
      ne_eqb byte quote h.no_quote,
      le-leb _ _ h.low,
      le-leb _ _ h.high,
    ) refl)
item_read quote (escape letter) line h =
    passes (old_items quote) Outside Behind 92 (letter ∷ line) refl
    ∙ completes (old_items quote) Behind Outside letter (letter_byte letter) line
    (rw (not_x letter h, h) refl)
item_read quote (hex high low) line h =
    passes (old_items quote) Outside Behind 92 (120 ∷ high ∷ low ∷ line) refl
    ∙ (passes (old_items quote) Behind High 120 (high ∷ low ∷ line) refl
    ∙ (passes (old_items quote) High (Low (digit_value high)) high (low ∷ line) (rw h.0 refl)
    ∙ completes (old_items quote) (Low (digit_value high)) Outside low
    (digit_value high * 16 + digit_value low) line
    (rw h.1 refl)))
    ∙ ap (λ (byte : ℕ). after quote byte line) (sym (two_digits high low))

items_read : (quote : ℕ) (items : List Item) → All (IsItem quote) items
    → spelled quote Outside (flat_map print_item items) ≡ Some (map byte_of items)
unfolding items_from
items_read quote [] h = refl
items_read quote (item ∷ items) h =
    item_read quote item (flat_map print_item items) (All-head (IsItem quote) item items h)
    ∙ ap (option_map (with_item (Some (byte_of item))))
    (items_read quote items (All-tail (IsItem quote) item items h))

-- ---- what is read byte by byte is what is read item by item

pub between_spelled : (quote : ℕ) (line : List ℕ) (items : List Item) → All (IsItem quote) items
    → line ≡ flat_map print_item items → bytes_between quote line ≡ Some (map byte_of items)
between_spelled quote line items all e =
    ap (bytes_between quote) e ∙ ap (option_map (map byte_of)) (items_of_printed quote items all)

pub spelled_between : (quote : ℕ) (line bytes : List ℕ) → bytes_between quote line ≡ Some bytes
    → Spells quote line bytes
spelled_between quote line bytes e =
    let m = mapped (map byte_of) (items_of quote line) bytes e in
    let p = items_printed quote line m.0 m.1 in
    (m.0, p.0, p.1, sym m.2)

pub spelled_is : (quote : ℕ) (line : List ℕ) → spelled quote Outside line ≡ bytes_between quote line
spelled_is quote line =
    alike (spelled quote Outside line) (bytes_between quote line)
    (λ bytes e. let s = read_so (old_items quote) (Completes quote) (at_end quote) (leads quote)
    line Outside bytes e in
    between_spelled quote line s.0 s.1 s.2 ∙ ap (λ (b : List ℕ). Some b) (sym s.3))
    (λ bytes e. let s = spelled_between quote line bytes e in
    ap (spelled quote Outside) s.2
    ∙ (items_read quote s.0 s.1 ∙ ap (λ (b : List ℕ). Some b) (sym s.3)))

pub some_is : (quote : ℕ) (line : List ℕ) → is_some (spelled quote Outside line)
    ≡ are_items quote line
some_is quote line = ap is_some (spelled_is quote line)
    ∙ mapped_some (map byte_of) (items_of quote line)

nothing_before : (quote : ℕ) (read : Option (List ℕ)) → joined (old_items quote) [] read ≡ read
nothing_before quote None = refl
nothing_before quote (Some bytes) = refl

pub joined_is : (bytes : List ℕ) (quote : ℕ) (line : List ℕ) → bytes ≡ []
    → joined (old_items quote) bytes (spelled quote Outside line) ≡ bytes_between quote line
joined_is bytes quote line e =
    ap (λ (b : List ℕ). joined (old_items quote) b (spelled quote Outside line)) e
    ∙ (nothing_before quote (spelled quote Outside line) ∙ spelled_is quote line)

-- ---- the line

-- a line of two bytes or more is the first, the inside and the last
pub framed : (line : List ℕ) → 2 ≤ length line
    → line ≡ get_or line 0 0 ∷ take (length line - 2) (drop 1 line)
    ++ get_or line (length line - 1) 0 ∷ []
framed [] le = absurd (omega arith)
framed (a ∷ []) le = absurd (omega arith)
framed (a ∷ b ∷ rest) le = ap (λ (t : List ℕ). a ∷ t) (ends_with b rest) where
  ends_with : (b : ℕ) (rest : List ℕ) → b ∷ rest ≡ take (length (a ∷ b ∷ rest) - 2) (b ∷ rest)
      ++ get_or (a ∷ b ∷ rest) (length (a ∷ b ∷ rest) - 1) 0 ∷ []
  ends_with b [] = refl
  ends_with b (c ∷ rest) =
      let two : length (a ∷ b ∷ c ∷ rest) - 2 ≡ suc (length (a ∷ c ∷ rest) - 2) = omega arith in
      let one : length (a ∷ b ∷ c ∷ rest) - 1 ≡ suc (length (a ∷ c ∷ rest) - 1) = omega arith in
      let last : get_or (b ∷ c ∷ rest) (length (a ∷ c ∷ rest) - 1) 0
      ≡ get_or (a ∷ c ∷ rest) (length (a ∷ c ∷ rest) - 1) 0 =
      (let s : length (a ∷ c ∷ rest) - 1 ≡ suc (length rest) = omega arith in rw s refl) in
      rw (two, one, last) (ap (λ (t : List ℕ). b ∷ t) (ends_with c rest))

pub quote_is : (byte : ℕ) → is_quote byte ≡ true → IsQuote byte
quote_is byte e = elim (or_cases (eqb byte 39) (eqb byte 34) e) [
  | inl s ↦ inl (eqb-true byte 39 s)
  | inr d ↦ inr (eqb-true byte 34 d)
]

pub is_quote_of : (byte : ℕ) → IsQuote byte → is_quote byte ≡ true
is_quote_of byte (inl e) = ap is_quote e
is_quote_of byte (inr e) = ap is_quote e

pub string_is : (line : List ℕ) → is_string_line line ≡ true → IsStringLine line
string_is line e =
    let quote = get_or line 0 0 in
    let last = get_or line (length line - 1) 0 in
    let inside = take (length line - 2) (drop 1 line) in
    let p = and_parts (leb 2 (length line)) _ e in
    let q = and_parts (is_quote quote) _ p.1 in
    let r = and_parts (eqb last quote) (are_items quote inside) q.1 in
    let items = items_is quote inside r.1 in (
      quote,
      items.0,
      quote_is quote q.0,
      items.1,
      framed line (leb-true _ _ p.0)
          ∙ (ap (λ (t : List ℕ). quote ∷ t ++ last ∷ []) items.2
          ∙ ap (λ (x : ℕ). quote ∷ flat_map print_item items.0 ++ x ∷ [])
          (eqb-true last quote r.0)),
    )

quoted : (quote : ℕ) (inside : List ℕ) → IsQuote quote → are_items quote inside ≡ true
    → is_string_line (quote ∷ inside ++ quote ∷ []) ≡ true
quoted quote inside q items =
    let line = quote ∷ inside ++ quote ∷ [] in
    let len : length line ≡ suc (suc (length inside)) =
    omega (arith, length-append inside (quote ∷ [])) in
    let two : length line - 2 ≡ length inside = omega (arith, len) in
    let one : length line - 1 ≡ suc (length inside) = omega (arith, len) in
    let last : get_or (inside ++ quote ∷ []) (length inside) 0 ≡ quote =
    get_or-append_seam inside quote [] 0 in
    let long : leb 2 (length line) ≡ true = le-leb _ _ (omega (arith, len)) in
    rw (
      long,
      two,
      one,
      last,
      take_at inside (quote ∷ []) (length inside) refl,
      is_quote_of quote q,
      items,
    ) (same quote) where
      same : (quote : ℕ) → (eqb quote quote && true) ≡ true
      same quote = rw (eq-eqb quote quote refl) refl

pub is_string_of : (line : List ℕ) → IsStringLine line → is_string_line line ≡ true
is_string_of line (quote, items, q, all, e) =
    ap is_string_line e ∙ quoted quote (flat_map print_item items) q
    (is_items_of quote (flat_map print_item items) (items, all, refl))
