-- Strings in quotes, read from left to right, are those of the grammar.
use Rattle.std.proofs.Common.{◌≡◌, ℕ, true, false, ◌&&◌, not, eqb, leb, List, [], ◌∷◌, Option, Some}
use Rattle.std.proofs.Common.{None, refl, sym, ap, subst, ◌∙◌, inl, inr, is_some, All, flat_map}
use Rattle.std.specs.Char.{is_ascii_hexdigit}
use Rattle.std.proofs.lemmas.Bool.{and_parts, cases_Bool, eqb-true, eqb-false, ne_eqb, leb-true}
use Rattle.std.proofs.lemmas.Bool.{le-leb, both_ways}
use Rattle.pkops.specs.OldStrings.{Item, plain, escape, hex, print_item, is_escape_letter, IsItem}
use Rattle.pkops.specs.OldStrings.{is_plain, hex_at, old_escape_at, item_at, items_of}
use Rattle.pkops.specs.RuleTests.{are_items}
use Rattle.pkops.proofs.ContentsRules.FormsRead.{IsRead, IsPrinted, AreInverse, read_of, printed_of}

abbrev pub Items : ℕ → List ℕ → Type 0
Items quote bytes = (items : List Item) × All (IsItem quote) items
    × (bytes ≡ flat_map print_item items)

-- ---- one item

-- no escape is an x alone
pub not_x : (letter : ℕ) → is_escape_letter letter ≡ true → eqb letter 120 ≡ false
not_x letter h = elim (cases_Bool (eqb letter 120)) [
  | inl x ↦ absurd (both_ways _ (ap is_escape_letter (eqb-true letter 120 x)) h)
  | inr n ↦ n
]

module _ (quote : ℕ) where
  forth : (item : Item) (rest : List ℕ) → IsItem quote item
      → IsRead (item_at quote) print_item item rest
  forth (plain byte) rest h =
      let may : is_plain quote byte ≡ true =
      rw (ne_eqb byte quote h.no_quote, le-leb _ _ h.low, le-leb _ _ h.high) refl in
      record {
        byte = byte;
        others = [];
        printed = refl;
        read = rw (ne_eqb byte 92 h.no_backslash, may) refl;
      }
  forth (escape letter) rest h =
      record { byte = 92; others = letter ∷ []; printed = refl; read = rw (not_x letter h, h) refl }
  forth (hex high low) rest h = record {
    byte = 92;
    others = 120 ∷ high ∷ low ∷ [];
    printed = refl;
    read = rw (h.0, h.1) refl;
  }

  abbrev Prints : Item → ℕ → List ℕ → Type 0
  Prints item byte rest = IsPrinted print_item (IsItem quote) item byte rest

  hex_back : (text : List ℕ) (item : Item) → hex_at text ≡ Some item → Prints item 92 (120 ∷ text)
  hex_back [] item e = absurd cc
  hex_back (high ∷ []) item e = absurd cc
  hex_back (high ∷ low ∷ text) item e =
      elim (cases_Bool (is_ascii_hexdigit high && is_ascii_hexdigit low)) [
        | inr n ↦ absurd (let f = rw n at e in cc)
        | inl h ↦
            let same : hex high low ≡ item = (let f = rw h at e in cc) in
            let p = and_parts (is_ascii_hexdigit high) (is_ascii_hexdigit low) h in
            subst (λ (i : Item). Prints i 92 (120 ∷ high ∷ low ∷ text)) same
            (record { is = (p.0, p.1); others = 3; len = refl; parts = refl })
      ]

  escape_back : (text : List ℕ) (item : Item) → old_escape_at text ≡ Some item → Prints item 92 text
  escape_back [] item e = absurd cc
  escape_back (letter ∷ text) item e = elim (cases_Bool (eqb letter 120)) [
    | inl x ↦ subst (λ (l : ℕ). Prints item 92 (l ∷ text)) (sym (eqb-true letter 120 x))
        (hex_back text item (rw x at e))
    | inr nx ↦ elim (cases_Bool (is_escape_letter letter)) [
      | inl l ↦
          let same : escape letter ≡ item = (let f = rw (nx, l) at e in cc) in
          subst (λ (i : Item). Prints i 92 (letter ∷ text)) same
          (record { is = l; others = 1; len = refl; parts = refl })
      | inr n ↦ absurd (let f = rw (nx, n) at e in cc)
    ]
  ]

  plain_is : (byte : ℕ) → eqb byte 92 ≡ false → is_plain quote byte ≡ true
      → IsItem quote (plain byte)
  plain_is byte nb h =
      let p = and_parts (leb 32 byte) _ h in
      let q = and_parts (leb byte 126) (not (eqb byte quote)) p.1 in
      record {
        low = leb-true _ _ p.0;
        high = leb-true _ _ q.0;
        no_backslash = eqb-false byte 92 nb;
        no_quote = eqb-false byte quote (was_false (eqb byte quote) q.1);
      } where
        was_false : (b : _) → not b ≡ true → b ≡ false
        was_false true e = absurd cc
        was_false false e = refl

  back : (byte : ℕ) (rest : List ℕ) (item : Item) → item_at quote byte rest ≡ Some item
      → Prints item byte rest
  back byte rest item e = elim (cases_Bool (eqb byte 92)) [
    | inl b ↦ subst (λ (x : ℕ). Prints item x rest) (sym (eqb-true byte 92 b))
        (escape_back rest item (rw b at e))
    | inr nb ↦ elim (cases_Bool (is_plain quote byte)) [
      | inl h ↦
          let same : plain byte ≡ item = (let f = rw (nb, h) at e in cc) in
          subst (λ (i : Item). Prints i byte rest) same
          (record { is = plain_is byte nb h; others = 0; len = refl; parts = refl })
      | inr n ↦ absurd (let f = rw (nb, n) at e in cc)
    ]
  ]

  inverse : AreInverse (item_at quote) print_item (IsItem quote)
  inverse = record { forth = forth; back = back }

  -- ---- the items of bytes

  -- items that are printed are read
  pub items_of_printed : (items : List Item) → All (IsItem quote) items
      → items_of quote (flat_map print_item items) ≡ Some items
  items_of_printed items all = read_of (item_at quote) print_item (IsItem quote) inverse items all

  -- items that are read were printed
  pub items_printed : (bytes : List ℕ) (items : List Item) → items_of quote bytes ≡ Some items
      → All (IsItem quote) items × (bytes ≡ flat_map print_item items)
  items_printed bytes items e = printed_of (item_at quote) print_item
      (IsItem quote) inverse bytes items e

  found : (bytes : List ℕ) (read : Option (List Item)) → items_of quote bytes ≡ read
      → is_some read ≡ true → Items quote bytes
  found bytes None e some = absurd cc
  found bytes (Some items) e some = let p = items_printed bytes items e in (items, p.0, p.1)

  pub items_is : (bytes : List ℕ) → are_items quote bytes ≡ true → Items quote bytes
  items_is bytes e = found bytes (items_of quote bytes) refl e

  pub is_items_of : (bytes : List ℕ) → Items quote bytes → are_items quote bytes ≡ true
  is_items_of bytes (items, all, e) =
      ap (are_items quote) e ∙ ap is_some (items_of_printed items all)
