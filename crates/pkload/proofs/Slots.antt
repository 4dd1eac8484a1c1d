-- How the entries of the stack change with its codes, and what the slice above its mark is.
use Rattle.std.proofs.Common.{◌≡◌, ◌+◌, ◌-◌, ◌≤◌, ℕ, zero, suc, List, [], ◌∷◌, ◌++◌, length, take}
use Rattle.std.proofs.Common.{Result, Ok, Err, get_or, refl, sym, ap, ◌∙◌, arith, drop, map, set}
use Rattle.std.proofs.Common.{append-nil, length-append, min, reverse, ◌<◌, subst}
use Rattle.std.proofs.Math.Seq.{take-length, take-suc}
use Rattle.std.proofs.lemmas.List.{get_or-set_same, length-drop, length-map, length-reverse}
use Rattle.std.proofs.lemmas.List.{length-set, length-take-le, reverse-append, take-set, take-take}
use Rattle.std.proofs.lemmas.List.{take-append-drop}
use Rattle.std.specs.Prelude.{IsErr}
use Rattle.pkstack.specs.Shape.{Breach, Entry, Item, Mark, NoItem, NoMark, Taken, items, slice}
use Rattle.pkstack.specs.Shape.{top}
use Rattle.pkload.specs.Heft.{Heft}
use Rattle.pkload.specs.Private.Billing.{AreReplaced, HasReplaced, HasSlice}
use Rattle.pkload.specs.Private.Packed.{unpacked}
use Rattle.pkload.specs.Private.Shown.{HasObjects, entries_of, shown}

-- ---- the top

pub pushed_object : (fence : ℕ) (codes : List ℕ) (code : ℕ) → fence ≤ length codes
    → entries_of fence (codes ++ code ∷ []) ≡ Item (unpacked code) ∷ entries_of fence codes
pushed_object fence codes code within =
    let more : length (codes ++ code ∷ []) - fence ≡ suc (length codes - fence) =
    omega (arith, within, length-append codes (code ∷ [])) in
    ap (shown (length (codes ++ code ∷ []) - fence)) (reverse-append codes (code ∷ []))
    ∙ ap (λ n. shown n (code ∷ reverse codes)) more

-- above the topmost mark, the last code is that of the object on top
pub object_on_top : (fence n : ℕ) (codes : List ℕ) (d : ℕ) → length codes ≡ suc n → fence ≤ n
    → entries_of fence codes ≡ Item (unpacked (get_or codes n d)) ∷ entries_of fence (take n codes)
object_on_top fence n codes d size within =
    ap (entries_of fence)
    (sym (take-length codes) ∙ ap (λ k. take k codes) size
    ∙ take-suc codes n d (omega (arith, size)))
    ∙ pushed_object fence (take n codes) (get_or codes n d)
    (omega (arith, within, length-take-le n codes (omega (arith, size))))

-- at the fence there is a mark on top, or nothing
at_fence : (codes : List ℕ) → top (shown 0 codes) ≡ Err NoItem
at_fence [] = refl
at_fence (code ∷ codes) = refl

pub no_object : (fence : ℕ) (codes : List ℕ) → length codes ≤ fence
    → top (entries_of fence codes) ≡ Err NoItem
no_object fence codes few =
    ap (λ n. top (shown n (reverse codes))) (omega (arith, few)) ∙ at_fence (reverse codes)

pub nothing_left : (fence : ℕ) (codes : List ℕ) → length codes ≡ 0 → entries_of fence codes ≡ []
nothing_left fence [] none = refl
nothing_left fence (code ∷ codes) none = cc none

pub object_popped : (fence : ℕ) (codes : List ℕ) → fence < length codes
    → (entry : Entry Heft) × (entries_of fence codes
    ≡ entry ∷ entries_of fence (take (length codes - 1) codes))
object_popped fence codes above = (
  Item (unpacked (get_or codes (length codes - 1) 0)),
  object_on_top fence (length codes - 1) codes 0 (omega (arith, above)) (omega (arith, above)),
)

-- a mark says how many codes there are up to the next mark, or more
under_mark : (place outer : ℕ) (codes : List ℕ) → place ≤ length codes
    → entries_of (min outer place) (take place codes)
    ≡ shown (length (reverse (take place codes)) - outer) (reverse (take place codes))
under_mark place outer codes within = ap (λ n. shown n (reverse (take place codes)))
    (omega (arith, length-reverse (take place codes), length-take-le place codes within))

pub mark_popped : (fence : ℕ) (codes : List ℕ) → fence ≤ length codes → length codes ≤ fence
    → 0 < length codes
    → (entry : Entry Heft) × (entries_of fence codes
    ≡ entry ∷ entries_of (min (get_or codes (length codes - 1) 0) (fence - 1))
    (take (length codes - 1) codes))
mark_popped fence codes within few some =
    let place = length codes - 1 in
    let size : length codes ≡ suc place = omega (arith, some) in
    let same : fence - 1 ≡ place = omega (arith, within, few) in
    let outer = get_or codes place 0 in
    let last : reverse codes ≡ outer ∷ reverse (take place codes) =
    ap reverse (sym (take-length codes) ∙ ap (λ k. take k codes) size
    ∙ take-suc codes place 0 (omega (arith, size)))
    ∙ reverse-append (take place codes) (outer ∷ []) in (
      Mark,
      ap (λ n. shown n (reverse codes)) (omega (arith, few))
          ∙ ap (shown 0) last
          ∙ ap (λ l. Mark ∷ l) (sym (under_mark place outer codes (omega (arith, size))))
          ∙ ap (λ k. Mark ∷ entries_of (min outer k) (take place codes)) (sym same),
    )

pub replaced : (fence n : ℕ) (codes : List ℕ) (code : ℕ) (heft : Heft) → length codes ≡ suc n
    → fence ≤ n → unpacked code ≡ heft → (entry : Entry Heft) (below : List (Entry Heft))
    → entries_of fence codes ≡ entry ∷ below
    → entries_of fence (set codes n code) ≡ Item heft ∷ below
replaced fence n codes code heft size within is entry below shows =
    object_on_top fence n (set codes n code) 0 (length-set codes n code ∙ size) within
    ∙ ap (λ c. Item (unpacked c) ∷ entries_of fence (take n (set codes n code)))
    (get_or-set_same codes n code 0 (omega (arith, size)))
    ∙ ap (λ h. Item h ∷ entries_of fence (take n (set codes n code))) is
    ∙ ap (λ l. Item heft ∷ entries_of fence l) (take-set codes n code)
    ∙ ap (λ l. Item heft ∷ l)
    (ap (drop 1) (sym (object_on_top fence n codes 0 size within) ∙ shows))

-- ---- several objects

items_above : (count fence : ℕ) (codes : List ℕ) (above : List Heft)
    → count + fence ≤ length codes
    → (hefts : List Heft) × (items count (entries_of fence codes) above
    ≡ Ok (record {
      operands = hefts;
      below = entries_of fence (take (length codes - count) codes);
    }))
items_above zero fence codes above enough =
    let all : codes ≡ take (length codes - 0) codes =
    sym (ap (λ k. take k codes) (omega arith) ∙ take-length codes) in
    (above, ap (λ l. Ok (record { operands = above; below = entries_of fence l })) all)
items_above (suc count) fence codes above enough =
    let n = length codes - 1 in
    let size : length codes ≡ suc n = omega (arith, enough) in
    let item = unpacked (get_or codes n 0) in
    let short : length (take n codes) ≡ n = length-take-le n codes (omega arith) in
    let rest = items_above count fence (take n codes) (item ∷ above)
    (omega (arith, enough, short)) in
    let less : take (length (take n codes) - count) (take n codes)
    ≡ take (length codes - suc count) codes =
    ap (λ k. take (k - count) (take n codes)) short
    ∙ take-take (n - count) n codes (omega arith)
    ∙ ap (λ k. take k codes) (omega (arith, enough)) in (
      rest.0,
      ap (λ es. items (suc count) es above)
          (object_on_top fence n codes 0 size (omega (arith, enough)))
          ∙ rest.1
          ∙ ap (λ l. Ok (record { operands = rest.0; below = entries_of fence l })) less,
    )

pub all_replaced : (count fence : ℕ) (codes : List ℕ) (code : ℕ) (heft : Heft)
    → count + fence ≤ length codes → unpacked code ≡ heft
    → AreReplaced count (entries_of fence codes)
    (entries_of fence (take (length codes - count) codes ++ code ∷ [])) heft
all_replaced count fence codes code heft enough shown_is =
    let found = items_above count fence codes [] enough in
    let place = length codes - count in
    record {
      hefts = found.0;
      below = entries_of fence (take place codes);
      is = found.1;
      new_is = pushed_object fence (take place codes) code
          (omega (arith, enough, length-take-le place codes (omega arith)))
          ∙ ap (λ h. Item h ∷ entries_of fence (take place codes)) shown_is;
    }

-- fewer objects lie above the topmost mark
few_above : (count above : ℕ) (codes : List ℕ) (hefts : List Heft) → above < count
    → IsErr (items count (shown above codes) hefts)
few_above zero above codes hefts few = absurd (omega (arith, few))
few_above (suc count) above [] hefts few = refl
few_above (suc count) zero (code ∷ codes) hefts few = refl
few_above (suc count) (suc above) (code ∷ codes) hefts few =
    few_above count above codes (unpacked code ∷ hefts) (omega (arith, few))

pub items_missing : (count fence : ℕ) (codes : List ℕ) → length codes - fence < count
    → IsErr (items count (entries_of fence codes) [])
items_missing count fence codes few =
    few_above count (length codes - fence) (reverse codes) [] few

-- ---- the slice

-- these objects, from the top down, in front of others
abbrev onto : List ℕ → List Heft → List Heft
onto [] above = above
onto (code ∷ codes) above = onto codes (unpacked code ∷ above)

onto_last : (codes : List ℕ) (code : ℕ) (above : List Heft)
    → onto (codes ++ code ∷ []) above ≡ unpacked code ∷ onto codes above
onto_last [] code above = refl
onto_last (next ∷ codes) code above = onto_last codes code (unpacked next ∷ above)

onto_reverse : (codes : List ℕ) (above : List Heft)
    → onto (reverse codes) above ≡ map unpacked codes ++ above
onto_reverse [] above = refl
onto_reverse (code ∷ codes) above =
    ap (λ l. onto l above) (reverse-append (code ∷ []) codes)
    ∙ onto_last (reverse codes) code above
    ∙ ap (λ l. unpacked code ∷ l) (onto_reverse codes above)

passed : (codes rest : List ℕ) (above : List Heft)
    → slice (shown (length codes) (codes ++ rest)) above ≡ slice (shown 0 rest) (onto codes above)
passed [] rest above = refl
passed (code ∷ codes) rest above = passed codes rest (unpacked code ∷ above)

module _ (fence : ℕ) (codes : List ℕ) (within : fence ≤ length codes) where
  abbrev here : List ℕ
  here = drop fence codes

  reversed : reverse codes ≡ reverse here ++ reverse (take fence codes)
  reversed =
      ap reverse (sym (take-append-drop fence codes)) ∙ reverse-append (take fence codes) here

  count : length codes - fence ≡ length (reverse here)
  count = sym (length-reverse here ∙ length-drop fence codes)

  all_passed : slice (entries_of fence codes) []
      ≡ slice (shown 0 (reverse (take fence codes))) (map unpacked here)
  all_passed =
      ap (λ l. slice (shown (length codes - fence) l) []) reversed
      ∙ ap (λ n. slice (shown n (reverse here ++ reverse (take fence codes))) []) count
      ∙ passed (reverse here) (reverse (take fence codes)) []
      ∙ ap (slice (shown 0 (reverse (take fence codes))))
      (onto_reverse here [] ∙ append-nil (map unpacked here))

-- above a mark, the slice has the objects with the last codes
pub sliced : (place : ℕ) (codes : List ℕ) (d : ℕ) → suc place ≤ length codes
    → slice (entries_of (suc place) codes) [] ≡ Ok (record {
      operands = map unpacked (drop (suc place) codes);
      below = entries_of (get_or codes place d) (take place codes);
    })
sliced place codes d within =
    let outer = get_or codes place d in
    let hefts = map unpacked (drop (suc place) codes) in
    let mark : reverse (take (suc place) codes) ≡ outer ∷ reverse (take place codes) =
    ap reverse (take-suc codes place d within)
    ∙ reverse-append (take place codes) (outer ∷ []) in
    all_passed (suc place) codes within
    ∙ ap (λ l. slice (shown 0 l) hefts) mark
    ∙ ap (λ n. slice (Mark ∷ shown (n - outer) (reverse (take place codes))) hefts)
    (length-reverse (take place codes))

-- likewise, with the number of its objects
pub slice_shown : (fence place : ℕ) (codes : List ℕ) → fence ≡ suc place → fence ≤ length codes
    → HasSlice (entries_of fence codes)
    (entries_of (min (get_or codes place 0) place) (take place codes)) (length codes - fence)
slice_shown fence place codes is within = record {
  hefts = map unpacked (drop (suc place) codes);
  is = ap (λ n. slice (entries_of n codes) []) is
      ∙ sliced place codes 0 (omega (arith, is, within))
      ∙ ap (λ below. Ok (record {
        operands = map unpacked (drop (suc place) codes);
        below = below;
      }))
      (ap (λ n. shown (n - get_or codes place 0) (reverse (take place codes)))
      (sym (length-reverse (take place codes)))
      ∙ sym (under_mark place (get_or codes place 0) codes (omega (arith, is, within))));
  count_is = omega (
    arith,
    is,
    length-map (drop (suc place) codes) unpacked,
    length-drop (suc place) codes,
  );
}

-- likewise, and an object that is put in place of the slice lies above what lies below it
pub slice_replaced : (fence place : ℕ) (codes : List ℕ) (code : ℕ) (heft : Heft)
    → fence ≡ suc place → fence ≤ length codes → unpacked code ≡ heft
    → HasReplaced (entries_of fence codes)
    (entries_of (min (get_or codes place 0) place) (take place codes ++ code ∷ [])) heft
    (length codes - fence)
slice_replaced fence place codes code heft is within shown_is = record {
  below = entries_of (min (get_or codes place 0) place) (take place codes);
  found = slice_shown fence place codes is within;
  new_is = pushed_object (min (get_or codes place 0) place) (take place codes) code
      (omega (arith, length-take-le place codes (omega (arith, is, within))))
      ∙ ap (λ h. Item h ∷ entries_of (min (get_or codes place 0) place) (take place codes))
      shown_is;
}

abbrev taken_in : Result (Taken Heft) Breach → Taken Heft
taken_in (Ok taken) = taken
taken_in (Err breach) = record { operands = []; below = [] }

drop_shown : (fence : ℕ) (codes : List ℕ) → fence ≤ length codes
    → HasObjects (entries_of fence codes) (drop fence codes)
drop_shown zero codes within taken is = cc (sym (all_passed zero codes within) ∙ is)
drop_shown (suc place) codes within taken is =
    ap (λ r. (taken_in r).operands) (sym is ∙ sliced place codes 0 within)

-- the codes from the fence on are those of the objects above the topmost mark
pub objects_shown : (fence : ℕ) (codes : List ℕ) → fence ≤ length codes
    → HasObjects (entries_of fence codes) (take (length codes - fence) (drop fence codes))
objects_shown fence codes within = subst (HasObjects (entries_of fence codes))
    (sym (ap (λ n. take n (drop fence codes)) (sym (length-drop fence codes))
    ∙ take-length (drop fence codes))) (drop_shown fence codes within)

-- without a mark there is no slice
pub no_slice : (fence : ℕ) (codes : List ℕ) → fence ≡ 0
    → slice (entries_of fence codes) [] ≡ Err NoMark
no_slice fence codes none =
    ap (λ n. slice (entries_of n codes) []) none ∙ all_passed 0 codes (omega arith)
