-- A text is read as forms exactly where it is their bytes, one behind the other.
use Rattle.std.proofs.Common.{◌≡◌, ℕ, zero, suc, ◌-◌, List, [], ◌∷◌, ◌++◌, length, drop, Option}
use Rattle.std.proofs.Common.{Some, None, refl, sym, ap, subst, ◌∙◌, arith, All, flat_map}
use Rattle.std.proofs.Common.{option_map, option_and_then}
use Rattle.std.proofs.lemmas.List.Elements.{All-nil, All-cons, All-head, All-tail}
use Rattle.pkops.specs.Forms.{forms_behind, forms_of}

-- a good form is printed and read
pub record IsRead {A : Type 0} (first : ℕ → List ℕ → Option A) (print : A → List ℕ) (form : A)
    (rest : List ℕ) : Type 0 where
  pub byte : ℕ
  pub others : List ℕ
  pub printed : print form ≡ byte ∷ others
  pub read : first byte (others ++ rest) ≡ Some form

-- what is read is a good form, and is printed
pub record IsPrinted {A : Type 0} (print : A → List ℕ) (Is : A → Type 0) (form : A) (byte : ℕ)
    (rest : List ℕ) : Type 0 where
  pub is : Is form
  pub others : ℕ
  pub len : length (print form) ≡ suc others
  pub parts : byte ∷ rest ≡ print form ++ drop others rest

-- reading and printing are inverse
pub record AreInverse {A : Type 0} (first : ℕ → List ℕ → Option A) (print : A → List ℕ)
    (Is : A → Type 0) : Type 0 where
  pub forth : (form : A) (rest : List ℕ) → Is form → IsRead first print form rest
  pub back : (byte : ℕ) (rest : List ℕ) (form : A) → first byte rest ≡ Some form
      → IsPrinted print Is form byte rest

module _ {A : Type 0} (first : ℕ → List ℕ → Option A) (print : A → List ℕ) (Is : A → Type 0)
    (inverse : AreInverse first print Is) where
  abbrev with_form : A → Option (List A) → Option (List A)
  with_form form read = option_map (λ forms. form ∷ forms) read

  one_step : (byte : ℕ) (rest : List ℕ) → forms_of first print (byte ∷ rest)
      ≡ option_and_then
      (λ form. with_form form (forms_behind first print (length (print form) - 1) rest))
      (first byte rest)
  unfolding forms_behind
  one_step byte rest = refl

  past : (front rest : List ℕ) → forms_behind first print (length front) (front ++ rest)
      ≡ forms_of first print rest
  unfolding forms_behind
  past [] rest = refl
  past (byte ∷ front) rest = past front rest

  no_forms : forms_of first print [] ≡ Some []
  unfolding forms_behind
  no_forms = refl

  -- forms that are printed are read
  pub read_of : (forms : List A) → All Is forms
      → forms_of first print (flat_map print forms) ≡ Some forms
  read_of [] h = no_forms
  read_of (form ∷ forms) h =
      let rest = flat_map print forms in
      let r = inverse.forth form rest (All-head Is form forms h) in
      let left : length (print form) - 1 ≡ length r.others = omega (arith, ap length r.printed) in
      ap (λ (t : List ℕ). forms_of first print (t ++ rest)) r.printed
      ∙ (one_step r.byte (r.others ++ rest)
      ∙ (rw r.read
      (ap (λ (n : ℕ). with_form form (forms_behind first print n (r.others ++ rest))) left
      ∙ (ap (with_form form) (past r.others rest)
      ∙ ap (with_form form) (read_of forms (All-tail Is form forms h))))))

  abbrev Printed : List ℕ → List A → Type 0
  Printed bytes forms = All Is forms × (bytes ≡ flat_map print forms)

  printed_more : (byte : ℕ) (rest : List ℕ) (form : A) (forms all : List A)
      → IsPrinted print Is form byte rest → Printed (drop (length (print form) - 1) rest) forms
      → form ∷ forms ≡ all → Printed (byte ∷ rest) all
  printed_more byte rest form forms all p h e =
      let left : length (print form) - 1 ≡ p.others = omega (arith, p.len) in
      let tail : drop p.others rest ≡ flat_map print forms =
      ap (λ (n : ℕ). drop n rest) (sym left) ∙ h.1 in
      subst (λ (l : List A). Printed (byte ∷ rest) l) e
      (All-cons Is form forms p.is h.0, p.parts ∙ ap (λ (t : List ℕ). print form ++ t) tail)

  printed_on : (byte : ℕ) (rest : List ℕ) (form : A) (all : List A) (read : Option (List A))
      → IsPrinted print Is form byte rest
      → ((forms : List A) → read ≡ Some forms → Printed (drop (length (print form) - 1) rest) forms)
      → with_form form read ≡ Some all → Printed (byte ∷ rest) all
  printed_on byte rest form all None p ih e = absurd cc
  printed_on byte rest form all (Some forms) p ih e =
      printed_more byte rest form forms all p (ih forms refl) cc

  printed_at : (byte : ℕ) (rest : List ℕ) (all : List A) (found : Option A)
      → first byte rest ≡ found → ((inside : ℕ) (forms : List A)
      → forms_behind first print inside rest ≡ Some forms → Printed (drop inside rest) forms)
      → option_and_then (λ form. with_form form (forms_behind first print (length (print form) - 1)
      rest)) found ≡ Some all → Printed (byte ∷ rest) all
  printed_at byte rest all None found ih e = absurd cc
  printed_at byte rest all (Some form) found ih e =
      printed_on byte rest form all (forms_behind first print (length (print form) - 1) rest)
      (inverse.back byte rest form found) (ih (length (print form) - 1)) e

  none_dropped : (inside : ℕ) (forms : List A) → [] ≡ forms → Printed (drop inside []) forms
  none_dropped zero forms e = subst (λ (l : List A). Printed [] l) e (All-nil Is, refl)
  none_dropped (suc inside) forms e = subst (λ (l : List A). Printed [] l) e (All-nil Is, refl)

  printed_behind : (bytes : List ℕ) (inside : ℕ) (forms : List A)
      → forms_behind first print inside bytes ≡ Some forms → Printed (drop inside bytes) forms
  unfolding forms_behind
  printed_behind [] inside forms e = none_dropped inside forms cc
  printed_behind (byte ∷ rest) (suc inside) forms e = printed_behind rest inside forms e
  printed_behind (byte ∷ rest) zero forms e = printed_at byte rest forms (first byte rest) refl
      (printed_behind rest) e

  -- forms that are read were printed
  pub printed_of : (bytes : List ℕ) (forms : List A) → forms_of first print bytes ≡ Some forms
      → Printed bytes forms
  printed_of bytes forms e = printed_behind bytes 0 forms e
