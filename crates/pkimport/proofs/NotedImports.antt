-- What an import table holds: its entries stay right when its tables of texts grow.
use Rattle.std.proofs.Common.{◌≡◌, ℕ, zero, suc, ◌-◌, ◌<◌, ◌≤◌, List, [], ◌∷◌, ◌++◌, drop, length}
use Rattle.std.proofs.Common.{map, take, get_or, refl, ap, arith, sym, ◌∙◌, append-nil}
use Rattle.std.proofs.Common.{length-append}
use Rattle.std.proofs.lemmas.List.{length-drop}
use Rattle.std.proofs.Math.ListN.{get_or-append}
use Rattle.std.proofs.Math.Seq.{take-append_seam}
use Rattle.pkimport.specs.declared.import_table.ListedImport.{ListedImport}
use Rattle.pkimport.specs.declared.import_table.ListedImport.TheVariants as entry
use Rattle.pkimport.specs.Import.{AskedPair}
use Rattle.pkimport.specs.Private.Entries.{AreEntries, IsEntry, entry_asked}
use Rattle.pkimport.specs.Table.{HasMoreTexts}

pub same_table : (ts : List (List ℕ)) → HasMoreTexts ts ts
same_table ts = record { more = []; is = sym (append-nil ts) }

module _ (ts us : List (List ℕ)) (g : HasMoreTexts ts us) where
  pub longer : length ts ≤ length us
  longer = rw g.is (omega (arith, length-append ts g.more))

  pub text_grown : (n : ℕ) → n < length ts → get_or us n [] ≡ get_or ts n []
  text_grown n h = rw g.is (get_or-append ts g.more [] n h)

-- ---- a table of texts that grew

module _ (ts us ws vs : List (List ℕ)) (g : HasMoreTexts ts us) (h : HasMoreTexts ws vs) where
  entry_grown : (e : ListedImport) → IsEntry (length ts) (length ws) e
      → entry_asked us vs e ≡ entry_asked ts ws e
  entry_grown entry.Unknown k = refl
  entry_grown (entry.Made m n) k = λ i. AskedPair (text_grown ts us g m k.0 i)
      (text_grown ts us g n k.1 i)
  entry_grown (entry.Written m n) k = λ i. AskedPair (text_grown ws vs h m k.0 i)
      (text_grown ws vs h n k.1 i)

  is_grown : (e : ListedImport) → IsEntry (length ts) (length ws) e
      → IsEntry (length us) (length vs) e
  is_grown entry.Unknown k = tt
  is_grown (entry.Made m n) k = let l = longer ts us g in
      (omega (arith, l, k.0), omega (arith, l, k.1))
  is_grown (entry.Written m n) k = let l = longer ws vs h in
      (omega (arith, l, k.0), omega (arith, l, k.1))

  pub asked_grown : (es : List ListedImport) → AreEntries (length ts) (length ws) es
      → map (entry_asked us vs) es ≡ map (entry_asked ts ws) es
  asked_grown [] k = refl
  asked_grown (e ∷ es) k = λ i. entry_grown e k.0 i ∷ asked_grown es k.1 i

  pub are_grown : (es : List ListedImport) → AreEntries (length ts) (length ws) es
      → AreEntries (length us) (length vs) es
  are_grown [] k = tt
  are_grown (e ∷ es) k = (is_grown e k.0, are_grown es k.1)

-- more written names alone
module _ (ts : List (List ℕ)) {ws vs : List (List ℕ)} (h : HasMoreTexts ws vs)
    (es : List ListedImport) (k : AreEntries (length ts) (length ws) es) where
  pub asked_written : map (entry_asked ts vs) es ≡ map (entry_asked ts ws) es
  asked_written = asked_grown ts ts ws vs (same_table ts) h es k

  pub are_written : AreEntries (length ts) (length vs) es
  are_written = are_grown ts ts ws vs (same_table ts) h es k

-- ---- one import more or fewer

pub are_more : (made written : ℕ) (es : List ListedImport) (e : ListedImport)
    → AreEntries made written es → IsEntry made written e → AreEntries made written (es ++ e ∷ [])
are_more made written [] e h k = (k, tt)
are_more made written (d ∷ es) e h k = (h.0, are_more made written es e h.1 k)

pub are_kept : (made written count : ℕ) (es : List ListedImport) → AreEntries made written es
    → AreEntries made written (take count es)
are_kept made written (suc n) (e ∷ es) h = (h.0, are_kept made written n es h.1)
are_kept made written _ _ h = tt

pub are_left : (made written count : ℕ) (es : List ListedImport) → AreEntries made written es
    → AreEntries made written (drop count es)
are_left made written zero es h = h
are_left made written (suc n) [] h = tt
are_left made written (suc n) (e ∷ es) h = are_left made written n es h.1

-- the first ones moved to the end, and cut off
pub cut_off : {X : Type 0} (count rest : ℕ) (xs ys : List X) → rest ≡ length xs - count
    → ys ≡ drop count xs ++ take count xs → take rest ys ≡ drop count xs
cut_off count rest xs ys is moved =
    ap (λ n. take n ys) (is ∙ sym (length-drop count xs))
    ∙ (ap (take (length (drop count xs))) moved
    ∙ take-append_seam (drop count xs) (take count xs))

pub map_more : {A B : Type 0} (f : A → B) (xs : List A) (x : A)
    → map f (xs ++ x ∷ []) ≡ map f xs ++ f x ∷ []
map_more f [] x = refl
map_more f (y ∷ xs) x = ap (λ l. f y ∷ l) (map_more f xs x)
