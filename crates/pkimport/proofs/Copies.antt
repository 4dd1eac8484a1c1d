-- Copies the imports of one table to the end of another.
use Rattle.std.proofs.Common.{◌≡◌, ◌⊎◌, ℕ, zero, suc, ◌+◌, ◌<◌, List, [], ◌∷◌, ◌++◌, length, map}
use Rattle.std.proofs.Common.{take, get_or, Option, None, Some, inl, inr, refl, sym, ap, ◌∙◌, arith}
use Rattle.std.proofs.Common.{add-one, append_assoc, length-append}
use Rattle.std.proofs.Math.ListN.{set}
use Rattle.std.proofs.Math.Seq.{get_or-append_seam, take-suc}
use Rattle.std.proofs.lemmas.List.{map-append}
use Rattle.pkimport.specs.Private.Entries.{AreCopies, AreEntries, IsEntry, KeepsCopies, entry_asked}
use Rattle.pkimport.specs.Table.{HasMoreTexts}
use Rattle.pkimport.specs.declared.import_table.ListedImport.{ListedImport}
use Rattle.pkimport.proofs.NotedImports.{are_grown, are_more, are_written, asked_grown}
use Rattle.pkimport.proofs.NotedImports.{asked_written, longer, map_more, same_table, text_grown}

-- a lookup in a list after one of its elements was set
at_set : (copies : List (Option ℕ)) (k i n copy : ℕ)
    → get_or (set copies k (Some n)) i None ≡ Some copy → ((i ≡ k) × (copy ≡ n))
    ⊎ (get_or copies i None ≡ Some copy)
at_set (x ∷ xs) zero zero n copy e = inl (refl, cc)
at_set (x ∷ xs) (suc k) (suc i) n copy e = one_on (at_set xs k i n copy e)
  where
    one_on : ((i ≡ k) × (copy ≡ n)) ⊎ (get_or xs i None ≡ Some copy)
        → ((suc i ≡ suc k) × (copy ≡ n)) ⊎ (get_or (x ∷ xs) (suc i) None ≡ Some copy)
    one_on (inl (same, is)) = inl (ap suc same, is)
    one_on (inr e) = inr e
at_set _ _ _ n copy e = inr e

-- the name with this number
abbrev pub Names : List (List ℕ) → ℕ → List ℕ → Type 0
Names written number name = (number < length written) × (get_or written number [] ≡ name)

-- the number of a name that was appended
pub names_last : (ws : List (List ℕ)) (name : List ℕ) → Names (ws ++ name ∷ []) (length ws) name
names_last ws name = (omega (arith, length-append ws (name ∷ [])), get_or-append_seam ws name [] [])

module _ (ws vs : List (List ℕ)) (g : HasMoreTexts ws vs) where
  -- a name keeps its number when the table grows
  pub names_grown : (number : ℕ) (name : List ℕ) → Names ws number name → Names vs number name
  names_grown number name h =
      let l = longer ws vs g in
      let lt = h.0 in
      (omega (arith, l, lt), text_grown ws vs g number h.0 ∙ h.1)

  -- the copies stay valid
  pub copies_grown : (copies : List (Option ℕ)) (ts : List (List ℕ)) → AreCopies copies ts ws
      → AreCopies copies ts vs
  copies_grown copies ts h number copy e = names_grown copy (get_or ts number []) (h number copy e)

-- one more copy
pub copies_more : (copies : List (Option ℕ)) (ts ws : List (List ℕ)) (k : ℕ)
    → AreCopies copies ts ws → AreCopies (set copies k (Some (length ws))) ts
    (ws ++ get_or ts k [] ∷ [])
copies_more copies ts ws k h number copy e = cases (at_set copies k number (length ws) copy e)
  where
    vs : List (List ℕ)
    vs = ws ++ get_or ts k [] ∷ []

    cases : ((number ≡ k) × (copy ≡ length ws)) ⊎ (get_or copies number None ≡ Some copy)
        → Names vs copy (get_or ts number [])
    cases (inl (same, is)) = rw (same, is) (names_last ws (get_or ts k []))
    cases (inr old) = names_grown ws vs (record { more = get_or ts k [] ∷ []; is = refl }) copy
        (get_or ts number []) (h number copy old)

pub entry_at : (made written k : ℕ) (es : List ListedImport) (d : ListedImport)
    → AreEntries made written es → k < length es → IsEntry made written (get_or es k d)
entry_at made written k [] d h lt = absurd (omega (arith, lt))
entry_at made written zero (e ∷ es) d h lt = h.0
entry_at made written (suc k) (e ∷ es) d h lt = entry_at made written k es d h.1 (omega (arith, lt))

pub grows_more : (a b c : List (List ℕ)) → HasMoreTexts a b → HasMoreTexts b c → HasMoreTexts a c
grows_more a b c g h = record {
  more = g.more ++ h.more;
  is = h.is ∙ (ap (λ l. l ++ h.more) g.is ∙ append_assoc a g.more h.more);
}

-- the first `count` entries of another table were copied
pub record CopiedSoFar (ts ws : List (List ℕ)) (es : List ListedImport) (before now : List (List ℕ))
    (copies : List (Option ℕ)) (copied : List ListedImport) (count : ℕ) : Type 0 where
  pub grows : HasMoreTexts before now
  pub size : length copies ≡ length ts
  pub stand : AreCopies copies ts now
  pub named : AreEntries 0 (length now) copied
  pub same : map (entry_asked [] now) copied ≡ map (entry_asked ts ws) (take count es)

module _ (ts ws : List (List ℕ)) (es : List ListedImport) (before : List (List ℕ)) where
  -- one more entry is copied
  pub copied_more : (now new : List (List ℕ)) (copies next : List (Option ℕ))
      (copied : List ListedImport) (count : ℕ) (d e : ListedImport)
      → CopiedSoFar ts ws es before now copies copied count
      → count < length es → KeepsCopies ts copies next now new
      → IsEntry 0 (length new) e × (entry_asked [] new e ≡ entry_asked ts ws (get_or es count d))
      → CopiedSoFar ts ws es before new next (copied ++ e ∷ []) (count + 1)
  copied_more now new copies next copied count d e h lt kept ok =
      let here = asked_written [] kept.grows copied h.named in
      let last = take-suc es count d lt in
      record {
        grows = grows_more before now new h.grows kept.grows;
        size = kept.count ∙ h.size;
        stand = kept.copies;
        named = are_more 0 (length new) copied e (are_written [] kept.grows copied h.named) ok.0;
        same = map_more (entry_asked [] new) copied e ∙ (λ i. (here ∙ h.same) i ++ ok.1 i ∷ [])
            ∙ sym (map_more (entry_asked ts ws) (take count es) (get_or es count d))
            ∙ ap (map (entry_asked ts ws)) (sym last ∙ ap (λ n. take n es) (sym (add-one count)));
      }

-- entries that refer to no text of a table
module _ (ts ws vs : List (List ℕ)) (old more : List ListedImport) (g : HasMoreTexts ws vs)
    (h : AreEntries (length ts) (length ws) old) (k : AreEntries 0 (length vs) more) where
  any : HasMoreTexts [] ts
  any = record { more = ts; is = refl }

  both : (xs ys : List ListedImport) → AreEntries (length ts) (length vs) xs
      → AreEntries (length ts) (length vs) ys → AreEntries (length ts) (length vs) (xs ++ ys)
  both [] ys p q = q
  both (x ∷ xs) ys p q = (p.0, both xs ys p.1 q)

  -- appended entries
  pub are_behind : AreEntries (length ts) (length vs) (old ++ more)
  are_behind = both old more (are_written ts g old h)
      (are_grown [] ts vs vs any (same_table vs) more k)

  pub asked_behind : map (entry_asked ts vs) (old ++ more) ≡ map (entry_asked ts ws) old
      ++ map (entry_asked [] vs) more
  asked_behind = map-append (entry_asked ts vs) old more
      ∙ (λ i. asked_written ts g old h i
      ++ asked_grown [] ts vs vs any (same_table vs) more k i)
