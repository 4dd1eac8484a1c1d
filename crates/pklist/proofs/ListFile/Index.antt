-- The index of the pairs of a list.
use Rattle.std.proofs.Common.{◌≡◌, Bool, true, false, cond, subst, Option, Some, None, is_some}
use Rattle.std.proofs.Common.{String, Less, Equal, Greater, nat_cmp, is_eq, refl, ap, sym, ◌∙◌}
use Rattle.std.proofs.Common.{arith}
use Rattle.std.specs.BTreeSet.{BTreeSet, contains_text}
use Rattle.std.specs.declared.alloc.Global.{Global}
use Rattle.std.specs.Cmp.Lexicographic.{slice_cmp}
use Rattle.std.specs.Ordering.{match_ordering}
use Rattle.std.specs.Str.{bytes_eq}
use Rattle.std.proofs.lemmas.Map.Text.{is_eq-slice_cmp}
use Rattle.std.proofs.lemmas.Slice.Eq.{bytes_eq-Decides}
use Rattle.toml.specs.Data.{Data, Members, no_members, member, get_member}
use Rattle.toml.specs.Errors.{IsBlank}
use Rattle.toml.specs.Parse.{parse_document, lines}
use Rattle.pklist.specs.ListFile.{Text, has_name, fault_of_document}
use Rattle.pklist.specs.Private.ListIndex.{HasJust}

abbrev pub TextSet : Type 0
TextSet = BTreeSet (String Global)

pub has_none : {A : Type 0} (o : Option A) → false ≡ is_some o → o ≡ None
has_none None e = refl
has_none (Some a) e = cc

-- the names of the module if the index has it, and otherwise what the rest of the table says
abbrev pub has_or : Option TextSet → Text → Bool → Bool
has_or (Some names) n rest = contains_text names n
has_or None n rest = rest

turned : (k m : Text) (b : Bool) → bytes_eq k m ≡ b → bytes_eq m k ≡ b
turned k m true e = grind (arith, bytes_eq-Decides)
turned k m false e = grind (arith, bytes_eq-Decides)

same_text : (k m : Text) → bytes_eq k m ≡ true → m ≡ k
same_text k m e = grind (arith, bytes_eq-Decides)

member_other : (k m : Text) (v : Data) (rest : Members) → bytes_eq k m ≡ false
    → get_member m (member k v rest) ≡ get_member m rest
member_other k m v rest e =
    elim (slice_cmp nat_cmp m k) as (λ o. is_eq o ≡ false
    → match_ordering o (get_member m rest) (Some v) (get_member m rest) ≡ get_member m rest) [
      | Less ↦ λ h. refl
      | Equal ↦ λ h. cc
      | Greater ↦ λ h. refl
    ] (is_eq-slice_cmp m k ∙ turned k m false e)

member_same : (k m : Text) (v : Data) (rest : Members) → bytes_eq k m ≡ true
    → get_member m (member k v rest) ≡ Some v
member_same k m v rest e =
    elim (slice_cmp nat_cmp m k) as (λ o. is_eq o ≡ true
    → match_ordering o (get_member m rest) (Some v) (get_member m rest) ≡ Some v) [
      | Less ↦ λ h. cc
      | Equal ↦ λ h. refl
      | Greater ↦ λ h. cc
    ] (is_eq-slice_cmp m k ∙ turned k m true e)

module _ (f : Text → Option TextSet) (k : Text) (v : Data) (rest : Members) (m n : Text) where
  there : (o : Option TextSet) → true ≡ is_some o
      → has_or o n (has_name n (get_member k rest))
      ≡ has_or o n (has_name n (get_member k (member k v rest)))
  there (Some s) g = refl
  there None g = cc

  past_by : (b : Bool) → bytes_eq k m ≡ b → true ≡ is_some (f k)
      → has_or (f m) n (has_name n (get_member m rest))
      ≡ has_or (f m) n (has_name n (get_member m (member k v rest)))
  past_by false e h = rw (member_other k m v rest e) refl
  past_by true e h = subst
      (λ z. has_or (f z) n (has_name n (get_member z rest))
      ≡ has_or (f z) n (has_name n (get_member z (member k v rest)))) (sym (same_text k m e))
      (there (f k) h)

  -- the index already has the module
  pub module_past : true ≡ is_some (f k) → has_or (f m) n (has_name n (get_member m rest))
      ≡ has_or (f m) n (has_name n (get_member m (member k v rest)))
  module_past h = past_by (bytes_eq k m) refl h

  module _ (g : Text → Option TextSet) (set : TextSet) (none : f k ≡ None)
      (has : HasJust set (λ n. has_name n (Some v))) where
    added_by : (b : Bool) → bytes_eq k m ≡ b → g m ≡ cond b (Some set) (f m)
        → has_or (g m) n (has_name n (get_member m rest))
        ≡ has_or (f m) n (has_name n (get_member m (member k v rest)))
    added_by false e h = rw (h, member_other k m v rest e) refl
    added_by true e h =
        let z : f m ≡ None = ap f (same_text k m e) ∙ none in
        rw (h, z, member_same k m v rest e) (has n)

    -- one more module is added to the index
    pub module_added : g m ≡ cond (bytes_eq k m) (Some set) (f m)
        → has_or (g m) n (has_name n (get_member m rest))
        ≡ has_or (f m) n (has_name n (get_member m (member k v rest)))
    module_added h = added_by (bytes_eq k m) refl h

-- a blank text is a document without members
blank_parses : (text : Text) → IsBlank text → parse_document text ≡ Some no_members
unfolding parse_document lines
blank_parses text h = rw h refl

pub blank_fault : (text : Text) (d : Members) → parse_document text ≡ Some d
    → fault_of_document d ≡ None → IsBlank text → ⊥
blank_fault text d is none h =
    let e : Some no_members ≡ Some d = sym (blank_parses text h) ∙ is in
    let f : no_members ≡ d = cc in
    let g : fault_of_document no_members ≡ None = ap fault_of_document f ∙ none in
    cc
