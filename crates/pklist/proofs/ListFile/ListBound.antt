-- An upper bound on the length of all modules and names of a list.
use Rattle.std.proofs.Common.{◌≡◌, ℕ, ◌+◌, ◌≤◌, ◌||◌, ◌&&◌, List, [], ◌∷◌, refl, ap, sym, ◌∙◌, Bool}
use Rattle.std.proofs.Common.{true, false, length, arith, Option, Some, codes, Ordering, Equal}
use Rattle.std.proofs.Common.{nat_cmp, is_eq}
use Rattle.std.specs.Str.{bytes_eq}
use Rattle.std.proofs.lemmas.Slice.Eq.{bytes_eq-Decides}
use Rattle.std.specs.Cmp.Lexicographic.{slice_cmp}
use Rattle.std.specs.Ordering.{match_ordering}
use Rattle.std.proofs.lemmas.Map.Text.{is_eq-slice_cmp}
use Rattle.toml.specs.Data.{Data, string, array, table, Items, no_items, item, Members, no_members}
use Rattle.toml.specs.Data.{member, get_member}
use Rattle.pklist.specs.declared.allow.Allow.{Allow}
use Rattle.pklist.specs.Allow.{document_of, lists}
use Rattle.pklist.specs.declared.pairs.Pair.{Pair}
use Rattle.pklist.specs.Pairs.{found, have}
use Rattle.pklist.specs.ListFile.{Text, items_have, has_name, lists_in}
use Rattle.pklist.specs.Bounded.{HasLongest, NamesAreBounded}
use Rattle.pklist.proofs.BinarySearch.{found_is_had}

same_length : (s k : Text) → bytes_eq s k ≡ true → length k ≤ length s
same_length s k e = grind (arith, bytes_eq-Decides)

bytes_eq_sym : (x y : Text) → bytes_eq x y ≡ true → bytes_eq y x ≡ true
bytes_eq_sym x y e = grind (arith, bytes_eq-Decides)

-- a bound on both sides of an `or`
either_bound : {a b : Bool} {x s n : ℕ} → (a ≡ true → x ≤ s) → (b ≡ true → x ≤ n)
    → (a || b) ≡ true → x ≤ s + n
either_bound {a = true} left right h = let r = left refl in omega arith
either_bound {a = false} left right h = let r = right h in omega arith

-- an upper bound on the length of the names that have this property
abbrev BoundOf : (Text → Bool) → Type 0
BoundOf has = (bound : ℕ) × ((name : Text) → has name ≡ true → length name ≤ bound)

items_bound : (values : Items) → BoundOf (λ name. items_have name values)
items_bound no_items = (0, λ name h. cc)
items_bound (item (string s) rest) =
    let (bound, below) = items_bound rest in
    (length s + bound, λ name. either_bound (same_length s name) (below name))
items_bound (item _ rest) = items_bound rest

names_bound : (value : Data) → BoundOf (λ name. has_name name (Some value))
names_bound (array values) = items_bound values
names_bound _ = (0, λ name h. cc)

-- one more member: the requested module comes before it, is it, or comes after it
member_bound : (order : Ordering) (key first name : Text) (value : Data) (rest : Members) (n s : ℕ)
    → order ≡ slice_cmp nat_cmp key first → (has_name name (Some value) ≡ true → length name ≤ n)
    → (has_name name (get_member key rest) ≡ true → (length key ≤ s) × (length name ≤ s))
    → has_name name (match_ordering order (get_member key rest) (Some value) (get_member key rest))
    ≡ true → (length key ≤ length first + n + s) × (length name ≤ length first + n + s)
member_bound Equal key first name value rest n s e here below h =
    let r = here h in
    let t = same_length first key
    (bytes_eq_sym key first (sym (is_eq-slice_cmp key first) ∙ ap is_eq (sym e))) in
    (omega arith, omega arith)
member_bound _ key first name value rest n s e here below h =
    let r = below h in (omega arith, omega arith)

members_bound : (modules : Members) → HasLongest
    (λ key name. has_name name (get_member key modules))
members_bound no_members = (0, λ key name h. cc)
members_bound (member first value rest) =
    let (n, here) = names_bound value in
    let (s, below) = members_bound rest in (
      length first + n + s,
      λ key name h. member_bound (slice_cmp nat_cmp key first) key first name value rest n s refl
          (here name) (below key name) h,
    )

imports_bound : (imports : Option Data) → HasLongest (lists_in imports)
imports_bound (Some (table modules)) = members_bound modules
imports_bound _ = (0, λ key name h. cc)

-- an upper bound on the length of the modules and names of a list
lists_bound : (list : Allow) → HasLongest (lists list)
lists_bound list = imports_bound (get_member (codes "imports") (document_of list))

-- one more pair: the requested module and name are its own, or those of a later pair
pair_bound : {a b c : Bool} {k n u v s : ℕ} → (a ≡ true → k ≤ u) → (b ≡ true → n ≤ v)
    → (c ≡ true → (k ≤ s) × (n ≤ s)) → ((a && b) || c) ≡ true → (k ≤ u + v + s) × (n ≤ u + v + s)
pair_bound {a = true} {b = true} home name below h =
    let r = home refl in let t = name refl in (omega arith, omega arith)
pair_bound home name below h = let r = below h in (omega arith, omega arith)

-- an upper bound on the length of the modules and names of an array
pairs_bound : (pairs : List Pair) → HasLongest (have pairs)
pairs_bound [] = (0, λ key name h. cc)
pairs_bound (p ∷ rest) =
    let (s, below) = pairs_bound rest in (
      length p.module_name.now + length p.name.now + s,
      λ key name. pair_bound (same_length p.module_name.now key) (same_length p.name.now name)
          (below key name),
    )

-- a binary search finds none but these
search_bound : (pairs : List Pair) → HasLongest (found pairs)
search_bound pairs =
    let (bound, below) = pairs_bound pairs in
    (bound, λ key name h. below key name (found_is_had pairs key name h))

pub names_are_bounded : NamesAreBounded
names_are_bounded = record {
  of_list = lists_bound;
  of_array = pairs_bound;
  of_search = search_bound;
}
