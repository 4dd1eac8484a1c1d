-- What is written of a listing so far, and that consecutive parts add up.
use Rattle.std.proofs.Common.{◌≡◌, ℕ, Result, List, [], ◌∷◌, ◌++◌, Option, arith}
use Rattle.std.specs.Prelude.{max}
use Rattle.std.specs.Io.KnownBytes.{Appends}
use Rattle.std.specs.List.{flat_map}
use Rattle.std.proofs.lemmas.Grind.{flat_map-append}
use Rattle.pkcheck.specs.Heard.{Heard}
use Rattle.pkcheck.specs.declared.Yes.{Yes}
use Rattle.pkcheck.specs.declared.No.{No}
use Rattle.pkcheck.specs.Appended.{appends_none, appends_then}
use Rattle.pkprint.specs.Listing.{listing_line, highest, last_line, listing}

-- the lines of these instructions were written, and the highest protocol was raised by theirs
abbrev pub Lists : Option (List ℕ) → Option (List ℕ) → ℕ → ℕ → List Heard → Type 0
Lists old new before after hs =
    Appends old new (flat_map listing_line hs) × (after ≡ max before (highest hs))

-- no instruction adds no line
pub lists_none : (a : Option (List ℕ)) (n : ℕ) → Lists a a n n []
lists_none a n = (appends_none a, omega arith)

highest_more :
    (hs : List Heard) (h : Heard)
    → highest (hs ++ h ∷ []) ≡ max (highest hs) (highest (h ∷ []))
highest_more [] h = omega arith
highest_more (x ∷ hs) h = let e = highest_more hs h in omega (arith, e)

-- one more instruction adds its line
pub lists_more :
    (a b c : Option (List ℕ)) (n m k : ℕ) (hs : List Heard) (h : Heard)
    → Lists a b n m hs → Lists b c m k (h ∷ []) → Lists a c n k (hs ++ h ∷ [])
lists_more a b c n m k hs h (f, e) (g, i) =
    let j = highest_more hs h in
    (rw flat_map-append (appends_then a b c _ _ f g), omega (arith, e, i, j))

-- all lines, then the last one
pub lists_all :
    (a b c : Option (List ℕ)) (n : ℕ) (hs : List Heard) (answer : Result Yes No)
    → Lists a b 0 n hs → Appends b c (last_line answer n) → Appends a c (listing answer hs)
lists_all a b c n hs answer (f, e) g =
    let same : highest hs ≡ n = omega (arith, e) in
    appends_then a b c _ _ f (rw same g)
