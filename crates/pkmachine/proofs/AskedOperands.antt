-- Operands refer to texts of the table, and a new import comes behind those listed before it.
use Rattle.std.proofs.Common.{◌≡◌, ℕ, List, [], ◌∷◌, Option, None, Some, length, take}
use Rattle.std.proofs.Math.Seq.{take-append_seam, take-length}
use Rattle.pkmachine.specs.declared.held.Held.{Held}
use Rattle.pkmachine.specs.Covers.{Pointwise}
use Rattle.pkmachine.specs.Knowledge.{Known}
use Rattle.pkmachine.specs.Private.Asking.{AreNumbered}
use Rattle.pkmachine.specs.Private.Slots.{StandsAs}
use Rattle.pkimport.specs.Import.{Asked, asks_more}

-- the earlier imports come before the new one
pub listed_before : (a : Option Asked) (listed : List Asked)
    → take (length listed) (asks_more a listed) ≡ listed
listed_before None listed = take-length listed
listed_before (Some a) listed = take-append_seam listed (a ∷ [])

pub are_numbered : {I : Type 0} (ts : List (List ℕ)) (vs : List (Held I)) (ks : List Known)
    → Pointwise (StandsAs ts) vs ks → AreNumbered (length ts) vs
are_numbered ts [] ks h = tt
are_numbered ts (v ∷ vs) (k ∷ ks) h = (h.0.numbered, are_numbered ts vs ks h.1)
are_numbered ts (v ∷ vs) [] h = absurd h
