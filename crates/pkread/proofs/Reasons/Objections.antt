-- Which instructions are admitted.
use Rattle.std.proofs.Common.{◌≡◌, ℕ, Bool, true, false, List, Some, None, refl}
use Rattle.std.specs.Prelude.{IsTrue, if◌then◌else◌}
use Rattle.pkops.specs.Admitted.{is_admitted}
use Rattle.pkops.specs.Answer.{IsWhole}
use Rattle.pkops.specs.Spelling.{Argument, Number, Instruction}
use Rattle.pkops.specs.declared.Op.{Op}
use Rattle.pkops.specs.declared.Op.TheVariants as op
use Rattle.pkops.specs.declared.Reason.TheVariants.{ExtensionCode, UnsupportedProtocol}
use Rattle.pkread.specs.Admission.{objection, unadmitted_by}
use Rattle.pkread.specs.Rows.{Reason, IsAmiss}

-- the reasons that an objection may have
abbrev IsObjection : Reason → Type 0
IsObjection ExtensionCode = Unit {0}
IsObjection (UnsupportedProtocol p) = Unit {0}
IsObjection _ = ⊥

unadmitted : (o : Op) (arg : Argument) → IsObjection (unadmitted_by o arg)
unadmitted op.Proto (Number width protocol) = tt
unadmitted op.Proto _ = tt
unadmitted _ arg = tt

unless : (good : Bool) (x r : Reason) → IsObjection x → (if good then None else Some x) ≡ Some r
    → IsObjection r
unless true x r k e = cc
unless false x r k e = let f : x ≡ r = cc in rw (← f) k

amiss : (limit : ℕ) (b : List ℕ) (i : Instruction) (n : ℕ) (r : Reason) → IsObjection r
    → IsWhole limit b i n → objection i ≡ Some r → IsAmiss limit b r
amiss limit b i n ExtensionCode k w e = (i, n, w, e)
amiss limit b i n (UnsupportedProtocol p) k w e = (i, n, w, e)
amiss limit b i n _ k w e = absurd k

-- an instruction that is whole and not admitted is amiss
module _ {limit : ℕ} {b : List ℕ} {i : Instruction} {n : ℕ} {r : Reason} where
  pub objection_is_amiss : IsWhole limit b i n → objection i ≡ Some r → IsAmiss limit b r
  objection_is_amiss w e = amiss limit b i n r
      (unless (is_admitted i) (unadmitted_by i.op i.arg) r (unadmitted i.op i.arg) e) w e

admitted_by : (good : Bool) (x : Reason) → (if good then None else Some x) ≡ None → IsTrue good
admitted_by true x e = refl
admitted_by false x e = cc

-- an instruction with no objection is admitted
pub no_objection : (i : Instruction) → objection i ≡ None → IsTrue (is_admitted i)
no_objection i e = admitted_by (is_admitted i) (unadmitted_by i.op i.arg) e
