-- One step of the second pass.
use Rattle.std.proofs.Common.{◌≡◌, ℕ, ◌+◌, ◌<◌, ◌≤◌, Bool, true, false, cond, List, ◌∷◌, ◌++◌}
use Rattle.std.proofs.Common.{length, drop, get_or, refl, sym, ap, ◌∙◌, arith, append_assoc}
use Rattle.pkopt.specs.declared.fate.Fate.{Fate}
use Rattle.pkopt.specs.declared.fate.Fate.TheVariants.{Goes, Stays}
use Rattle.pkopt.specs.declared.fate.Plan.{Plan}
use Rattle.pkopt.specs.declared.memo.MemoUse.{MemoUse}
use Rattle.pkopt.specs.declared.memo.MemoUse.TheVariants.{Stores, Fetches}
use Rattle.pkopt.specs.declared.place.Part.{Part}
use Rattle.pkopt.specs.declared.place.Place.{Place}
use Rattle.pkopt.specs.declared.slim.Pass.{Pass}
use Rattle.pkopt.specs.Private.Fates.{fate_by, reads_after, writes_after}
use Rattle.pkopt.specs.Private.Places.{place_behind, places_behind, stays_as_is}
use Rattle.pkopt.specs.Private.Produced.{emitted, fate_at, from_after, passed, produced}
use Rattle.pkopt.proofs.SlimForm.PlainInstructions.{uses_none}
use Rattle.pkopt.proofs.MemoWrites.Parts.{places_next}

same_pass : (s t : Pass) → s.writes ≡ t.writes → s.reads ≡ t.reads → s.from ≡ t.from → s ≡ t
same_pass s t w r f =
    ap (λ n. record { writes = n; reads = s.reads; from = s.from }) w
    ∙ ap (λ n. record { writes = t.writes; reads = n; from = s.from }) r
    ∙ ap (λ n. record { writes = t.writes; reads = t.reads; from = n }) f

-- what the step gives comes before what is produced behind it
pub stepped : (plan : Plan) (bytes : List ℕ) (taken : ℕ) (x : Place) (xs : List Place)
    (s new : Pass) (o whole : List ℕ) → new ≡ passed plan x s
    → o ++ produced plan bytes taken (x ∷ xs) s ≡ whole
    → (o ++ emitted (fate_at plan x s) x bytes s.from) ++ produced plan bytes taken xs new ≡ whole
stepped plan bytes taken x xs s new o whole same e =
    append_assoc o (emitted (fate_at plan x s) x bytes s.from) (produced plan bytes taken xs new)
    ∙ ap
    (λ (t : Pass). o
    ++ (emitted (fate_at plan x s) x bytes s.from ++ produced plan bytes taken xs t)) same
    ∙ e

pub few_writes : (u : MemoUse) (n : ℕ) → writes_after u n ≤ n + 1
few_writes Stores n = omega arith
few_writes u n = omega arith

pub few_reads : (u : MemoUse) (n : ℕ) → reads_after u n ≤ n + 1
few_reads Fetches n = omega arith
few_reads u n = omega arith

-- what is not produced yet begins within the instruction, or before it
pub from_least : (f : Fate) (x : Place) (from : ℕ) → from ≤ x.at
    → from_after f x from ≤ x.at + x.size
from_least Stays x from le = omega (arith, le)
from_least f x from le = omega arith

-- an instruction that never changes stays, and the pass is the same behind it
plain_stays : (plan : Plan) (x : Place) (s : Pass) → stays_as_is x.op ≡ true
    → (fate_at plan x s ≡ Stays) × (passed plan x s ≡ s)
plain_stays plan x s e =
    let none = uses_none x.op e in
    let fate : fate_at plan x s ≡ Stays =
    ap
    (λ u. fate_by u plan.sources.items plan.numbers.items plan.limit x.op s.writes s.reads)
    none.0 ∙ ap (λ b. cond b Goes Stays) none.1 in (
      fate,
      same_pass (passed plan x s) s (ap (λ u. writes_after u s.writes) none.0)
          (ap (λ u. reads_after u s.reads) none.0) (ap (λ f. from_after f x s.from) fate),
    )

-- an instruction that never changes produces nothing, and so its place may be left out
produced_by : (b : Bool) (plan : Plan) (bytes : List ℕ) (taken : ℕ) (x : Place)
    (later : List Place) (s : Pass) → stays_as_is x.op ≡ b
    → produced plan bytes taken (cond b later (x ∷ later)) s
    ≡ emitted (fate_at plan x s) x bytes s.from ++ produced plan bytes taken later (passed plan x s)
produced_by true plan bytes taken x later s e =
    let stays = plain_stays plan x s e in
    sym (ap
    (λ f. emitted f x bytes s.from ++ produced plan bytes taken later (passed plan x s)) stays.0
    ∙ ap (λ (t : Pass). produced plan bytes taken later t) stays.1)
produced_by false plan bytes taken x later s e = refl

-- what is produced from the next part on
pub produced_next : (plan : Plan) (bytes : List ℕ) (taken : ℕ) (parts : List Part) (from k : ℕ)
    (d : Part) (x : Place) (size : ℕ) (s : Pass) → k < length parts
    → x ≡ place_behind from (get_or parts k d) → size ≡ x.size
    → produced plan bytes taken (places_behind from (drop k parts)) s
    ≡ emitted (fate_at plan x s) x bytes s.from
    ++ produced plan bytes taken (places_behind (x.at + size) (drop (k + 1) parts))
    (passed plan x s)
produced_next plan bytes taken parts from k d x size s lt is same =
    ap (λ (l : List Place). produced plan bytes taken l s)
    (places_next parts from k d x size lt is same)
    ∙ produced_by (stays_as_is x.op) plan bytes taken x _ s refl
