-- What the second pass produces is the slim form.
use Rattle.std.proofs.Common.{◌≡◌, ℕ, ◌+◌, ◌≤◌, cond, List, [], ◌∷◌, ◌++◌, take, drop, Option, Some}
use Rattle.std.proofs.Common.{None, refl, sym, ap, subst, ◌∙◌, append_assoc, append-nil}
use Rattle.std.specs.Prelude.{◌≢◌}
use Rattle.pkops.specs.Spelling.{Nothing, Instruction, instruction, spelling}
use Rattle.pkopt.specs.declared.fate.Fate.{Fate}
use Rattle.pkopt.specs.declared.fate.Fate.TheVariants.{Goes, Stays, Gets, IsPast}
use Rattle.pkopt.specs.declared.fate.Plan.{Plan}
use Rattle.pkopt.specs.declared.place.Place.{Place}
use Rattle.pkopt.specs.declared.slim.Pass.{Pass}
use Rattle.pkopt.proofs.SlimForm.Written.{Aims, IsPastAt, IsSlim, Slimmed, begun_at, slimmed_first}
use Rattle.pkopt.proofs.SlimForm.Written.{slimmed_halted, slimmed_last, slimmed_next}
use Rattle.pkopt.specs.Private.Produced.{at_start, between, emitted, fate_at, first_past}
use Rattle.pkopt.specs.Private.Produced.{from_after, passed, past_by, produced, respelled}
use Rattle.pkopt.specs.Slim.{renumbered}
use Rattle.pkopt.proofs.SlimForm.Fates.{Emits}
use Rattle.pkopt.proofs.SlimForm.Steps.{from_least}
use Rattle.pkopt.proofs.SlimForm.Unchanged.{Slim, form_on, form_up_to, form_written}

-- a pass, and what it has produced
abbrev out_of : Pass → List ℕ → Slim
out_of s o = record { writes = s.writes; reads = s.reads; from = s.from; bytes = o }

-- behind an instruction with this fate
abbrev behind : Fate → Place → List ℕ → ℕ → List ℕ → Slim
behind f x bytes from o = record {
  writes = 0;
  reads = 0;
  from = from_after f x from;
  bytes = o ++ emitted f x bytes from;
}

emits_by : (f : Fate) (x : Place) (bytes : List ℕ) (from : ℕ) (o : List ℕ) → from ≤ x.at
    → Emits f x.op (take x.size (drop x.at bytes)) (o ++ between from x.at bytes)
    (form_up_to (x.at + x.size) bytes (behind f x bytes from o))
emits_by Stays x bytes from o le =
    ap (λ (l : List ℕ). l ++ between from (x.at + x.size) bytes) (append-nil o)
    ∙ form_on bytes (record { writes = 0; reads = 0; from = from; bytes = o }) x.at x.size le
emits_by (Gets n) x bytes from o le = λ names.
    form_written bytes (behind (Gets n) x bytes from o) (x.at + x.size) refl
    ∙ sym (append_assoc o (between from x.at bytes) (respelled x.op n))
    ∙ ap
    (λ b. (o ++ between from x.at bytes) ++ cond b
    (spelling (renumbered n (instruction x.op Nothing))) []) names
emits_by Goes x bytes from o le = form_written bytes (behind Goes x bytes from o)
    (x.at + x.size) refl
emits_by IsPast x bytes from o le = form_written bytes (behind IsPast x bytes from o)
    (x.at + x.size) refl

past_none : (f : Fate) (at : ℕ) (later : Option ℕ) → past_by f at later ≡ None
    → (f ≢ IsPast) × (later ≡ None)
past_none IsPast at later e = cc
past_none f at later e = (λ q. cc, e)

module _ (bytes : List ℕ) (places : List Place) (taken : ℕ) (plan : Plan) (p : List Instruction)
    (aims : Aims bytes places taken plan p) where
  abbrev Stands : List Place → Pass → List ℕ → Type 0
  Stands ahead s o = Slimmed bytes places taken plan p aims ahead (out_of s o)

  step : (x : Place) (xs : List Place) (s : Pass) (o : List ℕ) → Stands (x ∷ xs) s o
      → fate_at plan x s ≢ IsPast → Stands xs (passed plan x s)
      (o ++ emitted (fate_at plan x s) x bytes s.from)
  step x xs s o h goes =
      let le = begun_at bytes places taken plan p aims x xs (out_of s o) h in
      slimmed_next bytes places taken plan p aims x xs (out_of s o) h
      (out_of (passed plan x s) (o ++ emitted (fate_at plan x s) x bytes s.from)) (record {
        goes_on = goes;
        writes_now = refl;
        reads_now = refl;
        from_now = from_least (fate_at plan x s) x s.from le;
        form_now = emits_by (fate_at plan x s) x bytes s.from o le;
      })

  produced_behind : (ahead : List Place) (s : Pass) (o : List ℕ) → Stands ahead s o
      → first_past plan ahead s.writes s.reads ≡ None
      → IsSlim p plan.limit (o ++ produced plan bytes taken ahead s)
  produced_behind [] s o h none = slimmed_last bytes places taken plan p aims (out_of s o) h
      (o ++ between s.from taken bytes) refl
  produced_behind (x ∷ xs) s o h none =
      let w = past_none (fate_at plan x s) x.at
      (first_past plan xs (passed plan x s).writes (passed plan x s).reads) none in
      let more = emitted (fate_at plan x s) x bytes s.from in
      subst (IsSlim p plan.limit)
      (append_assoc o more (produced plan bytes taken xs (passed plan x s)))
      (produced_behind xs (passed plan x s) (o ++ more) (step x xs s o h w.0) w.1)

  past_by_fate : (f : Fate) (x : Place) (later : Option ℕ) (at : ℕ) → past_by f x.at later ≡ Some at
      → (f ≡ IsPast → IsPastAt p plan.limit x.at)
      → (f ≢ IsPast → later ≡ Some at → IsPastAt p plan.limit at) → IsPastAt p plan.limit at
  past_by_fate IsPast x later at e here on = let same : x.at ≡ at = cc in
      subst (IsPastAt p plan.limit) same (here refl)
  past_by_fate f x later at e here on = on (λ q. cc) e

  past_behind : (ahead : List Place) (s : Pass) (o : List ℕ) (at : ℕ) → Stands ahead s o
      → first_past plan ahead s.writes s.reads ≡ Some at → IsPastAt p plan.limit at
  past_behind [] s o at h e = cc
  past_behind (x ∷ xs) s o at h e =
      past_by_fate (fate_at plan x s) x
      (first_past plan xs (passed plan x s).writes (passed plan x s).reads) at e
      (λ q. slimmed_halted bytes places taken plan p aims x xs (out_of s o) h q)
      (λ goes f. past_behind xs (passed plan x s)
      (o ++ emitted (fate_at plan x s) x bytes s.from) at (step x xs s o h goes) f)

  first : Stands places at_start []
  first = slimmed_first bytes places taken plan p aims (out_of at_start []) refl refl refl refl

  -- it is, if no write is past the limit
  pub produced_slim : first_past plan places 0 0 ≡ None
      → IsSlim p plan.limit (produced plan bytes taken places at_start)
  produced_slim none = produced_behind places at_start [] first none

  -- the first write that is past the limit
  pub past_found : (at : ℕ) → first_past plan places 0 0 ≡ Some at → IsPastAt p plan.limit at
  past_found at e = past_behind places at_start [] at first e
