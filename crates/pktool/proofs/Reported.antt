-- What was written by a command, and what its status says of it.
use Rattle.std.proofs.Common.{◌≡◌, ℕ, List, Option, Some, None, Result, Ok, Err, refl, ◌∙◌, inl}
use Rattle.std.proofs.Common.{inr, subst, Bool}
use Rattle.std.specs.Prelude.{◌⊎◌, length, IfOk}
use Rattle.std.specs.Io.KnownBytes.{Appends, Keeps}
use Rattle.pkops.specs.Limits.{standard}
use Rattle.pkops.specs.Printed.{refusal_text}
use Rattle.pklist.specs.declared.Allow.{Allow}
use Rattle.pkmachine.specs.declared.OldStrings.{OldStrings}
use Rattle.pkargs.specs.Command.{AsksForJob, AsksForNone}
use Rattle.pkargs.specs.declared.Job.{Job}
use Rattle.pkargs.specs.declared.Pickles.{Pickles}
use Rattle.pkargs.specs.declared.Usage.{Usage}
use Rattle.pkargs.specs.declared.Usage.TheVariants.{Asked, OutOfMemory}
use Rattle.pkprint.specs.Verdict.{no_line}
use Rattle.pkprint.specs.declared.Outcome.{Outcome}
use Rattle.pkprint.specs.declared.Outcome.TheVariants.{Done, Refused, Unread}
use Rattle.pktool.specs.Answers.{HasContent, IsAnswer, IsAnswerTo, IsCheck, IsListIn, IsCheckOf}
use Rattle.pktool.specs.Answers.{IsOptimization, IsShown, asks_costs}
use Rattle.pktool.specs.Ends.{Reports, Stays, Writes}
use Rattle.pktool.specs.Optimized.{EndsIn, sizes_line}

-- an optimization that ended with an outcome wrote the text that is right for it
pub optimized : {P : Type 0} (content : Option (List ℕ)) (bytes : List ℕ)
    (in_place : P → P → List ℕ → Type 0) (puts : List ℕ → Type 0) (old new : P)
    (before after : Option (List ℕ)) (outcome : Outcome)
    → ((form : List ℕ) → in_place old new form → puts form) → HasContent content bytes
    → EndsIn standard bytes in_place old new before after outcome
    → Writes before after (IsOptimization content puts) outcome
optimized content bytes in_place puts old new before after Done put has h = (
  sizes_line h.taken (length h.form),
  (bytes, has, h.form, h.optimizes, put h.form h.put, h.taken, h.takes, refl),
  h.line,
)
optimized content bytes in_place puts old new before after Refused put has h =
    (no_line (refusal_text h.0.refusal), inr (bytes, has, h.0.refusal, h.0.refused, refl), h.0.line)
optimized content bytes in_place puts old new before after Unread put has h = absurd h

-- a check under the list in a file wrote the line that is right for its outcome
pub checked : (allow file left : Option (List ℕ)) (failures : ℕ) (list : Allow)
    (setting : OldStrings) (pickles : Pickles) (bill : Bool) (before after : Option (List ℕ))
    (outcome : Outcome) → IsListIn allow list → left ≡ file → failures ≡ 0
    → Writes before after (IsCheckOf (asks_costs list bill) list setting pickles bill
    (record { left = left; failures = failures })) outcome
    → Writes before after (IsCheck allow setting pickles bill file) outcome
checked allow file left failures list setting pickles bill before after outcome is p q w = (
  w.0,
  (
    list,
    is,
    subst (λ n. IsCheckOf (asks_costs list bill) list setting pickles bill
        (record { left = file; failures = n }) w.0 outcome) q
        (subst (λ l. IsCheckOf (asks_costs list bill) list setting pickles bill
        (record { left = l; failures = failures }) w.0 outcome) p w.1),
  ),
  w.2,
)

appends_kept : (a b c : Option (List ℕ)) (xs : List ℕ) → Appends a b xs → Keeps b c
    → Appends a c xs
appends_kept None b c xs p q = tt
appends_kept (Some a) None c xs p q = absurd p
appends_kept (Some a) (Some b) None xs p q = absurd q
appends_kept (Some a) (Some b) (Some c) xs p q = q ∙ p

-- what was written stays written, so the status reports it
reported : {E : Type 0} (ended : Result Outcome E) (before between after : Option (List ℕ))
    (IsRight : List ℕ → Outcome → Type 0) (status : ℕ)
    → IfOk ended (Writes before between IsRight) → Stays ended between after status
    → Reports before after IsRight status
reported (Ok outcome) before between after IsRight status w s =
    (outcome, s.0, (w.0, w.1, appends_kept before between after w.0 w.2 s.1))
reported (Err error) before between after IsRight status w s = absurd s

-- the answer to a job
pub job_reported : {E : Type 0} (content : List ℕ → Option (List ℕ))
    (puts : List ℕ → List ℕ → Type 0) (words : List (List ℕ)) (job : Job) (ended : Result Outcome E)
    (before between after : Option (List ℕ)) (status : ℕ) → AsksForJob words job
    → IfOk ended (Writes before between (IsAnswerTo content puts job))
    → Stays ended between after status → Reports before after (IsAnswer content puts words) status
job_reported content puts words job ended before between after status asks w s =
    let r = reported ended before between after (IsAnswerTo content puts job) status w s in
    (r.0, r.1, (r.2.0, inl (job, asks, r.2.1), r.2.2))

-- a text is shown only if there is no job, and the outcome is done
shown_for_none : (words : List (List ℕ)) (usage : Usage) (text : List ℕ) (outcome : Outcome)
    → (usage ≡ OutOfMemory) ⊎ AsksForNone words → IsShown usage text outcome
    → AsksForNone words × (outcome ≡ Done)
shown_for_none words (Asked shown) text Done (inl e) s = cc
shown_for_none words (Asked shown) text Done (inr none) s = (none, refl)
shown_for_none words _ text _ why s = absurd s

-- the text of the help or the version
pub text_reported : {E : Type 0} (content : List ℕ → Option (List ℕ))
    (puts : List ℕ → List ℕ → Type 0) (words : List (List ℕ)) (usage : Usage)
    (ended : Result Outcome E) (before between after : Option (List ℕ)) (status : ℕ)
    → (usage ≡ OutOfMemory) ⊎ AsksForNone words
    → IfOk ended (Writes before between (IsShown usage)) → Stays ended between after status
    → Reports before after (IsAnswer content puts words) status
text_reported content puts words usage ended before between after status why w s =
    let r = reported ended before between after (IsShown usage) status w s in
    (r.0, r.1, (r.2.0, inr (shown_for_none words usage r.2.0 r.0 why r.2.1), r.2.2))
