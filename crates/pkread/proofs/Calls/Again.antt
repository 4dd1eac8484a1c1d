-- One call of `again`.
use Rattle.std.proofs.Common.{◌≡◌, ◌≢◌, ℕ, ◌<◌, Bool, true, false, List, [], ◌∷◌, Option, None}
use Rattle.std.proofs.Common.{Some, Result, Ok, Err, refl, sym, ◌∙◌, arith, inr, IfErr, IfOk}
use Rattle.pkops.specs.Growth.{BegunLaws}
use Rattle.pkops.specs.declared.Reason.TheVariants.{Source, Truncated, TooLarge, OutOfMemory}
use Rattle.pkread.proofs.Calls.Next.{counts_at}
use Rattle.pkread.proofs.Reasons.OneRow.{OneAnswer, one_row}
use Rattle.pkread.proofs.Bytes.Taken.{takes_none}
use Rattle.pkread.specs.Again.{AnswersAgain, NoByteIsRefused, StepsAgain, WhyNoByte}
use Rattle.pkread.specs.Core.{Phase, Open, Ended, Refused}
use Rattle.pkread.specs.Private.OpenReader.{ByteCame, NoneCame}
use Rattle.pkread.specs.Private.Reads.{ReadsNone}
use Rattle.pkread.specs.ReaderCalls.{Refusal, ReaderState, is_ended}
use Rattle.pkread.specs.Rows.{Reason, ShowsReason, Sight, Takes, all_bytes, unread}

-- a read of a byte gave none, before the end
pub no_byte : (o n : Sight) (t : ℕ) (r : Reason) → r ≢ Truncated → ReadsNone o n r →
    WhyNoByte o n t r
no_byte o n t Source ne h = record { between = o.left; bytes = (takes_none o).bytes; count = h }
no_byte o n t Truncated ne h = absurd (ne refl)
no_byte o n t OutOfMemory ne h = h
no_byte o n t TooLarge ne h = absurd h
no_byte o n t _ ne h = absurd h

pub is_ended_so : (p : Phase) → is_ended p ≡ true → p ≡ Ended
is_ended_so Ended e = refl
is_ended_so Open e = absurd cc
is_ended_so (Refused r) e = absurd cc

-- a byte taken ahead leaves the source as it was seen
put_back : (x : ℕ) (a b : Option (List ℕ)) (f h : ℕ) →
    let o : Sight = record { left = a; failures = f } in let n : Sight = record {
      left = b;
      failures = h;
    } in Takes o n (x ∷ []) → Takes o (unread (x ∷ []) n) []
put_back x None b f h k = record { bytes = tt; count = k.count }
put_back x (Some l) None f h k = absurd k.bytes
put_back x (Some l) (Some m) f h k = record { bytes = k.bytes; count = k.count }

same_state : (old new : ReaderState) (p : Phase) → new.most ≡ old.most → new.taken ≡ old.taken →
    new.limits ≡ old.limits → new.phase ≡ p → new ≡ record old { source = new.source; phase = p }
same_state old new p m t l f = rw (← m, ← t, ← l, ← f) refl

module _ (o n : Sight) (a b : List ℕ) (old new : ReaderState) (from : old.source ≡ unread a o) (to :
    new.source ≡ unread b n) (none : a ≡ []) (was : old.phase ≡ Ended) (most : new.most ≡ old.most)
    (taken : new.taken ≡ old.taken) (limits : new.limits ≡ old.limits) where
  start : old.source ≡ o
  start = from ∙ rw none refl

  answered : (more : Bool) → old.taken < all_bytes →
      (more ≡ true → (new.phase ≡ Open) × ByteCame o n b) →
      (more ≡ false → (new.phase ≡ Ended) × NoneCame o n b) →
      (old.taken < all_bytes) × Takes old.source new.source [] × AnswersAgain old new more
  answered true room some end =
      let (phase, came) = some refl in
      let (x, is, takes) = came in
      let back : Takes o (unread b n) [] =
      rw is (put_back x o.left n.left o.failures n.failures takes) in
      (room, rw (start, to) back, same_state old new Open most taken limits phase)
  answered false room some end =
      let (phase, none) = end refl in
      let (is, takes, at_end) = none in
      let here : new.source ≡ n = to ∙ rw is refl in
      let same = same_state old new old.phase most taken limits (phase ∙ sym was) in
      (room, rw (start, here) takes, (rw here at_end, same))

  -- a call of `again` is a step
  pub steps_again : (r : Result Bool Refusal) → IfOk r (λ _. old.taken < all_bytes) →
      IfOk r (λ more. more ≡ true → (new.phase ≡ Open) × ByteCame o n b) →
      IfOk r (λ more. more ≡ false → (new.phase ≡ Ended) × NoneCame o n b) →
      IfErr r (λ x. (x.at ≡ old.taken) × (b ≡ []) × (new.phase ≡ Refused x)) →
      IfErr r (λ x. WhyNoByte o n old.taken x.reason) → StepsAgain old r new
  steps_again (Ok more) room some end place why = answered more room some end
  steps_again (Err x) room some end place why =
      let here : new.source ≡ n = to ∙ rw place.1 refl in
      let after = same_state old new (Refused x) most taken limits place.2 in
      record { place = place.0; why = rw (start, here) why; after = after }

row_of : BegunLaws → (limit t : ℕ) (o n : Sight) (r : Reason) → WhyNoByte o n t r →
    ShowsReason limit o n [] t r
row_of law limit t o n Source w = (w, law.nothing limit)
row_of law limit t o n TooLarge w = (w.0, inr (law.nothing limit, w.1))
row_of law limit t o n OutOfMemory w = (w, law.nothing limit)
row_of law limit t o n Truncated w = absurd w
row_of law limit t o n _ w = absurd w

-- where it refuses, it refuses the next instruction
pub no_byte_is_refused : BegunLaws → OneAnswer → NoByteIsRefused
no_byte_is_refused law one limit old new r h =
    let row = row_of law limit old.taken old.source new.source r.reason h.why in (
      record {
        taken = omega arith;
        fronts = λ k lt. absurd (omega (arith, lt));
        row = row;
        alone = λ ne other no w. one_row one limit old.source new.source [] old.taken r.reason row
            ne other no w;
      },
      counts_at limit old.source new.source [] old.taken r.reason row,
    )
