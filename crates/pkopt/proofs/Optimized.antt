-- What the answers of `optimize` rest on.
use Rattle.std.proofs.Common.{◌≡◌, ℕ, zero, suc, ◌<◌, ◌≤◌, ◌^◌, Bool, true, false, List, [], ◌∷◌}
use Rattle.std.proofs.Common.{◌++◌, length, Option, None, Some, Result, cond, Ok, inl, inr, refl}
use Rattle.std.proofs.Common.{sym, ap, subst, ◌∙◌, arith}
use Rattle.std.proofs.lemmas.Bool.{cond_both}
use Rattle.std.specs.Prelude.{◌≢◌, All, slice_index_or}
use Rattle.pkops.specs.Limits.{Bounds, holding_all}
use Rattle.pkops.specs.Payloads.{is_passed, payload_limit}
use Rattle.pkops.specs.Spelling.{Instruction}
use Rattle.pkops.specs.declared.Op.TheVariants.{Stop}
use Rattle.pkops.specs.declared.Refusal.{Refusal}
use Rattle.pkops.specs.declared.Reason.TheVariants.{TooLarge}
use Rattle.pkread.specs.Admission.{IsAllowed}
use Rattle.pkread.specs.Framing.{CountingIsExact}
use Rattle.pkread.specs.Sequence.{IsSequence, spellings}
use Rattle.pkmachine.specs.declared.OldStrings.TheVariants.{Unknown}
use Rattle.pkcheck.specs.Listing.{permitted_by}
use Rattle.pkcheck.specs.Ends.{IsFree, WellCarriesOver, WellIsFree}
use Rattle.pkmachine.specs.Runs.{Outcome, start}
use Rattle.pkmachine.specs.WholeRuns.{Sound, run}
use Rattle.pkcheck.specs.Heard.{Heard, IsRightAndHeard}
use Rattle.pkcheck.specs.declared.Yes.{Yes}
use Rattle.pkcheck.specs.declared.No.{No}
use Rattle.pkopt.specs.declared.fate.Plan.{Plan}
use Rattle.pkopt.specs.declared.optimizing.Traced.{Traced}
use Rattle.pkopt.specs.declared.trace.Trace.{Trace}
use Rattle.pkopt.specs.Private.Passes.{IsNewTrace, Hears}
use Rattle.pkopt.specs.Private.TracedCheck.{IsTraced}
use Rattle.pkopt.specs.Answer.{Checks, pickle, Optimizes, IsNotOptimized}
use Rattle.pkread.specs.Rows.{in_memory}
use Rattle.pkopt.specs.Private.Fates.{IsPlanFor}
use Rattle.pkopt.proofs.SlimForm.Written.{Aims, IsSlim}
use Rattle.pkopt.specs.Private.FrameBytes.{framed_bytes}
use Rattle.pkopt.specs.Private.Outputs.{output, slim_bytes}
use Rattle.pkopt.specs.Private.Places.{has_frames, places_behind}
use Rattle.pkopt.specs.Private.Produced.{first_past}
use Rattle.pkopt.proofs.SlimForm.Allowed.{EndsInStop}
use Rattle.pkopt.specs.Limit.{IsPastLimit}
use Rattle.pkopt.specs.OneFrame.{has_frame, optimized}
use Rattle.pkopt.specs.RunsAlike.{RunsAlike}
use Rattle.pkopt.specs.Slim.{is_frame, slim}
use Rattle.pkopt.specs.Writers.{Writes, after, is_read, sources, new_number, after_all}
use Rattle.pkopt.proofs.BothRuns.Faultless.{stays_faultless}
use Rattle.pkopt.proofs.MemoWrites.NewNumbers.{after_all_le, new_least, new_up_to}
use Rattle.pkopt.proofs.BothRuns.Heard.{heard_tracks}
use Rattle.pkopt.proofs.OneFrame.FramedForm.{optimized_alike, optimized_framed}
use Rattle.pkopt.proofs.OneFrame.FramedBytes.{optimized_bytes, unframed_bytes}
use Rattle.pkopt.proofs.BothRuns.Origins.{counterpart}
use Rattle.pkopt.proofs.MemoWrites.Parts.{framed_parts}
use Rattle.pkopt.proofs.SlimForm.Unchanged.{framed_places}
use Rattle.pkopt.proofs.SlimForm.Whole.{past_found, produced_slim}
use Rattle.pkopt.specs.declared.place.Place.{Place}
use Rattle.std.specs.List.{list_any}
use Rattle.pkopt.proofs.SlimForm.WritesRead.{all_read}
use Rattle.pkopt.specs.Private.HeardParts.{after_all-append}
use Rattle.pkopt.proofs.OneFrame.OneSequence.{optimized_sequence}
use Rattle.pkopt.proofs.BothRuns.SlimRuns.{AreSmall, slim_alike}

ends_in_stop : (limit : ℕ) (front : List Instruction) (last : Instruction)
    → All (IsAllowed limit) (front ++ last ∷ []) → last.op ≡ Stop → All (λ i. i.op ≢ Stop) front
    → EndsInStop limit (front ++ last ∷ [])
ends_in_stop limit [] last each stop none = (each 0 last (omega arith), inl (stop, refl))
ends_in_stop limit (i ∷ front) last each stop none = (
  each 0 i (omega arith),
  inr (
    none 0 i (omega arith),
    ends_in_stop limit front last
        (λ k d lt. each (suc k) d (omega (arith, lt))) stop
        (λ k d lt. none (suc k) d (omega (arith, lt))),
  ),
)

sequence_ends : (limit : ℕ) (p : List Instruction) → IsSequence (λ _. limit) p → EndsInStop limit p
sequence_ends limit p h =
    let s = h.stops in
    subst (EndsInStop limit) (sym s.2)
    (ends_in_stop limit s.0 s.1 (subst (All (IsAllowed limit)) s.2 h.each) s.3 s.4)

held_sequence : (limits : Bounds) (p : List Instruction)
    → IsSequence (payload_limit (holding_all limits)) p → IsSequence (λ _. limits.counted) p
held_sequence limits p h = record {
  each = λ k d lt. let i = slice_index_or p k d in
      cond_both (is_passed i.op) limits.counted limits.counted
      (λ l. IsAllowed l i → IsAllowed limits.counted i) (λ _ a. a) (λ _ a. a) (h.each k d lt);
  stops = h.stops;
}

-- the pickle ends in its only STOP
ends_of : (limits : Bounds) (bytes : List ℕ) (c : Checks limits bytes)
    → EndsInStop limits.counted (pickle c)
ends_of limits bytes c = sequence_ends limits.counted (pickle c)
    (held_sequence limits (pickle c) c.accepted.sequence)

-- the new numbers are small
small_numbers : (p : List Instruction) (limit : ℕ) → limit < 2 ^ 32
    → new_number (sources [] p) (length (after_all p [])) ≤ limit → (w : ℕ)
    → w < length (after_all p []) → new_number (sources [] p) w < 2 ^ 32
small_numbers p limit small le w lt = let up = new_up_to (sources [] p) w (length (after_all p []))
    (omega (arith, lt)) in omega (arith, up, le, small)

-- no write is past the limit
none_past : (p : List Instruction) (limit : ℕ)
    → new_number (sources [] p) (length (after_all p [])) ≤ limit → (before : List Instruction)
    → IsPastLimit limit p before → ⊥
none_past p limit le before (i, rest, parts, more, read, number) =
    let ws = after_all before [] in
    let all : after_all p [] ≡ after_all rest (after i ws) =
    ap (λ q. after_all q []) parts ∙ after_all-append before (i ∷ rest) [] in
    let size : length (after_all p []) ≡ length (after_all rest (after i ws)) =
    ap (λ (x : Writes). length x) all in
    let up = after_all_le rest (after i ws) in
    let less = new_least (sources [] p) (length ws) (length (after_all p []))
    (omega (arith, size, up, more)) read in
    omega (arith, less, le, number)

spelled_by : (b : Bool) (limits : Bounds) (bytes : List ℕ) (c : Checks limits bytes)
    → has_frame (pickle c) ≡ b → (result slim_out : List ℕ) → slim_out ≡ spellings (slim (pickle c))
    → result ≡ cond b (framed_bytes slim_out) slim_out → result ≡ spellings (optimized (pickle c))
spelled_by true limits bytes c f result slim_out e how = how ∙ ap framed_bytes e
    ∙ optimized_bytes limits.counted (pickle c) (ends_of limits bytes c) f
spelled_by false limits bytes c f result slim_out e how = how ∙ e ∙ unframed_bytes (pickle c) f

-- the answer where the slim form is produced
optimizes : CountingIsExact → WellIsFree → WellCarriesOver
    → (limits : Bounds) (bytes : List ℕ) (c : Checks limits bytes) (limit : ℕ) (out : List ℕ)
    (has : Bool) (result : List ℕ) → limit < 2 ^ 32 → length out < 2 ^ 64 → limit ≡ limits.memo
    → IsSlim (pickle c) limit out → has ≡ has_frame (pickle c)
    → result ≡ cond has (framed_bytes out) out → Optimizes limits bytes result
optimizes exact well_free carries limits bytes c limit out has result lt short same h framed_so
    how =
    let p = pickle c in
    let small = small_numbers p limit lt h.fits in
    let smaller : AreSmall (sources [] p) (length (after_all p [])) = λ w inside. let s =
    small w inside in omega (arith, s) in
    let list = permitted_by None in
    let free : (os : List Outcome) → IsFree (run p os start) =
    λ os. well_free list (run p os start) (c.accepted.sound os) in
    let alike : RunsAlike p (optimized p) = optimized_alike p (slim_alike p smaller free) in
    let sound : Sound Unknown (optimized p) list = λ os. carries list (run p os start)
    (run (optimized p) os start) (alike os) (c.accepted.sound os) in
    let framed = optimized_framed exact limits.counted p (ends_of limits bytes c) in
    record {
      checks = c;
      spelled = spelled_by has limits bytes c (sym framed_so) result out h.spelled how;
      alike = alike;
      read = all_read p smaller;
      sequence = optimized_sequence limits.counted p small
          (let l = ap length h.spelled in omega (arith, l, short)) (ends_of limits bytes c);
      framed = framed;
      sound = sound;
      faultless = stays_faultless p (optimized p) framed list sound (counterpart p smaller free);
      fits = none_past p limits.memo
          (subst (λ m. new_number (sources [] p) (length (after_all p [])) ≤ m) same h.fits);
    }

-- the check was heard
pub is_traced : (limits : Bounds) (bytes left rest : List ℕ) (answer : Result Yes No)
    (accepted : Yes) (hs : List Heard) (x y : Trace) → left ≡ bytes → answer ≡ Ok accepted
    → IsRightAndHeard None (holding_all limits) (in_memory left) (in_memory rest) answer hs
    → IsNewTrace x → Hears x y hs → IsTraced limits bytes (record
    { taken = accepted.taken; trace = y })
is_traced limits bytes left rest answer accepted hs x y e is g first heard =
    let h : IsRightAndHeard None (holding_all limits) (in_memory bytes) (in_memory rest)
    (Ok accepted) hs = rw (e, is) at g in
    record {
      checks = record {
        rest = rest;
        taken = accepted.taken;
        imports = accepted.imports;
        accepted = h.right;
      };
      tracks = heard_tracks x y h.right.instructions hs first h.each heard;
      count = h.right.count;
    }

-- what the second pass is given
pub aims_at : (limits : Bounds) (bytes : List ℕ) (x : Traced) (plan : Plan)
    → (t : IsTraced limits bytes x) → IsPlanFor (pickle t.checks) plan
    → Aims bytes (places_behind 0 x.trace.parts.items) x.taken plan (pickle t.checks)
aims_at limits bytes x plan t planned =
    record {
      rest = t.checks.rest;
      spelled = t.checks.accepted.bytes.bytes;
      places_so = t.tracks.places;
      taken_so = t.count;
      planned = planned;
    }

module _ (limits : Bounds) (bytes : List ℕ) (x : Traced) (plan : Plan) (t : IsTraced limits bytes x)
    (planned : IsPlanFor (pickle t.checks) plan) (same : plan.limit ≡ limits.memo) where
  -- the form, if no write is past the limit
  pub form_optimizes : CountingIsExact → WellIsFree → WellCarriesOver → plan.limit < 2 ^ 32
      → first_past plan (places_behind 0 x.trace.parts.items) 0 0 ≡ None
      → length (slim_bytes plan bytes x.taken x.trace.parts.items) < 2 ^ 64
      → Optimizes limits bytes (output plan bytes x.taken x.trace.parts.items)
  form_optimizes exact well_free carries lt none short =
      let parts = x.trace.parts.items in
      let framed_so = framed_parts parts 0 ∙ ap (list_any (λ (y : Place). is_frame y.op))
      t.tracks.places ∙ framed_places (pickle t.checks) 0 in
      optimizes exact well_free carries limits bytes t.checks plan.limit
      (slim_bytes plan bytes x.taken parts) (has_frames parts)
      (output plan bytes x.taken parts) lt short same
      (produced_slim bytes (places_behind 0 parts) x.taken plan (pickle t.checks)
      (aims_at limits bytes x plan t planned) none) framed_so refl

  -- the refusal of a write past the limit
  pub past_refused : (refusal : Refusal) → first_past plan (places_behind 0 x.trace.parts.items) 0 0
      ≡ Some refusal.at → refusal.reason ≡ TooLarge → IsNotOptimized limits bytes refusal
  past_refused refusal found why =
      let past = past_found bytes (places_behind 0 x.trace.parts.items) x.taken plan
      (pickle t.checks) (aims_at limits bytes x plan t planned) refusal.at found in
      inr
      (inl
      (record {
        checks = t.checks;
        before = past.before;
        past = subst (λ m. IsPastLimit m (pickle t.checks) past.before) same past.past;
        place = past.place;
        reason = why;
      }))

-- no write has a number that is greater than its name
least_number : (vs : List (Option ℕ)) (w : ℕ) → new_number vs w ≤ w
least_number vs zero = omega arith
least_number vs (suc w) =
    let le = least_number vs w in
    elim (is_read w vs) as (λ b. cond b (suc (new_number vs w)) (new_number vs w)
    ≤ suc w) [ true ↦ omega (arith, le) | false ↦ omega (arith, le) ]

-- no write is past the limit if there are no more writes
pub few_writes : (limits : Bounds) (bytes : List ℕ) (x : Traced) (plan : Plan)
    (t : IsTraced limits bytes x) → IsPlanFor (pickle t.checks) plan → x.trace.writes ≤ plan.limit
    → first_past plan (places_behind 0 x.trace.parts.items) 0 0 ≡ None
few_writes limits bytes x plan t planned few =
    let p = pickle t.checks in
    let places = places_behind 0 x.trace.parts.items in
    let count = t.tracks.writes in
    let least = least_number (sources [] p) (length (after_all p [])) in
    let fits : new_number (sources [] p) (length (after_all p [])) ≤ plan.limit =
    omega (arith, few, count, least) in
    elim (first_past plan places 0 0) as (λ v. first_past plan places 0 0 ≡ v
    → first_past plan places 0 0 ≡ None) [
      | None ↦ λ e. e
      | Some at ↦ λ e.
          let past = past_found bytes places x.taken plan p
          (aims_at limits bytes x plan t planned) at e in
          absurd (none_past p plan.limit fits past.before past.past)
    ] refl
