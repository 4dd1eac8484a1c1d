-- What is known after instructions were read and judged, and the answers that follow from it.
use Rattle.pkmachine.specs.declared.old_strings.OldStrings.{OldStrings}
use Rattle.std.proofs.Common.{◌≡◌, ℕ, ◌+◌, List, [], ◌∷◌, ◌++◌, map, Option, Some, None, Ok, Err}
use Rattle.std.proofs.Common.{false, inl, inr, refl, sym, ap, subst, ◌∙◌, append-nil, arith}
use Rattle.pkops.specs.Limits.{Bounds}
use Rattle.pkops.specs.Payloads.{payload_limit, payload_limit_at}
use Rattle.pkops.specs.Spelling.{Instruction}
use Rattle.pkops.specs.declared.Reason.{Reason}
use Rattle.pkops.specs.declared.Reason.TheVariants as reason
use Rattle.pkops.specs.declared.Refusal.{Refusal as ReadRefusal}
use Rattle.pkread.specs.Core.{Open}
use Rattle.pkread.specs.Framing.{counted, counted_all}
use Rattle.pkread.specs.Pieces.{piece_of}
use Rattle.pkread.specs.ReaderCalls.{ReaderState, begun, has_ended, is_ended}
use Rattle.pkread.specs.Run.{Reads, ReadingBegins}
use Rattle.pkread.specs.Sequence.{CountsAt, IsSequence, NoStop}
use Rattle.pkread.specs.Rows.{Sight, Refuses as ReaderRefuses}
use Rattle.pkcheck.specs.Accepted.{AcceptedFrom}
use Rattle.pkimport.specs.Import.{Asked, asks_more}
use Rattle.pkcheck.specs.Private.Judgement.{BothGoOn, BreaksFrame, IsRefused, SessionView}
use Rattle.pkmachine.specs.Knowledge.{Policy, Refusal, reason_of, advance, nothing_known}
use Rattle.pkcheck.specs.Listing.{imports_among, ImportsAreListed, permitted_by}
use Rattle.pkcheck.specs.Refused.{RefusedFrom, Why, reading, judging, growing, HasFirstFault}
use Rattle.pkmachine.specs.RowRuns.{Beginning, InEachRunFrom, listed_before, RunsFrom}
use Rattle.pkcheck.specs.RunFaults.{HasRunFault, IsFaultless}
use Rattle.pkmachine.specs.Faults.{HasFaultHere, everyone}
use Rattle.pkcheck.specs.Heard.{refused_instruction}
use Rattle.pkmachine.specs.Step.{StepWantsMemory}
use Rattle.pkmachine.specs.View.{View, fresh, stopped_by, off_pair}
use Rattle.pkmachine.specs.WholeRuns.{EndsWell}
use Rattle.pkcheck.proofs.Wholes.JudgingLaws.{JudgingLaws}
use Rattle.pkcheck.proofs.Wholes.StopEffects.{same_end}
use Rattle.pkmachine.specs.StepLaws.{IsBounded}
use Rattle.pkmachine.specs.Witnesses.{Stands}
use Rattle.pkcheck.proofs.Wholes.Faultless.{machine_fault, length-asked, each_asks, faultless}
use Rattle.pkcheck.proofs.Wholes.Faultless.{each_reached, unknown_is_open}
use Rattle.pkcheck.proofs.Wholes.Given.{Took, Turned}
use Rattle.pkcheck.proofs.Wholes.Listed.{among_more, listed_from}
use Rattle.pkcheck.proofs.Wholes.Soundness.{sound_from}
use Rattle.pkcheck.proofs.Wholes.Origins.{Begins, Origin, in_each, stands_from}
use Rattle.pkcheck.proofs.Wholes.Stops.{StopsLast, stops_nowhere, nowhere_last, sequence_last}
use Rattle.pkcheck.proofs.Wholes.Walk.{Accepts, accepts_last, accepts_none, along}
use Rattle.pkcheck.proofs.Wholes.Refusals.{none_earlier, counts_at}

-- these instructions of a pickle were read and judged, beginning at this view of the source, and
-- these are their imports
pub record Checked (setting : OldStrings) (policy : Policy) (limits : Bounds) (old : Sight)
    (o : Origin) (p : List Instruction) (asked : List (Option Asked)) (s : ReaderState)
    (v : SessionView) : Type 0 where
  pub laws : JudgingLaws
  pub begins : Begins setting policy o.beginning o.known
  pub reads : Reads old o.at (payload_limit limits) p s
  pub read_limits : s.limits ≡ limits
  pub frames : counted_all 0 (map piece_of p) ≡ Some v.frame
  pub accepts : Accepts setting policy limits p o.known v.machine.knowledge asked
  pub imports : v.machine.imports ≡ listed_before o.beginning ++ imports_among asked
  pub same_limits : v.machine.limits ≡ limits
  pub same_setting : v.machine.old_strings ≡ setting
  pub refused : v.machine.refused ≡ None
  pub off : v.machine.off ≡ None
  pub stopped : v.machine.stopped ≡ has_ended s

-- the machine is at the first instruction of a pickle whose runs begin like this
pub record IsReady (setting : OldStrings) (policy : Policy) (limits : Bounds) (b : Beginning)
    (m : View) : Type 0 where
  pub begins : Begins setting policy b m.knowledge
  pub imports : m.imports ≡ listed_before b
  pub same_limits : m.limits ≡ limits
  pub same_setting : m.old_strings ≡ setting
  pub refused : m.refused ≡ None
  pub off : m.off ≡ None
  pub stopped : m.stopped ≡ false

-- nothing was read of the pickle that begins here
pub checked_none : JudgingLaws → {setting : OldStrings} {policy : Policy} {limits : Bounds}
    {old : Sight} {at : ℕ} {b : Beginning} {m : View} {s : ReaderState}
    → Reads old at (payload_limit limits) [] s → s.phase ≡ Open → s.limits ≡ limits
    → IsReady setting policy limits b m
    → Checked setting policy limits old (record { at = at; beginning = b; known = m.knowledge }) []
    [] s (record { frame = 0; machine = m })
checked_none laws {b = b} reads is_open same ready = record {
  laws = laws;
  begins = ready.begins;
  reads = reads;
  read_limits = same;
  frames = refl;
  accepts = accepts_none;
  imports = ready.imports ∙ sym (append-nil (listed_before b));
  same_limits = ready.same_limits;
  same_setting = ready.same_setting;
  refused = ready.refused;
  off = ready.off;
  stopped = ready.stopped ∙ rw is_open refl;
}

-- nothing was read of the first pickle of a source
pub checked_first : JudgingLaws → ReadingBegins → {setting : OldStrings} {policy : Policy}
    {limits : Bounds} {old : Sight} {b : Beginning} {s : ReaderState} {v : SessionView}
    → s ≡ begun old limits → v.frame ≡ 0 → v.machine ≡ fresh setting limits → listed_before b ≡ []
    → Begins setting policy b nothing_known
    → Checked setting policy limits old
    (record { at = 0; beginning = b; known = nothing_known }) [] [] s v
checked_first laws begins {setting} {policy} {limits} {old} {b} {s} {v} is frame machine none
    begun =
    let start : v ≡ record { frame = 0; machine = fresh setting limits } =
    λ j. record { frame = frame j; machine = machine j } in
    rw (is, start)
    (checked_none laws (begins old (payload_limit limits) limits) refl refl (record {
      begins = begun;
      imports = sym none;
      same_limits = refl;
      same_setting = refl;
      refused = refl;
      off = refl;
      stopped = refl;
    }))

module _ {setting : OldStrings} {policy : Policy} {limits : Bounds} {old : Sight} {origin : Origin}
    {p : List Instruction} {asked : List (Option Asked)} {s : ReaderState} {v : SessionView}
    (h : Checked setting policy limits old origin p asked s v) where
  -- one more instruction is accepted
  pub checked_took : {t : ReaderState} {after : SessionView} {at : ℕ} {i : Instruction}
      → Took old origin.at limits p s at i t
      → (g : BothGoOn policy i v.frame v.machine after.frame after.machine)
      → Checked setting policy limits old origin (p ++ i ∷ []) (asked ++ g.1.1.0.import ∷ []) t
      after
  checked_took {after = after} {i = i} took (frames, (_, (q, passes, becomes, moved))) =
      let passes' : advance setting policy limits i v.machine.knowledge ≡ Ok q =
      rw (← h.same_setting, ← h.same_limits) passes in
      record {
        laws = h.laws;
        begins = h.begins;
        reads = took.more.reads;
        read_limits = took.same_limits ∙ h.read_limits;
        frames = (h.laws.frames.more p i v.frame after.frame h.frames frames).0;
        accepts = subst (λ k. Accepts setting policy limits (p ++ i ∷ []) origin.known k
            (asked ++ q.import ∷ [])) (sym (ap (λ x. x.knowledge) becomes))
            (accepts_last h.accepts i passes');
        imports = ap (λ x. x.imports) becomes ∙ ap (asks_more q.import) h.imports
            ∙ sym (among_more (listed_before origin.beginning) asked q.import);
        same_limits = ap (λ x. x.limits) becomes ∙ h.same_limits;
        same_setting = ap (λ x. x.old_strings) becomes ∙ h.same_setting;
        refused = ap (λ x. x.refused) becomes ∙ h.refused;
        off = ap (λ x. x.off) becomes ∙ h.off;
        stopped = ap (λ x. x.stopped) becomes ∙ ap stopped_by moved
            ∙ same_end v.machine.old_strings i q.import ∙ ap is_ended (sym took.phase);
      }

  -- in every run, the imports are listed
  pub listed_in_each : StopsLast p → InEachRunFrom setting origin.beginning p
      (ImportsAreListed (listed_before origin.beginning ++ imports_among asked))
  listed_in_each last = in_each setting origin.beginning p _
      (λ st os c. listed_from h.laws.steps (listed_before origin.beginning) st os last h.accepts
      (h.begins.each st c) (h.begins.listed st c))

  -- after STOP was read and judged, the instructions are accepted
  pub accepted : {taken : ℕ} → IsSequence (payload_limit limits) p → s.taken ≡ origin.at + taken
      → (a : AcceptedFrom setting origin.beginning policy limits old s.source taken
      (imports_among asked)) × (a.instructions ≡ p)
  accepted sequence count =
      let last = sequence_last sequence in
      let steps = h.laws.steps in (
        record {
          instructions = p;
          sequence = sequence;
          bytes = h.reads.bytes;
          count = (let reads = h.reads.count in omega (arith, count, reads));
          framed = h.laws.frames.all p v.frame h.frames;
          sound = in_each setting origin.beginning p (EndsWell (permitted_by policy))
              (λ st os c. sound_from steps st os h.accepts (h.begins.each st c)
              (h.begins.permitted st c));
          reached = each_reached steps h.begins h.accepts last;
          asked = asked;
          each = length-asked h.accepts;
          listed = refl;
          imported = listed_in_each last;
          at_each = each_asks steps h.begins h.accepts last;
          faultless = faultless steps h.begins h.accepts last h.laws.frames.more v.frame h.frames;
          unknown = unknown_is_open steps h.begins h.accepts last;
        },
        refl,
      )

  -- without STOP, the machine knows what is true in the runs that get past these instructions
  pub known_behind : NoStop p → Stands v.machine.knowledge (RunsFrom setting origin.beginning p)
  known_behind none =
      stands_from h.begins (along h.laws.steps (stops_nowhere p none) h.accepts)

  -- none of these instructions has a fault
  pub faultless_here : NoStop p → IsFaultless setting origin.beginning policy limits p
  faultless_here none = faultless h.laws.steps h.begins h.accepts
      (nowhere_last p (stops_nowhere p none)) h.laws.frames.more v.frame h.frames

  -- a refusal after these instructions, which come before the offset; q has the refused one
  -- too if it was read
  abbrev pub RefusedAfter : ℕ → Reason → Option Asked → Sight → List Instruction → Type 0
  RefusedAfter at reason pair new q =
      (r : RefusedFrom origin.at setting origin.beginning policy limits old new at reason pair)
      × (r.instructions ++ refused_instruction r.why ≡ q)
      × (r.instructions ≡ p)

  -- a refusal after instructions without STOP
  refused_here : {at : ℕ} {why : Reason} {pair : Option Asked} {new : Sight} → NoStop p
      → at ≡ s.taken → (w : Why setting origin.beginning policy limits p s.source new at why pair)
      → RefusedAfter at why pair new (p ++ refused_instruction w)
  refused_here none place why = (
    record {
      instructions = p;
      admitted = h.reads.each;
      goes_on = none;
      here = s.source;
      bytes = h.reads.bytes;
      place = place ∙ h.reads.count;
      framed = h.laws.frames.all p v.frame h.frames;
      faultless = faultless_here none;
      why = why;
    },
    refl,
    refl,
  )

  -- the reader refuses
  pub refused_turned : {t : ReaderState} {x : ReadRefusal} → Turned old origin.at limits p s x t
      → RefusedAfter x.at x.reason None t.source (p ++ [])
  refused_turned {t = t} {x = x} o = refused_here o.no_stop o.place (reading (record {
    bytes = o.bytes;
    taken = t.taken;
    shown = subst (λ n. ReaderRefuses (payload_limit_at limits o.bytes) s.source t.source o.bytes n
        t.taken x.reason) (sym o.place) o.why;
    none = refl;
  }))

  module _ {t : ReaderState} {at : ℕ} {i : Instruction}
      (took : Took old origin.at limits p s at i t) where
    -- the instruction is refused for this reason
    abbrev IsWhy : Reason → Option Asked → Type 0
    IsWhy reason pair =
        (w : Why setting origin.beginning policy limits p s.source t.source at reason pair)
        × (refused_instruction w ≡ i ∷ [])

    -- the frame rules refuse it
    breaks_frame : (n : View) (why : Reason) → BreaksFrame i v.frame v.machine n why
        → IsWhy why n.off
    breaks_frame n why (e, becomes, is) = subst (λ x. IsWhy x n.off) (sym is) (
      judging (record {
        instruction = i;
        allowed = took.allowed;
        bytes = took.bytes;
        fault = h.laws.frames.refused p i v.frame h.frames e;
        first = λ earlier lt g. none_earlier policy limits p i
            (everyone (RunsFrom setting origin.beginning p)) earlier lt g;
        asks = ap (λ x. x.off) becomes ∙ h.off;
      }),
      refl,
    )

    -- an allocation was refused
    lacks_memory : (n : View) (why : Reason) → StepWantsMemory policy i v.machine n why
        → IsWhy why n.off
    lacks_memory n why (wants, is, becomes) = (
      growing (record {
        instruction = i;
        allowed = took.allowed;
        bytes = took.bytes;
        wants = wants;
        memory = is;
        none = ap (λ x. x.off) becomes;
      }),
      refl,
    )

    module _ (bounded : IsBounded policy) where
      -- a fault of the machine is a fault of the instruction
      behind : (r : Reason) → HasFaultHere policy limits (RunsFrom setting origin.beginning p) i r
          → HasRunFault policy limits p (RunsFrom setting origin.beginning p) i r
      behind reason.BrokenFrame g = absurd g
      behind _ g = g

      -- the machine refuses it
      judged : (is_open : ℕ) (f : Refusal) → counted v.frame (piece_of i) ≡ Some is_open
          → advance setting policy limits i v.machine.knowledge ≡ Err f
          → HasFirstFault setting origin.beginning policy limits p s.source t.source (reason_of f)
          (off_pair f)
      judged is_open f o e =
          let b = origin.beginning in
          let named = h.laws.steps.refused setting b p policy limits i v.machine.knowledge f
          (known_behind took.more.no_stop) bounded took.allowed.admitted e in
          record {
            instruction = i;
            allowed = took.allowed;
            bytes = took.bytes;
            fault = behind (reason_of f) named.fault;
            first = λ earlier lt g. named.first earlier lt
                (machine_fault policy limits p i
                (h.laws.frames.more p i v.frame is_open h.frames o).1
                (everyone (RunsFrom setting b p)) earlier g);
            asks = named.asks;
          }

      is_refused : (n : View) (why : Reason) → IsRefused policy i v.frame v.machine n why
          → IsWhy why n.off
      unfolding judged
      is_refused n why (inl g) = breaks_frame n why g
      is_refused n why (inr ((is_open, o), inr g)) = lacks_memory n why g
      is_refused n why (inr ((is_open, o), inl (f, e, is, becomes))) =
          let e' : advance setting policy limits i v.machine.knowledge ≡ Err f =
          rw (← h.same_setting, ← h.same_limits) e in
          subst (λ x. IsWhy x n.off) (sym is)
          (subst (λ x. IsWhy (reason_of f) x) (sym (ap (λ x. x.off) becomes))
          (judging (judged is_open f o e'), refl))

      -- the frame rules or the machine refuse the instruction that was read
      pub refused_took : (n : View) (why : Reason) → IsRefused policy i v.frame v.machine n why
          → RefusedAfter at why n.off t.source (p ++ i ∷ [])
      refused_took n why g =
          let w = is_refused n why g in
          subst (RefusedAfter at why n.off t.source) (ap (λ q. p ++ q) w.1)
          (refused_here took.more.no_stop took.place w.0)

    -- no read failed if the frame rules or the machine refuse
    pub count_took : (n : View) (why : Reason) → IsRefused policy i v.frame v.machine n why
        → CountsAt why old.failures t.source.failures
    count_took n why g = counts_at policy i v.frame v.machine n why g old.failures
        t.source.failures (took.bytes.count ∙ h.reads.bytes.count)
