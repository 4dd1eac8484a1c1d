-- What is known along a row of pickles.
use Rattle.std.proofs.Common.{◌≡◌, ◌≢◌, ℕ, ◌+◌, ◌<◌, ◌≤◌, List, [], ◌∷◌, ◌++◌, length, Option, None}
use Rattle.std.proofs.Common.{refl, sym, ap, subst, ◌∙◌, arith, length-append, append-nil}
use Rattle.std.proofs.Common.{append_assoc}
use Rattle.std.specs.Prelude.{flat_map, All}
use Rattle.std.specs.Io.KnownBytes.{IsAtEnd}
use Rattle.std.proofs.lemmas.Grind.{flat_map-append}
use Rattle.std.proofs.lemmas.List.{length-map, map-append}
use Rattle.std.proofs.lemmas.List.Elements.{All-nil, All-cons}
use Rattle.pkcheck.specs.WithImports.{ImportsBefore}
use Rattle.pkcheck.proofs.Wholes.ImportsBefore.{imports_before}
use Rattle.pkops.specs.Limits.{Bounds}
use Rattle.pkops.specs.Payloads.{payload_limit, payload_limit_at}
use Rattle.pkops.specs.Spelling.{Instruction, spelling}
use Rattle.pkread.specs.Again.{NoByteIsRefused, RefusesAgain}
use Rattle.pkread.specs.Run.{ReadingGoesOn}
use Rattle.pkread.specs.ReaderCalls.{ReaderState}
use Rattle.pkread.specs.Core.{Open, Refused}
use Rattle.pkread.specs.Rows.{Sight, Takes, TakingLaws, all_bytes}
use Rattle.pkread.specs.Sequence.{IsSequence, NoStop, StopIsLast, spellings}
use Rattle.pkcheck.specs.Private.Judgement.{SessionView}
use Rattle.pkops.specs.declared.Op.TheVariants.{Stop}
use Rattle.pkops.specs.declared.Refusal.{Refusal as ReadRefusal}
use Rattle.pkcheck.proofs.Wholes.Checked.{Checked, IsReady, accepted, checked_none, refused_turned}
use Rattle.pkcheck.proofs.Wholes.NextPickle.{begins_next, imports_more}
use Rattle.pkcheck.proofs.Wholes.Origins.{Begins, Origin, begins_afresh}
use Rattle.pkcheck.proofs.Wholes.JudgingLaws.{JudgingLaws}
use Rattle.pkmachine.specs.declared.old_strings.OldStrings.{OldStrings}
use Rattle.pkcheck.specs.declared.loading.Loading.{Loading}
use Rattle.pkmachine.specs.declared.memo.Memo.{Memo}
use Rattle.pkmachine.specs.declared.memo.Memo.TheVariants.{Fresh, Kept}
use Rattle.pkmachine.specs.View.{View, moved_apart, restarted}
use Rattle.pkcheck.specs.Accepted.{AcceptedFrom}
use Rattle.pkmachine.specs.Knowledge.{Knowledge, Policy, nothing_known}
use Rattle.pkimport.specs.Import.{Asked}
use Rattle.pkcheck.specs.Listing.{imports_among}
use Rattle.pkcheck.specs.Private.NextPickle.{IsRefusedBehind, listed_apart, listed_in}
use Rattle.pkcheck.specs.Heard.{refused_instruction}
use Rattle.pkcheck.specs.Refused.{RefusedFrom}
use Rattle.pkcheck.specs.RowOfPickles.{AcceptedRow, AreAccepted, IsAcceptedBehind, begins}
use Rattle.pkcheck.specs.RowOfPickles.{bytes_of_all}
use Rattle.pkmachine.specs.RowRuns.{Beginning, Pickle, imports_of_all, listed_before, sequences_of}

-- a sequence has at least one byte
no_end : (front : List Instruction) (last : Instruction) → [] ≡ front ++ last ∷ [] → ⊥
no_end [] last e = cc
no_end (i ∷ front) last e = cc

pub some_byte : (p : List Instruction) → StopIsLast p → 0 < length (spellings p)
some_byte [] h = absurd (no_end h.0 h.1 h.2)
some_byte (i ∷ p) h = omega (arith, length-append (spelling i) (spellings p))

module _ (loading : Loading) (policy : Policy) (limits : Bounds) where
  -- these pickles were accepted, the next one begins here, and `apart` are the imports listed
  -- outside the machine
  pub record RowSoFar (old here : Sight) (origin : Origin) (pickles : ℕ) (apart : List Asked)
      (before : List Pickle) : Type 0 where
    pub each : AreAccepted loading policy limits old here [] before
    pub from_is : origin.at ≡ length (bytes_of_all before)
    pub begins : origin.beginning ≡ begins loading.memo before
    pub number : pickles ≡ length before
    pub few : pickles ≤ origin.at
    pub listed : apart ≡ listed_apart loading.memo before

-- taking no more bytes changes nothing
takes_no_more : TakingLaws → (old between new : Sight) (run : List ℕ) → Takes old between run
    → Takes between new [] → Takes old new run
takes_no_more taking old between new run h k =
    subst (Takes old new) (append-nil run) (taking.more old between new run [] h k)

-- what was read and judged, as a pickle of the row
abbrev pub this : List Instruction → List (Option Asked) → Pickle
this p asked = record { instructions = p; imports = imports_among asked }

none_apart : (memo : Memo) → [] ≡ listed_apart memo []
none_apart Fresh = refl
none_apart Kept = refl

pub none_before : (memo : Memo) → listed_before (begins memo []) ≡ []
none_before Fresh = refl
none_before Kept = refl

pub begins_first : (memo : Memo) {setting : OldStrings} {policy : Policy}
    → Begins setting policy (begins memo []) nothing_known
begins_first Fresh = begins_afresh
begins_first Kept = begins_afresh

-- under a kept memo, the imports of the pickles before are in the machine
kept_listed : (before : List Pickle) → listed_before (begins Kept before) ≡ imports_of_all before
kept_listed [] = refl
kept_listed (x ∷ before) = refl

-- the imports of a row, which are outside the machine or inside it
pub all_listed : (memo : Memo) (apart own : List Asked) (before : List Pickle)
    → apart ≡ listed_apart memo before → own ≡ listed_before (begins memo before)
    → listed_in memo apart own ≡ imports_of_all before
all_listed Fresh apart own before e h = e
all_listed Kept apart own before e h = h ∙ kept_listed before

module _ (taking : TakingLaws) (loading : Loading) (policy : Policy) (limits : Bounds) where
  -- only the bytes depend on the source
  abbrev moved : (beginning : Beginning) (a b c d : Sight) (n : ℕ) (imports : List Asked)
      (h : AcceptedFrom loading.old_strings beginning policy limits a b n imports)
      → Takes c d (spellings h.instructions) → AcceptedFrom loading.old_strings beginning policy
      limits c d n imports
  moved beginning a b c d n imports h takes = record {
    instructions = h.instructions;
    sequence = h.sequence;
    bytes = takes;
    count = h.count;
    framed = h.framed;
    sound = h.sound;
    reached = h.reached;
    asked = h.asked;
    each = h.each;
    listed = h.listed;
    at_each = h.at_each;
    imported = h.imported;
    faultless = h.faultless;
    unknown = h.unknown;
  }

  -- the source may have been asked once more without giving a byte
  accepted_on : (old mid new : Sight) (before : List Pickle) (x : Pickle)
      → IsAcceptedBehind loading policy limits old mid before x → Takes mid new []
      → IsAcceptedBehind loading policy limits old new before x
  accepted_on old mid new before x (a, same) takes = (
    moved (begins loading.memo before) old mid old new _ x.imports a
        (takes_no_more taking old mid new _ a.bytes takes),
    same,
  )

  -- one more pickle
  accepted_more : (old mid new : Sight) (before xs : List Pickle) (x : Pickle)
      → AreAccepted loading policy limits old mid before xs
      → IsAcceptedBehind loading policy limits mid new (before ++ xs) x
      → AreAccepted loading policy limits old new before (xs ++ x ∷ [])
  accepted_more old mid new before [] x takes h =
      let (a, same) = subst (λ l. IsAcceptedBehind loading policy limits mid new l x)
      (append-nil before) h in (
        new,
        (
          moved (begins loading.memo before) mid new old new _ x.imports a
              (taking.more old mid new [] _ takes a.bytes),
          same,
        ),
        taking.none new,
      )
  accepted_more old mid new before (y ∷ xs) x (between, first, rest) h = (
    between,
    first,
    accepted_more between mid new (before ++ y ∷ []) xs x rest
        (subst (λ l. IsAcceptedBehind loading policy limits mid new l x)
        (sym (append_assoc before (y ∷ []) xs)) h),
  )

  -- the bytes of all pickles were taken
  pub accepted_bytes : (old new : Sight) (before xs : List Pickle)
      → AreAccepted loading policy limits old new before xs → Takes old new (bytes_of_all xs)
  accepted_bytes old new before [] takes = takes
  accepted_bytes old new before (x ∷ xs) (between, (a, same), rest) = taking.more old between new
      (spellings x.instructions) (bytes_of_all xs)
      (subst (λ p. Takes old between (spellings p)) same a.bytes)
      (accepted_bytes between new (before ++ x ∷ []) xs rest)

  -- each pickle is a sequence
  pub accepted_sequences : (old new : Sight) (before xs : List Pickle)
      → AreAccepted loading policy limits old new before xs
      → All (IsSequence (payload_limit limits)) (sequences_of xs)
  accepted_sequences old new before [] takes = All-nil (IsSequence (payload_limit limits))
  accepted_sequences old new before (x ∷ xs) (between, (a, same), rest) = All-cons
      (IsSequence (payload_limit limits)) x.instructions (sequences_of xs)
      (subst (IsSequence (payload_limit limits)) same a.sequence)
      (accepted_sequences between new (before ++ x ∷ []) xs rest)

-- the row begins with no pickle
pub row_begins : TakingLaws → {loading : Loading} {policy : Policy} {limits : Bounds} {old : Sight}
    {pickles : ℕ} {apart : List Asked} → pickles ≡ 0 → apart ≡ []
    → RowSoFar loading policy limits old old
    (record { at = 0; beginning = begins loading.memo []; known = nothing_known }) pickles apart []
row_begins taking {loading = loading} {old = old} e none = record {
  each = taking.none old;
  from_is = refl;
  begins = refl;
  number = e;
  few = omega (arith, e);
  listed = none ∙ none_apart loading.memo;
}

-- the imports outside the machine after one more pickle
apart_more : (memo : Memo) (apart own : List Asked) (before : List Pickle) (x : Pickle)
    → apart ≡ listed_apart memo before → own ≡ listed_before (begins memo before) ++ x.imports
    → moved_apart memo apart own ≡ listed_apart memo (before ++ x ∷ [])
apart_more Fresh apart own before x e h = rw (e, h) (sym (imports_more before x))
apart_more Kept apart own before x e h = e

bytes_more : (before : List Pickle) (x : Pickle) → length (bytes_of_all (before ++ x ∷ []))
    ≡ length (bytes_of_all before) + length (spellings x.instructions)
bytes_more before x =
    let e : bytes_of_all (before ++ x ∷ []) ≡ bytes_of_all before ++
    (spellings x.instructions ++ []) = ap (λ (l : List (List Instruction)). flat_map
    spellings l) (map-append (λ (y : Pickle). y.instructions) before (x ∷ [])) ∙
    flat_map-append spellings (sequences_of before) (x.instructions ∷ []) in
    omega (
      arith,
      ap length e,
      length-append (bytes_of_all before) (spellings x.instructions ++ []),
      length-append (spellings x.instructions) [],
    )

module _ (taking : TakingLaws) {loading : Loading} {policy : Policy} {limits : Bounds}
    {old here : Sight} {origin : Origin} {pickles : ℕ} {apart : List Asked} {before : List Pickle}
    (h : RowSoFar loading policy limits old here origin pickles apart before) where
  module _ {p : List Instruction} {asked : List (Option Asked)} {s : ReaderState} {v : SessionView}
      (checked : Checked loading.old_strings policy limits here origin p asked s v)
      (sequence : IsSequence (payload_limit limits) p) where
    is_accepted : IsAcceptedBehind loading policy limits here s.source before (this p asked)
    is_accepted = subst
        (λ b. (a : AcceptedFrom loading.old_strings b policy limits here s.source
        (length (spellings p)) (imports_among asked)) × (a.instructions ≡ p)) h.begins
        (accepted checked sequence checked.reads.count)

    -- the pickle that was read and judged here is accepted, and the next one begins
    pub pickle_more : {new : Sight} → Takes s.source new [] → (known : Knowledge)
        {all : List Asked} → all ≡ moved_apart loading.memo apart v.machine.imports
        → RowSoFar loading policy limits old new
        (record {
          at = s.taken;
          beginning = begins loading.memo (before ++ this p asked ∷ []);
          known = known;
        }) (pickles + 1) all (before ++ this p asked ∷ [])
    pickle_more {new = new} takes known listed =
        let x = this p asked in
        let a = accepted_on taking loading policy limits here s.source new before x is_accepted
        takes in
        let some = some_byte p (subst StopIsLast a.1 a.0.sequence.stops) in
        let reads = checked.reads.count in
        record {
          each = accepted_more taking loading policy limits old here new [] before x h.each a;
          from_is = reads ∙ ap (λ n. n + length (spellings p)) h.from_is
              ∙ sym (bytes_more before x);
          begins = refl;
          number = omega (arith, h.number, length-append before (x ∷ []));
          few = (let few = h.few in omega (arith, few, some, reads));
          listed = listed ∙ apart_more loading.memo apart v.machine.imports before x h.listed
              (checked.imports ∙ ap (λ b. listed_before b ++ imports_among asked) h.begins);
        }

    ready : (memo : Memo) → origin.beginning ≡ begins memo before
        → IsReady loading.old_strings policy limits (begins memo (before ++ this p asked ∷ []))
        (restarted memo v.machine)
    ready Fresh e = record {
      begins = begins_afresh;
      imports = refl;
      same_limits = checked.same_limits;
      same_setting = checked.same_setting;
      refused = refl;
      off = refl;
      stopped = refl;
    }
    ready Kept e = record {
      begins = begins_next checked.laws.steps before
          (subst (λ b. Begins loading.old_strings policy b origin.known) e checked.begins) sequence
          checked.accepts;
      imports = checked.imports
          ∙ (ap (λ b. listed_before b ++ imports_among asked) e
          ∙ (ap (λ l. l ++ imports_among asked) (kept_listed before)
          ∙ (sym (imports_more before (this p asked))
          ∙ sym (kept_listed (before ++ this p asked ∷ [])))));
      same_limits = checked.same_limits;
      same_setting = checked.same_setting;
      refused = checked.refused;
      off = checked.off;
      stopped = refl;
    }

    -- the restarted machine is ready for the next pickle
    pub next_ready : IsReady loading.old_strings policy limits
        (begins loading.memo (before ++ this p asked ∷ [])) (restarted loading.memo v.machine)
    next_ready = ready loading.memo h.begins

  not_none : 0 < pickles → sequences_of before ≢ []
  not_none some e = omega
      (arith, some, h.number, ap length e, length-map before (λ (y : Pickle). y.instructions))

  -- the source is at its end
  pub row_accepted : {imports : List Asked} → 0 < pickles → IsAtEnd here.left
      → origin.at < all_bytes → imports ≡ imports_of_all before
      → (right : AcceptedRow loading policy limits old here origin.at pickles imports)
      × (right.row ≡ before)
  row_accepted some ends within listed = (
    record {
      row = before;
      ends = ends;
      is_row = record {
        some = not_none some;
        each = accepted_sequences taking loading policy limits old here [] before h.each;
        spelled = refl;
      };
      bytes = accepted_bytes taking loading policy limits old here [] before h.each;
      count = h.from_is;
      within = within;
      number = h.number;
      each = h.each;
      listed = listed;
    },
    refl,
  )

  -- no read has failed so far
  pub none_failed : here.failures ≡ old.failures
  none_failed = (accepted_bytes taking loading policy limits old here [] before h.each).count

-- the reader has refused, after the source was asked
pub refuses_again : (s t : ReaderState) (x : ReadRefusal) → IsRefusedBehind s t x
    → RefusesAgain s x (record s { source = t.source; phase = Refused x })
refuses_again s t x h = record { place = h.place; why = h.why; after = refl }

-- no byte was taken of the pickle that would begin: the reader refused after STOP, or an allocation
-- for the imports was refused
pub refused_behind : JudgingLaws → ReadingGoesOn → NoByteIsRefused → {setting : OldStrings}
    {policy : Policy} {limits : Bounds} {b : Beginning} {m : View} (s t : ReaderState)
    (x : ReadRefusal) → s.limits ≡ limits → IsReady setting policy limits b m
    → IsRefusedBehind s t x
    → (r : RefusedFrom s.taken setting b policy limits s.source t.source x.at x.reason None)
    × (r.instructions ++ refused_instruction r.why ≡ [])
    × ImportsBefore setting b r.instructions []
refused_behind laws begins law {setting = setting} {limits = limits} {b = b} s t x same ready h =
    let open' : ReaderState = record s { phase = Open } in
    let here = checked_none laws (begins open' (payload_limit limits) refl) refl same ready in
    let none : NoStop [] = All-nil (λ i. i.op ≢ Stop) in
    let r = refused_turned here {t = record s { source = t.source }} (record {
      no_stop = none;
      place = h.place;
      bytes = [];
      why = (law (payload_limit_at limits []) s _ x (refuses_again s t x h)).0;
    }) in
    (r.0, r.1, subst (λ p. ImportsBefore setting b p []) (sym r.2) (imports_before here none))
