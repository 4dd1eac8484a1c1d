-- Payloads that are skipped.
use Rattle.std.proofs.Common.{◌≡◌, ℕ, ◌+◌, ◌-◌, ◌<◌, ◌≤◌, true, false, List, [], ◌∷◌, ◌++◌, length}
use Rattle.std.proofs.Common.{take, drop, refl, sym, ap, subst, ◌∙◌, inl, inr, arith, length-append}
use Rattle.std.proofs.Common.{Result, Ok, Err, IsTrue, max, Bool, if◌then◌else◌, length-take}
use Rattle.std.proofs.Common.{take-append-drop}
use Rattle.pkops.specs.Admitted.{is_admitted_by}
use Rattle.pkops.specs.Growth.{BegunLaws, CountLaws}
use Rattle.pkops.specs.Limits.{Bounds}
use Rattle.pkops.specs.Payloads.{HasCount, is_passed, is_passed_code, payload_limit_at}
use Rattle.pkops.specs.Spelling.{Argument, Counted, instruction, layout_at, spelling}
use Rattle.pkops.specs.Table.{code_of}
use Rattle.pkops.specs.declared.Layout.TheVariants as layout
use Rattle.pkops.specs.declared.Op.{Op}
use Rattle.pkops.specs.declared.Op.TheVariants as op
use Rattle.pkread.proofs.Bytes.Behind.{payload_lie, payload_stops, payload_took}
use Rattle.pkread.proofs.Bytes.Judged.{refuses_of}
use Rattle.pkread.proofs.Bytes.LinesBehind.{stops_more}
use Rattle.pkread.proofs.Bytes.Plain.{any_rule}
use Rattle.pkread.proofs.Reasons.OneRow.{OneAnswer}
use Rattle.pkread.proofs.Bytes.Taken.{lacks_after, took_both, took_none}
use Rattle.pkread.specs.Heads.{HoldsFew, SkipsBy}
use Rattle.pkread.specs.Private.Arms.{Counts, Finds, Stops}
use Rattle.pkread.specs.Private.Judgement.{is_plain}
use Rattle.pkread.specs.Private.Progress.{Intake}
use Rattle.pkread.specs.Private.SkippedBytes.{GrowsSkipping, HeldWhole, RefusedHead, SkipsAll}
use Rattle.pkread.specs.Private.SkippedBytes.{StopsSkipping, holding}
use Rattle.pkread.specs.Private.Reads.{LacksSome, Took, TookAll, TookBlock}
use Rattle.pkread.specs.Rows.{Reason, FrontsBegin, Refuses}
use Rattle.pkread.specs.declared.arms.Count.{Count}
use Rattle.pkread.specs.declared.gather.Found.{Found}

-- the argument of a passed opcode needs no look
passed_plain : (o : Op) → is_passed o ≡ true → is_plain o ≡ true
passed_plain op.Int e = cc
passed_plain _ e = cc

pub passed_admitted : (o : Op) (arg : Argument) → is_passed o ≡ true → IsTrue (is_admitted_by o arg)
passed_admitted op.Int arg e = cc
passed_admitted _ arg e = cc

-- bytes that were taken behind others, as if those were held
pub took_over : (c d : List ℕ) (old mid new : Intake) →
    Took c old (holding (old.bytes ++ c) mid) →
    Took d mid new → Took (c ++ d) old (holding (old.bytes ++ (c ++ d)) new)
took_over c d old mid new k l =
    let first = holding (old.bytes ++ c) mid in
    let w = took_both c d old first (holding ((old.bytes ++ c) ++ d) new) k
    (record { fit = l.fit; held = refl; source = l.source; count = l.count }) in
    record { fit = w.fit; held = refl; source = w.source; count = w.count }

-- fewer came than were left
pub lacks_over : (count left : ℕ) (c : List ℕ) (old mid new : Intake) (reason : Reason) →
    Took c old (holding (old.bytes ++ c) mid) → length c + left ≡ count →
    LacksSome left mid new reason →
    (b : List ℕ) × LacksSome count old (holding b new) reason
lacks_over count left c old mid new reason k all s =
    let first = holding (old.bytes ++ c) mid in
    let all' = holding ((old.bytes ++ c) ++ s.bytes) new in
    let more : LacksSome left first all' reason = record {
      bytes = s.bytes;
      fit = s.fit;
      held = refl;
      count_is = s.count_is;
      lacks = s.lacks;
      row = s.row;
    } in (
      (old.bytes ++ c) ++ s.bytes,
      lacks_after count left c old first all' reason k all more,
    )

-- no bytes were
pub skips_none : (count : ℕ) (old : Intake) → count ≡ 0 →
    (b : List ℕ) × TookAll count old (holding b old)
skips_none count old e =
    (old.bytes, record { bytes = []; took = took_none old; all = sym e })

-- some bytes, and then the rest
pub skips_rest : {A : Type 0} (count n v : ℕ) (c : List ℕ) (old mid new : Intake)
    (r : Result A Reason) → Took c old (holding (old.bytes ++ c) mid) → length c ≡ n → n ≤ count →
    v ≡ count - n → SkipsAll v r mid new → SkipsAll count r old new
skips_rest count n v c old mid new (Ok x) k is le rest h =
    let all = h.1.all in (
      old.bytes ++ (c ++ h.1.bytes),
      record {
        bytes = c ++ h.1.bytes;
        took = took_over c h.1.bytes old mid (holding h.0 new) k h.1.took;
        all = omega (arith, length-append c h.1.bytes, is, le, rest, all);
      },
    )
skips_rest count n v c old mid new (Err x) k is le rest h =
    lacks_over count v c old mid (holding h.0 new) x k (omega (arith, is, le, rest)) h.1

-- a block that was taken and cut off, as if it were still held
pub block_over : (count n : ℕ) (old mid cut : Intake) (b : TookBlock count n old mid) →
    cut.source ≡ mid.source → cut.taken ≡ mid.taken →
    Took b.bytes old (holding (old.bytes ++ b.bytes) cut)
block_over count n old mid cut b same still = record {
  fit = b.took.fit;
  held = refl;
  source = rw same b.took.source;
  count = still ∙ b.took.count;
}

-- which is all of them
pub skips_block : (count n : ℕ) (old mid cut : Intake) (b : TookBlock count n old mid) →
    cut.source ≡ mid.source → cut.taken ≡ mid.taken → n ≡ count →
    (bytes : List ℕ) × TookAll count old (holding bytes cut)
skips_block count n old mid cut b same still all = (
  old.bytes ++ b.bytes,
  record {
    bytes = b.bytes;
    took = block_over count n old mid cut b same still;
    all = b.count ∙ all;
  },
)

-- the payload behind a count
module _ (c : Count) (x : ℕ) (o : Op) (old mid new : Intake) (e : old.bytes ≡ code_of o ∷ [])
    (lay : layout_at o ≡ layout.Counted c.width c.signed) (k : Counts c x old mid) where
  pub payload_skips : CountLaws → (b : List ℕ) → TookAll x mid (holding b new) →
      GrowsSkipping c.limit o x old new
  payload_skips counts b s = record {
    bytes = b;
    run = k.field ++ s.bytes;
    took = payload_took c x o old mid (holding b new) e lay k s;
    payload = s.bytes;
    count_is = s.all;
    lies = payload_lie c x o old mid (holding b new) e lay k counts s;
  }

  pub payload_stops_skipping : BegunLaws → CountLaws → (r : Reason) (b : List ℕ) →
      LacksSome x mid (holding b new) r → StopsSkipping c.limit old new r
  payload_stops_skipping laws counts r b s =
      (b, payload_stops c x o old mid (holding b new) e lay k laws counts r s)

-- an instruction whose payload was skipped
pub passes_by : (limit count : ℕ) (o : Op) (old mid new : Intake) → old.bytes ≡ [] →
    is_passed o ≡ true → Took (code_of o ∷ []) old mid → GrowsSkipping limit o count mid new →
    SkipsBy limit o count old.source new.source old.taken new.taken
passes_by limit count o old mid new e q k g =
    let all = took_both (code_of o ∷ []) g.run old mid (holding g.bytes new) k g.took in
    let is : g.bytes ≡ code_of o ∷ g.run =
    all.held ∙ ap (λ (b : List ℕ). b ++ (code_of o ∷ g.run)) e in
    let s : code_of o ∷ g.run ≡ spelling (instruction o (Counted g.payload)) =
    sym is ∙ g.lies.spelled in
    record {
      payload = g.payload;
      one = record {
        passed = q;
        count_is = g.count_is;
        allowed = record {
          good = record {
            suits = g.lies.laid.suits;
            contents = rw (any_rule o (passed_plain o q)) tt;
          };
          within = g.lies.laid.within;
          admitted = passed_admitted o (Counted g.payload) q;
        };
      };
      bytes = rw s at all.source;
      taken = all.count ∙ ap (λ (b : List ℕ). old.taken + length b) s;
    }

-- what `pkops` promises of the codes
abbrev pub OneCode : Type 0
OneCode = (a b : Op) → code_of a ≡ code_of b → a ≡ b

-- bytes of which each shorter front begins an instruction that is not passed are few
pub held_few : BegunLaws → OneCode → (limit old now : ℕ) (o : Op) (b behind : List ℕ) →
    is_passed o ≡ false → b ≡ code_of o ∷ behind → FrontsBegin limit b → now ≡ max old (length b) →
    HoldsFew old b now
held_few laws one_code limit old now o b behind q is f e =
    let some : 0 < length b = omega (arith, ap length is) in
    let k = length b - 1 in
    let w = laws.counted limit (take k b) (drop k b) (f k (omega arith)) in
    let len : length (take k b) ≡ k = omega (arith, length-take k b) in
    elim w [
      | inl few ↦ inl (omega (arith, few, len, e))
      | inr many ↦
          let has : HasCount many.0 b many.1 = rw (take-append-drop k b) at many.2 in
          let same : code_of many.0 ≡ code_of o =
          let both : code_of many.0 ∷ has.behind ≡ code_of o ∷ behind = sym has.begins
          ∙ is in cc in
          let held : is_passed many.0 ≡ false = ap is_passed (one_code many.0 o same) ∙ q in
          let few = many.3 in
          inr (many.0, many.1, held, has, omega (arith, few, len, e))
    ]

code_is_passed : (o : Op) → is_passed_code (code_of o) ≡ is_passed o
code_is_passed op.BinBytes = refl
code_is_passed _ = refl

-- the limit by the bytes of an instruction is that of its opcode
limit_at_code : (limits : Bounds) (o : Op) (b behind : List ℕ) (passed : Bool) →
    b ≡ code_of o ∷ behind → is_passed o ≡ passed →
    payload_limit_at limits b ≡ (if passed then limits.passed else limits.counted)
limit_at_code limits o b behind passed e q = ap (payload_limit_at limits) e
    ∙ ap (λ x. if x then limits.passed else limits.counted) (code_is_passed o ∙ q)

module _ (limits : Bounds) (most after : ℕ) (o : Op) (old mid new : Intake)
    (e : old.bytes ≡ []) (k : Took (code_of o ∷ []) old mid) where
  -- what stands behind the code
  behind_is : (b c : List ℕ) → b ≡ mid.bytes ++ c → b ≡ code_of o ∷ c
  behind_is b c s = s ∙ ap (λ (d : List ℕ). d ++ c) (k.held ∙ ap (λ d. d ++ code_of o ∷ []) e)

  -- the refusal of an instruction, which stops with these bytes
  refused_by : OneAnswer → (passed : Bool) (b : List ℕ) (r : Reason) → is_passed o ≡ passed →
      Stops (if passed then limits.passed else limits.counted) mid (holding b new) r →
      Refuses (payload_limit_at limits b) old.source new.source b old.taken new.taken r
  refused_by one passed b r q s =
      let limit = if passed then limits.passed else limits.counted in
      let all = stops_more limit (code_of o ∷ []) old mid (holding b new) r k s in
      let same = limit_at_code limits o b s.bytes passed (behind_is b s.bytes s.held) q in
      subst (λ l. Refuses l old.source new.source b old.taken new.taken r) (sym same)
      (refuses_of one limit old (holding b new) r e all)

  -- the refusal of an instruction that is held
  pub refused_held : BegunLaws → OneCode → OneAnswer → (r : Reason) → is_passed o ≡ false →
      Stops limits.counted mid new r → after ≡ max most (length new.bytes) →
      RefusedHead limits old new most after r
  refused_held laws one_code one r q s same =
      let is = behind_is new.bytes s.bytes s.held in
      record {
        bytes = new.bytes;
        refuses = refused_by one false new.bytes r q s;
        few = held_few laws one_code limits.counted most after o new.bytes s.bytes q is s.fronts
            same;
      }

  -- the refusal of an instruction whose payload is skipped
  pub refused_skipping : OneAnswer → (r : Reason) → is_passed o ≡ true →
      StopsSkipping limits.passed mid new r → after ≤ max most 131_075 →
      RefusedHead limits old new most after r
  refused_skipping one r q s few =
      record { bytes = s.0; refuses = refused_by one true s.0 r q s.1; few = inl few }

  -- an instruction that is held
  pub found_held : BegunLaws → OneCode → (f : Found) → is_passed o ≡ false →
      Finds limits.counted f.op f.split mid new → f.op ≡ o → after ≡ max most (length new.bytes) →
      HeldWhole limits.counted f old new most after
  found_held laws one_code f q h same now =
      let all = took_both (code_of o ∷ []) h.bytes old mid new k h.took in
      let is : new.bytes ≡ code_of o ∷ h.bytes =
      all.held ∙ ap (λ (b : List ℕ). b ++ (code_of o ∷ h.bytes)) e in
      let fronts = laws.whole limits.counted f.op h.found.arg f.split new.bytes h.found.lies in
      let taken = all.count ∙ ap (λ (b : List ℕ). old.taken + length b) (sym is) in
      record {
        found = h.found;
        kept = ap is_passed same ∙ q;
        gathers = record { taken = taken; fronts = fronts; source = rw is all.source };
        rises = now;
        few = held_few laws one_code limits.counted most after o new.bytes h.bytes q is fronts now;
      }
