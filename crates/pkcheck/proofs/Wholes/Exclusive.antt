-- No pickle is both accepted and refused.
use Rattle.std.proofs.Common.{◌≡◌, ◌≢◌, ℕ, ◌+◌, ◌<◌, ◌≤◌, ◌⊎◌, inl, inr, cond, List, [], ◌∷◌, ◌++◌}
use Rattle.std.proofs.Common.{length, take, drop, Option, Some, None, refl, sym, ap, subst, ◌∙◌}
use Rattle.std.proofs.Common.{arith, length-append, length-drop}
use Rattle.std.specs.Prelude.{All, IsTrue}
use Rattle.std.specs.Io.KnownBytes.{Consumes, IsAtEnd}
use Rattle.std.proofs.lemmas.Bool.{cases_lt}
use Rattle.std.proofs.lemmas.List.{take-append-drop, take-append-le}
use Rattle.std.proofs.lemmas.List.Elements.{All-head, All-tail}
use Rattle.std.proofs.Math.Seq.{take-append_seam}
use Rattle.pkops.specs.Admitted.{is_admitted}
use Rattle.pkops.specs.Answer.{Answer, Answers, Bad, IsWhole, More, Whole}
use Rattle.pkops.specs.Contents.{IsGood}
use Rattle.pkops.specs.Limits.{Bounds}
use Rattle.pkops.specs.Payloads.{is_passed, is_passed_code, payload_limit, payload_limit_at}
use Rattle.pkops.specs.Scans.{Begun, HasFault as ShowsFault, IsWithin}
use Rattle.pkops.specs.Spelling.{Instruction, spelling}
use Rattle.pkops.specs.Table.{code_of}
use Rattle.pkops.specs.declared.Fault.{Fault}
use Rattle.pkops.specs.declared.Fault.TheVariants as fault
use Rattle.pkops.specs.declared.Op.{Op}
use Rattle.pkops.specs.declared.Op.TheVariants as op
use Rattle.pkops.specs.declared.Reason.{Reason}
use Rattle.pkops.specs.declared.Reason.TheVariants as reason
use Rattle.pkread.specs.Admission.{IsAllowedBy, objection, unadmitted_by}
use Rattle.pkread.specs.Rows.{IsAmiss, IsBarred, ShowsReason, Sight, Takes, all_bytes}
use Rattle.pkread.specs.Sequence.{IsSequence, spellings}
use Rattle.pkread.specs.Sequences.{GoesOnBehind, OneFront, SequenceGoesOn}
use Rattle.pkmachine.specs.declared.old_strings.OldStrings.{OldStrings}
use Rattle.pkmachine.specs.Knowledge.{Policy}
use Rattle.pkimport.specs.Import.{Asked}
use Rattle.pkmachine.specs.Faults.{Arrivals, AsksOnce, HasFaultHere, InEachRun, everyone}
use Rattle.pkcheck.specs.Refused.{RefusedFrom, Why, reading, judging, growing}
use Rattle.pkcheck.specs.RunFaults.{HasRunFault}
use Rattle.pkmachine.specs.RowRuns.{RunsFrom, Beginning}
use Rattle.pkmachine.specs.Runs.{State}
use Rattle.pkcheck.specs.ButForLimits.{RefusedForLimits}
use Rattle.pkcheck.specs.Exclusive.{YesExcludesNo}
use Rattle.pkcheck.proofs.Wholes.Origins.{any_arrives}

-- ---- a fault that witness runs show is one that any run shows

module _ (here : Arrivals) (real : (s : State) → here.some s → here.any s) where
  each_of : (P : State → Type 0) → InEachRun here P → InEachRun (everyone here) P
  each_of P h = record { each = h.each; some = (h.some.0, real h.some.0 h.some.1) }

  once_of : (i : Instruction) (m n : List ℕ) → AsksOnce here i m n → AsksOnce (everyone here) i m n
  once_of i m n (s, o, c, d, a) = (s, o, real s c, tt, a)

  fault_of_any : (policy : Policy) (limits : Bounds) (i : Instruction) (r : Reason)
      → HasFaultHere policy limits here i r → HasFaultHere policy limits (everyone here) i r
  fault_of_any policy limits i reason.UnknownImport (m, n, (first, (m', n', second, differ)), off) =
      (m, n, (once_of i m n first, (m', n', once_of i m' n' second, differ)), off)
  fault_of_any policy limits i reason.ImportOffList (m, n, g) = (m, n, (each_of _ g.0, g.1))
  fault_of_any policy limits i reason.TooLarge (s, o, c, d, g) = (s, o, real s c, tt, g)
  fault_of_any policy limits i reason.Source f = f
  fault_of_any policy limits i reason.Truncated f = f
  fault_of_any policy limits i (reason.UnknownOpcode b) f = f
  fault_of_any policy limits i reason.BadArgument f = f
  fault_of_any policy limits i reason.ExtensionCode f = f
  fault_of_any policy limits i (reason.UnsupportedProtocol n) f = f
  fault_of_any policy limits i reason.BrokenFrame f = f
  fault_of_any policy limits i reason.OutOfMemory f = f
  fault_of_any policy limits i _ f = each_of _ f

module _ (setting : OldStrings) (b : Beginning) (policy : Policy) (limits : Bounds)
    (before : List Instruction) (i : Instruction) where
  pub shown : (r : Reason) → HasFaultHere policy limits (RunsFrom setting b before) i r
      → HasFaultHere policy limits (everyone (RunsFrom setting b before)) i r
  shown = fault_of_any (RunsFrom setting b before) (any_arrives setting b before) policy limits i

  pub by_any : (r : Reason) → HasRunFault policy limits before (RunsFrom setting b before) i r
      → HasRunFault policy limits before (everyone (RunsFrom setting b before)) i r
  by_any reason.BrokenFrame f = f
  by_any r f = shown r f

-- ---- the bytes of a refusal, if they begin with an instruction

abbrev pub OneAnswer : Type 0
OneAnswer = (limit : ℕ) (bytes : List ℕ) (r s : Answer) → Answers limit bytes r
    → Answers limit bytes s → r ≡ s

code_passed : (o : Op) → is_passed_code (code_of o) ≡ is_passed o
code_passed op.BinBytes = refl
code_passed op.ShortBinBytes = refl
code_passed op.BinBytes8 = refl
code_passed op.ByteArray8 = refl
code_passed _ = refl

-- the bytes are a proper prefix of the instruction, or begin with all of it
abbrev pub Side : ℕ → List ℕ → Instruction → Type 0
Side limit bytes j = (Begun limit bytes × (length bytes < length (spelling j)))
    ⊎ IsWhole limit bytes j (length (spelling j))

side : (limit : ℕ) (bytes rest after : List ℕ) (j : Instruction) → IsGood j → IsWithin limit j.arg
    → bytes ++ rest ≡ spelling j ++ after → Side limit bytes j
side limit bytes rest after j good fits e =
    elim (cases_lt (length bytes) (length (spelling j))) [
      | inl lt ↦
          let k = length bytes in
          let front : take k (spelling j) ≡ bytes =
          sym (take-append-le k (spelling j) after (omega (arith, lt))) ∙ ap (take k) (sym e)
          ∙ take-append_seam bytes rest in
          let lacks : drop k (spelling j) ≢ [] = λ none.
          (let n = ap length none in omega (arith, n, length-drop k (spelling j), lt)) in
          inl (
            (
              j,
              drop k (spelling j),
              record {
                may = record { suits = good.suits; within = λ _. fits };
                parts = sym (take-append-drop k (spelling j))
                    ∙ ap (λ z. z ++ drop k (spelling j)) front;
                lacks = lacks;
              },
            ),
            lt,
          )
      | inr le ↦
          let n = length (spelling j) in
          let spelled : take n bytes ≡ spelling j = sym (take-append-le n bytes rest le)
          ∙ ap (take n) e ∙ take-append_seam (spelling j) after in
          inr
          (record {
            fits = le;
            spells = record { spelled = spelled; good = good };
            within = fits;
          })
    ]

module _ (one : OneAnswer) (limit : ℕ) (bytes : List ℕ) (j : Instruction)
    (good : IsTrue (is_admitted j)) where
  no_fault : Side limit bytes j → (f : Fault) → ShowsFault limit f bytes → ⊥
  no_fault (inl b) f h = let e = one limit bytes More (Bad f) b.0 h in cc
  no_fault (inr w) f h = let e = one limit bytes (Whole j (length (spelling j))) (Bad f) w h in cc

  not_begun : IsWhole limit bytes j (length (spelling j)) → Begun limit bytes → ⊥
  not_begun w b = let e = one limit bytes (Whole j (length (spelling j))) More w b in cc

  not_barred : Side limit bytes j → (r : Reason) → IsBarred limit bytes r → ⊥
  not_barred (inl b) r (i, n, w, o) = let e = one limit bytes (Whole i n) More w b.0 in cc
  not_barred (inr w) r (i, n, v, o) =
      let e = one limit bytes (Whole i n) (Whole j (length (spelling j))) v w in
      let same : i ≡ j = cc in
      let none : Some r ≡ None = sym o ∙ (ap objection same
      ∙ ap (λ b. cond b None (Some (unadmitted_by j.op j.arg))) good) in
      cc

  pub not_amiss : Side limit bytes j → (r : Reason) → IsAmiss limit bytes r → ⊥
  not_amiss s (reason.UnknownOpcode c) h = no_fault s (fault.UnknownOpcode c) h
  not_amiss s reason.BadArgument h = no_fault s fault.BadArgument h
  not_amiss s reason.TooLarge h = no_fault s fault.TooLarge h
  not_amiss s reason.ExtensionCode h = not_barred s reason.ExtensionCode h
  not_amiss s (reason.UnsupportedProtocol n) h = not_barred s (reason.UnsupportedProtocol n) h
  not_amiss s _ h = h

-- ---- a source with known bytes

pub consumed : (old : Sight) (bytes run : List ℕ) (new : Sight) → old.left ≡ Some bytes
    → Takes old new run → (rest : List ℕ) × (new.left ≡ Some rest) × (bytes ≡ run ++ rest)
consumed old bytes run new is t = left_by new.left
    (subst (λ o. Consumes o new.left run) is t.bytes) where
      left_by : (o : Option (List ℕ)) → Consumes (Some bytes) o run
          → (rest : List ℕ) × (o ≡ Some rest) × (bytes ≡ run ++ rest)
      left_by None h = absurd h
      left_by (Some rest) h = (rest, refl, h)

pub at_end : (o : Option (List ℕ)) (rest : List ℕ) → o ≡ Some rest → IsAtEnd o → rest ≡ []
at_end o rest is h = subst IsAtEnd is h

module _ (one : OneAnswer) (nothing : (limit : ℕ) → Begun limit []) (limits : Bounds)
    (here after : Sight) (tail behind : List ℕ) (j : Instruction)
    (may : IsAllowedBy (payload_limit limits) j) (is : here.left ≡ Some tail)
    (spelled : tail ≡ spelling j ++ behind) where
  -- the payload limit of the bytes is that of the instruction, if there are any bytes
  limit_there : (b : ℕ) (bs rest : List ℕ) → (b ∷ bs) ++ rest ≡ spelling j ++ behind
      → payload_limit_at limits (b ∷ bs) ≡ payload_limit limits j.op
  limit_there b bs rest e =
      let code : b ≡ code_of j.op = cc in
      ap (λ c. cond (is_passed_code c) limits.passed limits.counted) code
      ∙ ap (λ p. cond p limits.passed limits.counted) (code_passed j.op)

  side_there : (bytes rest : List ℕ) → tail ≡ bytes ++ rest
      → Side (payload_limit_at limits bytes) bytes j
  side_there [] rest e = inl (nothing limits.counted, omega arith)
  side_there (b ∷ bs) rest e =
      let same = sym e ∙ spelled in
      side (payload_limit_at limits (b ∷ bs)) (b ∷ bs) rest behind j may.good
      (subst (λ l. IsWithin l j.arg) (sym (limit_there b bs rest same)) may.within) same

  module _ (bytes : List ℕ) (at taken : ℕ) (few : at + length (spelling j) ≤ all_bytes)
      (long : taken ≡ at + length bytes) where
    there : Takes here after bytes → Side (payload_limit_at limits bytes) bytes j
    there t = let r = consumed here tail bytes after is t in side_there bytes r.0 r.2

    -- the source has more bytes than these
    at_its_end : (t : Takes here after bytes) → IsAtEnd after.left
        → length bytes < length (spelling j) → ⊥
    at_its_end t end lt =
        let r = consumed here tail bytes after is t in
        let none : r.0 ≡ [] = at_end after.left r.0 r.1 end in
        let e : bytes ++ [] ≡ spelling j ++ behind = ap (λ z. bytes ++ z) (sym none) ∙ sym r.2
        ∙ spelled in
        let n = ap length e in
        omega (arith, n, length-append bytes [], length-append (spelling j) behind, lt)

    pub no_row : (r : Reason) → r ≢ reason.Source → r ≢ reason.OutOfMemory
        → ShowsReason (payload_limit_at limits bytes) here after bytes taken r → ⊥
    no_row reason.Source n m h = n refl
    no_row reason.OutOfMemory n m h = m refl
    no_row reason.Truncated n m (t, end, lt, begun) =
        elim (there t) [
          | inl s ↦ at_its_end t end s.1
          | inr w ↦ not_begun one (payload_limit_at limits bytes) bytes j may.admitted w begun
        ]
    no_row reason.TooLarge n m (t, inl h) = not_amiss one
        (payload_limit_at limits bytes) bytes j may.admitted (there t) reason.TooLarge h
    no_row reason.TooLarge n m (t, inr (begun, all)) =
        elim (there t) [
          | inl s ↦ (let lt = s.1 in omega (arith, all, long, few, lt))
          | inr w ↦ not_begun one (payload_limit_at limits bytes) bytes j may.admitted w begun
        ]
    no_row r n m h = not_amiss one (payload_limit_at limits bytes) bytes j may.admitted (there h.0)
        r h.1

-- ---- a yes and a no

behind_each : (P : Instruction → Type 0) (q : List Instruction) (j : Instruction)
    (is : List Instruction) → All P (q ++ j ∷ is) → P j
behind_each P [] j is h = All-head P j is h
behind_each P (k ∷ q) j is h = behind_each P q j is (All-tail P k (q ++ j ∷ is) h)

spellings_behind : (q : List Instruction) (j : Instruction) (is : List Instruction)
    → length (spellings (q ++ j ∷ is)) ≡ length (spellings q) + length (spellings (j ∷ is))
spellings_behind [] j is = omega arith
spellings_behind (k ∷ q) j is =
    let e = spellings_behind q j is in
    omega (
      arith,
      e,
      length-append (spelling k) (spellings (q ++ j ∷ is)),
      length-append (spelling k) (spellings q),
    )

-- a reason that is not another one is this one
if_not_other : (r : Reason) → (r ≢ reason.TooLarge → ⊥) → r ≡ reason.TooLarge
if_not_other reason.TooLarge h = refl
if_not_other r h = absurd (h (λ e. cc))

-- none of these instructions has the fault that this reason names
abbrev pub HasNone : OldStrings → Beginning → Policy → Bounds → List Instruction → Reason → Type 0
HasNone setting b policy limits p r =
    (before : List Instruction) (i : Instruction) (is : List Instruction)
    → p ≡ before ++ i ∷ is
    → HasRunFault policy limits before (everyone (RunsFrom setting b before)) i r → ⊥

module _ (one : OneAnswer) (nothing : (limit : ℕ) → Begun limit []) (front : OneFront)
    (goes : SequenceGoesOn) where
  module _ (limits : Bounds) {p q : List Instruction} {rest tail : List ℕ}
      (g : GoesOnBehind p q rest tail) (each : All (IsAllowedBy (payload_limit limits)) p) where
    may : IsAllowedBy (payload_limit limits) g.next
    may = behind_each (IsAllowedBy (payload_limit limits)) q g.next g.after
        (subst (All (IsAllowedBy (payload_limit limits))) g.split each)

    fits : (from at : ℕ) → from + length (spellings p) ≤ all_bytes
        → at ≡ from + length (spellings q) → at + length (spelling g.next) ≤ all_bytes
    fits from at few place =
        let n = ap (λ z. length (spellings z)) g.split in
        omega (
          arith,
          n,
          place,
          few,
          spellings_behind q g.next g.after,
          length-append (spelling g.next) (spellings g.after),
        )

    pub not_why : {setting : OldStrings} {b : Beginning} {policy : Policy} {r : Reason}
        {here after : Sight} {at : ℕ} {pair : Option Asked} → HasNone setting b policy limits p r
        → (from : ℕ) → from + length (spellings p) ≤ all_bytes
        → at ≡ from + length (spellings q) → here.left ≡ Some tail → r ≢ reason.Source
        → r ≢ reason.OutOfMemory → Why setting b policy limits q here after at r pair → ⊥
    not_why {r = r} {here} {after} {at} faultless from few place is n m (reading h) =
        no_row one nothing limits here after tail (spellings g.after ++ rest) g.next may is g.bytes
        h.bytes at h.taken (fits from at few place) h.shown.taken r n m h.shown.row
    not_why {setting} {b} {policy} {r} {here} {after} faultless from few place is n m (judging h) =
        let c = consumed here tail (spelling h.instruction) after is h.bytes in
        let same = front h.instruction g.next c.0 (spellings g.after ++ rest) h.allowed.good
        may.good (sym c.2 ∙ g.bytes) in
        let fault = by_any setting b policy limits q h.instruction r h.fault in
        faultless q g.next g.after g.split
        (subst (λ i. HasRunFault policy limits q (everyone (RunsFrom setting b q)) i r) same.0
        fault)
    not_why faultless from few place is n m (growing h) = m h.memory

  -- bytes that begin with a sequence are not refused for a fault that no instruction has
  pub not_refused : {setting : OldStrings} {b : Beginning} {policy : Policy} {limits : Bounds}
      {p : List Instruction} {from : ℕ} {old after : Sight} {at : ℕ} {r : Reason}
      {pair : Option Asked} (rest : List ℕ) → old.left ≡ Some (spellings p ++ rest)
      → IsSequence (payload_limit limits) p → from + length (spellings p) ≤ all_bytes
      → HasNone setting b policy limits p r
      → RefusedFrom from setting b policy limits old after at r pair
      → r ≢ reason.Source → r ≢ reason.OutOfMemory → ⊥
  not_refused {limits = limits} {p = p} {from = from} {old = old} rest is sequence few faultless
      refused n m =
      let q = refused.instructions in
      let c = consumed old (spellings p ++ rest) (spellings q) refused.here is refused.bytes in
      let g = goes (payload_limit limits) (payload_limit limits) p q rest c.0 sequence
      refused.admitted refused.goes_on c.2 in
      not_why limits g sequence.each faultless from few refused.place c.1 n m refused.why

  pub yes_excludes_no : YesExcludesNo
  yes_excludes_no setting b policy limits bytes old new taken imports from other after at r pair
      known same few accepted refused n m =
      let a = consumed old bytes (spellings accepted.instructions) new known accepted.bytes in
      not_refused a.0 (same ∙ ap Some a.2) accepted.sequence
      (let k = accepted.count in omega (arith, k, few))
      (λ before i is e f. accepted.faultless before i is e r f) refused n m

  pub refused_for_limits : RefusedForLimits
  refused_for_limits setting policy limits p rest old after at r pair sequence faultless is few
      refused n m =
      if_not_other r (λ other.
      not_refused rest is sequence (omega (arith, few))
      (λ before i is e f. faultless before i is e r other f) refused n m)
