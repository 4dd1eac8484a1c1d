-- What an audience is told of the instructions that are read and judged during a check.
use Rattle.std.proofs.Common.{◌≡◌, ℕ, zero, suc, ◌+◌, ◌≤◌, List, [], ◌∷◌, ◌++◌, length, drop}
use Rattle.std.proofs.Common.{Option, None, Some, inl, inr, refl, sym, ap, subst, ◌∙◌, arith}
use Rattle.std.proofs.Common.{append-nil, append_assoc}
use Rattle.std.specs.Prelude.{Bool, option_map}
use Rattle.std.proofs.lemmas.List.{drop-drop, length-drop}
use Rattle.pkops.specs.Limits.{Bounds}
use Rattle.pkops.specs.Spelling.{Instruction, spelling}
use Rattle.pkops.specs.declared.Refusal.{Refusal}
use Rattle.pkread.specs.AtHand.{AreNext, IsLent, beyond}
use Rattle.pkread.specs.ReaderCalls.{ReaderState}
use Rattle.pkread.specs.Rows.{Sight}
use Rattle.pkread.specs.Run.{LentIsRead, TakingTwice}
use Rattle.pkimport.specs.Import.{Asked}
use Rattle.pkmachine.specs.Knowledge.{Policy}
use Rattle.pkmachine.specs.RowRuns.{Beginning}
use Rattle.pkmachine.specs.View.{View}
use Rattle.pkmachine.specs.declared.old_strings.OldStrings.{OldStrings}
use Rattle.pkcheck.specs.Private.Judgement.{BothGoOn, IsRefused, SessionView}
use Rattle.pkcheck.specs.Private.Lent.{GoesAlong, PassInTurn, RefusesLent, StopsAt, heard_along}
use Rattle.pkcheck.specs.Private.Lent.{heard_before}
use Rattle.pkcheck.specs.Reports.{AreReportsBehind, IsReportOf, Report}
use Rattle.pkcheck.proofs.Wholes.Checked.{Checked, checked_took, known_behind}
use Rattle.pkcheck.proofs.Wholes.Given.{Took, took_lent}
use Rattle.pkcheck.proofs.Wholes.InTurn.{lent_within}
use Rattle.pkcheck.proofs.Wholes.Origins.{Origin, empty}

-- one more instruction was heard
pub heard_more : {holding : Bool} {setting : OldStrings} {b : Beginning} {from : ℕ}
    (before p : List Instruction) (rs : List Report) (i : Instruction) (x : Report)
    → AreReportsBehind holding setting b from before p rs
    → IsReportOf holding setting b from (before ++ p) i x
    → AreReportsBehind holding setting b from before (p ++ i ∷ []) (rs ++ x ∷ [])
heard_more {holding} {setting} {b} {from} before [] [] i x u h =
    (subst (λ c. IsReportOf holding setting b from c i x) (append-nil before) h, tt)
heard_more {holding} {setting} {b} {from} before (j ∷ p) (y ∷ rs) i x (f, r) h = (
  f,
  heard_more (before ++ j ∷ []) p rs i x r
      (subst (λ c. IsReportOf holding setting b from c i x)
      (sym (append_assoc before (j ∷ []) p)) h),
)
heard_more before _ _ i x u h = absurd u

module _ (holding : Bool) (setting : OldStrings) (policy : Policy) (limits : Bounds) (old : Sight)
    (o : Origin) where
  -- instructions of a pickle were read and judged, and this was told of them
  pub record Told (s : ReaderState) (v : SessionView) (hs : List Report) : Type 0 where
    pub read : List Instruction
    pub asked : List (Option Asked)
    pub checked : Checked setting policy limits old o read asked s v
    pub told : AreReportsBehind holding setting o.beginning o.at [] read hs

  -- behind them this instruction was read
  pub record Reached (t : ReaderState) (at : ℕ) (i : Instruction) (v : SessionView)
      (hs : List Report) : Type 0 where
    pub between : ReaderState
    pub so_far : Told between v hs
    pub took : Took old o.at limits so_far.read between at i t

  -- where some instructions among the bytes at hand were accepted in turn
  record Onward (bytes : List ℕ) (s : ReaderState) (count : ℕ) (v : SessionView)
      (hs : List Report) : Type 0 where
    so_far : Told (beyond count s) v hs
    next : AreNext (beyond count s) (drop count bytes)
    within : count ≤ length bytes

drop_none : (left : Option (List ℕ)) → option_map (drop 0) left ≡ left
drop_none None = refl
drop_none (Some xs) = refl

-- a reader that has taken nothing is where it was
beyond_none : (s : ReaderState) → beyond 0 s ≡ s
beyond_none s =
    let left = drop_none s.source.left in
    let count : s.taken + 0 ≡ s.taken = omega arith in
    rw (left, count) refl

module _ {holding : Bool} {setting : OldStrings} {policy : Policy} {limits : Bounds} {old : Sight}
    {o : Origin} {s : ReaderState} {v : SessionView} {hs : List Report}
    (r : Told holding setting policy limits old o s v hs) where
  module _ {t : ReaderState} {at : ℕ} {i : Instruction}
      (took : Took old o.at limits r.read s at i t) where
    -- what is told of the instruction that was read
    pub report_here : IsReportOf holding setting o.beginning o.at r.read i
        (heard_before holding at i v.machine)
    report_here =
        let known = known_behind r.checked took.more.no_stop in
        let some = known.some empty in
        record {
          same = refl;
          place = omega (arith, took.place, r.checked.reads.count);
          marks = record {
            each = λ st here. r.checked.laws.steps.marks _ st (known.each st here);
            some = (some.0, some.1);
          };
        }

    pub told_here : AreReportsBehind holding setting o.beginning o.at [] (r.read ++ i ∷ [])
        (hs ++ heard_before holding at i v.machine ∷ [])
    told_here = heard_more [] r.read hs i (heard_before holding at i v.machine) r.told report_here

    -- the instruction is accepted
    pub told_more : {after : SessionView}
        → BothGoOn policy i v.frame v.machine after.frame after.machine
        → Told holding setting policy limits old o t after
        (hs ++ heard_before holding at i v.machine ∷ [])
    told_more both = record {
      read = r.read ++ i ∷ [];
      asked = r.asked ++ both.1.1.0.import ∷ [];
      checked = checked_took r.checked took both;
      told = told_here;
    }

module _ {holding : Bool} {setting : OldStrings} {policy : Policy} {limits : Bounds} {old : Sight}
    {o : Origin} (lends : LentIsRead) (twice : TakingTwice) where
  -- one more instruction is lent
  onward_took : {bytes : List ℕ} {s : ReaderState} {count : ℕ} {v : SessionView}
      {hs : List Report} (h : Onward holding setting policy limits old o bytes s count v hs)
      (i : Instruction) → IsLent limits (drop count bytes) i → {t : ReaderState}
      → t ≡ beyond (count + length (spelling i)) s → {at : ℕ} → at ≡ s.taken + count
      → Took old o.at limits h.so_far.read (beyond count s) at i t
      × AreNext t (drop (length (spelling i)) (drop count bytes))
  onward_took {bytes = bytes} {s = s} {count = count} h i lent is place =
      took_lent h.so_far.checked.reads h.so_far.checked.read_limits lends (drop count bytes) i
      h.next lent place (is ∙ twice count (length (spelling i)) s)

  module _ {s : ReaderState} {v : SessionView} {hs : List Report}
      (r : Told holding setting policy limits old o s v hs) where
    -- any number of them is accepted
    onward : (bytes : List ℕ) → AreNext s bytes → (n : ℕ) (after : SessionView) (count : ℕ)
        (more : List Report) → PassInTurn holding policy s.taken bytes v n after count more
        → Onward holding setting policy limits old o bytes s count after (hs ++ more)
    onward bytes next zero after count more (is, none, nothing) =
        rw (is, none, nothing) (record {
          so_far = rw (beyond_none s, append-nil hs) r;
          next = rw (beyond_none s) next;
          within = omega arith;
        })
    onward bytes next (suc n) after count more
        (between, so_far, i, earlier, pass, lent, both, is, all) =
        let w = onward bytes next n between so_far earlier pass in
        let size = length (spelling i) in
        let lent' = subst (λ (l : Bounds). IsLent l (drop so_far bytes) i) r.checked.same_limits
        lent in
        let (took, later) = onward_took w i lent' {t = beyond (so_far + size) s} refl refl in
        let long = lent_within limits (drop so_far bytes) i lent' in
        let before = w.within in
        rw (is, all, ← append_assoc hs earlier) (record {
          so_far = told_more w.so_far took both;
          next = subst (λ (b : List ℕ). AreNext (beyond (so_far + size) s) b)
              (drop-drop size so_far bytes) later;
          within = omega (arith, long, before, length-drop so_far bytes);
        })

    -- what is at hand is accepted
    pub told_along : {t : ReaderState} {after : SessionView}
        (g : GoesAlong holding policy s t v after)
        → Told holding setting policy limits old o t after
        (hs ++ heard_along holding policy s t v g)
    told_along (inl (is, same)) = rw (is, same, append-nil hs) r
    told_along {after = after} (inr k) =
        rw k.taken (onward k.bytes k.next k.number after k.count k.hears k.pass).so_far

    -- an instruction at hand is reached behind others
    pub reached : (bytes : List ℕ) (count : ℕ) → AreNext s bytes
        → (here : StopsAt holding policy s.taken bytes v count) → {t : ReaderState}
        → t ≡ beyond (count + length (spelling here.instruction)) s → {at : ℕ}
        → at ≡ s.taken + count
        → Reached holding setting policy limits old o t at here.instruction here.between
        (hs ++ here.earlier)
    reached bytes count next here is place =
        let w = onward bytes next here.number here.between count here.earlier here.pass in
        let lent = subst (λ (l : Bounds). IsLent l (drop count bytes) here.instruction)
        r.checked.same_limits here.lent in
        record {
          between = beyond count s;
          so_far = w.so_far;
          took = (onward_took w here.instruction lent is place).0;
        }

    -- and refused
    pub reached_refused : {t : ReaderState} {after : View} {x : Refusal}
        (k : RefusesLent holding policy s t v after x)
        → Reached holding setting policy limits old o t x.at k.down.here.instruction
        k.down.here.between (hs ++ k.down.here.earlier)
        × IsRefused policy k.down.here.instruction k.down.here.between.frame
        k.down.here.between.machine after x.reason
    reached_refused k = (
      reached k.bytes k.turned.before k.next k.down.here
          (k.taken ∙ ap (λ n. beyond (k.turned.before + n) _) k.down.long) k.place,
      rw k.why k.down.why,
    )
