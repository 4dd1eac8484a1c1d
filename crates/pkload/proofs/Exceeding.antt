-- The instruction that is too much, found among the reports of a pickle.
use Rattle.std.proofs.Common.{◌≡◌, ◌+◌, ℕ, false, List, [], ◌∷◌, ◌++◌, length, append-nil}
use Rattle.std.proofs.Common.{append_assoc, Ok, IfOk, refl, sym, ap, subst, ◌∙◌, ◌≤◌, ◌^◌, Bool}
use Rattle.std.proofs.Common.{true, cond, inl, inr}
use Rattle.std.proofs.lemmas.List.Elements.{All-head, All-tail, All-cons, All-nil}
use Rattle.std.specs.Prelude.{All, IsTrue, ◌≢◌, ◌⊎◌}
use Rattle.pkops.specs.Contents.{IsGood}
use Rattle.pkops.specs.Payloads.{is_passed}
use Rattle.pkops.specs.Spelling.{Instruction, spelling}
use Rattle.pkops.specs.declared.Op.{Op}
use Rattle.pkops.specs.declared.Op.TheVariants as op
use Rattle.pkread.specs.Sequence.{NoStop, spellings}
use Rattle.pkcheck.specs.Reports.{AreReportsBehind, Report, Skipped, Whole, told_of}
use Rattle.pkmachine.specs.Effects.{effect_of}
use Rattle.pkmachine.specs.RowRuns.{Beginning}
use Rattle.pkstack.specs.Shape.{and_then}
use Rattle.pkmachine.specs.declared.memo.Memo.{Memo}
use Rattle.pkmachine.specs.declared.old_strings.OldStrings.{OldStrings}
use Rattle.pkload.proofs.Loading.{IsMetered, metered_is}
use Rattle.pkload.proofs.Tolds.{NoneBehindStop, one_told, still_going}
use Rattle.pkload.specs.Bill.{Bill, all_billed, billed}
use Rattle.pkload.specs.Private.Meter.{AllFit, Fits, IsOver}
use Rattle.pkload.specs.Private.Told.{CantBeMetered, CantBeTold, Metering, all_metered, metered}
use Rattle.pkload.specs.Private.Told.{next_if, ready}
use Rattle.pkload.specs.Unkept.{CantBeKept, LeavesNoMore}
use Rattle.pkload.specs.Tolls.{Exceeds, KeepsWithin}
use Rattle.pkload.specs.declared.tolls.Excess.{Excess}
use Rattle.pkload.specs.declared.tolls.Excess.TheVariants.{OutOfMemory}
use Rattle.pkload.specs.declared.tolls.Tolls.{Tolls}

pub none_at : (is : List Instruction) → NoStop is → NoneBehindStop is
none_at [] h = tt
none_at (i ∷ []) h = tt
none_at (i ∷ j ∷ is) h = (
  All-head (λ i. i.op ≢ op.Stop) i (j ∷ is) h,
  none_at (j ∷ is) (All-tail (λ i. i.op ≢ op.Stop) i (j ∷ is) h),
)

module _ (memo : Memo) (tolls : Tolls) (excess : Excess) (at : ℕ) (n : Metering) where
  abbrev Over : List Report → Metering → Type 0
  Over = IsOver memo tolls excess at n

  -- what is too much is among the later reports
  pub record IsPast (earlier later : List Report) (m : Metering) : Type 0 where
    pub metering : Metering
    pub is : all_metered memo earlier m ≡ Ok metering
    pub fits : AllFit memo tolls earlier m
    pub over : Over later metering

  past_one : (r : Report) (rs qs : List Report) (m k : Metering) → metered memo r m ≡ Ok k
      → Fits tolls k → IsPast rs qs k → IsPast (r ∷ rs) qs m
  past_one r rs qs m k e f h = record {
    metering = h.metering;
    is = ap (λ x. and_then x (all_metered memo rs)) e ∙ h.is;
    fits = subst (λ x. IfOk x (λ j. Fits tolls j × AllFit memo tolls rs j)) (sym e) (f, h.fits);
    over = h.over;
  }

  pub past : (rs : List Report) (q : Report) (qs : List Report) (m : Metering)
      → Over (rs ++ q ∷ qs) m → IsPast rs (q ∷ qs) m
  past [] q qs m o = record { metering = m; is = refl; fits = tt; over = o }
  past (r ∷ []) q qs m o = past_one r [] (q ∷ qs) m o.0 o.1 o.2 (past [] q qs o.0 o.3)
  past (r ∷ s ∷ rs) q qs m o =
      past_one r (s ∷ rs) (q ∷ qs) m o.0 o.1 o.2 (past (s ∷ rs) q qs o.0 o.3)

  module _ (setting : OldStrings) (beginning : Beginning) (from : ℕ) where
    abbrev AreReports : List Instruction → List Instruction → List Report → Type 0
    AreReports = AreReportsBehind false setting beginning from

    abbrev place_behind : List Instruction → ℕ
    place_behind before = from + length (spellings before)

    no_reports : (before is : List Instruction) (i : Instruction)
        → AreReports before (is ++ i ∷ []) [] → ⊥
    no_reports before [] i h = h
    no_reports before (j ∷ is) i h = h

    -- it is where the last report is
    over_place : (before is : List Instruction) (i : Instruction) (rs : List Report)
        (m : Metering) → AreReports before (is ++ i ∷ []) rs → Over rs m
        → at ≡ place_behind (before ++ is)
    over_place before is i [] m h o = absurd o
    over_place before [] i (r ∷ []) m h o =
        o.0 ∙ h.0.place ∙ ap place_behind (sym (append-nil before))
    over_place before [] i (r ∷ s ∷ rs) m h o = absurd h.1
    over_place before (j ∷ is) i (r ∷ []) m h o =
        absurd (no_reports (before ++ j ∷ []) is i h.1)
    over_place before (j ∷ is) i (r ∷ s ∷ rs) m h o =
        over_place (before ++ j ∷ []) is i (s ∷ rs) o.0 h.1 o.3
        ∙ ap place_behind (append_assoc before (j ∷ []) is)

    -- if the last of these is refused, it is too much
    pub refused_place : (is : List Instruction) (i : Instruction) (earlier rs : List Report)
        (m : Metering) → AreReports [] (is ++ i ∷ []) rs → Over (earlier ++ rs) m
        → at ≡ place_behind is
    refused_place is i earlier [] m h o = absurd (no_reports [] is i h)
    refused_place is i earlier (r ∷ rs) m h o =
        let p = past earlier r rs m o in over_place [] is i (r ∷ rs) p.metering h p.over

    -- the instructions end with the first that is too much, by the bill if it was kept
    pub record EndsOver (before is : List Instruction) (m : Metering) : Type 0 where
      pub front : List Instruction
      pub last : Instruction
      pub parts : is ≡ front ++ last ∷ []
      pub goes_on : NoStop front
      pub place : at ≡ place_behind (before ++ front)
      pub earlier : Bill
      pub so_far : all_billed front m.bill ≡ Ok earlier
      pub within : KeepsWithin tolls earlier.tally earlier.memory
      pub pickle : excess ≢ OutOfMemory → n.pickle ≡ m.pickle
      pub adds : excess ≢ OutOfMemory → billed last earlier ≡ Ok n.bill
      pub exceeds : excess ≢ OutOfMemory → Exceeds excess tolls n.bill.tally n.bill.memory
      pub unkept : excess ≡ OutOfMemory → (2 ^ 64 ≤ m.pickle) ⊎ CantBeKept last earlier

    -- a payload that is skipped is that of an object, which is pushed
    passed_object : (o : Op) (i : Instruction) (b : Bill) → IsTrue (is_passed o)
        → LeavesNoMore (effect_of o) i b → ⊥
    passed_object op.BinBytes i b h w = w
    passed_object op.ShortBinBytes i b h w = w
    passed_object op.BinBytes8 i b h w = w
    passed_object op.ByteArray8 i b h w = w
    passed_object _ i b h w = cc h

    unkept_told : (i : Instruction) (b : Bill) (passed : Bool) → is_passed i.op ≡ passed
        → CantBeTold (cond passed (Skipped i.op (length (spelling i))) (Whole i)) b
        → CantBeKept i b
    unkept_told i b true e h w = absurd (passed_object i.op i b e w)
    unkept_told i b false e h w = h w

    unkept_at : (i : Instruction) (r : Report) (m : Metering) → r.told ≡ told_of false i
        → m.bill.ended ≡ false → CantBeMetered (ready memo m) r.told
        → (2 ^ 64 ≤ m.pickle) ⊎ CantBeKept i m.bill
    unkept_at i r m same e h = told_in (subst (λ q. CantBeMetered (next_if q memo m) r.told) e h)
      where
        told_in : CantBeMetered m r.told → (2 ^ 64 ≤ m.pickle) ⊎ CantBeKept i m.bill
        told_in (inl many) = inl many
        told_in (inr k) = inr (unkept_told i m.bill (is_passed i.op) refl
            (subst (λ t. CantBeTold t m.bill) same k))

    over_step : (i : Instruction) (r : Report) (m : Metering) → r.told ≡ told_of false i → IsGood i
        → m.bill.ended ≡ false → metered memo r m ≡ Ok n → IsMetered m n (billed i m.bill)
    over_step i r m same good e h = metered_is memo setting beginning from m n (billed i m.bill)
        (sym (one_told memo setting beginning from i r m same good e) ∙ h)

    pub over_along : (before is : List Instruction) (rs : List Report)
        (m : Metering) → AreReports before is rs → All IsGood is → NoneBehindStop is
        → m.bill.ended ≡ false → Fits tolls m → Over rs m → EndsOver before is m
    over_along before is [] m h g s e f o = absurd o
    over_along before (i ∷ []) (r ∷ []) m h g s e f o =
        record {
          front = [];
          last = i;
          parts = refl;
          goes_on = All-nil (λ i. i.op ≢ op.Stop);
          place = o.0 ∙ h.0.place ∙ ap place_behind (sym (append-nil before));
          earlier = m.bill;
          so_far = refl;
          within = f;
          pickle = λ ne.
              (over_step i r m h.0.same (All-head IsGood i [] g) e (o.1.limit ne).0).pickle;
          adds = λ ne.
              (over_step i r m h.0.same (All-head IsGood i [] g) e (o.1.limit ne).0).bill;
          exceeds = λ ne. (o.1.limit ne).1;
          unkept = λ out. unkept_at i r m h.0.same e (o.1.unkept out);
        }
    over_along before (i ∷ j ∷ is) (r ∷ s ∷ rs) m h g q e f o =
        let k = metered_is memo setting beginning from m o.0 (billed i m.bill)
        (sym (one_told memo setting beginning from i r m h.0.same
        (All-head IsGood i (j ∷ is) g) e) ∙ o.1) in
        let rest = over_along (before ++ i ∷ []) (j ∷ is) (s ∷ rs) o.0 h.1
        (All-tail IsGood i (j ∷ is) g) q.1 (still_going i m.bill o.0.bill q.0 e k.bill) o.2 o.3 in
        record {
          front = i ∷ rest.front;
          last = rest.last;
          parts = ap (λ l. i ∷ l) rest.parts;
          goes_on = All-cons (λ i. i.op ≢ op.Stop) i rest.front q.0 rest.goes_on;
          place = rest.place ∙ ap place_behind (append_assoc before (i ∷ []) rest.front);
          earlier = rest.earlier;
          so_far = ap (λ x. and_then x (all_billed rest.front)) k.bill ∙ rest.so_far;
          within = rest.within;
          pickle = λ ne. rest.pickle ne ∙ k.pickle;
          adds = rest.adds;
          exceeds = rest.exceeds;
          unkept = λ out. subst (λ p. (2 ^ 64 ≤ p) ⊎ CantBeKept rest.last rest.earlier) k.pickle
              (rest.unkept out);
        }
    over_along before _ _ m h g s e f o = absurd (search)
