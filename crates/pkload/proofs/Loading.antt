-- What a check with the audience that keeps the bill says.
use Rattle.std.proofs.Common.{◌≡◌, ℕ, suc, true, false, List, [], ◌∷◌, ◌++◌, length, Option, None}
use Rattle.std.proofs.Common.{Some, Result, Ok, Err, IfOk, refl, sym, ap, subst, ◌∙◌, arith}
use Rattle.std.proofs.Common.{append-nil, append_assoc, length-append, Bool}
use Rattle.std.specs.Prelude.{All, ◌≢◌, ⊤}
use Rattle.std.proofs.lemmas.List.Elements.{All-weaker}
use Rattle.pkops.specs.Contents.{IsGood}
use Rattle.pkops.specs.Limits.{Bounds}
use Rattle.pkops.specs.Payloads.{payload_limit}
use Rattle.pkops.specs.Spelling.{Instruction}
use Rattle.pkread.specs.Admission.{IsAllowedBy}
use Rattle.pkread.specs.Rows.{Sight}
use Rattle.pkread.specs.Sequence.{IsSequence, StopIsLast}
use Rattle.pkmachine.specs.Knowledge.{Policy}
use Rattle.pkcheck.specs.NewRuns.{InEachNewRun, AnswersNew}
use Rattle.pkcheck.specs.Reports.{AreReportsBehind, Report}
use Rattle.pkcheck.specs.RowOfPickles.{AreAccepted, begins, bytes_of_all}
use Rattle.pkmachine.specs.RowRuns.{Beginning, Pickle, sequences_of}
use Rattle.pkstack.specs.Shape.{Breach, and_then}
use Rattle.pkcheck.specs.ThreeEnds.{AreReportsOf}
use Rattle.pkcheck.specs.declared.check_loop.Extent.TheVariants.{OnePickle, ToTheEnd}
use Rattle.pkcheck.specs.declared.loading.Loading.{Loading}
use Rattle.pkmachine.specs.declared.memo.Memo.{Memo}
use Rattle.pkmachine.specs.declared.memo.Memo.TheVariants.{Fresh, Kept}
use Rattle.pkmachine.specs.declared.old_strings.OldStrings.{OldStrings}
use Rattle.pkload.proofs.Accounts.{implies_across}
use Rattle.pkload.proofs.Tolds.{NoneBehindStop, metering_of, none_behind, stopped, told_along}
use Rattle.pkload.proofs.Whole.{bill_bounds_runs, each_map, ends_map}
use Rattle.pkload.specs.Bill.{Bill, all_billed, bill_before, billed, next_bill, no_bill, row_billed}
use Rattle.pkload.specs.Laws.{EndsBilled, TollsOnlyRefuse}
use Rattle.pkload.specs.Loading.{CostsWithin, EndsWithin, KeepWithin, last_bill}
use Rattle.pkload.specs.Private.Meter.{AllFit, Fits, metered_more, metering_in}
use Rattle.pkload.specs.Private.Told.{Metering, all_metered, metered, next_if, next_in, ready}
use Rattle.pkload.specs.Private.Told.{told_billed, with_bill}
use Rattle.pkload.specs.Tally.{IsAtMost, no_tally}
use Rattle.pkload.specs.Tolls.{IsWithin, KeepsWithin}
use Rattle.pkload.specs.Weighed.{tally_since}
use Rattle.pkload.specs.declared.tally.Tally.{Tally}
use Rattle.pkload.specs.declared.tolls.Tolls.{Tolls}
use Rattle.std.proofs.lemmas.List.{map-append}

within_below : (tolls : Tolls) (a b : Tally) → IsAtMost a b → IsWithin tolls b → IsWithin tolls a
within_below tolls a b h w = search (arith, implies_across)

pub runs_within : (tolls : Tolls) (bill : Bill) (setting : OldStrings) (beginning : Beginning)
    (is : List Instruction) → InEachNewRun setting beginning is (EndsBilled bill)
    → IsWithin tolls bill.tally → InEachNewRun setting beginning is (EndsWithin tolls)
runs_within tolls bill setting beginning is h w =
    each_map AnswersNew (EndsBilled bill) (EndsWithin tolls) setting beginning is
    (λ n e. ends_map _ _ _ _ e (λ s k. subst (IsWithin tolls) (sym k.tally) w)
    (λ s k. within_below tolls (tally_since n s.events) bill.tally k w)) h

-- ---- what was metered, in parts

abbrev bill_in : Result Bill Breach → Bill
bill_in (Ok b) = b
bill_in (Err e) = no_bill

pub record IsSplit {A B : Type 0} (x : Result A Breach) (f : A → Result B Breach) (b : B)
    : Type 0 where
  pub middle : A
  pub first : x ≡ Ok middle
  pub then : f middle ≡ Ok b

pub split_at : {A B : Type 0} (x : Result A Breach) (f : A → Result B Breach) (b : B)
    → and_then x f ≡ Ok b → IsSplit x f b
split_at (Ok a) f b e = record { middle = a; first = refl; then = e }
split_at (Err r) f b e = cc

pub billed_more : (is js : List Instruction) (b : Bill)
    → all_billed (is ++ js) b ≡ and_then (all_billed is b) (all_billed js)
billed_more [] js b = refl
billed_more (i ∷ is) js b = after_one (billed i b) (λ c. billed_more is js c)
  where
    after_one : (x : Result Bill Breach)
        → ((c : Bill) → all_billed (is ++ js) c ≡ and_then (all_billed is c) (all_billed js))
        → and_then x (all_billed (is ++ js)) ≡ and_then (and_then x (all_billed is)) (all_billed js)
    after_one (Ok c) on = on c
    after_one (Err e) on = refl

pub record IsMetered (m n : Metering) (x : Result Bill Breach) : Type 0 where
  pub bill : x ≡ Ok n.bill
  pub pickle : n.pickle ≡ m.pickle

pub metered_is : (memo : Memo) (setting : OldStrings) (beginning : Beginning) (from : ℕ)
    (m n : Metering) (x : Result Bill Breach)
    → metering_of memo setting beginning from m x ≡ Ok n → IsMetered m n x
metered_is memo setting beginning from m n (Ok b) e =
    let same = ap (metering_in m) e in
    record { bill = ap (λ k. Ok k.bill) same; pickle = sym (ap (λ k. k.pickle) same) }
metered_is memo setting beginning from m n (Err r) e = cc

pub all_good : (limits : Bounds) (is : List Instruction)
    → All (IsAllowedBy (payload_limit limits)) is → All IsGood is
all_good limits is h = All-weaker (IsAllowedBy (payload_limit limits)) IsGood (λ i k. k.good) is h

pub none_ends : (is : List Instruction) (i : Instruction) (js : List Instruction)
    → [] ≡ is ++ i ∷ js → ⊥
none_ends [] i js e = cc
none_ends (x ∷ is) i js e = cc

-- the last instruction is billed last
last_billed : (front : List Instruction) (last : Instruction) (b c : Bill)
    → all_billed (front ++ last ∷ []) b ≡ Ok c
    → (d : Bill) × (billed last d ≡ Ok c)
last_billed front last b c e =
    let s = split_at (all_billed front b) (all_billed (last ∷ [])) c
    (sym (billed_more front (last ∷ []) b) ∙ e) in
    let t = split_at (billed last s.middle) (all_billed []) c s.then in
    (s.middle, t.first ∙ t.then)

stops_ended : (is : List Instruction) (b c : Bill) → StopIsLast is → all_billed is b ≡ Ok c
    → c.ended ≡ true
stops_ended is b c s e =
    let l = last_billed s.0 s.1 b c (subst (λ x. all_billed x b ≡ Ok c) s.2 e) in
    stopped s.1 l.0 c s.3 l.1

pub sequences_with : (ps : List Pickle) (p : Pickle)
    → sequences_of (ps ++ p ∷ []) ≡ sequences_of ps ++ p.instructions ∷ []
sequences_with ps p = map-append (λ (q : Pickle). q.instructions) ps (p ∷ [])

-- a pickle that begins costs nothing
none_within : (tolls : Tolls) → KeepsWithin tolls no_tally 0
none_within tolls = search arith

pub fits_ready : (tolls : Tolls) (memo : Memo) (ended : Bool) (m : Metering) → Fits tolls m
    → Fits tolls (next_if ended memo m)
fits_ready tolls memo false m h = h
fits_ready tolls Fresh true m h = none_within tolls
fits_ready tolls Kept true m h = none_within tolls

-- where a check begins
abbrev pub at_first : Metering
at_first = record { pickle = 0; bill = no_bill }

-- ---- a pickle of a row

module _ (tolls : Tolls) (loading : Loading) where
  abbrev memo : Memo
  memo = loading.memo

  abbrev setting : OldStrings
  setting = loading.old_strings

  pub last_fits : (rs : List Report) (m n : Metering) → Fits tolls m → all_metered memo rs m ≡ Ok n
      → AllFit memo tolls rs m → Fits tolls n
  last_fits [] m n w e f = subst (Fits tolls) (ap (metering_in m) e) w
  last_fits (r ∷ rs) m n w e f =
      let s = split_at (metered memo r m) (all_metered memo rs) n e in
      let g = subst (λ x. IfOk x (λ k. Fits tolls k × AllFit memo tolls rs k)) s.first f in
      last_fits rs s.middle n g.0 s.then g.1

  -- the next pickle begins with this metering
  pub record IsReady (before : List Pickle) (m : Metering) : Type 0 where
    pub bill : bill_before (begins memo before) ≡ Ok (ready memo m).bill
    pub going : (ready memo m).bill.ended ≡ false
    pub pickle : (ready memo m).pickle ≡ length before

  -- the first report makes ready
  pub made_ready : (r : Report) (m : Metering) → (ready memo m).bill.ended ≡ false
      → metered memo r (ready memo m) ≡ metered memo r m
  made_ready r m e = ap (λ q. and_then
      (told_billed r.told (next_if q memo (ready memo m)).bill)
      (λ bill. Ok (with_bill (next_if q memo (ready memo m)) bill))) e

  all_ready : (beginning : Beginning) (from : ℕ) (is : List Instruction) (rs : List Report)
      (m : Metering) → StopIsLast is
      → AreReportsBehind false setting beginning from [] is rs
      → (ready memo m).bill.ended ≡ false
      → all_metered memo rs (ready memo m) ≡ all_metered memo rs m
  all_ready beginning from is (r ∷ rs) m s h e =
      ap (λ x. and_then x (all_metered memo rs)) (made_ready r m e)
  all_ready beginning from [] [] m s h e = absurd (none_ends s.0 s.1 [] s.2)
  all_ready beginning from (i ∷ is) [] m s h e = absurd h

  pub record IsPickleWithin (before : List Pickle) (is : List Instruction) (m n : Metering)
      : Type 0 where
    pub costs : CostsWithin setting (begins memo before) tolls is
    pub same : costs.bill ≡ n.bill
    pub bill : all_billed is (ready memo m).bill ≡ Ok n.bill
    pub ended : n.bill.ended ≡ true
    pub pickle : n.pickle ≡ (ready memo m).pickle
    pub fits : Fits tolls n

  pub pickle_within : (limits : Bounds) (from : ℕ) (before : List Pickle)
      (is : List Instruction) (rs : List Report) (m n : Metering)
      → IsSequence (payload_limit limits) is
      → AreReportsBehind false setting (begins memo before) from [] is rs
      → IsReady before m → Fits tolls m → all_metered memo rs m ≡ Ok n
      → AllFit memo tolls rs m → IsPickleWithin before is m n
  pickle_within limits from before is rs m n q h r w e f =
      let s = q.stops in
      let k = metered_is memo setting (begins memo before) from (ready memo m) n
      (all_billed is (ready memo m).bill)
      (sym (told_along memo setting (begins memo before) from [] is rs (ready memo m) h
      (all_good limits is q.each)
      (subst NoneBehindStop (sym s.2) (none_behind s.0 s.1 s.4)) r.going)
      ∙ all_ready (begins memo before) from is rs m s h r.going ∙ e) in
      let fits = last_fits rs m n w e f in
      let all = ap (λ x. and_then x (all_billed is)) r.bill ∙ k.bill in
      record {
        costs = record {
          bill = n.bill;
          billed = all;
          within = fits;
          runs = runs_within tolls n.bill setting (begins memo before) is
              (bill_bounds_runs setting (begins memo before) is n.bill all) fits.0;
        };
        same = refl;
        bill = k.bill;
        ended = stops_ended is (ready memo m).bill n.bill s k.bill;
        pickle = k.pickle;
        fits = fits;
      }

  -- ---- rows

  row_end : (ps : List (List Instruction)) (is : List Instruction) (b c d : Bill)
      → row_billed ps b ≡ Ok c → all_billed is c ≡ Ok d
      → row_billed (ps ++ is ∷ []) b ≡ Ok (next_bill d)
  row_end [] is b c d e h =
      ap (λ x. and_then x (λ after. Ok (next_bill after)))
      (ap (all_billed is) (ap bill_in e) ∙ h)
  row_end (p ∷ ps) is b c d e h =
      let s = split_at (all_billed p b) (λ after. row_billed ps (next_bill after)) c e in
      ap (λ x. and_then x (λ after. row_billed (ps ++ is ∷ []) (next_bill after))) s.first
      ∙ row_end ps is (next_bill s.middle) c d s.then h

  next_before : (k : Memo) (before : List Pickle) (p : Pickle) (b c : Bill)
      → bill_before (begins k before) ≡ Ok b → all_billed p.instructions b ≡ Ok c
      → bill_before (begins k (before ++ p ∷ [])) ≡ Ok (next_in k c)
  next_before Fresh before p b c e h = refl
  next_before Kept [] p b c e h = row_end [] p.instructions no_bill b c e h
  next_before Kept (x ∷ before) p b c e h =
      ap (λ l. row_billed l no_bill) (sequences_with (x ∷ before) p)
      ∙ row_end (sequences_of (x ∷ before)) p.instructions no_bill b c e h

  next_goes : (k : Memo) (b : Bill) → (next_in k b).ended ≡ false
  next_goes Fresh b = refl
  next_goes Kept b = refl

  pub ready_next : (before : List Pickle) (p : Pickle) (m n : Metering) → IsReady before m
      → IsPickleWithin before p.instructions m n → IsReady (before ++ p ∷ []) n
  ready_next before p m n r h =
      let same : ready memo n ≡ next_if true memo n = ap (λ q. next_if q memo n) h.ended in
      record {
        bill = next_before memo before p (ready memo m).bill n.bill r.bill h.bill
            ∙ ap (λ k. Ok k.bill) (sym same);
        going = ap (λ k. k.bill.ended) same ∙ next_goes memo n.bill;
        pickle = ap (λ k. k.pickle) same ∙ ap suc (h.pickle ∙ r.pickle)
            ∙ omega (arith, length-append before (p ∷ []));
      }

  pub fits_split : (rs qs : List Report) (m : Metering) → AllFit memo tolls (rs ++ qs) m
      → AllFit memo tolls rs m × ((n : Metering) → all_metered memo rs m ≡ Ok n
      → AllFit memo tolls qs n)
  fits_split [] qs m f = (tt, λ n e. subst (AllFit memo tolls qs) (ap (metering_in m) e) f)
  fits_split (r ∷ rs) qs m f = one (metered memo r m) f (λ k. fits_split rs qs k)
    where
      one : (x : Result Metering Breach)
          → IfOk x (λ k. Fits tolls k × AllFit memo tolls (rs ++ qs) k)
          → ((k : Metering) → AllFit memo tolls (rs ++ qs) k
          → AllFit memo tolls rs k × ((n : Metering) → all_metered memo rs k ≡ Ok n
          → AllFit memo tolls qs n))
          → IfOk x (λ k. Fits tolls k × AllFit memo tolls rs k)
          × ((n : Metering) → and_then x (all_metered memo rs) ≡ Ok n → AllFit memo tolls qs n)
      one (Ok k) g on = ((g.0, (on k g.1).0), λ n e. (on k g.1).1 n e)
      one (Err e) g on = (tt, λ n j. cc j)

  -- the bill, if there is one, is what was metered
  abbrev pub IsLast : Option Bill → Metering → Type 0
  IsLast None n = ⊤
  IsLast (Some bill) n = bill ≡ n.bill

  -- each of these pickles, which follow those before, keeps within the limits, and this was metered
  -- of the last
  abbrev pub RowWithin : List Pickle → List Pickle → Metering → Type 0
  RowWithin before ps n = (kept : KeepWithin loading tolls before ps)
      × IsLast (last_bill loading tolls before ps kept) n

  -- likewise, and the next pickle begins with this
  abbrev pub RowReady : List Pickle → List Pickle → Metering → Type 0
  RowReady before ps n = (row : RowWithin before ps n) × IsReady (before ++ ps) n × Fits tolls n

  row_more : (p : Pickle) (ps before : List Pickle)
      (costs : CostsWithin setting (begins memo before) tolls p.instructions)
      (k n : Metering) (rs : List Report) → costs.bill ≡ k.bill
      → AreReportsOf false loading (before ++ p ∷ []) ps rs → all_metered memo rs k ≡ Ok n
      → RowWithin (before ++ p ∷ []) ps n → RowWithin before (p ∷ ps) n
  row_more p [] before costs k n rs same h e r = (
    (costs, tt),
    same ∙ ap (λ m. m.bill)
        (ap (metering_in k) (subst (λ l. all_metered memo l k ≡ Ok n) h e)),
  )
  row_more p (q ∷ qs) before costs k n rs same h e r = ((costs, r.0), r.1)

  pub rows_within : (policy : Policy) (limits : Bounds) (ps before : List Pickle)
      (old new : Sight) (rs : List Report) (m n : Metering)
      → AreAccepted loading policy limits old new before ps
      → AreReportsOf false loading before ps rs → IsReady before m → Fits tolls m
      → all_metered memo rs m ≡ Ok n → AllFit memo tolls rs m → RowReady before ps n
  rows_within policy limits [] before old new rs m n a h r w e f =
      let same : m ≡ n =
      ap (metering_in m) (subst (λ l. all_metered memo l m ≡ Ok n) h e) in (
        (tt, tt),
        subst (IsReady (before ++ [])) same
            (subst (λ b. IsReady b m) (sym (append-nil before)) r),
        subst (Fits tolls) same w,
      )
  rows_within policy limits (p ∷ ps) before old new rs m n a h r w e f =
      let e' : all_metered memo (h.0 ++ h.1) m ≡ Ok n =
      subst (λ l. all_metered memo l m ≡ Ok n) h.2 e in
      let f' : AllFit memo tolls (h.0 ++ h.1) m = subst (λ l. AllFit memo tolls l m) h.2 f in
      let s = split_at (all_metered memo h.0 m) (all_metered memo h.1) n
      (sym (metered_more memo h.0 h.1 m) ∙ e') in
      let g = fits_split h.0 h.1 m f' in
      let one = pickle_within limits (length (bytes_of_all before)) before p.instructions h.0 m
      s.middle (subst (IsSequence (payload_limit limits)) a.1.1 a.1.0.sequence) h.3 r w s.first
      g.0 in
      let rest = rows_within policy limits ps (before ++ p ∷ []) a.0 new h.1 s.middle n a.2 h.4
      (ready_next before p m s.middle r one) one.fits s.then (g.1 s.middle s.first) in (
        row_more p ps before one.costs s.middle n h.1 one.same h.4 s.then rest.0,
        subst (λ b. IsReady b n) (append_assoc before (p ∷ []) ps) rest.1,
        rest.2,
      )

  pub last_is : (ps before : List Pickle) (n : Metering) → ps ≢ [] → (h : RowWithin before ps n)
      → last_bill loading tolls before ps h.0 ≡ Some n.bill
  last_is [] before n some h = absurd (some refl)
  last_is (p ∷ []) before n some h = ap Some h.1
  last_is (p ∷ q ∷ ps) before n some h =
      last_is (q ∷ ps) (before ++ p ∷ []) n (λ e. cc e) (h.0.1, h.1)

  -- ---- the whole check

  first_ready : (k : Memo) → bill_before (begins k []) ≡ Ok no_bill
  first_ready Fresh = refl
  first_ready Kept = refl

  pub begins_ready : IsReady [] at_first
  begins_ready = record { bill = first_ready memo; going = refl; pickle = refl }

  pub begins_within : Fits tolls at_first
  begins_within = none_within tolls

pub tolls_only_refuse : TollsOnlyRefuse
tolls_only_refuse loading policy limits tolls old new ToTheEnd accepted h = h.0
tolls_only_refuse loading policy limits tolls old new OnePickle accepted h = h.0
