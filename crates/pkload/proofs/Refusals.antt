-- What precedes a refused instruction keeps within the limits.
use Rattle.std.proofs.Common.{◌≡◌, ◌+◌, ◌≤◌, ◌<◌, ℕ, false, List, [], ◌∷◌, ◌++◌, length, append-nil}
use Rattle.std.proofs.Common.{append_assoc, length-append, Option, None, Some, Ok, refl, sym, ap}
use Rattle.std.proofs.Common.{subst, ◌∙◌, arith}
use Rattle.std.proofs.lemmas.Grind.{flat_map-append}
use Rattle.std.proofs.lemmas.List.{map-append}
use Rattle.std.proofs.lemmas.List.Elements.{All-append, All-cons, All-head, All-nil, All-tail}
use Rattle.std.proofs.lemmas.List.Elements.{All-weaker}
use Rattle.std.specs.Prelude.{All, flat_map}
use Rattle.pkops.specs.Contents.{IsGood}
use Rattle.pkops.specs.Limits.{Bounds}
use Rattle.pkops.specs.Spelling.{Instruction, spelling}
use Rattle.pkops.specs.declared.Reason.{Reason}
use Rattle.pkread.specs.Rows.{Sight}
use Rattle.pkread.specs.Sequence.{spellings}
use Rattle.pkcheck.specs.Heard.{refused_instruction}
use Rattle.pkmachine.specs.Knowledge.{Policy}
use Rattle.pkimport.specs.Import.{Asked}
use Rattle.pkcheck.specs.Refused.{RefusedFrom}
use Rattle.pkcheck.specs.Reports.{AreReportsBehind, Report}
use Rattle.pkcheck.specs.RowOfPickles.{AreAccepted, begins, bytes_of_all}
use Rattle.pkmachine.specs.RowRuns.{Beginning, Pickle, sequences_of}
use Rattle.pkstack.specs.Shape.{and_then}
use Rattle.pkcheck.specs.ThreeEnds.{AreReportsOf}
use Rattle.pkcheck.specs.declared.loading.Loading.{Loading}
use Rattle.pkmachine.specs.declared.memo.Memo.{Memo}
use Rattle.pkmachine.specs.declared.old_strings.OldStrings.{OldStrings}
use Rattle.pkload.proofs.Exceeding.{none_at, past}
use Rattle.pkload.proofs.Loading.{IsReady, all_good, at_first, begins_ready, begins_within}
use Rattle.pkload.proofs.Loading.{fits_ready, fits_split, last_fits, made_ready, metered_is}
use Rattle.pkload.proofs.Loading.{rows_within, split_at}
use Rattle.pkload.proofs.Tolds.{NoneBehindStop, told_along}
use Rattle.pkload.specs.Bill.{all_billed}
use Rattle.pkload.specs.Loading.{KeepWithin, StaysWithin}
use Rattle.pkload.specs.Private.Meter.{AllFit, Fits, IsOver, metered_more}
use Rattle.pkload.specs.Private.Told.{Metering, all_metered, ready}
use Rattle.pkload.specs.declared.tolls.Excess.{Excess}
use Rattle.pkload.specs.declared.tolls.Tolls.{Tolls}

-- ---- places

-- what is reported stands before this place
abbrev AreBelow : ℕ → List Report → Type 0
AreBelow place = All (λ r. r.at < place)

below_later : (a b : ℕ) (rs : List Report) → a ≤ b → AreBelow a rs → AreBelow b rs
below_later a b rs l h =
    All-weaker (λ r. r.at < a) (λ r. r.at < b) (λ r k. omega (arith, l, k)) rs h

module _ (setting : OldStrings) (beginning : Beginning) (from : ℕ) where
  abbrev AreReports : List Instruction → List Instruction → List Report → Type 0
  AreReports = AreReportsBehind false setting beginning from

  report_below : (before is : List Instruction) (i : Instruction)
      → from + length (spellings before) < from + length (spellings (before ++ i ∷ is))
  report_below before is i = omega (
    arith,
    ap length (flat_map-append spelling before (i ∷ is)),
    length-append (spellings before) (spellings (i ∷ is)),
    length-append (spelling i) (spellings is),
  )

  reports_below : (before is : List Instruction) (rs : List Report) → AreReports before is rs
      → AreBelow (from + length (spellings (before ++ is))) rs
  reports_below before is [] h = All-nil _
  reports_below before [] (r ∷ rs) h = absurd h
  reports_below before (i ∷ is) (r ∷ rs) h =
      All-cons (λ q. q.at < from + length (spellings (before ++ i ∷ is))) r rs
      (subst (λ at. at < from + length (spellings (before ++ i ∷ is))) (sym h.0.place)
      (report_below before is i))
      (subst (λ js. AreBelow (from + length (spellings js)) rs) (append_assoc before (i ∷ []) is)
      (reports_below (before ++ i ∷ []) is rs h.1))

  -- the reports of instructions in two parts
  pub record AreParted (before is js : List Instruction) (rs : List Report) : Type 0 where
    pub first : List Report
    pub others : List Report
    pub all : rs ≡ first ++ others
    pub of_first : AreReports before is first
    pub of_others : AreReports (before ++ is) js others

  pub parted : (before is js : List Instruction) (rs : List Report)
      → AreReports before (is ++ js) rs → AreParted before is js rs
  parted before [] js rs h = record {
    first = [];
    others = rs;
    all = refl;
    of_first = tt;
    of_others = subst (λ b. AreReports b js rs) (sym (append-nil before)) h;
  }
  parted before (i ∷ is) js [] h = absurd h
  parted before (i ∷ is) js (r ∷ rs) h =
      let rest = parted (before ++ i ∷ []) is js rs h.1 in
      record {
        first = r ∷ rest.first;
        others = rest.others;
        all = ap (λ l. r ∷ l) rest.all;
        of_first = (h.0, rest.of_first);
        of_others = subst (λ b. AreReports b js rest.others) (append_assoc before (i ∷ []) is)
            rest.of_others;
      }

bytes_parts : (ps qs : List Pickle)
    → bytes_of_all (ps ++ qs) ≡ bytes_of_all ps ++ bytes_of_all qs
bytes_parts ps qs = ap (λ l. flat_map spellings l) (map-append (λ p. p.instructions) ps qs)
    ∙ flat_map-append spellings (sequences_of ps) (sequences_of qs)

module _ (loading : Loading) where
  pickles_below : (before ps : List Pickle) (rs : List Report)
      → AreReportsOf false loading before ps rs
      → AreBelow (length (bytes_of_all (before ++ ps))) rs
  pickles_below before [] rs h =
      subst (AreBelow (length (bytes_of_all (before ++ [])))) (sym h) (All-nil _)
  pickles_below before (p ∷ ps) rs h =
      subst (AreBelow (length (bytes_of_all (before ++ p ∷ ps)))) (sym h.2)
      (All-append (λ r. r.at < length (bytes_of_all (before ++ p ∷ ps))) h.0 h.1
      (below_later (length (bytes_of_all before) + length (spellings p.instructions))
      (length (bytes_of_all (before ++ p ∷ ps))) h.0 (omega (
        arith,
        ap length (bytes_parts before (p ∷ ps)),
        length-append (bytes_of_all before) (bytes_of_all (p ∷ ps)),
        length-append (spellings p.instructions) (bytes_of_all ps),
      )) (reports_below loading.old_strings (begins loading.memo before)
      (length (bytes_of_all before)) [] p.instructions h.0 h.3))
      (subst (λ l. AreBelow (length (bytes_of_all l)) h.1) (append_assoc before (p ∷ []) ps)
      (pickles_below (before ++ p ∷ []) ps h.1 h.4)))

-- ---- what was metered before the refused instruction

module _ (loading : Loading) (tolls : Tolls) where
  abbrev memo : Memo
  memo = loading.memo

  abbrev Over : Excess → ℕ → Metering → List Report → Metering → Type 0
  Over = IsOver memo tolls

  over_below : (excess : Excess) (at : ℕ) (n : Metering) (place : ℕ) (rs : List Report)
      (m : Metering) → Over excess at n rs m → AreBelow place rs → at < place
  over_below excess at n place [] m o h = absurd o
  over_below excess at n place (r ∷ []) m o h =
      subst (λ k. k < place) (sym o.0) (All-head (λ q. q.at < place) r [] h)
  over_below excess at n place (r ∷ s ∷ rs) m o h = over_below excess at n place (s ∷ rs) o.0 o.3
      (All-tail (λ q. q.at < place) r (s ∷ rs) h)

  -- no limit was exceeded before this place
  abbrev pub NoneIn : (place at : ℕ) → Metering → List Report → Option Excess → Type 0
  NoneIn place at n rs None = (all_metered memo rs at_first ≡ Ok n) × AllFit memo tolls rs at_first
  NoneIn place at n rs (Some excess) = (place ≤ at) × Over excess at n rs at_first

  -- all of these were metered, and each fits
  record ArePassed (rs : List Report) : Type 0 where
    pub metering : Metering
    pub is : all_metered memo rs at_first ≡ Ok metering
    pub fits : AllFit memo tolls rs at_first

  passed : (place at : ℕ) (n : Metering) (rs qs : List Report) (excess : Option Excess)
      → NoneIn place at n (rs ++ qs) excess → AreBelow place rs → ArePassed rs
  passed place at n rs qs None h b =
      let s = split_at (all_metered memo rs at_first) (all_metered memo qs) n
      (sym (metered_more memo rs qs at_first) ∙ h.0) in
      record {
        metering = s.middle;
        is = s.first;
        fits = (fits_split tolls loading rs qs at_first h.1).0;
      }
  passed place at n rs [] (Some excess) h b = absurd (omega (
    arith,
    h.0,
    over_below excess at n place rs at_first
        (subst (λ l. Over excess at n l at_first) (append-nil rs) h.1) b,
  ))
  passed place at n rs (q ∷ qs) (Some excess) h b =
      let p = past memo tolls excess at n rs q qs at_first h.1 in
      record { metering = p.metering; is = p.is; fits = p.fits }

  -- the instructions with these reports keep within the limits
  stays_within : (from : ℕ) (before : List Pickle) (is : List Instruction) (rs : List Report)
      (m n : Metering) → All IsGood is → NoneBehindStop is
      → AreReportsBehind false loading.old_strings (begins memo before) from [] is rs
      → IsReady tolls loading before m → Fits tolls m → all_metered memo rs m ≡ Ok n
      → AllFit memo tolls rs m → StaysWithin loading tolls before is
  stays_within from before [] rs m n g s h r w e f = record {
    bill = (ready memo m).bill;
    billed = ap (λ x. and_then x (all_billed [])) r.bill;
    within = fits_ready tolls memo m.bill.ended m w;
  }
  stays_within from before (i ∷ is) [] m n g s h r w e f = absurd h
  stays_within from before (i ∷ is) (q ∷ qs) m n g s h r w e f =
      let k = metered_is memo loading.old_strings (begins memo before) from (ready memo m) n
      (all_billed (i ∷ is) (ready memo m).bill)
      (sym (told_along memo loading.old_strings (begins memo before) from [] (i ∷ is) (q ∷ qs)
      (ready memo m) h g s r.going)
      ∙ ap (λ x. and_then x (all_metered memo qs)) (made_ready tolls loading q m r.going) ∙ e) in
      record {
        bill = n.bill;
        billed = ap (λ x. and_then x (all_billed (i ∷ is))) r.bill ∙ k.bill;
        within = last_fits tolls loading (q ∷ qs) m n w e f;
      }

  -- the pickles with the earlier reports, and the instructions that follow with the next ones, keep
  -- within the limits
  in_parts : (policy : Policy) (limits : Bounds) (before : List Pickle) (old here : Sight)
      (is : List Instruction) (earlier next others : List Report) (place at : ℕ) (n : Metering)
      (excess : Option Excess) → All IsGood is → NoneBehindStop is
      → place ≡ length (bytes_of_all before) + length (spellings is)
      → AreAccepted loading policy limits old here [] before
      → AreReportsOf false loading [] before earlier
      → AreReportsBehind false loading.old_strings (begins memo before)
      (length (bytes_of_all before)) [] is next
      → NoneIn place at n ((earlier ++ next) ++ others) excess
      → KeepWithin loading tolls [] before × StaysWithin loading tolls before is
  in_parts policy limits before old here is earlier next others place at n excess good stop e a h
      g none =
      let b : AreBelow place (earlier ++ next) = All-append (λ r. r.at < place) earlier next
      (below_later (length (bytes_of_all before)) place earlier (omega (arith, e))
      (pickles_below loading [] before earlier h))
      (subst (λ k. AreBelow k next) (sym e) (reports_below loading.old_strings
      (begins memo before) (length (bytes_of_all before)) [] is next g)) in
      let q = passed place at n (earlier ++ next) others excess none b in
      let s = split_at (all_metered memo earlier at_first) (all_metered memo next) q.metering
      (sym (metered_more memo earlier next at_first) ∙ q.is) in
      let f = fits_split tolls loading earlier next at_first q.fits in
      let row = rows_within tolls loading policy limits before [] old here earlier at_first
      s.middle a h (begins_ready tolls loading) (begins_within tolls loading) s.first f.0 in (
        row.0.0,
        stays_within (length (bytes_of_all before)) before is next s.middle q.metering good stop g
            row.1 row.2 s.then (f.1 s.middle s.first),
      )

  -- the pickles before the refused one keep within the limits, and so do its instructions before
  -- the refused one
  pub refused_within : (policy : Policy) (limits : Bounds) (before : List Pickle)
      (old here new : Sight) (place : ℕ) (reason : Reason) (pair : Option Asked)
      (r : RefusedFrom (length (bytes_of_all before)) loading.old_strings (begins memo before)
      policy limits here new place reason pair) (earlier last : List Report) (at : ℕ)
      (n : Metering) (excess : Option Excess)
      → AreAccepted loading policy limits old here [] before
      → AreReportsOf false loading [] before earlier
      → AreReportsBehind false loading.old_strings (begins memo before)
      (length (bytes_of_all before)) [] (r.instructions ++ refused_instruction r.why) last
      → NoneIn place at n (earlier ++ last) excess
      → KeepWithin loading tolls [] before × StaysWithin loading tolls before r.instructions
  refused_within policy limits before old here new place reason pair r earlier last at n excess a
      h g none =
      let p = parted loading.old_strings (begins memo before) (length (bytes_of_all before)) []
      r.instructions (refused_instruction r.why) last g in
      in_parts policy limits before old here r.instructions earlier p.first p.others place at n
      excess (all_good limits r.instructions r.admitted) (none_at r.instructions r.goes_on) r.place
      a h p.of_first (subst (λ l. NoneIn place at n l excess)
      (ap (λ l. earlier ++ l) p.all ∙ sym (append_assoc earlier p.first p.others)) none)
