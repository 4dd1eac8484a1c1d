-- The bill of what is reported of an instruction, whole or skipped.
use Rattle.std.specs.Prelude.{ℕ, suc, ◌+◌, ◌-◌, Bool, true, false, if◌then◌else◌, List, [], ◌∷◌}
use Rattle.std.specs.Prelude.{Result, Ok, Err, ⊤, ◌≤◌, ◌^◌, ◌⊎◌}
use Rattle.pkops.specs.declared.Op.{Op}
use Rattle.pkops.specs.declared.Op.TheVariants as op
use Rattle.pkcheck.specs.Reports.{Report, Skipped, Told, Whole}
use Rattle.pkstack.specs.Shape.{Breach, NoItem, and_then}
use Rattle.pkmachine.specs.declared.memo.Memo.{Memo}
use Rattle.pkmachine.specs.declared.memo.Memo.TheVariants.{Fresh, Kept}
use Rattle.pkload.specs.Bill.{Bill, billed, next_bill, no_bill}
use Rattle.pkload.specs.Heft.{heft_made}
use Rattle.pkload.specs.Memory.{held_memory, plain_memory}
use Rattle.pkload.specs.Private.Billing.{pushed}
use Rattle.pkload.specs.Unkept.{CantBeKept}
use Rattle.pkload.specs.Tally.{with_operation}

-- the bytes of an instruction with a payload that may be skipped, before its payload
abbrev pub bytes_before : Op → ℕ
bytes_before op.ShortBinBytes = 2
bytes_before op.BinBytes = 5
bytes_before _ = 9

-- the memory of an object that is made of a payload of plain bytes
abbrev pub skipped_memory : Op → ℕ → ℕ
skipped_memory o size = 16 + (plain_memory o size + (held_memory o 0 + 0))

-- the bill after an instruction that makes an object of a payload of this size
abbrev pub bytes_billed : Op → ℕ → Bill → Bill
bytes_billed o size bill = record (pushed (heft_made o size []) (skipped_memory o size) bill) {
  tally = with_operation o [] bill.tally;
}

-- the bill after what was reported
abbrev pub told_billed : Told → Bill → Result Bill Breach
told_billed (Whole i) bill = billed i bill
told_billed (Skipped o count) bill =
    if bill.ended then Err NoItem else Ok (bytes_billed o (count - bytes_before o) bill)

-- the number of the pickle, and its bill so far
pub record Metering : Type 0 where
  pub pickle : ℕ
  pub bill : Bill

-- the bill where the next pickle of a row begins
abbrev pub next_in : Memo → Bill → Bill
next_in Fresh bill = no_bill
next_in Kept bill = next_bill bill

-- the next pickle, if this one has ended
abbrev pub next_if : Bool → Memo → Metering → Metering
next_if false memo m = m
next_if true memo m = record { pickle = suc m.pickle; bill = next_in memo m.bill }

abbrev pub ready : Memo → Metering → Metering
ready memo m = next_if m.bill.ended memo m

-- the same pickle with another bill
abbrev pub with_bill : Metering → Bill → Metering
with_bill m bill = record m { bill = bill }

-- why the bill can't be kept after this report. A payload that is skipped is that of an object
abbrev pub CantBeTold : Told → Bill → Type 0
CantBeTold (Whole i) bill = CantBeKept i bill
CantBeTold (Skipped o count) bill = ⊤

-- likewise, also because there are too many pickles
abbrev pub CantBeMetered : Metering → Told → Type 0
CantBeMetered m told = (2 ^ 64 ≤ m.pickle) ⊎ CantBeTold told m.bill

-- after something is reported
abbrev pub metered_told : Memo → Told → Metering → Result Metering Breach
metered_told memo told m =
    and_then (told_billed told (ready memo m).bill) (λ bill. Ok (with_bill (ready memo m) bill))

-- after one more report
abbrev pub metered : Memo → Report → Metering → Result Metering Breach
metered memo r m = metered_told memo r.told m

-- after these reports
abbrev pub all_metered : Memo → List Report → Metering → Result Metering Breach
all_metered memo [] m = Ok m
all_metered memo (r ∷ rs) m = and_then (metered memo r m) (all_metered memo rs)
