-- Worked examples of printed refusals.
use Rattle.std.proofs.Common.{◌≡◌, refl, codes, None}
use Rattle.std.specs.Fmt.{digits}
use Rattle.pkops.specs.declared.Reason.TheVariants as reason
use Rattle.pkcheck.specs.declared.checking.No.{No}
use Rattle.pkcheck.specs.Printed.{no_text, no_all_text}

abbrev left_over : No
left_over = record { at = 28; reason = reason.LeftOver; pair = None }

one_pickle : no_text left_over ≡ codes "at 28: LeftOver"
unfolding digits
one_pickle = refl

in_a_row :
    no_all_text (record { pickle = 1; no = left_over }) ≡ codes "in pickle 1 at 28: LeftOver"
unfolding digits
in_a_row = refl
