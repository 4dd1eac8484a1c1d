-- Lines as the program prints them.
use Rattle.std.proofs.Common.{◌≡◌, refl, codes, None, Err, true, false}
use Rattle.std.specs.Fmt.{digits}
use Rattle.pkops.specs.declared.Reason.TheVariants as reason
use Rattle.pkops.specs.Printed.{reason_text}
use Rattle.pkcheck.specs.declared.Extent.TheVariants.{OnePickle, ToTheEnd}
use Rattle.pkload.specs.declared.Excess.TheVariants.{DeepKey}
use Rattle.pkprint.specs.Costs.{bill_line, costing_lines}
use Rattle.pkprint.specs.Verdict.{yes_line, verdict_line}

one_import : yes_line 28 1 ≡ codes "yes: 28 bytes, 1 imports\n"
unfolding digits
one_import = refl

truncated :
    verdict_line (Err (record { at = 0; reason = reason.Truncated; pair = None }))
    ≡ codes "no at 0: Truncated\n"
unfolding digits
truncated = refl

unknown_opcode : reason_text (reason.UnknownOpcode 255) ≡ codes "UnknownOpcode(255)"
unfolding digits
unknown_opcode = refl

missing_memo : reason_text (reason.MissingMemo 6) ≡ codes "MissingMemo(6)"
unfolding digits
missing_memo = refl

bill : bill_line (record { levels = 3; weight = 7; work = 7; clash = 7; builds = false }) 560
    ≡ codes "bill: levels 3, weight 7, work 7, clash 7, memory 560\n"
unfolding digits
bill = refl

deep_key : costing_lines OnePickle true (Err (record { pickle = 0; at = 5; excess = DeepKey }))
    ≡ codes "no at 5: DeepKey\n"
unfolding digits
deep_key = refl

row_of_deep_keys :
    costing_lines ToTheEnd true (Err (record { pickle = 1; at = 7; excess = DeepKey }))
    ≡ codes "no in pickle 1 at 7: DeepKey\n"
unfolding digits
row_of_deep_keys = refl
