-- However reading an argument ends, the scan says so: more, a fault, or a whole instruction.
use Rattle.std.proofs.Common.{◌≡◌, [], ap, arith, option_map}
use Rattle.std.proofs.lemmas.List.{nil_from_length}
use Rattle.pkops.specs.Inst.{instruction_of}
use Rattle.pkops.proofs.ExactReaders.Fields.{IsBytes-drop}
use Rattle.pkops.proofs.ExactReaders.Scans.{broken, in_front, made_is, nothing_begun, read_is}
use Rattle.pkops.proofs.ExactReaders.Scans.{rest_le, takes, unread_is}
use Rattle.pkops.proofs.scanning.right_answer.Goals as goal

pub returns-in_default : goal.returns-in_default
returns-in_default c = let empty : c.args.bytes.now
    ≡ [] = nil_from_length c.args.bytes.now (omega arith) in
    rw empty (nothing_begun c.args.limits.now.counted)

pub judged-requires : goal.judged-requires
judged-requires c =
    let front = in_front _ _ c.in-len1-up.len_at_least c.in-Some.ensures.found in
    let fits = IsBytes-drop 1 _ (λ i. (c.type_inv.bytes i).fits) in
    let e = read_is _ _ _ c.counted.ensures.is c.kind.ensures c.layout.ensures c.in-Ok.ensures in
    (takes _ _ _ front fits _ _ e).is.suits

pub overflow_sub-result : goal.overflow_sub-result
overflow_sub-result c =
    let front = in_front _ _ c.in-len1-up.len_at_least c.in-Some.ensures.found in
    let fits = IsBytes-drop 1 _ (λ i. (c.type_inv.bytes i).fits) in
    let e = read_is _ _ _ c.counted.ensures.is c.kind.ensures c.layout.ensures c.in-Ok.ensures in
    rest_le _ _ _ front fits _ _ e

pub returns-in-Some-judged : goal.returns-in-Some-judged
returns-in-Some-judged c =
    let front = in_front _ _ c.in-len1-up.len_at_least c.in-Some.ensures.found in
    let fits = IsBytes-drop 1 _ (λ i. (c.type_inv.bytes i).fits) in
    let e = read_is _ _ _ c.counted.ensures.is c.kind.ensures c.layout.ensures c.in-Ok.ensures in
    made_is _ _ _ front fits _ _ e _ _ c.judged.ensures
    (ap (option_map instruction_of) c.in-Some-judged.is)

pub returns-in-None : goal.returns-in-None
returns-in-None c =
    let front = in_front _ _ c.in-len1-up.len_at_least c.in-Some.ensures.found in
    let fits = IsBytes-drop 1 _ (λ i. (c.type_inv.bytes i).fits) in
    let e = read_is _ _ _ c.counted.ensures.is c.kind.ensures c.layout.ensures c.in-Ok.ensures in
    broken _ _ _ front fits _ _ e c.in-None.ensures

pub returns-in-Err : goal.returns-in-Err
returns-in-Err c =
    let front = in_front _ _ c.in-len1-up.len_at_least c.in-Some.ensures.found in
    let fits = IsBytes-drop 1 _ (λ i. (c.type_inv.bytes i).fits) in
    let e = read_is _ _ _ c.counted.ensures.is c.kind.ensures c.layout.ensures c.in-Err.ensures in
    unread_is _ _ _ front fits _ _ e c.unread.ensures
