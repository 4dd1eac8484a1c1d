-- While no source is late, one that fits into a byte goes behind the early ones.
use Rattle.std.proofs.Common.{◌≡◌, ap, ◌∙◌, ◌++◌, List, ℕ, length, rules}
use Rattle.std.proofs.lemmas.List.{nil_from_length}
use Rattle.pkopt.specs.Private.Sourced.{in_bytes}
use Rattle.pkopt.proofs.MemoWrites.EarlyReads.{early_more}
use Rattle.pkopt.proofs.sources.push_to.Goals as goal

pub returns : goal.returns
returns c =
    let early = c.args.early.now.items in
    let late = c.args.late.now.items in
    let none : length late ≡ 0 = search (rules, c.if-not-is_empty.ensures) in
    ap (λ (l : List ℕ). in_bytes l ++ late) c.in_ok-push.ensures.items
    ∙ early_more early late c.args.write (nil_from_length late none)
