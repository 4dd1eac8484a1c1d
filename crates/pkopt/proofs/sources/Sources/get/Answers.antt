-- A read among the early ones has its source in a byte, and any other behind them.
use Rattle.std.proofs.Common.{◌≡◌, ap, sym, ◌∙◌, ◌-◌, List, None, Option, ℕ, Some, arith, get_or}
use Rattle.std.proofs.Common.{length}
use Rattle.pkopt.specs.Private.Sourced.{Sourced}
use Rattle.pkopt.proofs.MemoWrites.EarlyReads.{early_at, late_at}
use Rattle.pkopt.proofs.sources.Sources.get.Goals as goal

pub returns-then-read-len : goal.returns-then-read-len
returns-then-read-len c =
    let early = c.self.inside.early.items in
    let ok = c.self.inside.early.ok.0 in
    let len = c.len.ensures in
    let lt = c.if-read-len.true in
    ap Some (c.from.ensures ∙ c.index.ensures)
    ∙ sym (early_at early c.self.inside.late.items c.args.read c.index.result.now
    (omega (arith, ok, len, lt)))
    ∙ ap (λ (s : Sourced). get_or s.items c.args.read None) c.self.view_is

pub returns : goal.returns
returns c =
    let early = c.self.inside.early.items in
    let late = c.self.inside.late.items in
    let ok = c.self.inside.early.ok.0 in
    let len = c.len.ensures in
    let len_so = c.len-2.ensures in
    let le = c.if-read-len.false in
    let first : c.len-2.result ≡ length early = omega (arith, ok, len_so) in
    c.late_at.ensures
    ∙ ap (λ (l : List (Option ℕ)). get_or l (c.args.read - c.len-2.result) None)
    c.deref.ensures.value
    ∙ ap (λ n. get_or late (c.args.read - n) None) first
    ∙ sym (late_at early late c.args.read (omega (arith, ok, len, le)))
    ∙ ap (λ (s : Sourced). get_or s.items c.args.read None) c.self.view_is
