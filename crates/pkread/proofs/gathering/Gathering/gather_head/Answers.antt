-- Where a payload is skipped only code and count are held; any other instruction is held whole.
use Rattle.std.proofs.Common.{refl, ◌≡◌, true, false, inl, sym, ap, ◌∙◌, arith, length, max}
use Rattle.std.proofs.lemmas.Result.{err_from_is_err_and}
use Rattle.pkops.specs.Payloads.{is_passed, payload_limit_at}
use Rattle.pkread.specs.Held.{most_held}
use Rattle.pkread.proofs.Bytes.Judged.{refuses_of, short}
use Rattle.pkread.proofs.Bytes.Skipped.{found_held, passes_by, refused_held, refused_skipping}
use Rattle.pkread.proofs.gathering.Gathering.gather_head.Goals as goal

pub returns-in_err-op-clause-takes : goal.returns-in_err-op-clause-takes
returns-in_err-op-clause-takes g c =
    let p = err_from_is_err_and c.from_residual.result c.from_residual.ensures.1 in
    let bytes = c.take_op.new.self.buffer.bytes in
    let limit = payload_limit_at c.args.self.now.limits bytes in
    let keeps = c.take_op.ensures.keeps in
    let same = keeps.0 in
    let few = c.take_op.ensures.few in
    rw (p.1, p.2) (record {
      bytes = bytes;
      refuses = refuses_of c.one_answer.ensures limit _ _ _ refl (c.in_err-op.ensures.takes limit);
      few = inl (omega (arith, same, few));
    })

pub returns-in_err-count-clause-takes : goal.returns-in_err-count-clause-takes
returns-in_err-count-clause-takes g c =
    let p = err_from_is_err_and c.from_residual-in_err-count.result
    c.from_residual-in_err-count.ensures.1 in
    let limits = c.args.self.now.limits in
    let keeps = c.take_op.ensures.keeps in
    let before = keeps.0 in
    let most = c.skip_argument.ensures.rises.most in
    let few = c.skip_argument.ensures.few in
    let passed : is_passed c.in_ok-op.op ≡ true = sym c.is_skipped.ensures ∙ c.if-is_skipped.true in
    let why = rw keeps.1 at c.in_err-count.ensures.skips in
    rw (p.1, p.2) (refused_skipping limits c.args.self.now.buffer.peak _ c.in_ok-op.op _ _ _ refl
    c.in_ok-op.ensures.takes c.one_answer.ensures _ passed why
    (omega (arith, most, few, before)))

pub returns-then-is_skipped-clause-takes : goal.returns-then-is_skipped-clause-takes
returns-then-is_skipped-clause-takes g c =
    let keeps = c.take_op.ensures.keeps in
    let before = keeps.0 in
    let most = c.skip_argument.ensures.rises.most in
    let few = c.skip_argument.ensures.few in
    let passed : is_passed c.in_ok-op.op ≡ true = sym c.is_skipped.ensures ∙ c.if-is_skipped.true in
    let skips = rw keeps.1 at c.in_ok-count.ensures.skips in
    record {
      passes = passes_by _ c.in_ok-count.count c.in_ok-op.op _ _ _ refl passed
          c.in_ok-op.ensures.takes skips;
      few = omega (arith, most, few, before);
    }

pub returns-in_err-found-clause-bound : goal.returns-in_err-found-clause-bound
returns-in_err-found-clause-bound g c =
    let counted = c.args.self.now.limits.counted in
    let before = c.take_op.ensures.keeps in
    let now = c.gather_behind.ensures.keeps in
    let why = rw before.1 at c.in_err-found.ensures.takes in
    let s = short c.growth.ensures.begun counted c.gather_behind.new.self.buffer.bytes why.fronts in
    let peak = now.0 ∙ before.0 in
    omega (arith, s, peak)

pub returns-in_err-found-clause-takes : goal.returns-in_err-found-clause-takes
returns-in_err-found-clause-takes g c =
    let p = err_from_is_err_and c.from_residual-in_err-found.result
    c.from_residual-in_err-found.ensures.1 in
    let limits = c.args.self.now.limits in
    let peak = c.args.self.now.buffer.peak in
    let before = c.take_op.ensures.keeps in
    let keeps = c.gather_behind.ensures.keeps in
    let held : is_passed c.in_ok-op.op ≡ false =
    (let e = c.is_skipped.ensures in let f = c.if-is_skipped.false in grind (arith)) in
    let new = c.gather_behind.new.self.buffer in
    let now : most_held new ≡ max peak (length new.bytes) =
    ap (λ m. max m (length new.bytes)) (keeps.0 ∙ before.0) in
    let why = rw before.1 at c.in_err-found.ensures.takes in
    rw (p.1, p.2) (refused_held limits peak _ c.in_ok-op.op _ _ _ refl c.in_ok-op.ensures.takes
    c.growth.ensures.begun c.one_code.ensures c.one_answer.ensures _ held why now)

pub returns-clause-takes : goal.returns-clause-takes
returns-clause-takes g c =
    let limits = c.args.self.now.limits in
    let peak = c.args.self.now.buffer.peak in
    let before = c.take_op.ensures.keeps in
    let keeps = c.gather_behind.ensures.keeps in
    let held : is_passed c.in_ok-op.op ≡ false =
    (let e = c.is_skipped.ensures in let f = c.if-is_skipped.false in grind (arith)) in
    let new = c.gather_behind.new.self.buffer in
    let now : most_held new ≡ max peak (length new.bytes) =
    ap (λ m. max m (length new.bytes)) (keeps.0 ∙ before.0) in
    let finds = rw before.1 at c.in_ok-found.ensures.takes in
    found_held limits peak _ c.in_ok-op.op _ _ _ refl c.in_ok-op.ensures.takes
    c.growth.ensures.begun c.one_code.ensures c.in_ok-found.found held finds
    c.in_ok-found.ensures.op now
