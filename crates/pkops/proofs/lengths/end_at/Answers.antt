-- The pieces that were searched hold none, so the first one is the first of what is left.
use Rattle.std.proofs.Common.{◌≡◌, ℕ, Bool, ◌∙◌, ◌+◌, ◌-◌, ◌==◌, ◌||◌, ap, arith, drop, length}
use Rattle.std.proofs.Common.{option_map, sym, take}
use Rattle.std.specs.List.{position_from}
use Rattle.std.proofs.lemmas.Iterator.Adapters.{position_from-zero}
use Rattle.std.proofs.lemmas.List.{length-drop, take_rest}
use Rattle.pkops.proofs.ExactReaders.Places.{piece_with, piece_without, position_at}
use Rattle.pkops.proofs.lengths.end_at.Goals as goal

abbrev is_end : ℕ → ℕ → Bool
is_end other byte = byte == 10 || byte == other

pub overflow_sub-result : goal.overflow_sub-result
overflow_sub-result c = c.pieces.invariant.less

pub returns-in-Some : goal.returns-in-Some
returns-in-Some c =
    sym (c.pieces.invariant.left
    ∙ piece_with _ _ _ 8 c.pieces.rest.now (sym c.in-Some.ensures))

pub pieces-init : goal.pieces-init
pieces-init c =
    let bytes = c.args.bytes.now in
    let none : 0 ≡ length bytes - length bytes = omega arith in
    record {
      less = omega arith;
      left = position_from-zero (is_end c.args.other) bytes
          ∙ ap (λ n. position_from (is_end c.args.other) n bytes) none;
    }

pub pieces-smaller : goal.pieces-smaller
pieces-smaller c =
    let rest = c.pieces.rest.now in
    let shorter = ap length (take_rest rest 8) in
    omega (arith, shorter, length-drop 8 rest, c.pieces-test.true)

pub pieces-preserved : goal.pieces-preserved
pieces-preserved c =
    let rest = c.pieces.rest.now in
    let same = take_rest rest 8 in
    let shorter = ap length same in
    let room = c.pieces-test.true in
    let less = c.pieces.invariant.less in
    let count = length-drop 8 rest in
    let test = is_end c.args.other in
    let all = length c.args.bytes.now in
    let left = take (length rest - 8) (drop 8 rest) in
    let from : all - length rest + 8 ≡ all - length left = omega (arith, shorter, count, less, room)
    in
    record {
      less = omega (arith, shorter, count, less);
      left = c.pieces.invariant.left
          ∙ piece_without test _ 8 rest (omega (arith, room)) (sym c.in-None.ensures)
          ∙ ap (λ n. position_from test n (drop 8 rest)) from
          ∙ ap (position_from test (all - length left)) (sym same);
    }

pub overflow_sub-result-in-Some-end_in : goal.overflow_sub-result-in-Some-end_in
overflow_sub-result-in-Some-end_in c = c.pieces.invariant.less

pub returns-in-Some-end_in : goal.returns-in-Some-end_in
returns-in-Some-end_in c =
    let n = length c.args.bytes.now - length c.pieces.rest.now in
    sym (c.pieces.invariant.left ∙ position_at _ n c.pieces.rest.now
    ∙ ap (option_map (λ at. n + at)) (sym c.in-Some-end_in.ensures))

pub returns-in-None-end_in : goal.returns-in-None-end_in
returns-in-None-end_in c =
    let n = length c.args.bytes.now - length c.pieces.rest.now in
    sym (c.pieces.invariant.left ∙ position_at _ n c.pieces.rest.now
    ∙ ap (option_map (λ at. n + at)) (sym c.in-None-end_in.ensures))
