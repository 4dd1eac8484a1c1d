-- What was tested is ASCII, so the text is exactly if the rest is.
use Rattle.std.proofs.Common.{◌∙◌, ◌&&◌, ap, arith, drop, sym}
use Rattle.std.specs.List.{list_all}
use Rattle.std.specs.Char.{is_ascii}
use Rattle.std.proofs.lemmas.List.{length-take-le, take_rest}
use Rattle.pkops.proofs.ContentsRules.EachByte.{all_of_parts}
use Rattle.pkops.proofs.contents.name.is_long_ascii.Goals as goal

pub slice_bounds-are_ascii-end : goal.slice_bounds-are_ascii-end
slice_bounds-are_ascii-end c =
    sym (length-take-le 32 c.blocks-2.rest.now (omega (arith, c.blocks-2-test.true)))

pub returns-then-not-are_ascii : goal.returns-then-not-are_ascii
returns-then-not-are_ascii c =
    let rest = c.blocks-2.rest.now in
    sym (c.blocks-2.invariant ∙ all_of_parts is_ascii 32 rest
    ∙ ap (λ first. first && list_all is_ascii (drop 32 rest))
    (sym c.are_ascii.ensures ∙ c.if-not-are_ascii.true))

pub blocks-2-preserved : goal.blocks-2-preserved
blocks-2-preserved c =
    let rest = c.blocks-2.rest.now in
    c.blocks-2.invariant ∙ all_of_parts is_ascii 32 rest
    ∙ ap (λ first. first && list_all is_ascii (drop 32 rest))
    (sym c.are_ascii.ensures ∙ c.if-not-are_ascii.false)
    ∙ ap (list_all is_ascii) (sym (take_rest rest 32))

pub returns : goal.returns
returns c = c.is_short_ascii.ensures ∙ sym c.blocks-2.invariant
