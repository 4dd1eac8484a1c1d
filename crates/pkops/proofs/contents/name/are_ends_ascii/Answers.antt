-- Two pieces that cover a text are ASCII exactly if it is.
use Rattle.std.proofs.Common.{◌∙◌, ◌-◌, ◌&&◌, ap, length, arith, take}
use Rattle.std.specs.List.{list_all}
use Rattle.std.specs.Char.{is_ascii}
use Rattle.std.proofs.lemmas.List.{take_rest}
use Rattle.pkops.proofs.ContentsRules.EachByte.{all_of_ends}
use Rattle.pkops.proofs.contents.name.are_ends_ascii.Goals as goal

pub returns : goal.returns
returns c =
    let bytes = c.args.bytes.now in
    let from = length bytes - c.args.size in
    rw c.are_ascii.ensures (rw c.are_ascii-2.ensures
    (ap (λ rest. list_all is_ascii (take c.args.size bytes) && list_all is_ascii rest)
    (take_rest bytes from)
    ∙ all_of_ends is_ascii c.args.size from bytes (omega (arith, c.requires.all))))
