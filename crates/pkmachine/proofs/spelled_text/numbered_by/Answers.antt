-- Each turn appends the character that one byte numbers, in UTF-8.
use Rattle.std.proofs.Common.{◌∙◌, ◌++◌, ap, arith}
use Rattle.std.specs.Prelude.{encode_utf8, string_bytes}
use Rattle.pkmachine.proofs.Numbered.{numbered_more}
use Rattle.pkmachine.proofs.spelled_text.numbered_by.Goals as goal

pub bytes-preserved : goal.bytes-preserved
bytes-preserved c =
    c.in_ok-push.ensures.bytes
    ∙ ap (λ x. string_bytes c.bytes.text ++ encode_utf8 x) c.from.ensures
    ∙ numbered_more (string_bytes c.bytes.text) c.args.bytes.now c.bytes.byte-index
    (omega arith) c.bytes.invariant
