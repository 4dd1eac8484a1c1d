-- Opcodes whose arguments need no look, and those whose payload is not passed.
use Rattle.std.proofs.Common.{◌≡◌, ℕ, Bool, true, false, List, None}
use Rattle.pkops.specs.Contents.{rule_of}
use Rattle.pkops.specs.Spelling.{Argument, instruction, layout_at}
use Rattle.pkops.specs.declared.Layout.TheVariants as layout
use Rattle.pkops.specs.declared.Width.{Width}
use Rattle.pkops.specs.declared.Op.{Op}
use Rattle.pkops.specs.declared.Op.TheVariants as op
use Rattle.pkops.specs.declared.Rule.TheVariants as rule
use Rattle.pkread.specs.Admission.{objection}
use Rattle.pkread.specs.Private.Judgement.{IsFine, TakesAnyArgument, TakesUtf8, is_plain}

pub any_rule : (o : Op) → is_plain o ≡ true → rule_of o ≡ rule.Anything
any_rule op.Int e = cc
any_rule _ e = cc

any_admitted : (o : Op) (arg : Argument) → is_plain o ≡ true → objection (instruction o arg) ≡ None
any_admitted op.Int arg e = cc
any_admitted _ arg e = cc

pub takes_any : (o : Op) → is_plain o ≡ true → TakesAnyArgument o
takes_any o e = record { contents = any_rule o e; admitted = λ arg. any_admitted o arg e }

pub fine : (o : Op) (split : ℕ) (bytes : List ℕ) → is_plain o ≡ true → IsFine o split bytes
fine o split bytes e limit arg lies =
    (record { suits = lies.laid.suits; contents = rw (any_rule o e) tt }, any_admitted o arg e)

-- no argument needs a look
pub plain_nothing : (o : Op) → layout_at o ≡ layout.Nothing → is_plain o ≡ true
plain_nothing op.Int e = cc
plain_nothing _ e = cc

-- a counted argument that does is a text
pub text_rule : (o : Op) (size : Width) (signed : Bool) → layout_at o ≡ layout.Counted size signed →
    is_plain o ≡ false → rule_of o ≡ rule.Utf8
text_rule op.Int size signed lay e = cc
text_rule _ size signed lay e = cc

pub text_admitted : (o : Op) (size : Width) (signed : Bool) (arg : Argument) →
    layout_at o ≡ layout.Counted size signed → objection (instruction o arg) ≡ None
text_admitted op.Int size signed arg lay = cc
text_admitted _ size signed arg lay = cc

pub takes_utf8 : (o : Op) (size : Width) (signed : Bool) →
    layout_at o ≡ layout.Counted size signed → is_plain o ≡ false → TakesUtf8 o
takes_utf8 o size signed lay e = record {
  contents = text_rule o size signed lay e;
  admitted = λ arg. text_admitted o size signed arg lay;
}
