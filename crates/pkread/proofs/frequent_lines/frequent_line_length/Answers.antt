-- GET, PUT, INT and UNICODE each have a line of their own rule.
use Rattle.std.proofs.Common.{arith, inl, inr, refl}
use Rattle.pkops.specs.declared.Op.TheVariants as op
use Rattle.pkread.proofs.Bytes.FrequentLines.{line_of}
use Rattle.pkread.proofs.frequent_lines.frequent_line_length.Goals as goal

pub returns-in-Get : goal.returns-in-Get
returns-in-Get c limits some =
    elim c.in-Get.is [
      | inl is ↦ line_of limits op.Get c.args.op _ 1024 c.args.bytes.now is refl (omega arith)
          (λ e. cc) c.requires.code (c.memo_line_length.ensures some)
      | inr is ↦ line_of limits op.Put c.args.op _ 1024 c.args.bytes.now is refl (omega arith)
          (λ e. cc) c.requires.code (c.memo_line_length.ensures some)
    ]

pub returns-in-Int : goal.returns-in-Int
returns-in-Int c limits some =
    line_of limits op.Int c.args.op _ 1024 c.args.bytes.now c.in-Int.is refl (omega arith)
    (λ e. cc) c.requires.code (c.int_line_length.ensures some)

pub returns-in-Unicode : goal.returns-in-Unicode
returns-in-Unicode c limits some =
    line_of limits op.Unicode c.args.op _ 65_536 c.args.bytes.now c.in-Unicode.is refl
    (omega arith) (λ e. cc) c.requires.code (c.text_line_length.ensures some)
