-- The program's command line has no rule that ties one argument to another.
use Rattle.std.proofs.Common.{◌≡◌, refl, true}
use Rattle.clap.specs.Words.{is_simple_and_free}
use Rattle.clap.specs.declared.builder.value_parser.ValueParser.{ValueParser}
use Rattle.pkargs.specs.Command.{program_app}

pub is_free : (parser : ValueParser) → is_simple_and_free (program_app parser) ≡ true
is_free parser = refl
