-- Each test of contents holds exactly where its rule does.
use Rattle.std.proofs.Common.{◌≡◌, ℕ, true, MatchBool, List, Option, Some, None, refl, ap, is_some}
use Rattle.std.proofs.lemmas.Bool.{and_parts, and_from, cases_from_iff}
use Rattle.std.proofs.lemmas.Str.{is_utf8-from_IsUtf8, IsUtf8-from_is_utf8}
use Rattle.pkops.specs.declared.contents.Rule.TheVariants as rule
use Rattle.pkops.specs.Spelling.{Argument, Line, Pair, Counted}
use Rattle.pkops.specs.Contents.{Rule, Keeps}
use Rattle.pkops.specs.RuleTests.{passes, is_name}
use Rattle.pkops.specs.Escapes.{IsTextLine, points_of}
use Rattle.pkops.proofs.ContentsRules.EscapesSpelled.{points_of_spelled, spelled_points}
use Rattle.pkops.proofs.ContentsRules.Floats.{float_is, is_float_of}
use Rattle.pkops.proofs.ContentsRules.Names.{ascii_is, is_ascii_of, name_is, is_name_of}
use Rattle.pkops.proofs.ContentsRules.Numerals.{int_is, is_int_of, long_is, is_long_of}
use Rattle.pkops.proofs.ContentsRules.Numerals.{memo_number_is, is_memo_number_of}
use Rattle.pkops.proofs.ContentsRules.OldStrings.{string_is, is_string_of}

some_read : (line : List ℕ) (read : Option (List ℕ)) → points_of line ≡ read → is_some read ≡ true
    → IsTextLine line
some_read line None e some = absurd cc
some_read line (Some points) e some = (points, spelled_points line points e)

text_of : (line : List ℕ) → IsTextLine line → is_some (points_of line) ≡ true
text_of line (points, spelled) = ap is_some (points_of_spelled line points spelled)

pub keeps_is : (r : Rule) (a : Argument) → passes r a ≡ true → Keeps r a
keeps_is rule.Anything a e = tt
keeps_is rule.Int (Line line) e = int_is line e
keeps_is rule.Int _ e = absurd cc
keeps_is rule.Long (Line line) e = long_is line e
keeps_is rule.Long _ e = absurd cc
keeps_is rule.MemoNumber (Line line) e = memo_number_is line e
keeps_is rule.MemoNumber _ e = absurd cc
keeps_is rule.Float (Line line) e = float_is line e
keeps_is rule.Float _ e = absurd cc
keeps_is rule.OldString (Line line) e = string_is line e
keeps_is rule.OldString _ e = absurd cc
keeps_is rule.Escapes (Line line) e = some_read line (points_of line) refl e
keeps_is rule.Escapes _ e = absurd cc
keeps_is rule.Utf8 (Counted payload) e = IsUtf8-from_is_utf8 payload e
keeps_is rule.Utf8 _ e = absurd cc
keeps_is rule.Names (Pair first second) e = let p = and_parts (is_name first) (is_name second) e in
    (name_is first p.0, name_is second p.1)
keeps_is rule.Names _ e = absurd cc
keeps_is rule.Ascii (Line line) e = ascii_is line e
keeps_is rule.Ascii _ e = absurd cc

pub passes_of : (r : Rule) (a : Argument) → Keeps r a → passes r a ≡ true
passes_of rule.Anything a h = refl
passes_of rule.Int (Line line) h = is_int_of line h
passes_of rule.Int _ h = absurd h
passes_of rule.Long (Line line) h = is_long_of line h
passes_of rule.Long _ h = absurd h
passes_of rule.MemoNumber (Line line) h = is_memo_number_of line h
passes_of rule.MemoNumber _ h = absurd h
passes_of rule.Float (Line line) h = is_float_of line h
passes_of rule.Float _ h = absurd h
passes_of rule.OldString (Line line) h = is_string_of line h
passes_of rule.OldString _ h = absurd h
passes_of rule.Escapes (Line line) h = text_of line h
passes_of rule.Escapes _ h = absurd h
passes_of rule.Utf8 (Counted payload) h = is_utf8-from_IsUtf8 payload h
passes_of rule.Utf8 _ h = absurd h
passes_of rule.Names (Pair first second) h = and_from _ _ (is_name_of first h.0)
    (is_name_of second h.1)
passes_of rule.Names _ h = absurd h
passes_of rule.Ascii (Line line) h = is_ascii_of line h
passes_of rule.Ascii _ h = absurd h

pub decided : (r : Rule) (a : Argument) → MatchBool (passes r a) (Keeps r a) (Keeps r a → ⊥)
decided r a = cases_from_iff (keeps_is r a, passes_of r a)
