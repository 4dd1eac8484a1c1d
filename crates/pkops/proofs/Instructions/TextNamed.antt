-- The text of an instruction as a function is the one that it names.
use Rattle.std.proofs.Common.{MatchOption, ◌≡◌, ◌↔◌, ℕ, List, Option, Some, None, refl, sym, ap}
use Rattle.std.proofs.Common.{◌∙◌, true, encode_utf8_all, option_map}
use Rattle.std.specs.List.{list_all}
use Rattle.pkops.specs.declared.op.Op.TheVariants as op
use Rattle.pkops.specs.declared.contents.Rule.TheVariants as rule
use Rattle.pkops.specs.Spelling.{Argument, Line, Counted, Instruction, instruction}
use Rattle.pkops.specs.Contents.{Rule, rule_of}
use Rattle.pkops.specs.Escapes.{SpellsText, is_plain_ascii, points_of}
use Rattle.pkops.specs.Text.{NamesTextBy, NamesText, text_by, text_bytes}
use Rattle.pkops.proofs.ContentsRules.EscapesPlain.{plain_text}
use Rattle.pkops.proofs.ContentsRules.EscapesSpelled.{points_of_spelled, spelled_points}

-- the two sides of a line of UNICODE, given what is read of it
line_forth : (line text : List ℕ) → (points : List ℕ) × SpellsText line points
    × (text ≡ encode_utf8_all points) → option_map encode_utf8_all (points_of line) ≡ Some text
line_forth line text (points, spelled, e) =
    ap (option_map encode_utf8_all) (points_of_spelled line points spelled)
    ∙ ap (λ (t : List ℕ). Some t) (sym e)

line_back : (line text : List ℕ) (read : Option (List ℕ)) → points_of line ≡ read
    → option_map encode_utf8_all read ≡ Some text → (points : List ℕ) × SpellsText line points
    × (text ≡ encode_utf8_all points)
line_back line text None is e = absurd cc
line_back line text (Some points) is e = (points, spelled_points line points is, cc)

forth : (r : Rule) (a : Argument) (text : List ℕ) → NamesTextBy r a text → text_by r a ≡ Some text
forth rule.Escapes (Line line) text h = line_forth line text h
forth rule.Utf8 (Counted payload) text h = ap (λ (t : List ℕ). Some t) (sym h)
forth _ _ text h = absurd h

back : (r : Rule) (a : Argument) (text : List ℕ) → text_by r a ≡ Some text → NamesTextBy r a text
back rule.Escapes (Line line) text e = line_back line text (points_of line) refl e
back rule.Utf8 (Counted payload) text e = cc
back _ _ text e = absurd cc

pub text_is_named : (i : Instruction) (text : List ℕ)
    → NamesText i text ↔ (text_bytes i ≡ Some text)
text_is_named i text = (forth (rule_of i.op) i.arg text, back (rule_of i.op) i.arg text)

-- a line of plain bytes is the text that UNICODE names with it
pub plain_named : (line : List ℕ) → list_all is_plain_ascii line ≡ true
    → NamesText (instruction op.Unicode (Line line)) line
plain_named line plain = line_back line line (points_of line) refl (plain_text line plain)

-- what is answered as the function says is answered as the relation says
pub answered : {A : Type 0} (i : Instruction) (view : A → List ℕ) (text : Option A)
    → option_map view text ≡ text_bytes i → MatchOption text
    ((bytes : List ℕ) → NamesText i bytes → ⊥) (λ x. NamesText i (view x))
answered i view None e = λ bytes h. let f = forth (rule_of i.op) i.arg bytes h in cc
answered i view (Some x) e = back (rule_of i.op) i.arg (view x) (sym e)
