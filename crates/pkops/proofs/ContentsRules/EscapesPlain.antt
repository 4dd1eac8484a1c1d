-- A line of plain bytes spells itself.
use Rattle.std.proofs.Common.{◌≡◌, Bool, true, false, eqb, List, [], ◌∷◌, ℕ, Some, refl, sym, ap}
use Rattle.std.proofs.Common.{◌∙◌, encode_utf8_all, not, option_map, IsAscii}
use Rattle.std.specs.Char.{is_ascii}
use Rattle.std.specs.List.{list_all}
use Rattle.std.proofs.lemmas.Bool.{and_parts, and_from}
use Rattle.std.proofs.lemmas.Str.{encodes-IsAscii}
use Rattle.pkops.specs.declared.contents.escapes.State.TheVariants.{Outside}
use Rattle.pkops.specs.Escapes.{is_plain_ascii, points_of}
use Rattle.pkops.proofs.ContentsRules.EscapesRead.{code_points, named_is}
use Rattle.pkops.proofs.ContentsRules.Loop.{items_from}
use Rattle.pkops.proofs.ContentsRules.Names.{ascii_is}

not_so : (b : Bool) → not b ≡ true → b ≡ false
not_so true e = absurd cc
not_so false e = refl

all_ascii : (line : List ℕ) → list_all is_plain_ascii line ≡ true → list_all is_ascii line ≡ true
all_ascii [] e = refl
all_ascii (byte ∷ line) e =
    let p = and_parts (is_plain_ascii byte) _ e in
    and_from (is_ascii byte) _ (and_parts (is_ascii byte) _ p.0).0 (all_ascii line p.1)

pub plain_ascii : (line : List ℕ) → list_all is_plain_ascii line ≡ true → IsAscii line
plain_ascii line e = ascii_is line (all_ascii line e)

plain_read : (line : List ℕ) → list_all is_plain_ascii line ≡ true
    → code_points Outside line ≡ Some line
unfolding items_from
plain_read [] e = refl
plain_read (byte ∷ line) e =
    let p = and_parts (is_plain_ascii byte) _ e in
    let q = and_parts (is_ascii byte) _ p.0 in
    rw (not_so (eqb byte 92) q.1, plain_read line p.1) refl

-- the code points of such a line are its bytes
pub plain_points : (line : List ℕ) → list_all is_plain_ascii line ≡ true
    → points_of line ≡ Some line
plain_points line e = sym (named_is line) ∙ plain_read line e

-- and so is its text
pub plain_text : (line : List ℕ) → list_all is_plain_ascii line ≡ true
    → option_map encode_utf8_all (points_of line) ≡ Some line
plain_text line e = ap (option_map encode_utf8_all) (plain_points line e)
    ∙ ap Some (encodes-IsAscii line (plain_ascii line e))
