-- Worked rows: the definitions, computed on examples.
use Rattle.std.proofs.Common.{◌≡◌, ℕ, true, false, negsuc, List, [], ◌∷◌, Some, None, refl}
use Rattle.std.specs.Prelude.{codes}
use Rattle.std.specs.Char.{encode_utf8}
use Rattle.pkops.specs.declared.op.Op.TheVariants as op
use Rattle.pkops.specs.declared.op.Kind.TheVariants as kind
use Rattle.pkops.specs.Table.{code_of, row_of}
use Rattle.pkops.specs.Behind.{argument_behind}
use Rattle.pkops.specs.Spelling.{Nothing, Number, Signed, Float, Line, Pair, Counted, instruction}
use Rattle.pkops.specs.Spelling.{layout_at, spelling}
use Rattle.pkops.specs.Admitted.{is_admitted}
use Rattle.pkops.specs.Operands.{memo_entry, names_bool, pair_named}
use Rattle.pkops.specs.Numerals.{IsIntLine, IsLongLine, IsMemoNumber}
use Rattle.pkops.specs.Floats.{IsFloatLine}
use Rattle.pkops.specs.OldStrings.{IsStringLine}
use Rattle.pkops.specs.Escapes.{SpellsText}
use Rattle.pkops.specs.Forms.{forms_behind}
use Rattle.pkops.specs.Scans.{longest}
use Rattle.pkops.specs.OldBytes.{old_bytes}
use Rattle.pkops.specs.Text.{text_bytes}
use Rattle.pkops.proofs.ContentsRules.EscapesSpelled.{points_of_spelled, spelled_points}
use Rattle.pkops.proofs.ContentsRules.Floats.{float_is, is_float_of}
use Rattle.pkops.proofs.ContentsRules.Numerals.{int_is, is_int_of, long_is, is_long_of}
use Rattle.pkops.proofs.ContentsRules.Numerals.{memo_number_is, is_memo_number_of}
use Rattle.pkops.proofs.ContentsRules.OldStrings.{string_is, is_string_of}

-- ---- spellings

minus_one : spelling (instruction op.BinInt (Signed (negsuc 0))) ≡ 0x4a ∷ 0xff ∷ 0xff ∷ 0xff ∷ 0xff
    ∷ []
minus_one = refl

a_letter : spelling (instruction op.ShortBinUnicode (Counted (codes "a"))) ≡ 0x8c ∷ 0x01 ∷ 0x61 ∷ []
a_letter = refl

a_global : spelling (instruction op.Global (Pair (codes "m") (codes "f"))) ≡ 0x63 ∷ 0x6d ∷ 0x0a
    ∷ 0x66 ∷ 0x0a ∷ []
a_global = refl

a_memo_entry : spelling (instruction op.LongBinPut (Number 4 258)) ≡ 0x72 ∷ 0x02 ∷ 0x01 ∷ 0x00
    ∷ 0x00 ∷ []
a_memo_entry = refl

no_bytes : spelling (instruction op.BinBytes (Counted [])) ≡ 0x42 ∷ 0x00 ∷ 0x00 ∷ 0x00 ∷ 0x00 ∷ []
no_bytes = refl

the_end : spelling (instruction op.Stop Nothing) ≡ codes "."
the_end = refl

-- ---- arguments behind their codes, as pickletools reads them

none_behind : argument_behind (layout_at op.None) 0 (0x4e ∷ []) ≡ Nothing
none_behind = refl

byte_behind : argument_behind (layout_at op.BinGet) 0 (0x68 ∷ 0x05 ∷ []) ≡ Number 1 5
byte_behind = refl

two_bytes_behind : argument_behind (layout_at op.BinInt2) 0 (0x4d ∷ 0xff ∷ 0x00 ∷ []) ≡ Number 2 255
two_bytes_behind = refl

signed_behind : argument_behind (layout_at op.BinInt) 0 (0x4a ∷ 0xff ∷ 0xff ∷ 0xff ∷ 0xff ∷ [])
    ≡ Signed (negsuc 0)
signed_behind = refl

four_bytes_behind : argument_behind (layout_at op.LongBinGet) 0
    (0x6a ∷ 0x00 ∷ 0x00 ∷ 0x00 ∷ 0x80 ∷ []) ≡ Number 4 2_147_483_648
four_bytes_behind = refl

eight_bytes_behind : argument_behind (layout_at op.Frame) 0
    (0x95 ∷ 0xff ∷ 0x00 ∷ 0x00 ∷ 0x00 ∷ 0x00 ∷ 0x00 ∷ 0x00 ∷ 0x00 ∷ []) ≡ Number 8 255
eight_bytes_behind = refl

-- the float is -1.25
float_behind : argument_behind (layout_at op.BinFloat) 0
    (0x47 ∷ 0xbf ∷ 0xf4 ∷ 0x00 ∷ 0x00 ∷ 0x00 ∷ 0x00 ∷ 0x00 ∷ 0x00 ∷ [])
    ≡ Float (0xbf ∷ 0xf4 ∷ 0x00 ∷ 0x00 ∷ 0x00 ∷ 0x00 ∷ 0x00 ∷ 0x00 ∷ [])
float_behind = refl

line_behind : argument_behind (layout_at op.Int) 0 (codes "I1234\n") ≡ Line (codes "1234")
line_behind = refl

pair_behind : argument_behind (layout_at op.Global) 2 (codes "cos\nsystem\n")
    ≡ Pair (codes "os") (codes "system")
pair_behind = refl

-- the payload is the number 255, lowest byte first
payload_behind : argument_behind (layout_at op.Long1) 0 (0x8a ∷ 0x02 ∷ 0xff ∷ 0x00 ∷ [])
    ≡ Counted (0xff ∷ 0x00 ∷ [])
payload_behind = refl

longer_payload_behind : argument_behind (layout_at op.BinBytes) 0
    (0x42 ∷ 0x03 ∷ 0x00 ∷ 0x00 ∷ 0x00 ∷ 0x61 ∷ 0x62 ∷ 0x63 ∷ []) ≡ Counted (codes "abc")
longer_payload_behind = refl

longest_payload_behind : argument_behind (layout_at op.BinBytes8) 0
    (0x8e ∷ 0x03 ∷ 0x00 ∷ 0x00 ∷ 0x00 ∷ 0x00 ∷ 0x00 ∷ 0x00 ∷ 0x00 ∷ 0x61 ∷ 0x62 ∷ 0x63 ∷ [])
    ≡ Counted (codes "abc")
longest_payload_behind = refl

-- ---- the table

frame : row_of op.Frame ≡ record { code = 0x95; name = codes "FRAME"; kind = kind.Uint8; proto = 4 }
frame = refl

empty_tuple : code_of op.EmptyTuple ≡ 0x29
empty_tuple = refl

-- ---- what is named

ascii_text : text_bytes (instruction op.BinUnicode (Counted (codes "b"))) ≡ Some (codes "b")
ascii_text = refl

-- a byte above ASCII in a line of UNICODE is the code point of its number
latin_text : text_bytes (instruction op.Unicode (Line (0xe9 ∷ []))) ≡ Some (0xc3 ∷ 0xa9 ∷ [])
unfolding forms_behind encode_utf8
latin_text = refl

escaped_text : text_bytes (instruction op.Unicode (Line (codes "\\u0061"))) ≡ Some (codes "a")
unfolding forms_behind encode_utf8
escaped_text = refl

-- an escape of eight digits, between plain bytes; digits of either case
long_text : text_bytes (instruction op.Unicode (Line (codes "a\\U0001F60fb")))
    ≡ Some (0x61 ∷ 0xf0 ∷ 0x9f ∷ 0x98 ∷ 0x8f ∷ 0x62 ∷ [])
unfolding forms_behind encode_utf8
long_text = refl

-- two escapes, one behind the other: é and é
two_escapes : text_bytes (instruction op.Unicode (Line (codes "\\u00e9\\U000000E9")))
    ≡ Some (0xc3 ∷ 0xa9 ∷ 0xc3 ∷ 0xa9 ∷ [])
unfolding forms_behind encode_utf8
two_escapes = refl

empty_text : text_bytes (instruction op.Unicode (Line [])) ≡ Some []
unfolding forms_behind
empty_text = refl

no_other_escape : text_bytes (instruction op.Unicode (Line (codes "a\\n"))) ≡ None
unfolding forms_behind
no_other_escape = refl

no_fewer_digits : text_bytes (instruction op.Unicode (Line (codes "\\u061"))) ≡ None
unfolding forms_behind
no_fewer_digits = refl

no_surrogate_text : text_bytes (instruction op.Unicode (Line (codes "\\ud800"))) ≡ None
unfolding forms_behind
no_surrogate_text = refl

no_number_too_large : text_bytes (instruction op.Unicode (Line (codes "\\U00110000"))) ≡ None
unfolding forms_behind
no_number_too_large = refl

no_lone_backslash : text_bytes (instruction op.Unicode (Line (codes "a\\"))) ≡ None
unfolding forms_behind
no_lone_backslash = refl

bytes_name_no_text : text_bytes (instruction op.ShortBinBytes (Counted (codes "a"))) ≡ None
bytes_name_no_text = refl

memo_of_get : memo_entry (instruction op.Get (Line (codes "12"))) ≡ Some 12
memo_of_get = refl

memo_of_frame : memo_entry (instruction op.Frame (Number 8 12)) ≡ None
memo_of_frame = refl

truth : names_bool (instruction op.Int (Line (codes "01"))) ≡ true
truth = refl

one : names_bool (instruction op.Int (Line (codes "1"))) ≡ false
one = refl

pair : pair_named (instruction op.Inst (Pair (codes "m") (codes "f"))) ≡ Some (codes "m", codes "f")
pair = refl

-- ---- what is admitted

protocol_5 : is_admitted (instruction op.Proto (Number 1 5)) ≡ true
protocol_5 = refl

protocol_6 : is_admitted (instruction op.Proto (Number 1 6)) ≡ false
protocol_6 = refl

extension : is_admitted (instruction op.Ext1 (Number 1 5)) ≡ false
extension = refl

-- ---- contents

false_is_int : IsIntLine (codes "00")
false_is_int = int_is (codes "00") refl

negative_is_int : IsIntLine (codes "-12")
negative_is_int = int_is (codes "-12") refl

no_minus_zero : IsIntLine (codes "-0") → ⊥
no_minus_zero h = let e = is_int_of (codes "-0") h in cc

no_needless_zeros : IsIntLine (codes "007") → ⊥
no_needless_zeros h = let e = is_int_of (codes "007") h in cc

no_empty_int : IsIntLine [] → ⊥
no_empty_int h = let e = is_int_of [] h in cc

marked_long : IsLongLine (codes "10L")
marked_long = long_is (codes "10L") refl

no_mark_alone : IsLongLine (codes "L") → ⊥
no_mark_alone h = let e = is_long_of (codes "L") h in cc

greatest_memo_number : IsMemoNumber (codes "4294967295")
greatest_memo_number = memo_number_is (codes "4294967295") refl

no_greater_memo_number : IsMemoNumber (codes "4294967296") → ⊥
no_greater_memo_number h = let e = is_memo_number_of (codes "4294967296") h in cc

whole_float : IsFloatLine (codes "1.5e+10")
whole_float = float_is (codes "1.5e+10") refl

negative_infinity : IsFloatLine (codes "-inf")
negative_infinity = float_is (codes "-inf") refl

no_point_at_end : IsFloatLine (codes "1.") → ⊥
no_point_at_end h = let e = is_float_of (codes "1.") h in cc

no_point_at_front : IsFloatLine (codes ".5") → ⊥
no_point_at_front h = let e = is_float_of (codes ".5") h in cc

quoted_string : IsStringLine (codes "'a\\x0a\\''")
unfolding forms_behind
quoted_string = string_is (codes "'a\\x0a\\''") refl

no_open_string : IsStringLine (codes "'a") → ⊥
no_open_string h = let e = is_string_of (codes "'a") h in cc

no_lone_quote : IsStringLine (codes "'") → ⊥
no_lone_quote h = let e = is_string_of (codes "'") h in cc

no_octal_escape : IsStringLine (codes "'\\0'") → ⊥
unfolding forms_behind
no_octal_escape h = let e = is_string_of (codes "'\\0'") h in cc

-- the letter a by its number
old_string_by_number : old_bytes (instruction op.String (Line (codes "'\\x61'"))) ≡ Some (0x61 ∷ [])
unfolding forms_behind
old_string_by_number = refl

old_string_of_escapes : old_bytes (instruction op.String (Line (codes "'\\n\\r\\t\\\\\\''")))
    ≡ Some (0x0a ∷ 0x0d ∷ 0x09 ∷ 0x5c ∷ 0x27 ∷ [])
unfolding forms_behind
old_string_of_escapes = refl

old_string_of_a_payload : old_bytes (instruction op.ShortBinString (Counted (0xe9 ∷ [])))
    ≡ Some (0xe9 ∷ [])
old_string_of_a_payload = refl

no_old_string : old_bytes (instruction op.ShortBinBytes (Counted (0xe9 ∷ []))) ≡ None
no_old_string = refl

no_surrogate : (points : List ℕ) → SpellsText (codes "\\ud800") points → ⊥
unfolding forms_behind
no_surrogate points h = let e = points_of_spelled (codes "\\ud800") points h in cc

two_characters : SpellsText (codes "\\U0001f600!") (0x1f600 ∷ 0x21 ∷ [])
unfolding forms_behind
two_characters = spelled_points (codes "\\U0001f600!") (0x1f600 ∷ 0x21 ∷ []) refl

-- ---- bounds

longest_of_standard : longest 16_777_216 ≡ 16_777_225
longest_of_standard = refl

longest_of_none : longest 0 ≡ 131_075
longest_of_none = refl
