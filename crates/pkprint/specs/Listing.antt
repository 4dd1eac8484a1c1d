-- The listing of a pickle: a line for each instruction, then a last line.
use Rattle.std.specs.Prelude.{ℕ, ◌-◌, zero, suc, max, List, [], ◌∷◌, ◌++◌, length, replicate}
use Rattle.std.specs.Prelude.{codes, decimal, Result, Ok, Err}
use Rattle.std.specs.Fmt.{signed_decimal}
use Rattle.std.specs.List.{flat_map}
use Rattle.hex.specs.Hex.{encode_lower}
use Rattle.pkops.specs.Spelling.{Argument, Nothing, Number, Signed, Float, Line, Pair, Counted}
use Rattle.pkops.specs.Table.{code_of, row_of}
use Rattle.pkops.specs.declared.Op.{Op}
use Rattle.pkops.specs.declared.Op.TheVariants.{Long1, Long4}
use Rattle.pkcheck.specs.Heard.{Heard}
use Rattle.pkcheck.specs.declared.Yes.{Yes}
use Rattle.pkcheck.specs.declared.No.{No}
use Rattle.pkcheck.specs.Printed.{no_text}
use Rattle.pkimport.specs.Quoted.{quoted}
use Rattle.pkprint.specs.Verdict.{no_line}

-- the offset of an instruction, right-aligned in 5 columns, or wider if needed
abbrev pub position_text : ℕ → List ℕ
position_text at = replicate (5 - length (decimal at)) 0x20 ++ decimal at

-- two spaces for each open mark
unfoldable pub indent : ℕ → List ℕ
indent zero = []
indent (suc marks) = codes "  " ++ indent marks

-- bytes in lower-case hexadecimal between `<` and `>`
abbrev pub angled : List ℕ → List ℕ
angled bytes = codes "<" ++ (encode_lower bytes ++ codes ">")

-- a payload: a long integer as its bytes, any other quoted
abbrev pub payload_text : Op → List ℕ → List ℕ
payload_text Long1 payload = angled payload
payload_text Long4 payload = angled payload
payload_text _ payload = quoted payload

-- an argument after a space, if there is one
abbrev pub argument_text : Op → Argument → List ℕ
argument_text op Nothing = []
argument_text op (Number width n) = codes " " ++ decimal n
argument_text op (Signed n) = codes " " ++ signed_decimal n
argument_text op (Float bytes) = codes " " ++ angled bytes
argument_text op (Line text) = codes " " ++ quoted text
argument_text op (Pair first second) = codes " " ++ (quoted first ++ (codes " " ++ quoted second))
argument_text op (Counted payload) = codes " " ++ payload_text op payload

-- the code of an opcode in hexadecimal, then its name after the indentation
abbrev pub opcode_text : Op → ℕ → List ℕ
opcode_text op marks =
    encode_lower (code_of op ∷ []) ++ (codes " " ++ (indent marks ++ (row_of op).name))

-- `POSITION: CODE NAME ARGUMENT`
abbrev pub listing_line : Heard → List ℕ
listing_line h =
    position_text h.at ++ (codes ": " ++ (opcode_text h.instruction.op h.marks
    ++ (argument_text h.instruction.op h.instruction.arg ++ codes "\n")))

-- the greatest protocol that an opcode needs
abbrev pub highest : List Heard → ℕ
highest [] = 0
highest (h ∷ hs) = max (row_of h.instruction.op).proto (highest hs)

-- `highest protocol: N`
abbrev pub highest_line : ℕ → List ℕ
highest_line n = codes "highest protocol: " ++ (decimal n ++ codes "\n")

-- the last line: the highest protocol, or why the pickle is refused
abbrev pub last_line : Result Yes No → ℕ → List ℕ
last_line (Ok accepted) n = highest_line n
last_line (Err refused) n = no_line (no_text refused)

-- the whole listing for an answer and the instructions observed
abbrev pub listing : Result Yes No → List Heard → List ℕ
listing answer hs = flat_map listing_line hs ++ last_line answer (highest hs)
