-- How the code reads an argument from left to right, and which fault it reports first;
-- `proofs/ExactReaders/Arguments.antt` proves that it reads each layout as `Scans` says.
use Rattle.std.specs.Prelude.{◌≡◌, ℕ, ◌+◌, List, length, take, drop, Bool, Option, Some, None}
use Rattle.std.specs.Prelude.{Result, Ok, Err, nat_lt, nat_le, position, ◌==◌, if◌then◌else◌}
use Rattle.std.specs.Int.{w32, cast_signed}
use Rattle.byteorder.specs.Endian.{little_number}
use Rattle.pkops.specs.declared.layout.Layout.TheVariants as layout
use Rattle.pkops.specs.declared.fault.Fault.TheVariants.{BadArgument, TooLarge}
use Rattle.pkops.specs.declared.reading.Unread.{Unread}
use Rattle.pkops.specs.declared.reading.Unread.TheVariants.{Short, Bad}
use Rattle.pkops.specs.Answer.{Answer}
use Rattle.pkops.specs.Answer as answer
use Rattle.pkops.specs.Spelling.{Argument, Nothing, Number, Signed, Float, Line, Pair, Counted}
use Rattle.pkops.specs.Spelling.{Width, Layout, count_limit, size_of}

infixl 10 ◌>>=◌
-- reads, then continues with what was read; the first fault ends the reading
abbrev pub ◌>>=◌ : {A B : Type 0} → Result A Unread → (A → Result B Unread) → Result B Unread
(Ok x) >>= f = f x
(Err e) >>= f = Err e

-- a function's return value, seen through `view`, is what reading gives
abbrev pub ReturnsAs : {X Y : Type 0} → (X → Y) → Result X Unread → Result Y Unread → Type 0
ReturnsAs view (Ok x) read = read ≡ Ok (view x)
ReturnsAs view (Err e) read = read ≡ Err e

-- n bytes, and the bytes after them
abbrev pub bytes_at : ℕ → List ℕ → Result (List ℕ × List ℕ) Unread
bytes_at n bytes = if nat_lt (length bytes) n then Err Short else Ok (take n bytes, drop n bytes)

-- a little-endian number of `width` bytes, and the bytes after it
abbrev pub number_at : ℕ → List ℕ → Result (ℕ × List ℕ) Unread
number_at width bytes =
    if nat_lt (length bytes) width then Err Short
    else Ok (little_number width bytes, drop width bytes)

-- a line, given the position of the first line feed
abbrev at_end : ℕ → List ℕ → Option ℕ → Result (List ℕ × List ℕ) Unread
at_end most bytes None = if nat_le (length bytes) most then Err Short else Err (Bad TooLarge)
at_end most bytes (Some i) =
    if nat_le i most then Ok (take i bytes, drop (i + 1) bytes) else Err (Bad TooLarge)

-- a line of at most `most` bytes
unfoldable pub line_at : ℕ → List ℕ → Result (List ℕ × List ℕ) Unread
line_at most bytes = at_end most bytes (position (λ byte. byte == 10) bytes)

-- two such lines
abbrev pub pair_at : ℕ → List ℕ → Result ((List ℕ × List ℕ) × List ℕ) Unread
pair_at most bytes = do
  first ← line_at most bytes
  second ← line_at most first.1
  Ok ((first.0, second.0), second.1)

-- a count, then that many bytes
unfoldable pub payload_at : ℕ → Width → Bool → List ℕ → Result (List ℕ × List ℕ) Unread
payload_at limit size signed bytes = do
  count ← number_at (size_of size) bytes
  if nat_le (count_limit size signed) count.0 then Err (Bad BadArgument)
      else (if nat_lt limit count.0 then Err (Bad TooLarge) else bytes_at count.0 count.1)

-- an argument of the layout, and the bytes after it
unfoldable pub arg_at : ℕ → Layout → List ℕ → Result (Argument × List ℕ) Unread
arg_at limit layout.Nothing bytes = Ok (Nothing, bytes)
arg_at limit layout.U1 bytes = number_at 1 bytes >>= λ n. Ok (Number 1 n.0, n.1)
arg_at limit layout.U2 bytes = number_at 2 bytes >>= λ n. Ok (Number 2 n.0, n.1)
arg_at limit layout.U4 bytes = number_at 4 bytes >>= λ n. Ok (Number 4 n.0, n.1)
arg_at limit layout.U8 bytes = number_at 8 bytes >>= λ n. Ok (Number 8 n.0, n.1)
arg_at limit layout.I4 bytes = number_at 4 bytes >>= λ n. Ok (Signed (cast_signed w32 n.0), n.1)
arg_at limit layout.F8 bytes = bytes_at 8 bytes >>= λ b. Ok (Float b.0, b.1)
arg_at limit (layout.Line most) bytes = line_at most bytes >>= λ text. Ok (Line text.0, text.1)
arg_at limit (layout.Pair most) bytes =
    pair_at most bytes >>= λ lines. Ok (Pair lines.0.0 lines.0.1, lines.1)
arg_at limit (layout.Counted size signed) bytes =
    payload_at limit size signed bytes >>= λ payload. Ok (Counted payload.0, payload.1)

-- the scan's answer when no argument was read
abbrev pub IsUnread : Unread → Answer → Type 0
IsUnread Short result = result ≡ answer.More
IsUnread (Bad fault) result = result ≡ answer.Bad fault
