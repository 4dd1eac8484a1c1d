-- How long what is begun can be.
use Rattle.std.proofs.Common.{◌≡◌, ℕ, ◌+◌, ◌<◌, ◌≤◌, List, [], ◌∷◌, ◌++◌, length, drop, ap, arith}
use Rattle.std.proofs.Common.{◌⊎◌, inl, inr, length-append, length-drop, w32}
use Rattle.std.specs.Prelude.{⊤}
use Rattle.std.proofs.Math.Nat.{le-max_left, le-max_right}
use Rattle.std.proofs.lemmas.Bool.{cases_lt}
use Rattle.std.specs.Int.{cast_unsigned}
use Rattle.byteorder.specs.Numbers.{length-bytes_low_first}
use Rattle.byteorder.specs.Endian.{little_bytes}
use Rattle.pkops.specs.declared.op.Kind.TheVariants as kind
use Rattle.pkops.specs.declared.layout.Layout.TheVariants as layout
use Rattle.pkops.specs.declared.layout.Width.TheVariants as width
use Rattle.pkops.specs.Table.{Kind, kind_of}
use Rattle.pkops.specs.Spelling.{Argument, Nothing, Number, Signed, Float, Line, Pair, Counted}
use Rattle.pkops.specs.Spelling.{Width, Layout, Suits, laid, layout_of, layout_at, size_of}
use Rattle.pkops.specs.Scans.{IsWithin, Begun, count_len, longest}
use Rattle.pkops.proofs.ExactReaders.Fields.{some_left}

-- the lines of a layout have at most 65,536 bytes
abbrev HasLines : Layout → Type 0
HasLines (layout.Line most) = most ≤ 65_536
HasLines (layout.Pair most) = most ≤ 65_536
HasLines _ = ⊤

has_lines : (k : Kind) → HasLines (layout_of k)
has_lines kind.DecimalnlShort = omega arith
has_lines kind.DecimalnlLong = omega arith
has_lines kind.Floatnl = omega arith
has_lines kind.Stringnl = omega arith
has_lines kind.StringnlNoescape = omega arith
has_lines kind.Unicodestringnl = omega arith
has_lines kind.StringnlNoescapePair = omega arith
has_lines _ = tt

small_size : (size : Width) → size_of size ≤ 8
small_size width.One = omega arith
small_size _ = omega arith

abbrev IsShort : ℕ → ℕ → Type 0
IsShort limit n = (n ≤ limit + 8) ⊎ (n ≤ 131_074)

numbered : (limit width n value : ℕ) → n ≤ 8 → width ≡ n
    → IsShort limit (length (little_bytes width value))
numbered limit width n value le e = inr (omega (arith, length-bytes_low_first 0 width value))

-- the bytes of an argument within the limit
argument_short : (limit : ℕ) (lay : Layout) (a : Argument) → HasLines lay → Suits lay a
    → IsWithin limit a → IsShort limit (length (laid lay a))
argument_short limit layout.Nothing Nothing l s w = inr (omega arith)
argument_short limit layout.U1 (Number width n) l s w = numbered limit width 1 n (omega arith) s.0
argument_short limit layout.U2 (Number width n) l s w = numbered limit width 2 n (omega arith) s.0
argument_short limit layout.U4 (Number width n) l s w = numbered limit width 4 n (omega arith) s.0
argument_short limit layout.U8 (Number width n) l s w = numbered limit width 8 n (omega arith) s.0
argument_short limit layout.I4 (Signed z) l s w =
    inr (omega (arith, length-bytes_low_first 0 4 (cast_unsigned w32 z)))
argument_short limit layout.F8 (Float bytes) l s w = inr (omega arith)
argument_short limit (layout.Line most) (Line text) l s w = let short = s.short in
    inr (omega (arith, length-append text (10 ∷ [])))
argument_short limit (layout.Pair most) (Pair first second) l s w =
    let first_short = s.0.short in
    let second_short = s.1.short in
    inr
    (omega (
      arith,
      length-append (first ++ 10 ∷ []) (second ++ 10 ∷ []),
      length-append first (10 ∷ []),
      length-append second (10 ∷ []),
    ))
argument_short limit (layout.Counted size signed) (Counted payload) l s w =
    inl
    (omega (
      arith,
      small_size size,
      length-append (little_bytes (size_of size) (length payload)) payload,
      length-bytes_low_first 0 (size_of size) (length payload),
    ))
argument_short limit _ _ l s w = absurd s

below_longest : (limit n : ℕ) → IsShort limit n → n < longest limit
below_longest limit n (inl h) = let le = le-max_left (limit + 9) 131_075 in omega arith
below_longest limit n (inr h) = let le = le-max_right (limit + 9) 131_075 in omega arith

small_count : (lay : Layout) → count_len lay ≤ 8
small_count (layout.Counted size signed) = small_size size
small_count _ = omega arith

pub begun_is_short : (limit : ℕ) (bytes : List ℕ) → Begun limit bytes → length bytes < longest limit
begun_is_short limit bytes (i, more, h) =
    elim (cases_lt (length (drop 1 bytes)) (count_len (layout_at i.op))) [
      | inl lt ↦ below_longest limit (length bytes)
          (inr (omega (arith, small_count (layout_at i.op), length-drop 1 bytes)))
      | inr le ↦
          let short = below_longest limit _
          (argument_short limit (layout_at i.op) i.arg (has_lines (kind_of i.op)) h.may.suits
          (h.may.within le)) in
          omega (arith, ap length h.parts, length-append bytes more, some_left more h.lacks)
    ]
