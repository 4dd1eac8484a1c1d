-- The numbers of layouts that C sees.
use Rattle.std.specs.Prelude.{ℕ, ◌+◌}
use Rattle.pkops.specs.Spelling.{size_of}
use Rattle.pkops.specs.declared.Layout.{Layout}
use Rattle.pkops.specs.declared.Layout.TheVariants as layout

-- a number of bytes, 16 for each line, or 64 and the bytes of the count before a payload
abbrev pub layout_number : Layout → ℕ
layout_number layout.Nothing = 0
layout_number layout.U1 = 1
layout_number layout.U2 = 2
layout_number layout.I4 = 4
layout_number layout.U4 = 4
layout_number layout.U8 = 8
layout_number layout.F8 = 8
layout_number (layout.Line most) = 16
layout_number (layout.Pair most) = 32
layout_number (layout.Counted width signed) = 64 + size_of width
