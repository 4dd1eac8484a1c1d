-- The arguments that spell a text or an old string.
use Rattle.std.specs.Prelude.{⊤}
use Rattle.pkops.specs.declared.Layout.{Layout}
use Rattle.pkops.specs.declared.Layout.TheVariants as layout
use Rattle.pkops.specs.Spelling.{Argument, Counted, Line}

-- a payload, or a line
abbrev pub IsSpelled : Argument → Type 0
IsSpelled (Counted payload) = ⊤
IsSpelled (Line line) = ⊤
IsSpelled _ = ⊥

-- the layout of a payload or a line
abbrev pub IsTextLayout : Layout → Type 0
IsTextLayout (layout.Counted size signed) = ⊤
IsTextLayout (layout.Line most) = ⊤
IsTextLayout _ = ⊥
