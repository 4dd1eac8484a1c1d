-- What a buffer holds, and the most that it has ever held.
use Rattle.std.specs.Prelude.{ℕ, List, [], length, max}

-- what contracts see of a buffer: its bytes, and the most that it held at any time when some were
-- dropped
pub record Held : Type 0 where
  pub bytes : List ℕ
  pub peak : ℕ

-- the most bytes ever held, including those held now
abbrev pub most_held : Held → ℕ
most_held held = max held.peak (length held.bytes)

-- an empty buffer
abbrev pub none_held : Held
none_held = record { bytes = []; peak = 0 }
