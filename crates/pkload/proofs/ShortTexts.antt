-- The memory of a short text in ASCII.
use Rattle.std.proofs.Common.{◌≡◌, ◌+◌, ℕ, List, length, true, arith}
use Rattle.std.specs.Char.{is_ascii}
use Rattle.std.specs.List.{list_all}
use Rattle.pkload.specs.Memory.{text_memory}

pub short_text : (bytes : List ℕ) → list_all is_ascii bytes ≡ true
    → 80 + length bytes ≡ 16 + text_memory bytes
short_text bytes ascii = rw ascii (omega arith)
