-- Lengths of instructions and of their parts.
use Rattle.std.specs.Prelude.{ℕ, ◌+◌, ◌==◌, List, Option, drop, position}
use Rattle.pkops.specs.KnownLayout.{count_in}
use Rattle.pkops.specs.Spelling.{Width, line_feed, size_of}

-- the most bytes, the code included, that are searched for the ends of lines
abbrev pub searched : ℕ
searched = 257

-- the offset of the first line feed
abbrev pub end_of_line : List ℕ → Option ℕ
end_of_line bytes = position (λ byte. byte == line_feed) bytes

-- the length of the head in front of a payload: the code and the count
abbrev pub head_length : Width → ℕ
head_length size = size_of size + 1

-- the length of the head in front of a payload, and the count in it
abbrev pub counted_head : Width → List ℕ → ℕ × ℕ
counted_head size bytes = (head_length size, count_in size (drop 1 bytes))
