-- The bytes of a form.
use Rattle.std.specs.Prelude.{ℕ, cond, List, ◌++◌, drop}
use Rattle.pkopt.specs.declared.fate.Plan.{Plan}
use Rattle.pkopt.specs.declared.place.Part.{Part}
use Rattle.pkopt.specs.Private.FrameBytes.{framed_bytes}
use Rattle.pkopt.specs.Private.Places.{has_frames, places_behind}
use Rattle.pkopt.specs.Private.Produced.{at_start, produced}

-- the bytes of the slim form
abbrev pub slim_bytes : Plan → List ℕ → ℕ → List Part → List ℕ
slim_bytes plan bytes taken parts = produced plan bytes taken (places_behind 0 parts) at_start

-- the front, then the slim form after its head
abbrev pub written : Plan → List ℕ → ℕ → List Part → List ℕ → ℕ → List ℕ
written plan bytes taken parts front head = front ++ drop head (slim_bytes plan bytes taken parts)

-- the slim form, inside one frame if one of the parts has a FRAME
abbrev pub output : Plan → List ℕ → ℕ → List Part → List ℕ
output plan bytes taken parts =
    cond (has_frames parts) (framed_bytes (slim_bytes plan bytes taken parts))
    (slim_bytes plan bytes taken parts)
