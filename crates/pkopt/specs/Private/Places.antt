-- The offsets of the instructions in a pickle that may change.
use Rattle.std.specs.Prelude.{ℕ, ◌+◌, Bool, true, false, cond, List, [], ◌∷◌, length, map}
use Rattle.std.specs.List.{list_any}
use Rattle.pkops.specs.declared.Op.{Op}
use Rattle.pkops.specs.declared.Op.TheVariants as op
use Rattle.pkops.specs.Spelling.{Instruction, spelling}
use Rattle.pkcheck.specs.Heard.{Heard}
use Rattle.pkopt.specs.declared.place.Part.{Part}
use Rattle.pkopt.specs.declared.place.Place.{Place}
use Rattle.pkopt.specs.Slim.{is_frame}

-- instructions with this opcode never change: they don't use the memo and aren't FRAME
abbrev pub stays_as_is : Op → Bool
stays_as_is op.Put = false
stays_as_is op.BinPut = false
stays_as_is op.LongBinPut = false
stays_as_is op.Memoize = false
stays_as_is op.Get = false
stays_as_is op.BinGet = false
stays_as_is op.LongBinGet = false
stays_as_is op.Frame = false
stays_as_is o = true

-- a place from its parts
abbrev pub place : (at size : ℕ) → Op → Place
place at size op = record { at = at; size = size; op = op }

-- the place of an instruction at this offset
abbrev pub place_of : ℕ → Instruction → Place
place_of at i = place at (length (spelling i)) i.op

-- these places after this one, which is left out if its instruction never changes
abbrev pub with_place : Place → List Place → List Place
with_place x later = cond (stays_as_is x.op) later (x ∷ later)

-- the places of the instructions that may change, if the first instruction is at this offset
abbrev pub places_from : ℕ → List Instruction → List Place
places_from at [] = []
places_from at (i ∷ is) = with_place (place_of at i) (places_from (at + length (spelling i)) is)

-- the instructions that were observed
abbrev pub told : List Heard → List Instruction
told hs = map (λ h. h.instruction) hs

-- the places of the observed instructions that may change
abbrev pub places_told : List Heard → List Place
places_told [] = []
places_told (h ∷ hs) = with_place (place_of h.at h.instruction) (places_told hs)

-- the offset after a part that begins at this offset
abbrev pub end_of : ℕ → Part → ℕ
end_of from part = from + part.gap + part.size

-- the place of its instruction
abbrev pub place_behind : ℕ → Part → Place
place_behind from part = place (from + part.gap) part.size part.op

-- the offset after parts that begin at this offset
abbrev pub end_behind : ℕ → List Part → ℕ
end_behind from [] = from
end_behind from (part ∷ parts) = end_behind (end_of from part) parts

-- the places of their instructions that may change
abbrev pub places_behind : ℕ → List Part → List Place
places_behind from [] = []
places_behind from (part ∷ parts) =
    with_place (place_behind from part) (places_behind (end_of from part) parts)

-- one of the parts has a FRAME
abbrev pub has_frames : List Part → Bool
has_frames parts = list_any (λ (x : Part). is_frame x.op) parts
