-- The state of the two passes over a pickle, and their results.
use Rattle.std.specs.Prelude.{◌≡◌, ℕ, Bool, false, cond, min, List, [], ◌∷◌, ◌++◌, length, Option}
use Rattle.std.specs.Prelude.{Some, None, slice_index_or}
use Rattle.pkops.specs.declared.Op.{Op}
use Rattle.pkops.specs.declared.Op.TheVariants as op
use Rattle.pkops.specs.Spelling.{Instruction}
use Rattle.pkmachine.specs.Effects.{effect_of}
use Rattle.pkcheck.specs.Heard.{Heard}
use Rattle.pkopt.specs.declared.memo.MemoUse.{MemoUse}
use Rattle.pkopt.specs.declared.trace.Trace.{Trace}
use Rattle.pkopt.specs.declared.memo.MemoUse.TheVariants.{Stores, StoresNext, Fetches, Neither}
use Rattle.pkopt.specs.Private.Memories.{HoldsWrites}
use Rattle.pkopt.specs.declared.place.Place.{Place}
use Rattle.pkopt.specs.Private.Places.{end_behind, has_frames, places_behind, places_from}
use Rattle.pkopt.specs.Private.Places.{places_told, told}
use Rattle.pkopt.specs.Writers.{Writes, different, read_by, wrote, sources, is_read, new_number}
use Rattle.pkopt.specs.Writers.{after_all}

-- how an opcode uses the memo
abbrev pub memo_use : Op → MemoUse
memo_use op.Put = Stores
memo_use op.BinPut = Stores
memo_use op.LongBinPut = Stores
memo_use op.Memoize = StoresNext
memo_use op.Get = Fetches
memo_use op.BinGet = Fetches
memo_use op.LongBinGet = Fetches
memo_use o = Neither

-- before the first instruction
pub record IsNewTrace (t : Trace) : Type 0 where
  pub memo : t.memo ≡ []
  pub writes : t.writes ≡ 0
  pub sources : t.sources.items ≡ []
  pub parts : t.parts.items ≡ []
  pub end : t.end ≡ 0
  pub framed : t.framed ≡ false

-- the trace counts these writes, and its memo holds the last of each number
pub record FollowsWrites (ws : Writes) (t : Trace) : Type 0 where
  pub holds : HoldsWrites ws t.memo
  pub count : t.writes ≡ length ws

-- a write under this number was recorded
abbrev pub Notes : ℕ → Trace → Trace → Type 0
Notes n old new = (ws : Writes) → FollowsWrites ws old → FollowsWrites (n ∷ ws) new

-- a write under the number of memo entries was recorded
abbrev pub NotesNext : Trace → Trace → Type 0
NotesNext old new = (ws : Writes) → FollowsWrites ws old → FollowsWrites (different ws ∷ ws) new

-- what an instruction of this opcode, which names this number, does to the memo was recorded
abbrev pub NotesStep : Op → ℕ → Trace → Trace → Type 0
NotesStep o n old new = (ws : Writes) → FollowsWrites ws old →
    FollowsWrites (wrote (effect_of o) n ws) new
    × (new.sources.items ≡ old.sources.items ++ read_by (effect_of o) n ws)

-- the parts end where the trace says, and have a FRAME where it says so
abbrev pub EndsSo : Trace → Type 0
EndsSo t = (t.end ≡ end_behind 0 t.parts.items) × (t.framed ≡ has_frames t.parts.items)

-- no instruction that may change was recorded
abbrev pub Skips : Trace → Trace → Type 0
Skips old new = EndsSo old →
    EndsSo new × (places_behind 0 new.parts.items ≡ places_behind 0 old.parts.items)

-- this place was recorded
abbrev pub Marks : Place → Trace → Trace → Type 0
Marks at old new = EndsSo old →
    EndsSo new × (places_behind 0 new.parts.items ≡ places_behind 0 old.parts.items ++ at ∷ [])

-- all these instructions were observed, after these writes
pub record HearsBehind (ws : Writes) (old new : Trace) (hs : List Heard) : Type 0 where
  pub follows : FollowsWrites (after_all (told hs) ws) new
  pub sources_now : new.sources.items ≡ old.sources.items ++ sources ws (told hs)
  pub ends : EndsSo new
  pub places_now :
      places_behind 0 new.parts.items ≡ places_behind 0 old.parts.items ++ places_told hs

abbrev pub Hears : Trace → Trace → List Heard → Type 0
Hears old new hs = (ws : Writes) → FollowsWrites ws old → EndsSo old → HearsBehind ws old new hs

-- the trace of a whole pickle: the write that each read reads, the number of writes, and the places
-- of the instructions that may change
pub record Tracks (p : List Instruction) (t : Trace) : Type 0 where
  pub reads : t.sources.items ≡ sources [] p
  pub writes : t.writes ≡ length (after_all p [])
  pub places : places_behind 0 t.parts.items ≡ places_from 0 p
  pub ends : end_behind 0 t.parts.items ≡ t.end
  pub framed : t.framed ≡ has_frames t.parts.items

-- for each write, whether it is read; those past the end of the list are not
pub record AreKept (vs : List (Option ℕ)) (kept : List Bool) : Type 0 where
  pub each : (w : ℕ) → slice_index_or kept w false ≡ is_read w vs

-- these reads were marked too
abbrev pub KeepsMore : (old new : List Bool) → List (Option ℕ) → Type 0
KeepsMore old new more = (vs : List (Option ℕ)) → AreKept vs old → AreKept (vs ++ more) new

-- for each write that is read, its new number, or the limit if the number is greater; those past
-- the end of the list are not read
pub record AreNumbers (vs : List (Option ℕ)) (limit : ℕ) (numbers : List (Option ℕ)) : Type 0 where
  pub each : (w : ℕ) → slice_index_or numbers w None
      ≡ cond (is_read w vs) (Some (min (new_number vs w) limit)) None
