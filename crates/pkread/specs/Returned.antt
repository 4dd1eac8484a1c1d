-- What a reader is once the result of `next` or `next_head`, which borrows from it, is given back.
use mir.Syntax.{named}
use Rattle.std.specs.Borrow.{Fml, MutBor, RattleType}
use Rattle.std.specs.Prelude.{[]}
use Rattle.std.specs.Io.BufRead.{Rests}
use Rattle.pkread.specs.Core.{CoreView}
use Rattle.pkread.specs.ReaderCalls.{KeepsSource, LeavesSource, ReaderState, TakesNoneAhead, state}
use Rattle.pkread.specs.contracts.reader.Reader.{the_row}
use Rattle.pkread.specs.contracts.state.Core.{the_row as core_row}
use Rattle.pkread.specs.declared.reader.Reader.{Reader}
use Rattle.pkread.specs.declared.source.Source.{Ghosts}

-- the reader still holds the same `&mut`, its state made the step, it left its source as it was if
-- it had ended or refused, and it read no byte of a further instruction
abbrev pub HasMoved : {R : Type 0} (g : Ghosts R) → (ReaderState → ReaderState → Type 0)
    → Reader R CoreView → Reader R CoreView → Type 0
HasMoved g Step old new =
    KeepsSource old new
    × Step (state g.left g.failures old) (state g.left g.failures new)
    × LeavesSource old new
    × TakesNoneAhead new

-- once what a call returned is given back, the reader behind this `&mut` has moved by the step
abbrev pub OnceReturned : (R : RattleType) (g : Ghosts R.Denot) → MutBor (Reader R.Denot CoreView)
    → (ReaderState → ReaderState → Type 0) → Fml
OnceReturned R g reader Step =
    Rests (the_row (record { mir = named 1; lft = [] }) R core_row) reader
    (HasMoved g Step reader.now)
