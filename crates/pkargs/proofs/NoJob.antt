-- Why what `clap` found is no job: a flag or a value that isn't there.
use Rattle.std.proofs.Common.{◌≡◌, ap, refl, Bool, true, false, Option, None, Some, Result, Ok}
use Rattle.std.proofs.Common.{Err, List, inl, inr, subst}
use Rattle.std.specs.Prelude.{◌⊎◌, IfErr, IfNone, IsErrAnd}
use Rattle.std.specs.Option.{unwrap_or}
use Rattle.pkmachine.specs.declared.Memo.TheVariants.{Fresh, Kept}
use Rattle.clap.specs.Words.{App, HasKind, IsAmong, Text, fault_of, kind_of}
use Rattle.clap.specs.declared.error.Error.{Error}
use Rattle.clap.specs.declared.error.kind.ErrorKind.TheVariants as kind
use Rattle.pkargs.specs.Command.{AsksForNone, IsProgram, all_text, flag_text, one_text}
use Rattle.pkargs.specs.declared.job.Pickles.{Pickles}
use Rattle.pkargs.specs.declared.job.Pickles.TheVariants.{First, Row as RowOf}

pub some_same : {T : Type 0} (x y : T) → Some x ≡ Some y → x ≡ y
some_same x y e = ap (λ o. unwrap_or o x) e

pub if_none : {T P : Type 0} (o : Option T) → P → IfNone o P
if_none None p = p
if_none (Some x) p = tt

pub if_none_map : {T P Q : Type 0} (o : Option T) → (P → Q) → IfNone o P → IfNone o Q
if_none_map None f p = f p
if_none_map (Some x) f p = tt

pub if_err : {T E : Type 0} (P Q : E → Type 0) (r : Result T E) → ((e : E) → P e → Q e)
    → IsErrAnd r P → IfErr r Q
if_err P Q (Ok x) f h = absurd h
if_err P Q (Err e) f h = f e h

-- an error is for want of memory, or `clap` finds a fault in the words
pub at_fault : (app : App) (words : List Text) (e : Error) → IsProgram app
    → HasKind (fault_of app words) e → (kind_of e ≡ kind.OutOfMemory) ⊎ AsksForNone words
at_fault app words e program (inl memory) = inl memory
at_fault app words e program (inr among) =
    inr (app, program, inl (λ none. subst (λ kinds. IsAmong (kind_of e) kinds) none among))

-- the flags of each way to check
pub all_flag : Pickles → Bool
all_flag First = false
all_flag (RowOf memo) = true

pub one_flag : Pickles → Bool
one_flag First = false
one_flag (RowOf Fresh) = false
one_flag (RowOf Kept) = true

pub all_shown : (pickles : Pickles) → all_text pickles ≡ flag_text (all_flag pickles)
unfolding all_flag
all_shown First = refl
all_shown (RowOf memo) = refl

pub one_shown : (pickles : Pickles) → one_text pickles ≡ flag_text (one_flag pickles)
unfolding one_flag
one_shown First = refl
one_shown (RowOf Fresh) = refl
one_shown (RowOf Kept) = refl
