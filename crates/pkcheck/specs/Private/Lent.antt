-- How instructions are judged that are lent from the bytes at hand.
use Rattle.std.specs.Prelude.{◌≡◌, ℕ, zero, suc, ◌+◌, ◌⊎◌, Bool, List, [], ◌∷◌, ◌++◌, drop, length}
use Rattle.std.proofs.Common.{inl, inr}
use Rattle.pkops.specs.Spelling.{Instruction, spelling}
use Rattle.pkops.specs.declared.Refusal.{Refusal}
use Rattle.pkread.specs.AtHand.{AreNext, IsLent, beyond}
use Rattle.pkread.specs.ReaderCalls.{ReaderState}
use Rattle.pkmachine.specs.Knowledge.{Policy}
use Rattle.pkcheck.specs.Private.Judgement.{BothGoOn, IsRefused, SessionView}
use Rattle.pkcheck.specs.Reports.{Report, report, told_of}
use Rattle.pkstack.specs.Shape.{marks_of}
use Rattle.pkmachine.specs.View.{View}
use Rattle.pkcheck.specs.declared.turned.Turned.{Turned}

-- what a listener observes of an instruction at this offset before it is judged
abbrev pub heard_before : (holding : Bool) → ℕ → Instruction → View → Report
heard_before holding at i m = report at (told_of holding i) (marks_of m.knowledge.entries)

-- after whatever the listener had observed, it has observed these
abbrev pub HearsMore : {L : Type 0} → (L → L → List Report → Type 0) → L → L → List Report → Type 0
HearsMore {L = L} hears old new more =
    (first : L) (hs : List Report) → hears first old hs → hears first new (hs ++ more)

-- the first of the bytes has this offset
module _ (holding : Bool) (policy : Policy) (at : ℕ) (bytes : List ℕ) (before : SessionView) where
  -- so many instructions, lent from the bytes one after the other, are accepted in turn; they have
  -- `count` bytes in all, and this is observed of them
  abbrev pub PassInTurn : ℕ → SessionView → ℕ → List Report → Type 0
  PassInTurn zero after count hs = (after ≡ before) × (count ≡ 0) × (hs ≡ [])
  PassInTurn (suc n) after count hs =
      (between : SessionView) × (so_far : ℕ) × (i : Instruction) × (earlier : List Report)
      × PassInTurn n between so_far earlier × IsLent before.machine.limits (drop so_far bytes) i
      × BothGoOn policy i between.frame between.machine after.frame after.machine
      × (count ≡ so_far + length (spelling i))
      × (hs ≡ earlier ++ heard_before holding (at + so_far) i between.machine ∷ [])

  -- some instructions are accepted in turn, and another one is lent from the bytes after them
  pub record StopsAt (count : ℕ) : Type 0 where
    pub number : ℕ
    pub between : SessionView
    pub earlier : List Report
    pub instruction : Instruction
    pub pass : PassInTurn number between count earlier
    pub lent : IsLent before.machine.limits (drop count bytes) instruction

  -- what is observed of all of these
  abbrev pub heard_until : {count : ℕ} → StopsAt count → List Report
  heard_until {count = n} here =
      here.earlier ++ heard_before holding (at + n) here.instruction here.between.machine ∷ []

  -- some instructions are accepted in turn, and the next one is refused
  pub record TurnsDown (after : View) (t : Turned) : Type 0 where
    pub here : StopsAt t.before
    pub long : t.length ≡ length (spelling here.instruction)
    pub why : IsRefused policy here.instruction here.between.frame here.between.machine after
        t.reason

module _ (holding : Bool) (policy : Policy) (old new : ReaderState) (before : SessionView) where
  -- instructions at hand are accepted in turn, and their bytes are taken
  pub record TakesLent (after : SessionView) : Type 0 where
    pub bytes : List ℕ
    pub next : AreNext old bytes
    pub number : ℕ
    pub count : ℕ
    pub hears : List Report
    pub pass : PassInTurn holding policy old.taken bytes before number after count hears
    pub taken : new ≡ beyond count old

  -- nothing is at hand, or what is lent from it is accepted
  abbrev pub GoesAlong : SessionView → Type 0
  GoesAlong after = ((after ≡ before) × (new ≡ old)) ⊎ TakesLent after

  -- what is observed of it
  abbrev pub heard_along : {after : SessionView} → GoesAlong after → List Report
  heard_along (inl none) = []
  heard_along (inr lent) = lent.hears

  -- an instruction at hand is refused after others that are accepted; its bytes are the last taken
  pub record RefusesLent (after : View) (r : Refusal) : Type 0 where
    pub bytes : List ℕ
    pub next : AreNext old bytes
    pub turned : Turned
    pub down : TurnsDown holding policy old.taken bytes before after turned
    pub taken : new ≡ beyond (turned.before + turned.length) old
    pub place : r.at ≡ old.taken + turned.before
    pub why : r.reason ≡ turned.reason

  -- what is observed of all of these
  abbrev pub heard_refused : {after : View} {r : Refusal} → RefusesLent after r → List Report
  heard_refused k = heard_until holding policy old.taken k.bytes before k.down.here

  -- an instruction at hand is lent after others that are accepted; its bytes are the last taken
  pub record FailsLent : Type 0 where
    pub bytes : List ℕ
    pub next : AreNext old bytes
    pub before_it : ℕ
    pub here : StopsAt holding policy old.taken bytes before before_it
    pub taken : new ≡ beyond (before_it + length (spelling here.instruction)) old

-- the same with a listener: what it has observed once it stands at `now`
module _ {L : Type 0} (hears : L → L → List Report → Type 0) (first now : L) (holding : Bool)
    (policy : Policy) where
  module _ (at : ℕ) (bytes : List ℕ) (before : SessionView) where
    -- instructions are accepted in turn, and each is observed
    abbrev pub HearsInTurn : SessionView → ℕ → Type 0
    HearsInTurn after count = (n : ℕ) × (hs : List Report)
        × PassInTurn holding policy at bytes before n after count hs × HearsMore hears first now hs

    -- the next one is observed too, and refused
    abbrev pub HearsTurned : View → Turned → Type 0
    HearsTurned after t = (down : TurnsDown holding policy at bytes before after t)
        × HearsMore hears first now (heard_until holding policy at bytes before down.here)

  module _ (old new : ReaderState) (before : SessionView) where
    -- nothing is at hand, or what is lent from it is observed and accepted
    abbrev pub HearsAlong : SessionView → Type 0
    HearsAlong after = (g : GoesAlong holding policy old new before after)
        × HearsMore hears first now (heard_along holding policy old new before g)

    -- instructions at hand are observed, and the last is refused
    abbrev pub HearsRefused : View → Refusal → Type 0
    HearsRefused after r = (k : RefusesLent holding policy old new before after r)
        × HearsMore hears first now (heard_refused holding policy old new before k)

module _ {L X : Type 0} (hears : L → L → List Report → Type 0)
    (fails : L → L → Report → X → Type 0) (first now : L) (holding : Bool) (policy : Policy) where
  -- instructions are observed in turn, and the audience fails at the one after them
  abbrev pub FailsInTurn : ℕ → List ℕ → SessionView → ℕ → ℕ → X → Type 0
  FailsInTurn at bytes before count size error =
      (here : StopsAt holding policy at bytes before count)
      × (size ≡ length (spelling here.instruction))
      × ((between : L) × HearsMore hears first between here.earlier
      × fails between now
      (heard_before holding (at + count) here.instruction here.between.machine) error)

  -- the same of instructions at hand
  abbrev pub FailsAtHand : ReaderState → ReaderState → SessionView → X → Type 0
  FailsAtHand old new before error = (k : FailsLent holding policy old new before)
      × ((between : L) × HearsMore hears first between k.here.earlier
      × fails between now
      (heard_before holding (old.taken + k.before_it) k.here.instruction k.here.between.machine)
      error)
