-- What the fields of the stack, the memo and the text table mean.
use Rattle.std.specs.Prelude.{ℕ, ◌<◌, List, [], Option, Some, None, map, ◌≡◌, length, ⊤, get_or}
use Rattle.pkmachine.specs.declared.held.Held.{Held}
use Rattle.pkmachine.specs.declared.value.Value.{Value}
use Rattle.pkmachine.specs.declared.value.Value.TheVariants as value
use Rattle.pkmachine.specs.Runs.{Text, Plain}
use Rattle.pkstack.specs.Shape.{Entry, Mark, Item, Shape}
use Rattle.pkmachine.specs.Covers.{Pointwise, AlikeEntry, Alike}
use Rattle.pkmachine.specs.Knowledge.{Known, Knowledge}
use Rattle.pkimport.specs.Import.{Asked}

-- the number of a text is below `count`
abbrev pub IsTextBelow : ℕ → Value → Type 0
IsTextBelow count (value.Text n) = n < count
IsTextBelow count v = ⊤

-- what is known about a value, in the terms of the public definitions, given a table of texts
abbrev pub value_known : List (List ℕ) → Value → Known
value_known ts value.Unknown = None
value_known ts (value.Made c) = Some (Plain c)
value_known ts (value.Text n) = Some (Text (get_or ts n []))

-- like IsTextBelow, for what is kept of an object
abbrev pub IsNumbered : {I : Type 0} → ℕ → Held I → Type 0
IsNumbered count held = IsTextBelow count held.value

-- relative to a table of texts
module _ {I : Type 0} (ts : List (List ℕ)) where
  -- what is known about an object
  abbrev pub known : Held I → Known
  known held = value_known ts held.value

  abbrev pub entry_seen : Entry (Held I) → Entry Known
  entry_seen Mark = Mark
  entry_seen (Item v) = Item (known v)

  -- what is known about the stack
  abbrev pub seen : List (Entry (Held I)) → List (Entry Known)
  seen es = map entry_seen es

  -- what is known about the memo
  abbrev pub remembered : List (ℕ × Held I) → List (ℕ × Known)
  remembered cells = map (λ e. (e.0, known e.1)) cells

  -- what is known about the stack and the memo
  abbrev pub resolved : Shape (Held I) → Knowledge
  resolved h = record { entries = seen h.entries; memo = remembered h.memo }

  -- this is known about the object, and it refers only to texts in the table
  pub record StandsAs (v : Held I) (k : Known) : Type 0 where
    pub is : known v ≡ k
    pub numbered : IsNumbered (length ts) v

  -- like StandsAs, if there is an object
  abbrev pub StandsIf : Option (Held I) → Option Known → Type 0
  StandsIf None None = ⊤
  StandsIf (Some v) (Some k) = StandsAs v k
  StandsIf _ _ = ⊥

  -- like StandsAs, for every entry of the stack
  abbrev pub Sees : List (Entry (Held I)) → List (Entry Known) → Type 0
  Sees es ks = Pointwise (AlikeEntry StandsAs) es ks

  -- like StandsAs, for the stack and the memo
  abbrev pub Resolves : Shape (Held I) → Type 0
  Resolves h = Alike StandsAs h (resolved h)

-- the knowledge, the number of texts in the table, and the imports so far
pub record StateView : Type 0 where
  pub knowledge : Knowledge
  pub texts : ℕ
  pub imports : List Asked
