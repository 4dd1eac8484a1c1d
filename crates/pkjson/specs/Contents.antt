-- What each object of a run contains at the end, computed from the events.
use Rattle.std.specs.Prelude.{◌==◌, ℕ, zero, suc, Bool, true, false, cond, List, [], ◌∷◌, ◌++◌}
use Rattle.std.specs.Prelude.{Option, Some, None, option_map, unwrap_or}
use Rattle.std.specs.Ordering.{nat_cmp}
use Rattle.std.specs.Cmp.Lexicographic.{slice_cmp}
use Rattle.std.specs.BTreeMap.{insert_entry}
use Rattle.serde_json.specs.Data.{Data, null, boolean, number, string}
use Rattle.serde_json.specs.Find.{of_integer}
use Rattle.pkops.specs.declared.Op.{Op}
use Rattle.pkops.specs.declared.Op.TheVariants as op
use Rattle.pkops.specs.Operands.{names_bool}
use Rattle.pkops.specs.Spelling.{Argument, Line, Instruction}
use Rattle.pkops.specs.Text.{text_bytes}
use Rattle.pkmachine.specs.declared.effect.Class.TheVariants as class
use Rattle.pkmachine.specs.declared.effect.Gives.{Gives}
use Rattle.pkmachine.specs.declared.effect.Gives.TheVariants.{Makes, MakesIntOrBool, MakesText}
use Rattle.pkmachine.specs.declared.effect.Gives.TheVariants.{MayMake, Answers}
use Rattle.pkmachine.specs.Effects.{Effect, Operates, effect_of}
use Rattle.pkmachine.specs.Runs.{Event, Did}
use Rattle.pkjson.specs.Unfolds.{Content, Scalar, Sequence, Pairs, Heap}
use Rattle.pkjson.specs.Integers.{integer_named}

-- equality of two numbers
abbrev pub same : ℕ → ℕ → Bool
same zero zero = true
same (suc m) (suc n) = same m n
same m n = false

-- the objects that an event gives to object n: those it is made from, or those it receives
abbrev pub given_to : ℕ → Event → List ℕ
given_to n (Did i xs (Some m)) = cond (same m n) xs []
given_to n (Did i (r ∷ xs) None) = cond (same r n) xs []
given_to n e = []

-- everything that object n was given, in order
abbrev pub all_given : ℕ → List Event → List ℕ
all_given n [] = []
all_given n (e ∷ es) = given_to n e ++ all_given n es

-- the instruction that made the object
abbrev pub maker : ℕ → List Event → Option Instruction
maker n [] = None
maker n (Did i xs (Some m) ∷ es) = cond (same m n) (Some i) (maker n es)
maker n (e ∷ es) = maker n es

-- what an opcode gives
abbrev pub gives_of : Effect → Gives
gives_of (Operates takes names gives) = gives
gives_of e = Answers

-- whether the opcode is NEWTRUE rather than NEWFALSE
abbrev pub is_true : Op → Bool
is_true op.NewTrue = true
is_true _ = false

-- whether an argument of INT is 01 rather than 00
abbrev pub says_true : Argument → Bool
says_true (Line (c ∷ d ∷ [])) = d == 49
says_true arg = false

-- the kind of object that an instruction makes: a list or a tuple, a dict, or a scalar with this
-- value
pub data Kind : Type 0 where
  OfItems : Kind
  OfPairs : Kind
  OfValue : Data → Kind

-- the value of an INT: False, True or an integer
abbrev pub int_value : Instruction → Data
int_value i =
    cond (names_bool i) (boolean (says_true i.arg)) (number (of_integer (integer_named i.arg)))

-- the characters of the text that an instruction names
abbrev pub text_named : Instruction → List ℕ
text_named i = unwrap_or (text_bytes i) []

-- the kind of an object, from what its opcode gives; plain instructions make objects of no other
-- class
abbrev pub kind_given : Gives → Instruction → Kind
kind_given (Makes class.List) i = OfItems
kind_given (Makes class.Tuple) i = OfItems
kind_given (Makes class.Dict) i = OfPairs
kind_given (MayMake c) i = OfPairs
kind_given (Makes class.None) i = OfValue null
kind_given (Makes class.Bool) i = OfValue (boolean (is_true i.op))
kind_given MakesText i = OfValue (string (text_named i))
kind_given MakesIntOrBool i = OfValue (int_value i)
kind_given g i = OfValue (number (of_integer (integer_named i.arg)))

abbrev pub kind_by_effect : Instruction → Kind
kind_by_effect i = kind_given (gives_of (effect_of i.op)) i

-- the kind of each object
abbrev pub kinds : List Event → ℕ → Option Kind
kinds es n = option_map kind_by_effect (maker n es)

-- the characters of a text
abbrev pub characters : Option Kind → List ℕ
characters (Some (OfValue (string t))) = t
characters k = []

-- keys paired with their values; every key is text
abbrev pub paired : (ℕ → Option Kind) → List ℕ → List (List ℕ × ℕ)
paired kinds (k ∷ x ∷ xs) = (characters (kinds k), x) ∷ paired kinds xs
paired kinds xs = []

-- the last pair of each key, in the order of the keys
abbrev pub standing : List (List ℕ × ℕ) → List (List ℕ × ℕ) → List (List ℕ × ℕ)
standing before [] = before
standing before (p ∷ ps) = standing (insert_entry (slice_cmp nat_cmp) before p.0 p.1) ps

-- what an object of this kind contains after it was given these
abbrev pub held_by : (ℕ → Option Kind) → List ℕ → Kind → Content
held_by kinds xs OfItems = Sequence xs
held_by kinds xs OfPairs = Pairs (standing [] (paired kinds xs))
held_by kinds xs (OfValue v) = Scalar v

-- what each object contains
abbrev pub contents : List Event → Heap
contents es n = option_map (held_by (kinds es) (all_given n es)) (kinds es n)
