-- What the checker knows of objects is what a domain carries: `learn` is a case of `followed`.
use Rattle.std.specs.Prelude.{◌≡◌, ⊤, List, None, Ok, unwrap_or}
use Rattle.pkops.specs.Limits.{Bounds}
use Rattle.pkops.specs.Spelling.{Instruction}
use Rattle.pkmachine.specs.declared.old_strings.OldStrings.{OldStrings}
use Rattle.pkmachine.specs.Effects.{Effect, Operates, effect_as}
use Rattle.pkmachine.specs.Following.{Carried, Follower, followed}
use Rattle.pkmachine.specs.Knowledge.{Known, Knowledge, Policy, Progress, advance, known_given}

-- what is known about the object that an instruction with this effect makes
abbrev pub known_made : Effect → Instruction → Known
known_made (Operates takes names gives) instruction = unwrap_or (known_given gives instruction) None
known_made effect instruction = None

-- the domain that keeps what this says of each new object, and nothing else
abbrev pub knows_by : (Instruction → Known) → Follower Known ⊤
knows_by known = record {
  given = λ domain instruction operands. known instruction;
  after = λ domain instruction operands. tt;
  after_move = λ domain move kept instruction. tt;
  after_stop = λ domain. tt;
}

-- the domain that keeps what the checker knows, given the decoding of old strings
abbrev pub knows : OldStrings → Follower Known ⊤
knows setting = knows_by (λ instruction. known_made (effect_as setting instruction) instruction)

-- what the checker knows, as what that domain carries
abbrev pub knowledge_carried : Knowledge → Carried Known ⊤
knowledge_carried known = record { shape = known; domain = tt }

-- after an accepted instruction the checker knows what the domain carries
abbrev pub KnowledgeIsFollowed : Type 0
KnowledgeIsFollowed =
    (setting : OldStrings) (policy : Policy) (limits : Bounds) (instruction : Instruction)
    (known : Knowledge) (progress : Progress)
    → advance setting policy limits instruction known ≡ Ok progress
    → followed (knows setting) instruction (knowledge_carried known)
    ≡ Ok (knowledge_carried progress.after)
