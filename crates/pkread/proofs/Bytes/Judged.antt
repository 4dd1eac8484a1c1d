-- What was gathered is judged.
use Rattle.std.proofs.Common.{◌≡◌, ◌≢◌, ℕ, ◌<◌, ◌≤◌, List, [], ◌∷◌, ◌++◌, length, take, Option}
use Rattle.std.proofs.Common.{Some, None, Result, Ok, Err, refl, sym, ap, ◌∙◌, subst, inl, arith}
use Rattle.std.proofs.Common.{append-nil, IfErr, IfOk, IfSome, MatchResult, take_all, length-take}
use Rattle.pkops.specs.Answer.{IsWhole}
use Rattle.pkops.specs.Contents.{IsGood}
use Rattle.pkops.specs.Growth.{BegunLaws}
use Rattle.pkops.specs.KnownLayout.{Lies}
use Rattle.pkops.specs.Scans.{HasFault, longest}
use Rattle.pkops.specs.Spelling.{Argument, Instruction, instruction, spelling}
use Rattle.pkops.specs.Table.{code_of}
use Rattle.pkops.specs.declared.Fault.TheVariants as fault
use Rattle.pkops.specs.declared.Op.{Op}
use Rattle.pkops.specs.declared.Reason.TheVariants.{Source, UnknownOpcode, BadArgument}
use Rattle.pkops.specs.declared.Reason.TheVariants.{TooLarge, ExtensionCode, UnsupportedProtocol}
use Rattle.pkread.proofs.Bytes.Behind.{fronts_more, stops_lacking}
use Rattle.pkread.proofs.Calls.Next.{IsGathered}
use Rattle.pkread.proofs.Bytes.LinesBehind.{stops_more}
use Rattle.pkread.proofs.Reasons.Objections.{objection_is_amiss}
use Rattle.pkread.proofs.Reasons.OneRow.{OneAnswer, one_row}
use Rattle.pkread.specs.Admission.{objection}
use Rattle.pkread.proofs.Bytes.Taken.{took_both}
use Rattle.pkread.specs.Private.Arms.{Finds, Gathers, Grows, IsFound, RowBehind, Stops, TakesFound}
use Rattle.pkread.specs.Private.Arms.{TakesWhole}
use Rattle.pkread.specs.Private.Progress.{Intake}
use Rattle.pkread.specs.Rows.{Reason, FrontsBegin, IsAmiss, Refuses, ShowsReason, Sight, Takes}
use Rattle.pkread.specs.Private.Judgement.{TakesAnyArgument}
use Rattle.pkread.specs.Private.Reads.{LacksSome, Took}
use Rattle.pkread.specs.declared.gather.Found.{Found}

-- what is good is whole
pub whole_of : (limit : ℕ) (o : Op) (arg : Argument) (split : ℕ) (b : List ℕ) →
    Lies limit o arg split b → IsGood (instruction o arg) →
    IsWhole limit b (instruction o arg) (length b)
whole_of limit o arg split b l good = record {
  fits = omega arith;
  spells = record { spelled = take_all (length b) b (omega arith) ∙ l.spelled; good = good };
  within = l.laid.within;
}

pub broken_of : (limit : ℕ) (o : Op) (arg : Argument) (split : ℕ) (b : List ℕ) →
    Lies limit o arg split b → (IsGood (instruction o arg) → ⊥) → HasFault limit fault.BadArgument b
broken_of limit o arg split b l bad = inl (
  instruction o arg,
  [],
  record {
    laid = l.laid;
    parts = l.spelled ∙ sym (append-nil (spelling (instruction o arg)));
    bad = bad;
  },
)

pub if_some : {A : Type 0} {P : A → Type 0} (r : Option A) → ((x : A) → r ≡ Some x → P x) →
    IfSome r P
if_some None f = tt
if_some (Some x) f = f x refl

-- a good instruction that is not admitted
pub objected : (limit : ℕ) (o : Op) (arg given : Argument) (split : ℕ) (b : List ℕ) (i :
    Instruction) (found : Option Reason) → IsGood (instruction o given) → i ≡ instruction o given →
    found ≡ objection i → given ≡ arg → Lies limit o arg split b → (x : Reason) → found ≡ Some x →
    IsAmiss limit b x
objected limit o arg given split b i found h is f same l x g =
    let good : IsGood (instruction o arg) =
    subst (λ (a : Argument). IsGood (instruction o a)) same h in
    objection_is_amiss (whole_of limit o arg split b l good)
    (ap (λ (a : Argument). objection (instruction o a)) (sym same)
    ∙ (ap objection (sym is) ∙ (sym f ∙ g)))

amiss_behind : (limit : ℕ) (m n : Sight) (run b : List ℕ) (u : ℕ) (r : Reason) → Takes m n run →
    IsAmiss limit b r → RowBehind limit m n run b u r
amiss_behind limit m n run b u (UnknownOpcode c) k w = (k, w)
amiss_behind limit m n run b u BadArgument k w = (k, w)
amiss_behind limit m n run b u TooLarge k w = (k, inl w)
amiss_behind limit m n run b u ExtensionCode k w = (k, w)
amiss_behind limit m n run b u (UnsupportedProtocol p) k w = (k, w)
amiss_behind limit m n run b u _ k w = absurd w

-- an instruction that is amiss once it is whole
pub stops_amiss : BegunLaws → (limit : ℕ) (o : Op) (arg : Argument) (split : ℕ) (c : List ℕ)
    (old new : Intake) (r : Reason) → Took c old new → Lies limit o arg split new.bytes →
    IsAmiss limit new.bytes r → Stops limit old new r
stops_amiss laws limit o arg split c old new r k l w = record {
  bytes = c;
  held = k.held;
  count_is = k.count;
  fronts = laws.whole limit o arg split new.bytes l;
  row = amiss_behind limit old.source new.source c new.bytes new.taken r k.source w;
}

-- any argument of a plain opcode is good and admitted
pub plain_finds : (limit : ℕ) (o : Op) (split : ℕ) (old new : Intake) → TakesAnyArgument o →
    Grows limit o split old new → Finds limit o split old new
plain_finds limit o split old new p g =
    let good : IsGood (instruction o g.arg) =
    record { suits = g.lies.laid.suits; contents = rw p.contents tt } in
    let found : IsFound limit new.bytes o split =
    record { arg = g.arg; lies = g.lies; good = good; admitted = p.admitted g.arg } in
    record { bytes = g.bytes; took = g.took; found = found }

-- what was taken is judged
module _ (o : Op) (split : ℕ) (old new : Intake) (b : List ℕ) (same : b ≡ new.bytes) where
  pub all_find : (limit : ℕ) → Grows limit o split old new →
      ((l : ℕ) (arg : Argument) → Lies l o arg split b →
      IsGood (instruction o arg) × (objection (instruction o arg) ≡ None)) →
      Finds limit o split old new
  all_find limit g h =
      let j = h limit g.arg (rw same g.lies) in
      let found : IsFound limit new.bytes o split =
      record { arg = g.arg; lies = g.lies; good = j.0; admitted = j.1 } in
      record { bytes = g.bytes; took = g.took; found = found }

  pub all_stop : BegunLaws → (limit : ℕ) (r : Reason) → Grows limit o split old new →
      ((l : ℕ) (arg : Argument) → Lies l o arg split b → IsAmiss l b r) → Stops limit old new r
  all_stop laws limit r g h =
      let w = h limit g.arg (rw same g.lies) in
      stops_amiss laws limit o g.arg split g.bytes old new r g.took g.lies (rw same at w)

  pub all_judged : {A : Type 0} → BegunLaws → (limit : ℕ) (r : Result A Reason) →
      Grows limit o split old new →
      IfOk r (λ _. (l : ℕ) (arg : Argument) → Lies l o arg split b →
      IsGood (instruction o arg) × (objection (instruction o arg) ≡ None)) →
      IfErr r (λ x. (l : ℕ) (arg : Argument) → Lies l o arg split b → IsAmiss l b x) →
      MatchResult r (λ _. Finds limit o split old new) (Stops limit old new)
  all_judged laws limit (Ok x) g good amiss = all_find limit g good
  all_judged laws limit (Err x) g good amiss = all_stop laws limit x g amiss

none_of : (c : List ℕ) → length c < 1 → c ≡ []
none_of [] l = refl
none_of (x ∷ c) l = absurd (omega arith)

-- no code came
pub code_stops : BegunLaws → (limit : ℕ) (old new : Intake) (r : Reason) → old.bytes ≡ [] →
    LacksSome 1 old new r → Stops limit old new r
code_stops laws limit old new r e s =
    stops_lacking laws limit 1 old new r s (rw (e, none_of s.bytes s.lacks) (laws.nothing limit))

-- a code of no opcode
pub unknown_stops : BegunLaws → (limit x : ℕ) (old new : Intake) → old.bytes ≡ [] →
    Took (x ∷ []) old new → ((o : Op) → code_of o ≢ x) → Stops limit old new (UnknownOpcode x)
unknown_stops laws limit x old new e k none =
    let is : new.bytes ≡ x ∷ [] = k.held ∙ ap (λ (b : List ℕ). b ++ x ∷ []) e in
    let w : HasFault limit (fault.UnknownOpcode x) (x ∷ []) = ([], refl, none) in
    record {
      bytes = x ∷ [];
      held = k.held;
      count_is = k.count;
      fronts = rw is (fronts_more laws limit [] x (laws.nothing limit));
      row = (k.source, rw is w);
    }

row_of : (limit : ℕ) (m n : Sight) (b : List ℕ) (u : ℕ) (r : Reason) →
    RowBehind limit m n b b u r → ShowsReason limit m n b u r
row_of limit m n b u Source w = w
row_of limit m n b u _ w = w

-- what stops with all the bytes taken is refused
pub refuses_of : OneAnswer → (limit : ℕ) (old new : Intake) (r : Reason) → old.bytes ≡ [] →
    Stops limit old new r →
    Refuses limit old.source new.source new.bytes old.taken new.taken r
refuses_of one limit old new r e s =
    let is : new.bytes ≡ s.bytes = s.held ∙ ap (λ (c : List ℕ). c ++ s.bytes) e in
    let row : ShowsReason limit old.source new.source new.bytes new.taken r =
    row_of limit old.source new.source new.bytes new.taken r
    (subst (λ c. RowBehind limit old.source new.source c new.bytes new.taken r) (sym is) s.row) in
    record {
      taken = omega (arith, s.count_is, ap length is);
      fronts = s.fronts;
      row = row;
      alone = one_row one limit old.source new.source new.bytes new.taken r row;
    }

-- what was found was gathered
pub gathers_of : BegunLaws → (limit : ℕ) (old new : Intake) (f : Found) → old.bytes ≡ [] →
    Finds limit f.op f.split old new → Gathers limit old new
gathers_of laws limit old new f e k =
    let is : new.bytes ≡ k.bytes = k.took.held ∙ ap (λ (c : List ℕ). c ++ k.bytes) e in
    record {
      taken = omega (arith, k.took.count, ap length is);
      fronts = laws.whole limit f.op k.found.arg f.split new.bytes k.found.lies;
      source = rw is k.took.source;
    }

pub whole_taken : BegunLaws → OneAnswer → (limit : ℕ) (old new : Intake)
    (r : Result Found Reason) → old.bytes ≡ [] → TakesFound limit r old new →
    TakesWhole limit r old new
whole_taken laws one limit old new (Ok f) e k = (k.found, gathers_of laws limit old new f e k)
whole_taken laws one limit old new (Err x) e k = refuses_of one limit old new x e k

-- bytes of which each shorter front begins an instruction are not many
pub short : BegunLaws → (limit : ℕ) (b : List ℕ) → FrontsBegin limit b → length b ≤ longest limit
short laws limit [] f = omega arith
short laws limit (x ∷ b) f =
    let s = laws.short limit (take (length b) (x ∷ b)) (f (length b) (omega arith)) in
    omega (arith, s, length-take (length b) (x ∷ b))

pub bounded : BegunLaws → (limit : ℕ) (old new : Intake) (r : Result Found Reason) →
    TakesFound limit r old new → length new.bytes ≤ longest limit
bounded laws limit old new (Ok f) k =
    short laws limit new.bytes (laws.whole limit f.op k.found.arg f.split new.bytes k.found.lies)
bounded laws limit old new (Err x) k = short laws limit new.bytes k.fronts

-- as the lemmas on a reader's step take it
abbrev pub found_gathered : (limit : ℕ) (b : List ℕ) (o : Op) (split : ℕ) →
    IsFound limit b o split → IsGathered limit b o
found_gathered limit b o split f = record {
  instruction = instruction o f.arg;
  whole = whole_of limit o f.arg split b f.lies f.good;
  admitted = f.admitted;
  opcode = refl;
}

-- what comes behind a code comes behind what was held before it
pub found_more : (limit : ℕ) (c : List ℕ) (old mid new : Intake) (r : Result Found Reason) →
    Took c old mid → TakesFound limit r mid new → TakesFound limit r old new
found_more limit c old mid new (Ok f) k h =
    record {
      bytes = c ++ h.bytes;
      took = took_both c h.bytes old mid new k h.took;
      found = h.found;
    }
found_more limit c old mid new (Err x) k h = stops_more limit c old mid new x k h
