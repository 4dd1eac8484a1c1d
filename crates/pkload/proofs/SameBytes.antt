-- What two checks of the same bytes may say of one pickle.
use Rattle.std.proofs.Common.{◌≡◌, ◌≢◌, ◌+◌, ◌≤◌, ℕ, ◌⊎◌, inl, inr, List, [], ◌∷◌, ◌++◌, length}
use Rattle.std.proofs.Common.{append-nil, append_assoc, length-append, Option, Some, None, Result}
use Rattle.std.proofs.Common.{Ok, refl, sym, ap, subst, ◌∙◌, arith}
use Rattle.std.proofs.lemmas.Grind.{flat_map-append}
use Rattle.std.specs.Io.KnownBytes.{Consumes}
use Rattle.std.specs.Prelude.{All, flat_map}
use Rattle.pkops.specs.Limits.{Bounds}
use Rattle.pkops.specs.Payloads.{payload_limit}
use Rattle.pkops.specs.Spelling.{Instruction, spelling}
use Rattle.pkops.specs.declared.Op.TheVariants as op
use Rattle.pkops.specs.declared.Reason.{Reason}
use Rattle.pkops.specs.declared.Reason.TheVariants as reason
use Rattle.pkread.specs.Admission.{IsAllowedBy}
use Rattle.pkread.specs.Rows.{Sight, Takes, all_bytes}
use Rattle.pkread.specs.Sequence.{spellings}
use Rattle.pkread.specs.Sequences.{OneFront, SequenceGoesOn}
use Rattle.pkcheck.specs.Accepted.{AcceptedFrom}
use Rattle.pkcheck.specs.Exclusive.{OneBegins, RefusedBehind}
use Rattle.pkmachine.specs.Knowledge.{Policy}
use Rattle.pkimport.specs.Import.{Asked}
use Rattle.pkcheck.specs.Refused.{RefusedFrom}
use Rattle.pkcheck.specs.RowOfPickles.{begins, bytes_of_all}
use Rattle.pkmachine.specs.RowRuns.{Pickle, sequences_of}
use Rattle.pkstack.specs.Shape.{Breach, and_then}
use Rattle.pkcheck.specs.declared.loading.Loading.{Loading}
use Rattle.pkmachine.specs.declared.memo.Memo.{Memo}
use Rattle.pkmachine.specs.declared.memo.Memo.TheVariants.{Fresh, Kept}
use Rattle.pkload.proofs.Costs.{all_front, billed_with, each_at}
use Rattle.pkload.proofs.Loading.{all_good, none_ends}
use Rattle.pkload.proofs.Staying.{excess_stays}
use Rattle.pkload.specs.Bill.{Bill, all_billed, bill_before, no_bill, row_billed}
use Rattle.pkload.specs.Costly.{ExceedsIn}
use Rattle.pkload.specs.Loading.{CostsWithin, StaysWithin}
use Rattle.pkload.specs.Tolls.{Exceeds, KeepsWithin}
use Rattle.pkload.specs.declared.tally.Tally.{Tally}
use Rattle.pkload.specs.declared.tolls.Excess.{Excess}
use Rattle.pkload.specs.declared.tolls.Excess.TheVariants.{BuildsImport, DeepKey, HeavyKeys}
use Rattle.pkload.specs.declared.tolls.Excess.TheVariants.{ManyKeys, MuchMemory, OutOfMemory}
use Rattle.pkload.specs.declared.tolls.Tolls.{Tolls}

-- ---- lists and bytes

pub consumed : (old : Sight) (bytes run : List ℕ) (new : Sight) → old.left ≡ Some bytes
    → Takes old new run → (rest : List ℕ) × (new.left ≡ Some rest) × (bytes ≡ run ++ rest)
consumed old bytes run new is t =
    left_by new.left (subst (λ o. Consumes o new.left run) is t.bytes)
  where
    left_by : (o : Option (List ℕ)) → Consumes (Some bytes) o run
        → (rest : List ℕ) × (o ≡ Some rest) × (bytes ≡ run ++ rest)
    left_by None h = absurd h
    left_by (Some rest) h = (rest, refl, h)

spelled_with : (is js : List Instruction) (rest : List ℕ)
    → spellings (is ++ js) ++ rest ≡ spellings is ++ (spellings js ++ rest)
spelled_with is js rest = ap (λ l. l ++ rest) (flat_map-append spelling is js)
    ∙ append_assoc (spellings is) (spellings js) rest

same_last : (is js : List Instruction) (i j : Instruction) → is ++ i ∷ [] ≡ js ++ j ∷ []
    → (is ≡ js) × (i ≡ j)
same_last [] [] i j e = (refl, cc)
same_last [] (y ∷ js) i j e = absurd (none_ends js j [] (cc))
same_last (x ∷ is) [] i j e = absurd (none_ends is i [] (cc))
same_last (x ∷ is) (y ∷ js) i j e = let s = same_last is js i j (cc) in (cc, s.1)

-- what begins with more than the first list has more than it before its last
split_last : (is js : List Instruction) (i j : Instruction) (more : List Instruction)
    → is ++ i ∷ [] ≡ js ++ j ∷ more → (between : List Instruction) × (is ≡ js ++ between)
split_last is [] i j more e = (is, refl)
split_last [] (y ∷ js) i j more e = absurd (none_ends js j more (cc))
split_last (x ∷ is) (y ∷ js) i j more e =
    let s = split_last is js i j more (cc) in (s.0, cc)

-- ---- limits

-- of two limits, the one that is tried earlier isn't exceeded
pub same_excess : (tolls : Tolls) (t : Tally) (m : ℕ) (a b : Excess) → Exceeds a tolls t m
    → Exceeds b tolls t m → a ≡ b
same_excess tolls t m DeepKey DeepKey h g = refl
same_excess tolls t m HeavyKeys HeavyKeys h g = refl
same_excess tolls t m ManyKeys ManyKeys h g = refl
same_excess tolls t m MuchMemory MuchMemory h g = refl
same_excess tolls t m BuildsImport BuildsImport h g = refl
same_excess tolls t m OutOfMemory b h g = absurd h.0
same_excess tolls t m a OutOfMemory h g = absurd g.0
same_excess tolls t m _ _ h g = absurd (omega arith)

-- ---- bills

pub same_bill : (a b : Bill) → ◌≡◌ {A = Result Bill Breach} (Ok a) (Ok b) → a ≡ b
same_bill a b e = cc

-- the bill behind pickles depends on their instructions alone
abbrev bill_behind : Memo → List (List Instruction) → Result Bill Breach
bill_behind Fresh pickles = Ok no_bill
bill_behind Kept pickles = row_billed pickles no_bill

behind_is : (memo : Memo) (xs : List Pickle)
    → bill_before (begins memo xs) ≡ bill_behind memo (sequences_of xs)
behind_is Fresh xs = refl
behind_is Kept [] = refl
behind_is Kept (x ∷ xs) = refl

pub bill_alike : (memo : Memo) (xs ys : List Pickle) → sequences_of xs ≡ sequences_of ys
    → bill_before (begins memo xs) ≡ bill_before (begins memo ys)
bill_alike memo xs ys e = behind_is memo xs ∙ ap (bill_behind memo) e ∙ sym (behind_is memo ys)

-- ---- one pickle

module _ (loading : Loading) (policy : Policy) (limits : Bounds) (tolls : Tolls)
    (xs ys : List Pickle) (same : sequences_of xs ≡ sequences_of ys) where
  abbrev Over : Sight → ℕ → Excess → Type 0
  Over here at excess = ExceedsIn loading policy limits tolls here xs at excess

  over_bill : (here : Sight) (at : ℕ) (excess : Excess) (e : Over here at excess)
      → and_then (bill_before (begins loading.memo xs))
      (all_billed (e.reached.instructions ++ e.reached.last ∷ []))
      ≡ Ok e.bill
  over_bill here at excess e = billed_with e.reached.instructions e.reached.last
      (bill_before (begins loading.memo xs)) e.reached.earlier e.bill e.reached.so_far e.adds

  -- what keeps within the limits doesn't begin with what exceeds one
  pub over_within : (here : Sight) (at : ℕ) (excess : Excess) (e : Over here at excess)
      (is more : List Instruction) → is ≡ (e.reached.instructions ++ e.reached.last ∷ []) ++ more
      → (after : Bill)
      → and_then (bill_before (begins loading.memo ys)) (all_billed is) ≡ Ok after
      → KeepsWithin tolls after.tally after.memory → ⊥
  over_within here at excess e is more parts after h w =
      excess_stays excess tolls (begins loading.memo xs)
      (e.reached.instructions ++ e.reached.last ∷ []) more e.bill after (over_bill here at excess e)
      e.exceeds
      (ap (λ x. and_then x (all_billed ((e.reached.instructions ++ e.reached.last ∷ []) ++ more)))
      (bill_alike loading.memo xs ys same)
      ∙ subst (λ l. and_then (bill_before (begins loading.memo ys)) (all_billed l) ≡ Ok after) parts
      h) w

  module _ (bytes : List ℕ) (here there : Sight) (is : here.left ≡ Some bytes)
      (also : there.left ≡ Some bytes) where
    -- an accepted pickle that keeps within the limits exceeds none
    pub yes_or_over : OneFront → SequenceGoesOn → (after : Sight) (taken at : ℕ)
        (imports : List Asked) (excess : Excess)
        (a : AcceptedFrom loading.old_strings (begins loading.memo ys) policy limits there after
        taken imports) (instructions : List Instruction) → a.instructions ≡ instructions
        → CostsWithin loading.old_strings (begins loading.memo ys) tolls instructions
        → Over here at excess → ⊥
    yes_or_over front goes after taken at imports excess a p named w e =
        let c = consumed there bytes (spellings a.instructions) after also a.bytes in
        let q = e.reached in
        let d = consumed here bytes (spellings (q.instructions ++ q.last ∷ [])) q.there is q.bytes
        in
        let g = goes (payload_limit limits) (payload_limit limits) a.instructions q.instructions c.0
        (spellings (q.last ∷ []) ++ d.0) a.sequence
        (all_front limits q.instructions (q.last ∷ []) q.admitted) q.goes_on
        (sym c.2 ∙ d.2 ∙ spelled_with q.instructions (q.last ∷ []) d.0) in
        let f = front q.last g.next d.0 (spellings g.after ++ c.0)
        (each_at (IsAllowedBy (payload_limit limits)) q.instructions q.last [] q.admitted).good
        (each_at (IsAllowedBy (payload_limit limits)) q.instructions g.next g.after
        (subst (All (IsAllowedBy (payload_limit limits))) g.split a.sequence.each)).good
        (sym (ap (λ l. l ++ d.0) (append-nil (spelling q.last))) ∙ g.bytes) in
        over_within here at excess e p g.after
        (sym named ∙ g.split ∙ ap (λ j. q.instructions ++ j ∷ g.after) (sym f.0)
        ∙ sym (append_assoc q.instructions (q.last ∷ []) g.after)) w.bill w.billed w.within

    -- nor does one that is refused, where all before the refused instruction keeps within them
    pub refused_or_over : RefusedBehind → (after : Sight) (place at : ℕ) (r : Reason)
        (pair : Option Asked) (excess : Excess)
        → length (bytes_of_all ys) + length bytes ≤ all_bytes
        → (x : RefusedFrom (length (bytes_of_all ys)) loading.old_strings
        (begins loading.memo ys) policy limits there after place r pair)
        → r ≢ reason.Source → r ≢ reason.OutOfMemory
        → StaysWithin loading tolls ys x.instructions → Over here at excess → ⊥
    refused_or_over behind after place at r pair excess few x n m w e =
        let q = e.reached in
        let p = q.instructions ++ q.last ∷ [] in
        let d = consumed here bytes (spellings p) q.there is q.bytes in
        let k = behind loading xs ys policy limits bytes here q.there p (length (bytes_of_all ys))
        there after place r pair is also same
        (omega (arith, few, ap length d.2, length-append (spellings p) d.0)) q.admitted q.faultless
        q.bytes x n m in
        over_within here at excess e x.instructions k.0 k.1 w.bill w.billed w.within

    -- an accepted pickle isn't refused
    pub yes_or_refused : RefusedBehind → (between after : Sight) (taken place : ℕ)
        (imports : List Asked) (r : Reason) (pair : Option Asked)
        → length (bytes_of_all ys) + length bytes ≤ all_bytes
        → AcceptedFrom loading.old_strings (begins loading.memo xs) policy limits here between
        taken imports
        → RefusedFrom (length (bytes_of_all ys)) loading.old_strings (begins loading.memo ys)
        policy limits there after place r pair
        → r ≢ reason.Source → r ≢ reason.OutOfMemory → ⊥
    yes_or_refused behind between after taken place imports r pair few a x n m =
        let d = consumed here bytes (spellings a.instructions) between is a.bytes in
        let k = behind loading xs ys policy limits bytes here between a.instructions
        (length (bytes_of_all ys)) there after place r pair is also same
        (omega (arith, few, ap length d.2, length-append (spellings a.instructions) d.0))
        a.sequence.each a.faultless a.bytes x n m in
        let s = a.sequence.stops in
        each_at (λ i. i.op ≢ op.Stop) s.0 s.1 k.0
        (subst (All (λ i. i.op ≢ op.Stop))
        (k.1 ∙ ap (λ l. l ++ k.0) s.2 ∙ append_assoc s.0 (s.1 ∷ []) k.0) x.goes_on) s.3

-- a pickle exceeds one limit first, at one place
module _ (loading : Loading) (policy : Policy) (limits : Bounds) (tolls : Tolls)
    (xs ys : List Pickle) (same : sequences_of xs ≡ sequences_of ys) (bytes : List ℕ)
    (here there : Sight) (is : here.left ≡ Some bytes) (also : there.left ≡ Some bytes)
    (at place : ℕ) (excess another : Excess)
    (e : ExceedsIn loading policy limits tolls here xs at excess)
    (f : ExceedsIn loading policy limits tolls there ys place another) where
  abbrev first : List Instruction
  first = e.reached.instructions ++ e.reached.last ∷ []

  abbrev second : List Instruction
  second = f.reached.instructions ++ f.reached.last ∷ []

  where_same : e.reached.instructions ≡ f.reached.instructions → first ≡ second
      → (at ≡ place) × (excess ≡ another)
  where_same alike all = (
    omega (
      arith,
      e.reached.place,
      f.reached.place,
      ap (λ ps. length (flat_map spellings ps)) same,
      ap (λ l. length (spellings l)) alike,
    ),
    same_excess tolls e.bill.tally e.bill.memory excess another e.exceeds
        (subst (λ b. Exceeds another tolls b.tally b.memory)
        (same_bill f.bill e.bill
        (sym (over_bill loading policy limits tolls ys xs (sym same) there place another f)
        ∙ ap (λ x. and_then x (all_billed second)) (bill_alike loading.memo ys xs (sym same))
        ∙ ap (λ l. and_then (bill_before (begins loading.memo xs)) (all_billed l)) (sym all)
        ∙ over_bill loading policy limits tolls xs ys same here at excess e))
        f.exceeds),
  )

  when_more : (more : List Instruction) → second ≡ first ++ more
      → (at ≡ place) × (excess ≡ another)
  when_more [] parts =
      let s = same_last f.reached.instructions e.reached.instructions f.reached.last e.reached.last
      (parts ∙ append-nil first) in
      where_same (sym s.0) (sym (parts ∙ append-nil first))
  when_more (j ∷ more) parts =
      let s = split_last f.reached.instructions first f.reached.last j more parts in
      absurd (over_within loading policy limits tolls xs ys same here at excess e
      f.reached.instructions s.0 s.1 f.reached.earlier f.reached.so_far f.reached.within)

  when_less : (more : List Instruction) → first ≡ second ++ more
      → (at ≡ place) × (excess ≡ another)
  when_less [] parts =
      let s = same_last e.reached.instructions f.reached.instructions e.reached.last f.reached.last
      (parts ∙ append-nil second) in where_same s.0 (parts ∙ append-nil second)
  when_less (j ∷ more) parts =
      let s = split_last e.reached.instructions second e.reached.last j more parts in
      absurd (over_within loading policy limits tolls ys xs (sym same) there place another f
      e.reached.instructions s.0 s.1 e.reached.earlier e.reached.so_far e.reached.within)

  pub one_excess : OneBegins → (at ≡ place) × (excess ≡ another)
  one_excess begin =
      let c = consumed here bytes (spellings first) e.reached.there is e.reached.bytes in
      let d = consumed there bytes (spellings second) f.reached.there also f.reached.bytes in
      by_part (begin first second c.0 d.0 (all_good limits first e.reached.admitted)
      (all_good limits second f.reached.admitted) (sym c.2 ∙ d.2))
    where
      by_part : ((behind : List Instruction) × (second ≡ first ++ behind))
          ⊎ ((behind : List Instruction) × (first ≡ second ++ behind))
          → (at ≡ place) × (excess ≡ another)
      by_part (inl k) = when_more k.0 k.1
      by_part (inr k) = when_less k.0 k.1
