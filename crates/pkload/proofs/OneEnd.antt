-- Two answers to the same bytes have the same end.
use Rattle.std.proofs.Common.{◌≡◌, ◌≢◌, ◌≤◌, ℕ, inl, inr, List, [], ◌∷◌, ◌++◌, length, append-nil}
use Rattle.std.proofs.Common.{append_assoc, length-append, Option, Some, Ok, Err, refl, sym, ap}
use Rattle.std.proofs.Common.{subst, ◌∙◌, arith}
use Rattle.std.specs.Io.KnownBytes.{IsAtEnd}
use Rattle.std.specs.Prelude.{flat_map, option_map}
use Rattle.pkops.specs.Limits.{Bounds}
use Rattle.pkops.specs.Payloads.{payload_limit}
use Rattle.pkops.specs.Spelling.{Instruction}
use Rattle.pkops.specs.declared.Reason.{Reason}
use Rattle.pkops.specs.declared.Reason.TheVariants as reason
use Rattle.pkread.specs.Rows.{Sight, Takes, all_bytes}
use Rattle.pkread.specs.Sequence.{spellings}
use Rattle.pkread.specs.Sequences.{OneFront, OneSequence, SequenceGoesOn}
use Rattle.pkcheck.specs.Exclusive.{OneBegins, RefusedBehind, YesExcludesNo, YesOfRowExcludesNo}
use Rattle.pkcheck.specs.OneRefusal.{OneRefusal}
use Rattle.pkimport.specs.Import.{Asked, asked_shown}
use Rattle.pkmachine.specs.Knowledge.{Policy}
use Rattle.pkcheck.specs.Refused.{RefusedFrom}
use Rattle.pkcheck.specs.RowOfPickles.{AreAccepted, begins, bytes_of_all}
use Rattle.pkmachine.specs.RowRuns.{Pickle, sequences_of}
use Rattle.pkstack.specs.Shape.{and_then}
use Rattle.pkcheck.specs.declared.check_loop.Extent.{Extent}
use Rattle.pkcheck.specs.declared.check_loop.Extent.TheVariants.{OnePickle, ToTheEnd}
use Rattle.pkcheck.specs.declared.check_loop.RefusedPickle.{RefusedPickle}
use Rattle.pkcheck.specs.declared.loading.Loading.{Loading}
use Rattle.pkload.proofs.Costs.{takes_none}
use Rattle.pkload.proofs.Loading.{sequences_with}
use Rattle.pkload.proofs.SameBytes.{bill_alike, same_bill, consumed, one_excess}
use Rattle.pkload.proofs.SameBytes.{refused_or_over, yes_or_over, yes_or_refused}
use Rattle.pkload.proofs.SameRows.{Compared, Longer, compare, first_empty, none_left, same_bytes}
use Rattle.pkload.proofs.SameRows.{none_spelled, same_count, takes_some}
use Rattle.pkload.specs.Bill.{Bill, all_billed, bill_before}
use Rattle.pkload.specs.Costly.{CostsTooMuch, ExceedsIn}
use Rattle.pkload.specs.Loading.{AcceptedWithBill, AcceptedWithin, CostsWithin, KeepWithin}
use Rattle.pkload.specs.Loading.{StaysWithin, bill_of, last_bill}
use Rattle.pkload.specs.OneEnd.{Fits, IsSameNo, Loaded, OneEndFits, SameEnd}
use Rattle.pkload.specs.declared.checking.Costly.{Costly}
use Rattle.pkload.specs.declared.checking.YesWithBill.{YesWithBill}
use Rattle.pkload.specs.declared.tolls.Excess.{Excess}
use Rattle.pkload.specs.declared.tolls.Tolls.{Tolls}

-- a pickle of a row that keeps within the limits does
kept_there : (loading : Loading) (tolls : Tolls) (front done : List Pickle) (x : Pickle)
    (more : List Pickle) → KeepWithin loading tolls done (front ++ x ∷ more)
    → CostsWithin loading.old_strings (begins loading.memo (done ++ front)) tolls x.instructions
kept_there loading tolls [] done x more h =
    subst (λ l. CostsWithin loading.old_strings (begins loading.memo l) tolls x.instructions)
    (sym (append-nil done)) h.0
kept_there loading tolls (y ∷ front) done x more h =
    subst (λ l. CostsWithin loading.old_strings (begins loading.memo l) tolls x.instructions)
    (append_assoc done (y ∷ []) front)
    (kept_there loading tolls front (done ++ y ∷ []) x more h.1)

module _ (loading : Loading) (tolls : Tolls) where
  one_bill : (xs ys : List Pickle) (p q : List Instruction) → sequences_of xs ≡ sequences_of ys
      → p ≡ q → (h : CostsWithin loading.old_strings (begins loading.memo xs) tolls p)
      (g : CostsWithin loading.old_strings (begins loading.memo ys) tolls q) → h.bill ≡ g.bill
  one_bill xs ys p q e f h g = same_bill h.bill g.bill
      (sym h.billed ∙ ap (λ x. and_then x (all_billed p)) (bill_alike loading.memo xs ys e)
      ∙ ap (λ l. and_then (bill_before (begins loading.memo ys)) (all_billed l)) f ∙ g.billed)

  -- the bill of the last pickle depends on the instructions alone
  last_alike : (xs ys done gone : List Pickle) → sequences_of xs ≡ sequences_of ys
      → sequences_of done ≡ sequences_of gone → (h : KeepWithin loading tolls done xs)
      (g : KeepWithin loading tolls gone ys)
      → last_bill loading tolls done xs h ≡ last_bill loading tolls gone ys g
  last_alike [] [] done gone e f h g = refl
  last_alike (x ∷ []) (y ∷ []) done gone e f h g =
      ap Some (one_bill done gone x.instructions y.instructions f (cc) h.0 g.0)
  last_alike (x ∷ v ∷ xs) (y ∷ w ∷ ys) done gone e f h g =
      let same : x.instructions ≡ y.instructions = cc in
      last_alike (v ∷ xs) (w ∷ ys) (done ++ x ∷ []) (gone ++ y ∷ []) (cc)
      (sequences_with done x ∙ ap (λ l. l ++ x.instructions ∷ []) f
      ∙ ap (λ p. sequences_of gone ++ p ∷ []) same ∙ sym (sequences_with gone y)) h.1 g.1
  last_alike _ _ done gone e f h g = cc

module _ (front : OneFront) (goes : SequenceGoesOn) (unique : OneSequence) (begin : OneBegins)
    (behind : RefusedBehind) (refusal : OneRefusal) (excludes : YesExcludesNo)
    (of_row : YesOfRowExcludesNo)
    (loading : Loading) (policy : Policy) (limits : Bounds) (tolls : Tolls) (bytes : List ℕ)
    (few : length bytes ≤ all_bytes) where
  abbrev Long : List Pickle → List Pickle → Sight → Type 0
  Long = Longer loading policy limits (length bytes)

  abbrev Both : List Pickle → List Pickle → Sight → Sight → Type 0
  Both = Compared loading policy limits (length bytes)

  compared : (xs ys : List Pickle) (old here other there : Sight) → old.left ≡ Some bytes
      → other.left ≡ Some bytes → AreAccepted loading policy limits old here [] xs
      → AreAccepted loading policy limits other there [] ys → Both xs ys here there
  compared xs ys old here other there is also a b =
      compare loading policy limits (length bytes) unique xs ys [] [] bytes old here other there
      refl (omega arith) is also a b

  -- nothing is left behind a row that was accepted
  not_longer : (xs ys : List Pickle) (there : Sight) → IsAtEnd there.left → Long xs ys there → ⊥
  not_longer xs ys there end l =
      let a = l.accepted.0 in
      let c = consumed l.between l.bytes (spellings a.instructions) l.after l.left a.bytes in
      takes_some a.instructions a.sequence.stops
      (first_empty (spellings a.instructions) c.0
      (sym (none_left there l.bytes l.other end) ∙ c.2))

  -- ---- a refusal, of one pickle or in a row

  record RefusedThere (old after : Sight) (pickle at : ℕ) (r : Reason) (pair : Option Asked)
      : Type 0 where
    before : List Pickle
    here : Sight
    each : AreAccepted loading policy limits old here [] before
    kept : KeepWithin loading tolls [] before
    number : pickle ≡ length before
    refused : RefusedFrom (length (bytes_of_all before)) loading.old_strings
        (begins loading.memo before) policy limits here after at r pair
    stays : StaysWithin loading tolls before refused.instructions
    source : r ≢ reason.Source
    memory : r ≢ reason.OutOfMemory

  abbrev RefusedAs : Sight → Sight → RefusedPickle → Type 0
  RefusedAs old after x = RefusedThere old after x.pickle x.no.at x.no.reason
      (option_map asked_shown x.no.pair)

  refused_there : (extent : Extent) (old after : Sight) (x : RefusedPickle)
      → Fits loading policy limits tolls extent old after (Ok (Err x)) → RefusedAs old after x
  refused_there ToTheEnd old after x h = record {
    before = h.0.0.before;
    here = h.0.0.here;
    each = h.0.0.each;
    kept = h.0.1;
    number = h.0.0.number;
    refused = h.0.0.refused;
    stays = h.0.2;
    source = h.1;
    memory = h.2;
  }
  refused_there OnePickle old after x h = record {
    before = [];
    here = old;
    each = takes_none old;
    kept = tt;
    number = h.0.2;
    refused = h.0.0.refused;
    stays = h.0.1;
    source = h.1;
    memory = h.2;
  }

  -- ---- two ends

  -- an accepted pickle that keeps within the limits exceeds none
  kept_or_over : (xs ys : List Pickle) (there : Sight) (at : ℕ) (excess : Excess)
      → KeepWithin loading tolls [] xs → Long xs ys there
      → ExceedsIn loading policy limits tolls there ys at excess → ⊥
  kept_or_over xs ys there at excess w l e =
      let a = l.accepted.0 in
      yes_or_over loading policy limits tolls ys l.before (sym l.same) l.bytes there l.between
      l.other l.left front goes l.after (length (spellings l.next.instructions)) at l.next.imports
      excess a l.next.instructions l.accepted.1
      (kept_there loading tolls l.before [] l.next l.more
      (subst (KeepWithin loading tolls []) l.parts w)) e

  -- an accepted pickle isn't refused
  long_or_refused : (xs : List Pickle) (old after : Sight) (x : RefusedPickle)
      (r : RefusedAs old after x) → Long xs r.before r.here → ⊥
  long_or_refused xs old after x r l =
      yes_or_refused loading policy limits tolls l.before r.before l.same l.bytes l.between r.here
      l.left l.other behind l.after after (length (spellings l.next.instructions)) x.no.at
      l.next.imports x.no.reason (option_map asked_shown x.no.pair)
      (omega (arith, few, l.count, same_bytes l.before r.before l.same)) l.accepted.0 r.refused
      r.source r.memory

  abbrev Over : Extent → Sight → Costly → Type 0
  Over extent old x = CostsTooMuch loading policy limits tolls old extent x.pickle x.at x.excess

  refused_over : (extent : Extent) (old after other : Sight) (x : RefusedPickle) (y : Costly)
      → old.left ≡ Some bytes → other.left ≡ Some bytes → RefusedAs old after x
      → Over extent other y → ⊥
  refused_over extent old after other x y is also r o =
      by_rows (compared r.before o.before old r.here other o.here is also r.each o.each)
    where
      by_rows : Both r.before o.before r.here o.here → ⊥
      by_rows (inl s) = refused_or_over loading policy limits tolls o.before r.before (sym s.same)
          s.bytes o.here r.here s.other s.left behind after x.no.at y.at x.no.reason
          (option_map asked_shown x.no.pair) y.excess (omega (arith, few, s.count)) r.refused
          r.source r.memory r.stays o.over
      by_rows (inr (inl l)) = kept_or_over r.before o.before o.here y.at y.excess r.kept l o.over
      by_rows (inr (inr l)) = long_or_refused o.before old after x r l

  over_over : (extent : Extent) (old other : Sight) (x y : Costly) → old.left ≡ Some bytes
      → other.left ≡ Some bytes → Over extent old x → Over extent other y
      → (x.pickle ≡ y.pickle) × (x.at ≡ y.at) × (x.excess ≡ y.excess)
  over_over extent old other x y is also o p =
      by_rows (compared o.before p.before old o.here other p.here is also o.each p.each)
    where
      by_rows : Both o.before p.before o.here p.here
          → (x.pickle ≡ y.pickle) × (x.at ≡ y.at) × (x.excess ≡ y.excess)
      by_rows (inl s) = let k = one_excess loading policy limits tolls o.before p.before s.same
          s.bytes o.here p.here s.left s.other x.at y.at x.excess y.excess o.over p.over begin in
          (o.number ∙ same_count o.before p.before s.same ∙ sym p.number, k.0, k.1)
      by_rows (inr (inl l)) =
          absurd (kept_or_over o.before p.before p.here y.at y.excess o.kept l p.over)
      by_rows (inr (inr l)) =
          absurd (kept_or_over p.before o.before o.here x.at x.excess p.kept l o.over)

  refused_refused : (old after other later : Sight) (x y : RefusedPickle)
      → old.left ≡ Some bytes → other.left ≡ Some bytes → RefusedAs old after x
      → RefusedAs other later y → (x.pickle ≡ y.pickle) × IsSameNo x.no y.no
  refused_refused old after other later x y is also r q =
      by_rows (compared r.before q.before old r.here other q.here is also r.each q.each)
    where
      by_rows : Both r.before q.before r.here q.here
          → (x.pickle ≡ y.pickle) × IsSameNo x.no y.no
      by_rows (inl s) =
          let from = ap (λ ps. length (flat_map spellings ps)) s.same in (
            r.number ∙ same_count r.before q.before s.same ∙ sym q.number,
            refusal (length (bytes_of_all r.before)) loading r.before q.before policy limits
                s.bytes r.here after q.here later x.no.at y.no.at x.no.reason y.no.reason
                (option_map asked_shown x.no.pair) (option_map asked_shown y.no.pair) s.left
                s.other (omega (arith, few, s.count)) s.same r.refused
                (subst (λ f. RefusedFrom f loading.old_strings (begins loading.memo q.before) policy
                limits q.here later y.no.at y.no.reason (option_map asked_shown y.no.pair))
                (sym from) q.refused)
                r.source r.memory q.source q.memory,
          )
      by_rows (inr (inl l)) = absurd (long_or_refused r.before other later y q l)
      by_rows (inr (inr l)) = absurd (long_or_refused q.before old after x r l)

  -- ---- a yes

  abbrev Accepted : Extent → Sight → Sight → YesWithBill → Type 0
  Accepted extent old new x = AcceptedWithBill loading policy limits tolls old new extent x

  yes_refused : (extent : Extent) (old new other after : Sight) (x : YesWithBill)
      (y : RefusedPickle) → old.left ≡ Some bytes → other.left ≡ Some bytes
      → AcceptedWithin loading policy limits tolls old new extent x.yes
      → Fits loading policy limits tolls extent other after (Ok (Err y)) → ⊥
  yes_refused ToTheEnd old new other after x y is also a h =
      of_row loading policy limits bytes old new x.yes.taken x.yes.pickles x.yes.imports other after
      y.pickle y.no.at y.no.reason (option_map asked_shown y.no.pair) is also a.0 h.0.0 h.1 h.2
  yes_refused OnePickle old new other after x y is also a h =
      let c = consumed old bytes (spellings a.0.instructions) new is a.0.bytes in
      excludes loading.old_strings (begins loading.memo []) policy limits bytes old new x.yes.taken
      x.yes.imports 0 other after y.no.at y.no.reason (option_map asked_shown y.no.pair) is also
      (omega (
        arith,
        few,
        a.0.count,
        ap length c.2,
        length-append (spellings a.0.instructions) c.0,
      ))
      a.0 h.0.0.refused h.1 h.2

  over_bytes : (before : List Pickle) (here : Sight) (at : ℕ) (excess : Excess) (rest : List ℕ)
      → here.left ≡ Some rest → ExceedsIn loading policy limits tolls here before at excess
      → rest ≡ [] → ⊥
  over_bytes before here at excess rest is e none =
      let q = e.reached in
      let c = consumed here rest (spellings (q.instructions ++ q.last ∷ [])) q.there is q.bytes in
      none_spelled q.instructions q.last
      (first_empty (spellings (q.instructions ++ q.last ∷ [])) c.0 (sym none ∙ c.2))

  yes_over : (extent : Extent) (old new other : Sight) (x : YesWithBill) (y : Costly)
      → old.left ≡ Some bytes → other.left ≡ Some bytes
      → AcceptedWithin loading policy limits tolls old new extent x.yes → Over extent other y → ⊥
  yes_over ToTheEnd old new other x y is also a o =
      by_rows (compared a.0.row o.before old new other o.here is also a.0.each o.each)
    where
      by_rows : Both a.0.row o.before new o.here → ⊥
      by_rows (inl s) = over_bytes o.before o.here y.at y.excess s.bytes s.other o.over
          (none_left new s.bytes s.left a.0.ends)
      by_rows (inr (inl l)) = kept_or_over a.0.row o.before o.here y.at y.excess a.1 l o.over
      by_rows (inr (inr l)) = not_longer o.before a.0.row new a.0.ends l
  yes_over OnePickle old new other x y is also a o =
      let t : Takes other o.here [] =
      subst (λ l. AreAccepted loading policy limits other o.here [] l) (o.alone refl) o.each in
      let c = consumed other bytes [] o.here also t in
      yes_or_over loading policy limits tolls o.before [] (ap sequences_of (o.alone refl)) bytes
      o.here old (c.1 ∙ ap Some (sym c.2)) is front goes new x.yes.taken y.at x.yes.imports y.excess
      a.0 a.0.instructions refl a.1 o.over

  abbrev bill_in : (extent : Extent) (old new : Sight) (x : YesWithBill)
      → AcceptedWithin loading policy limits tolls old new extent x.yes → Option Bill
  bill_in extent old new x a = bill_of loading policy limits tolls old new extent x.yes a

  yes_yes : (extent : Extent) (old new other after : Sight) (x y : YesWithBill)
      → old.left ≡ Some bytes → other.left ≡ Some bytes
      → (a : AcceptedWithin loading policy limits tolls old new extent x.yes)
      (b : AcceptedWithin loading policy limits tolls other after extent y.yes)
      → (x.yes.pickles ≡ y.yes.pickles) × (x.yes.taken ≡ y.yes.taken)
      × (bill_in extent old new x a ≡ bill_in extent other after y b)
  yes_yes ToTheEnd old new other after x y is also a b =
      by_rows (compared a.0.row b.0.row old new other after is also a.0.each b.0.each)
    where
      by_rows : Both a.0.row b.0.row new after
          → (x.yes.pickles ≡ y.yes.pickles) × (x.yes.taken ≡ y.yes.taken)
          × (bill_in ToTheEnd old new x a ≡ bill_in ToTheEnd other after y b)
      by_rows (inl s) = (
        a.0.number ∙ same_count a.0.row b.0.row s.same ∙ sym b.0.number,
        a.0.count ∙ same_bytes a.0.row b.0.row s.same ∙ sym b.0.count,
        last_alike loading tolls a.0.row b.0.row [] [] s.same refl a.1 b.1,
      )
      by_rows (inr (inl l)) = absurd (not_longer a.0.row b.0.row after b.0.ends l)
      by_rows (inr (inr l)) = absurd (not_longer b.0.row a.0.row new a.0.ends l)
  yes_yes OnePickle old new other after x y is also a b =
      let c = consumed old bytes (spellings a.0.instructions) new is a.0.bytes in
      let d = consumed other bytes (spellings b.0.instructions) after also b.0.bytes in
      let u = unique (payload_limit limits) (payload_limit limits) a.0.instructions b.0.instructions
      c.0 d.0 a.0.sequence b.0.sequence (sym c.2 ∙ d.2) in (
        a.2 ∙ sym b.2,
        a.0.count ∙ ap (λ l. length (spellings l)) u.0 ∙ sym b.0.count,
        ap Some (one_bill loading tolls [] [] a.0.instructions b.0.instructions refl u.0 a.1 b.1),
      )

  both_yes : (extent : Extent) (old new other after : Sight) (x y : YesWithBill)
      → old.left ≡ Some bytes → other.left ≡ Some bytes → Accepted extent old new x
      → Accepted extent other after y → SameEnd (Ok (Ok x)) (Ok (Ok y))
  both_yes extent old new other after x y is also h g =
      let k = yes_yes extent old new other after x y is also h.right g.right in
      let bills : Some h.bill ≡ Some g.bill = sym h.last ∙ k.2 ∙ g.last in
      let same : h.bill ≡ g.bill = cc in (
        k.0,
        k.1,
        h.tally ∙ ap (λ (b : Bill). b.tally) same ∙ sym g.tally,
        h.memory ∙ ap (λ (b : Bill). b.memory) same ∙ sym g.memory,
      )

  ends : (extent : Extent) (old new other after : Sight) (a b : Loaded) → old.left ≡ Some bytes
      → other.left ≡ Some bytes → Fits loading policy limits tolls extent old new a
      → Fits loading policy limits tolls extent other after b → SameEnd a b
  ends extent old new other after (Ok (Ok x)) (Ok (Ok y)) is also h g =
      both_yes extent old new other after x y is also h g
  ends extent old new other after (Ok (Ok x)) (Ok (Err y)) is also h g =
      yes_refused extent old new other after x y is also h.right g
  ends extent old new other after (Ok (Err x)) (Ok (Ok y)) is also h g =
      yes_refused extent other after old new y x also is g.right h
  ends extent old new other after (Ok (Ok x)) (Err y) is also h g =
      yes_over extent old new other x y is also h.right g
  ends extent old new other after (Err x) (Ok (Ok y)) is also h g =
      yes_over extent other after old y x also is g.right h
  ends extent old new other after (Ok (Err x)) (Ok (Err y)) is also h g =
      refused_refused old new other after x y is also (refused_there extent old new x h)
      (refused_there extent other after y g)
  ends extent old new other after (Ok (Err x)) (Err y) is also h g =
      refused_over extent old new other x y is also (refused_there extent old new x h) g
  ends extent old new other after (Err x) (Ok (Err y)) is also h g =
      refused_over extent other after old y x also is (refused_there extent other after y g) h
  ends extent old new other after (Err x) (Err y) is also h g =
      over_over extent old other x y is also h g

pub one_end : OneFront → SequenceGoesOn → OneSequence → OneBegins → RefusedBehind → OneRefusal
    → YesExcludesNo → YesOfRowExcludesNo → OneEndFits
one_end front goes unique begin behind refusal excludes of_row loading policy limits tolls extent
    bytes old new other after a b is also few h g =
    ends front goes unique begin behind refusal excludes of_row loading policy limits tolls bytes
    few extent old new other after a b is also h g
