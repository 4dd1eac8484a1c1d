-- Two yeses to the same bytes list the same imports: each says what every run imports at an
-- instruction that some run reaches.
use Rattle.std.proofs.Common.{◌≡◌, ◌≢◌, ℕ, List, [], ◌∷◌, ◌++◌, length, Option, Some, None}
use Rattle.std.proofs.Common.{refl, sym, ap, subst, ◌∙◌, arith, append_assoc, length-append}
use Rattle.std.proofs.Common.{inl, inr}
use Rattle.std.proofs.lemmas.List.{append_cancel_left}
use Rattle.pkops.specs.Payloads.{payload_limit}
use Rattle.pkops.specs.Spelling.{Instruction}
use Rattle.pkread.specs.Sequence.{spellings}
use Rattle.pkread.specs.Sequences.{OneSequence}
use Rattle.pkmachine.specs.declared.old_strings.OldStrings.{OldStrings}
use Rattle.pkmachine.specs.Covers.{Adds, Asks, IsAsked, imports_of}
use Rattle.pkmachine.specs.Faults.{AsksFor, AsksForTwo}
use Rattle.pkmachine.specs.RowRuns.{Arrives, Beginning, CanArrive, EachIsReached, RunsFrom}
use Rattle.pkmachine.specs.Runs.{Event, Outcome, Raise, Raised, State, Stepped, Stopped, Stuck}
use Rattle.pkmachine.specs.Runs.{WentOn, step_as}
use Rattle.pkimport.specs.Import.{Asked, AskedPair, AskedUnknown}
use Rattle.pkcheck.specs.Listing.{EachAsks, UnknownIsOpen, imports_among}
use Rattle.pkcheck.specs.SameImports.{SameImports}
use Rattle.pkcheck.proofs.Wholes.Exclusive.{consumed}
use Rattle.pkcheck.proofs.Wholes.Origins.{any_arrives}

-- ---- one step

abbrev first_of : List (List ℕ × List ℕ) → Asked
first_of [] = AskedUnknown
first_of (pair ∷ pairs) = AskedPair pair.0 pair.1

-- two imports of the same events, neither of which is unknown
from_pairs : (x y : Option Asked) → x ≢ Some AskedUnknown → y ≢ Some AskedUnknown
    → (pairs : List (List ℕ × List ℕ)) → IsAsked x pairs → IsAsked y pairs → x ≡ y
from_pairs None None nx ny pairs h k = refl
from_pairs None (Some (AskedPair p q)) nx ny pairs h k = cc
from_pairs (Some (AskedPair m n)) None nx ny pairs h k = cc
from_pairs (Some (AskedPair m n)) (Some (AskedPair p q)) nx ny pairs h k =
    ap (λ found. Some (first_of found)) (sym h ∙ k)
from_pairs (Some AskedUnknown) y nx ny pairs h k = absurd (nx refl)
from_pairs None (Some AskedUnknown) nx ny pairs h k = absurd (ny refl)
from_pairs (Some (AskedPair m n)) (Some AskedUnknown) nx ny pairs h k = absurd (ny refl)

-- two imports of the same events are one
pub from_events : (x y : Option Asked) (before after : List Event) → x ≢ Some AskedUnknown
    → y ≢ Some AskedUnknown → Adds x before after → Adds y before after → x ≡ y
from_events x y before after nx ny a b =
    let same : a.added ≡ b.added =
    append_cancel_left before a.added b.added (sym a.grown ∙ b.grown) in
    from_pairs x y nx ny (imports_of b.added)
    (subst (λ events. IsAsked x (imports_of events)) same a.asked) b.asked

from_step : (x y : Option Asked) (s : State) (step : Stepped) → x ≢ Some AskedUnknown
    → y ≢ Some AskedUnknown → Asks x s step → Asks y s step → x ≡ y
from_step x y s (WentOn t) nx ny h k = from_events x y s.events t.events nx ny h k
from_step x y s (Raised t) nx ny (inl h) (inl k) = from_events x y s.events t.events nx ny h k
from_step x y s (Raised t) nx ny (inr h) k = absurd (nx h.0)
from_step x y s (Raised t) nx ny (inl h) (inr k) = absurd (ny k.0)
from_step x y s (Stopped r t) nx ny h k = h.0 ∙ sym k.0
from_step x y s (Stuck b) nx ny h k = absurd h

asks_pair : (m n : List ℕ) (s : State) (step : Stepped) → AsksFor m n s step
    → Asks (Some (AskedPair m n)) s step
asks_pair m n s (WentOn t) h = h
asks_pair m n s (Raised t) h = inl h
asks_pair m n s (Stopped r t) h = absurd h
asks_pair m n s (Stuck b) h = absurd h

-- ---- one instruction

module _ (setting : OldStrings) (b : Beginning) (before : List Instruction) (i : Instruction) where
  abbrev Each : Option Asked → Type 0
  Each x = (s : State) (o : Outcome) → Arrives setting b before s
      → Asks x s (step_as setting i s o)

  abbrev AreTwo : Type 0
  AreTwo = AsksForTwo (RunsFrom setting b before) i

  -- an import that is known is that of every run
  not_two : (x : Option Asked) → x ≢ Some AskedUnknown → Each x → AreTwo → ⊥
  not_two x nx each (m, n, ((s, o, c, d, f), (p, q, (t, u, e, v, g), differ))) =
      let first = from_step x (Some (AskedPair m n)) s (step_as setting i s o) nx (λ h. cc)
      (each s o (any_arrives setting b before s c))
      (asks_pair m n s (step_as setting i s o) f) in
      let second = from_step x (Some (AskedPair p q)) t (step_as setting i t u) nx (λ h. cc)
      (each t u (any_arrives setting b before t e))
      (asks_pair p q t (step_as setting i t u) g) in
      let same : Some (AskedPair m n) ≡ Some (AskedPair p q) = sym first ∙ second in
      let module_is : m ≡ p = cc in
      let name_is : n ≡ q = cc in
      differ module_is name_is

  module _ (s : State) (here : CanArrive setting b before s) where
    by_run : (x y : Option Asked) → x ≢ Some AskedUnknown → y ≢ Some AskedUnknown → Each x
        → Each y → x ≡ y
    by_run x y nx ny h k =
        let arrived = any_arrives setting b before s here in
        from_step x y s (step_as setting i s Raise) nx ny (h s Raise arrived)
        (k s Raise arrived)

    same_import : (x y : Option Asked) → Each x → Each y → (x ≡ Some AskedUnknown → AreTwo)
        → (y ≡ Some AskedUnknown → AreTwo) → x ≡ y
    same_import (Some AskedUnknown) (Some AskedUnknown) h k u v = refl
    same_import (Some AskedUnknown) None h k u v = absurd (not_two None (λ e. cc) k (u refl))
    same_import (Some AskedUnknown) (Some (AskedPair m n)) h k u v =
        absurd (not_two (Some (AskedPair m n)) (λ e. cc) k (u refl))
    same_import None (Some AskedUnknown) h k u v = absurd (not_two None (λ e. cc) h (v refl))
    same_import (Some (AskedPair m n)) (Some AskedUnknown) h k u v =
        absurd (not_two (Some (AskedPair m n)) (λ e. cc) h (v refl))
    same_import None None h k u v = refl
    same_import None (Some (AskedPair p q)) h k u v =
        by_run None (Some (AskedPair p q)) (λ e. cc) (λ e. cc) h k
    same_import (Some (AskedPair m n)) None h k u v =
        by_run (Some (AskedPair m n)) None (λ e. cc) (λ e. cc) h k
    same_import (Some (AskedPair m n)) (Some (AskedPair p q)) h k u v =
        by_run (Some (AskedPair m n)) (Some (AskedPair p q)) (λ e. cc) (λ e. cc) h k

-- ---- all instructions

module _ (setting : OldStrings) (b : Beginning) (all : List Instruction)
    (reached : EachIsReached setting b all) (xs ys : List (Option Asked))
    (each_x : EachAsks setting b all xs) (each_y : EachAsks setting b all ys)
    (open_x : UnknownIsOpen setting b all xs) (open_y : UnknownIsOpen setting b all ys) where
  same_behind : (before is : List Instruction) (p q later more : List (Option Asked))
      → all ≡ before ++ is → xs ≡ p ++ later → ys ≡ q ++ more → length p ≡ length before
      → length q ≡ length before → length later ≡ length is → length more ≡ length is
      → later ≡ more
  same_behind before [] p q [] [] e f g j k l n = refl
  same_behind before (i ∷ is) p q (x ∷ later) (y ∷ more) e f g j k l n =
      let here = reached before i is e in
      let first = same_import setting b before i here.0 here.1 x y
      (each_x before i is p x later e f j) (each_y before i is q y more e g k)
      (λ h. open_x before i is p later e (subst (λ z. xs ≡ p ++ z ∷ later) h f) j)
      (λ h. open_y before i is q more e (subst (λ z. ys ≡ q ++ z ∷ more) h g) k) in
      let others = same_behind (before ++ i ∷ []) is (p ++ x ∷ []) (q ++ y ∷ []) later more
      (e ∙ sym (append_assoc before (i ∷ []) is)) (f ∙ sym (append_assoc p (x ∷ []) later))
      (g ∙ sym (append_assoc q (y ∷ []) more))
      (omega (arith, j, length-append p (x ∷ []), length-append before (i ∷ [])))
      (omega (arith, k, length-append q (y ∷ []), length-append before (i ∷ [])))
      (omega (arith, l)) (omega (arith, n)) in
      ap (λ z. z ∷ later) first ∙ ap (λ zs. y ∷ zs) others
  same_behind before [] p q (x ∷ later) more e f g j k l n = absurd (omega (arith, l))
  same_behind before [] p q [] (y ∷ more) e f g j k l n = absurd (omega (arith, n))
  same_behind before (i ∷ is) p q [] more e f g j k l n = absurd (omega (arith, l))
  same_behind before (i ∷ is) p q (x ∷ later) [] e f g j k l n = absurd (omega (arith, n))

pub same_imports : OneSequence → SameImports
same_imports one setting b policy other_policy limits other_limits bytes old new other after taken
    other_taken imports other_imports known same h k =
    let r = consumed old bytes (spellings h.instructions) new known h.bytes in
    let t = consumed other bytes (spellings k.instructions) after same k.bytes in
    let e = one (payload_limit limits) (payload_limit other_limits) h.instructions k.instructions
    r.0 t.0 h.sequence k.sequence (sym r.2 ∙ t.2) in
    let asked = same_behind setting b h.instructions h.reached h.asked k.asked h.at_each
    (subst (λ is. EachAsks setting b is k.asked) (sym e.0) k.at_each) h.unknown
    (subst (λ is. UnknownIsOpen setting b is k.asked) (sym e.0) k.unknown)
    [] h.instructions [] [] h.asked k.asked refl refl refl refl refl h.each
    (k.each ∙ ap length (sym e.0)) in (
      h.count ∙ ap (λ is. length (spellings is)) e.0 ∙ sym k.count,
      h.listed ∙ ap imports_among asked ∙ sym k.listed,
    )
