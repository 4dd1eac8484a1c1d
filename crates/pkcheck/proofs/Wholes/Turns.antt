-- What each turn of the loop of a check makes of what is known.
use Rattle.std.proofs.Common.{◌≡◌, refl, ℕ, List, [], ◌∷◌, ◌++◌, inl, inr, drop, ap, subst, ◌∙◌}
use Rattle.std.proofs.Common.{append-nil, append_assoc}
use Rattle.std.specs.Prelude.{Bool}
use Rattle.pkops.specs.Limits.{Bounds}
use Rattle.pkops.specs.Spelling.{Instruction}
use Rattle.pkops.specs.declared.Refusal.{Refusal as ReadRefusal}
use Rattle.pkread.specs.ReaderCalls.{ReaderState}
use Rattle.pkread.specs.Rows.{Sight}
use Rattle.pkread.specs.Sequence.{CountsAt}
use Rattle.pkimport.specs.Import.{Asked}
use Rattle.pkmachine.specs.Knowledge.{Policy}
use Rattle.pkmachine.specs.View.{View}
use Rattle.pkcheck.specs.Private.Judgement.{IsRefused, SessionView}
use Rattle.pkcheck.specs.Private.Lent.{FailsAtHand, GoesAlong, HearsAlong, HearsRefused}
use Rattle.pkcheck.specs.Private.Lent.{heard_before}
use Rattle.pkcheck.specs.Private.Turns.{FailsNext, HearsNext, RefusesNext}
use Rattle.pkcheck.specs.Reports.{Report}
use Rattle.pkcheck.specs.declared.check_loop.Extent.{Extent}
use Rattle.pkcheck.specs.declared.loading.Loading.{Loading}
use Rattle.pkcheck.proofs.Wholes.Checked.{count_took, refused_took, refused_turned}
use Rattle.pkcheck.proofs.Wholes.Given.{Took, took_gave, turned_down}
use Rattle.pkcheck.proofs.Wholes.Going.{Going, RefusedNow, StoppedNow}
use Rattle.pkcheck.proofs.Wholes.HeardInstructions.{Told, reached, reached_refused, report_here}
use Rattle.pkcheck.proofs.Wholes.HeardInstructions.{told_along, told_here, told_more}
use Rattle.pkcheck.proofs.Wholes.ImportsBefore.{refused_imports}
use Rattle.pkcheck.proofs.Wholes.ThreeEnds.{refused_now, stopped_now}

-- what is at hand and accepted has no STOP
pub phase_along : {holding : Bool} {policy : Policy} {s t : ReaderState}
    {before after : SessionView} → GoesAlong holding policy s t before after → t.phase ≡ s.phase
phase_along (inl (is, same)) = ap (λ u. u.phase) same
phase_along (inr k) = ap (λ u. u.phase) k.taken

module _ {holding : Bool} {loading : Loading} {policy : Policy} {limits : Bounds} {old : Sight}
    {e : Extent} {A : Type 0} {hears : A → A → List Report → Type 0} {first : A} {pickles : ℕ}
    {apart : List Asked} {kept : ℕ} {s : ReaderState} {v : SessionView} {now : A}
    (g : Going holding loading policy limits old e hears first pickles apart kept s v now) where
  abbrev Refused : ReadRefusal → View → ReaderState → A → Type 0
  Refused r n t behind = RefusedNow holding loading policy limits old e hears first pickles r.at
      r.reason n.off (drop kept n.imports) t.source behind

  abbrev Stopped : {X : Type 0} → (A → A → Report → X → Type 0) → A → X → ReaderState → Type 0
  Stopped fails behind error t =
      StoppedNow holding loading policy limits old e hears first fails behind error t.source

  -- more instructions were accepted
  goes_on : {t : ReaderState} {after : SessionView} {behind : A} {rs : List Report}
      → Told holding loading.old_strings policy limits g.here g.origin t after rs
      → hears first behind (g.earlier ++ rs)
      → Going holding loading policy limits old e hears first pickles apart kept t after behind
  goes_on {rs = rs} so_far heard = record {
    laws = g.laws;
    one = g.one;
    law = g.law;
    bounded = g.bounded;
    here = g.here;
    origin = g.origin;
    before = g.before;
    row = g.row;
    own = g.own;
    more = g.more;
    alone = g.alone;
    earlier = g.earlier;
    of_pickles = g.of_pickles;
    last = rs;
    so_far = so_far;
    heard = heard;
  }

  -- an instruction that was read is refused
  refuses_read : {between t : ReaderState} {u : SessionView} {hs : List Report}
      (w : Told holding loading.old_strings policy limits g.here g.origin between u hs)
      (r : ReadRefusal) {i : Instruction} (n : View)
      → Took g.here g.origin.at limits w.read between r.at i t
      → IsRefused policy i u.frame u.machine n r.reason → {behind : A}
      → hears first behind (g.earlier ++ (hs ++ heard_before holding r.at i u.machine ∷ []))
      → Refused r n t behind
  refuses_read {u = u} w r {i} n took why heard =
      refused_now g w (refused_took w.checked took g.bounded n r.reason why)
      (count_took w.checked took n r.reason why) n
      (refused_imports policy i u.frame u.machine n r.reason why) _ (told_here w took) heard

  -- ---- instructions at hand

  -- what was heard before, and then this
  heard_also : {behind : A} (more : List Report)
      → ((x : A) (hs : List Report) → hears x now hs → hears x behind (hs ++ more))
      → hears first behind (g.earlier ++ (g.last ++ more))
  heard_also {behind} more h = subst (hears first behind) (append_assoc g.earlier g.last more)
      (h first (g.earlier ++ g.last) g.heard)

  pub going_along : {t : ReaderState} {behind : A} {after : SessionView}
      → HearsAlong hears now behind holding policy s t v after
      → Going holding loading policy limits old e hears first pickles apart kept t after behind
  going_along (along, more) =
      goes_on (told_along g.laws.lent g.laws.twice g.so_far along) (heard_also _ more)

  pub refused_at_hand : {t : ReaderState} {behind : A} {n : View} {r : ReadRefusal}
      → HearsRefused hears now behind holding policy s t v n r → Refused r n t behind
  refused_at_hand {behind = behind} {n = n} {r = r} (k, more) =
      let (x, why) = reached_refused g.laws.lent g.laws.twice g.so_far k in
      let here = k.down.here in
      let heard = rw (← k.place, ← append_assoc g.last here.earlier) at (heard_also _ more) in
      refuses_read x.so_far r n x.took why heard

  pub failed_at_hand : {X : Type 0} (fails : A → A → Report → X → Type 0) {t : ReaderState}
      {behind : A} {error : X} → FailsAtHand hears fails now behind holding policy s t v error
      → Stopped fails behind error t
  failed_at_hand fails (k, (between, more, left)) =
      let x = reached g.laws.lent g.laws.twice g.so_far k.bytes k.before_it k.next k.here k.taken
      refl in
      stopped_now g x.so_far x.took (report_here x.so_far x.took) (heard_also _ more) fails left

  -- ---- the next instruction

  -- what was heard of it
  heard_next : {behind : A} (x : Report) → hears now behind (x ∷ [])
      → hears first behind (g.earlier ++ (g.last ++ x ∷ []))
  heard_next {behind} x h = subst (hears first behind) (append_assoc g.earlier g.last (x ∷ []))
      (g.law first now behind (g.earlier ++ g.last) x g.heard h)

  pub going_next : {t : ReaderState} {behind : A} {after : SessionView}
      → HearsNext holding hears now behind policy s t v after
      → Going holding loading policy limits old e hears first pickles apart kept t after behind
  going_next {t} h =
      let w = g.so_far in
      let (i, took, (both, told)) = took_gave w.checked.reads w.checked.read_limits holding g.one t
      g.laws.nexts g.laws.heads g.laws.passed h.at _ h.gave in
      goes_on (told_more w took both) (heard_next _ told)

  pub refused_next : {t : ReaderState} {behind : A} {n : View} {r : ReadRefusal}
      → RefusesNext holding hears now behind policy s t v n r → Refused r n t behind
  refused_next {t} {behind} {n} {r} (inl (down, unchanged, silent)) =
      let w = g.so_far in
      let d = turned_down w.checked.reads w.checked.read_limits holding g.one t
      g.laws.refused_nexts g.laws.refused_heads r down in
      let none = ap (λ m. m.off) unchanged ∙ w.checked.off in
      rw (none, silent)
      (refused_now g w (refused_turned w.checked d.0)
      (subst (λ f. CountsAt r.reason f t.source.failures) w.checked.reads.bytes.count d.1) n
      (ap (λ m. m.imports) unchanged) g.last (rw (append-nil w.read) w.told) g.heard)
  refused_next {t} {behind} {n} {r} (inr h) =
      let w = g.so_far in
      let (i, took, (why, told)) = took_gave w.checked.reads w.checked.read_limits holding g.one t
      g.laws.nexts g.laws.heads g.laws.passed r.at _ h.gave in
      refuses_read w r n took why (heard_next _ told)

  pub failed_next : {X : Type 0} (fails : A → A → Report → X → Type 0) {t : ReaderState}
      {behind : A} {error : X} → FailsNext holding fails now behind s t v error
      → Stopped fails behind error t
  failed_next fails {t} h =
      let w = g.so_far in
      let (i, took, left) = took_gave w.checked.reads w.checked.read_limits holding g.one t
      g.laws.nexts g.laws.heads g.laws.passed h.at _ h.gave in
      stopped_now g w took (report_here w took) g.heard fails left
