-- The loop over lent instructions, which counts the bytes of the open frame once.
use Rattle.std.proofs.Common.{◌≡◌, ◌≢◌, ℕ, zero, suc, ◌+◌, ◌-◌, ◌<◌, ◌≤◌, List, [], ◌∷◌, ◌++◌}
use Rattle.std.proofs.Common.{length, take, drop, None, Some, false, inr, refl, sym, ap, subst, ◌∙◌}
use Rattle.std.proofs.Common.{arith, append-nil, append_assoc}
use Rattle.std.specs.Prelude.{Bool}
use Rattle.std.proofs.lemmas.List.{drop-append-le, drop-drop, length-append, length-drop}
use Rattle.std.proofs.lemmas.List.{length-take, take-append-drop, take_all}
use Rattle.std.proofs.lemmas.Bool.{le-ltb}
use Rattle.std.proofs.Math.Dec.{eqb-suc-zero}
use Rattle.pkops.specs.Limits.{Bounds}
use Rattle.pkops.specs.Spelling.{Instruction, spelling}
use Rattle.pkread.specs.AtHand.{IsLent}
use Rattle.pkread.specs.Framing.{Role, counted, other}
use Rattle.pkread.specs.Pieces.{piece_of}
use Rattle.pkread.specs.ReaderCalls.{is_ended}
use Rattle.pkmachine.specs.Knowledge.{Policy}
use Rattle.pkcheck.specs.Private.Judgement.{SessionView}
use Rattle.pkcheck.specs.Private.Lent.{PassInTurn, StopsAt, TurnsDown, heard_before}
use Rattle.pkcheck.proofs.Wholes.StopEffects.{same_end}
use Rattle.pkcheck.specs.Reports.{Report}
use Rattle.pkmachine.specs.Step.{FailsStep, GoesOn}
use Rattle.pkmachine.specs.View.{View, stopped_by}
use Rattle.pkmachine.specs.declared.stepping.Moved.{Moved}
use Rattle.pkcheck.specs.declared.turned.Turned.{Turned}

-- some bytes, and as many of them as lie in the open frame
pub record IsInside (frame : ℕ) (bytes inside : List ℕ) : Type 0 where
  pub behind : List ℕ
  pub all : bytes ≡ inside ++ behind
  pub few : frame ≢ 0 → length inside ≤ frame

pub is_inside : (frame : ℕ) (bytes inside : List ℕ) → (frame ≡ 0 → inside ≡ bytes)
    → (frame ≢ 0 → inside ≡ take frame bytes) → IsInside frame bytes inside
is_inside zero bytes inside outside within = record {
  behind = [];
  all = sym (append-nil inside ∙ outside refl);
  few = λ some. absurd (some refl);
}
is_inside (suc n) bytes inside outside within =
    let is : inside ≡ take (suc n) bytes = within (λ e. cc) in
    record {
      behind = drop (suc n) bytes;
      all = sym (ap (λ (l : List ℕ). l ++ drop (suc n) bytes) is ∙ take-append-drop (suc n) bytes);
      few = λ some. omega (arith, ap length is, length-take (suc n) bytes);
    }

-- what is lent from the first of some bytes is lent from all of them
lent_longer : (limits : Bounds) (first behind : List ℕ) (i : Instruction) → IsLent limits first i
    → IsLent limits (first ++ behind) i
lent_longer limits first behind i lent = record {
  goes_on = lent.goes_on;
  role = lent.role;
  allowed = lent.allowed;
  rest = lent.rest ++ behind;
  spelled = ap (λ (l : List ℕ). l ++ behind) lent.spelled
      ∙ append_assoc (spelling i) lent.rest behind;
}

counted_at : (n size left : ℕ) (role : Role) → role ≡ other → (n ≡ 0 → left ≡ 0)
    → (n ≢ 0 → size ≤ n) → left ≡ n - size
    → counted n (record { length = size; role = role }) ≡ Some left
counted_at zero size left role is none few rest = rw is (ap Some (sym (none refl)))
counted_at (suc n) size left role is none few rest =
    rw (is, eqb-suc-zero n, le-ltb (suc n) size (few (λ e. cc))) (ap Some (sym rest))

-- the bytes left in a frame, behind an instruction that lies in it
counted_inside : (frame count size : ℕ) (role : Role) → role ≡ other → 0 < size
    → (frame ≢ 0 → count + size ≤ frame)
    → counted (frame - count) (record { length = size; role = role })
    ≡ Some (frame - (count + size))
counted_inside frame count size role is some within =
    counted_at (frame - count) size (frame - (count + size)) role is
    (λ none. omega (arith, none))
    (λ left. let few = within (is_open left) in omega (arith, few))
    (omega arith)
  where
    is_open : frame - count ≢ 0 → frame ≢ 0
    is_open left e = left (omega (arith, e))

module _ (holding : Bool) (policy : Policy) (at : ℕ) (bytes inside : List ℕ)
    (before : SessionView) where
  -- some instructions were accepted, this was heard of them, and these bytes are left of those
  -- inside the frame
  pub record Along (rest : List ℕ) (m : View) (hs : List Report) : Type 0 where
    pub number : ℕ
    pub count : ℕ
    pub pass : PassInTurn holding policy at bytes before number
        (record { frame = before.frame - count; machine = m }) count hs
    pub left : rest ≡ drop count inside
    pub within : count ≤ length inside
    pub same_limits : m.limits ≡ before.machine.limits
    pub refused : m.refused ≡ None
    pub stopped : m.stopped ≡ false

module _ {holding : Bool} {policy : Policy} {at : ℕ} {bytes inside : List ℕ}
    {before : SessionView} where
  pub along_none : before.machine.refused ≡ None → before.machine.stopped ≡ false
      → Along holding policy at bytes inside before inside before.machine []
  along_none well running =
      let frame : before.frame - 0 ≡ before.frame = omega arith in
      record {
        number = 0;
        count = 0;
        pass = (ap (λ n. record { frame = n; machine = before.machine }) frame, refl, refl);
        left = refl;
        within = omega arith;
        same_limits = refl;
        refused = well;
        stopped = running;
      }

  module _ {rest : List ℕ} {m : View} {hs : List Report}
      (h : Along holding policy at bytes inside before rest m hs) where
    -- how many bytes were passed over
    pub passed : h.count ≡ length inside - length rest
    passed =
        let within = h.within in
        omega (arith, within, ap length h.left, length-drop h.count inside)

    -- an offset counted back from the end
    pub counted_back : (at + length inside) - length rest ≡ at + (length inside - length rest)
    counted_back = omega (arith, ap length h.left, length-drop h.count inside)

    -- where no more is lent
    pub all_passed : PassInTurn holding policy at bytes before h.number
        (record { frame = before.frame - (length inside - length rest); machine = m })
        (length inside - length rest) hs
    all_passed = subst (λ c. PassInTurn holding policy at bytes before h.number
        (record { frame = before.frame - c; machine = m }) c hs) passed h.pass

    module _ (whole : IsInside before.frame bytes inside) {i : Instruction}
        (lent : IsLent m.limits rest i) where
      pub lent_here : IsLent before.machine.limits (drop h.count bytes) i
      lent_here =
          let longer : drop h.count bytes ≡ rest ++ whole.behind =
          ap (drop h.count) whole.all ∙ (drop-append-le h.count inside whole.behind h.within
          ∙ ap (λ (l : List ℕ). l ++ whole.behind) (sym h.left)) in
          rw (longer, ← h.same_limits) (lent_longer m.limits rest whole.behind i lent)

      inside_rest : h.count + length (spelling i) ≤ length inside
      inside_rest =
          let within = h.within in
          let all = ap length lent.spelled in
          let left = ap length h.left in
          omega (
            arith,
            within,
            left,
            all,
            length-append (spelling i) lent.rest,
            length-drop h.count inside,
          )

      pub frame_after : counted (before.frame - h.count) (piece_of i)
          ≡ Some (before.frame - (h.count + length (spelling i)))
      frame_after =
          let room = inside_rest in
          counted_inside before.frame h.count (length (spelling i)) _ lent.role (omega arith)
          (λ some. let few = whole.few some in omega (arith, few, room))

      -- one more is accepted
      pub along_more : {n : View} {moved : Moved} → GoesOn policy i m n moved
          → Along holding policy at bytes inside before (drop (length (spelling i)) rest) n
          (hs ++ heard_before holding (at + h.count) i m ∷ [])
      along_more {moved = moved} (progress, e, becomes, is) = record {
        number = suc h.number;
        count = h.count + length (spelling i);
        pass = (
          record { frame = before.frame - h.count; machine = m },
          h.count,
          i,
          hs,
          h.pass,
          lent_here,
          (frame_after, (moved, (progress, e, becomes, is))),
          refl,
          refl,
        );
        left = ap (drop (length (spelling i))) h.left
            ∙ drop-drop (length (spelling i)) h.count inside;
        within = inside_rest;
        same_limits = ap (λ v. v.limits) becomes ∙ h.same_limits;
        refused = ap (λ v. v.refused) becomes ∙ h.refused;
        stopped = ap (λ v. v.stopped) becomes ∙ ap stopped_by is
            ∙ same_end m.old_strings i progress.import ∙ ap is_ended lent.goes_on;
      }

      -- the instruction stands behind those
      abbrev pub stop_here : {count : ℕ} → count ≡ length inside - length rest
          → StopsAt holding policy at bytes before count
      stop_here place =
          let is = passed ∙ sym place in
          record {
            number = h.number;
            between = record { frame = before.frame - h.count; machine = m };
            earlier = hs;
            instruction = i;
            pass = subst (λ c. PassInTurn holding policy at bytes before h.number
                (record { frame = before.frame - h.count; machine = m }) c hs) is h.pass;
            lent = subst (λ c. IsLent before.machine.limits (drop c bytes) i) is lent_here;
          }

      -- and is refused
      abbrev pub turned_down : {n : View} {t : Turned} → t.before ≡ length inside - length rest
          → t.length ≡ length (spelling i) → FailsStep policy i m n t.reason
          → TurnsDown holding policy at bytes before n t
      turned_down place long fails = record {
        here = stop_here place;
        long = long;
        why = inr ((_, frame_after), fails);
      }

-- the bytes behind the first ones, as a slice of them shows
pub behind_slice : (n : ℕ) (xs : List ℕ) → take (length xs - n) (drop n xs) ≡ drop n xs
behind_slice n xs = take_all (length xs - n) (drop n xs) (omega (arith, length-drop n xs))

-- fewer bytes are left behind a lent instruction
pub shorter : (limits : Bounds) (rest : List ℕ) (i : Instruction) (n : ℕ) → IsLent limits rest i
    → n ≡ length (spelling i) → length (take (length rest - n) (drop n rest)) < length rest
shorter limits rest i n lent is =
    let all = ap length lent.spelled in
    rw (behind_slice n rest)
    (omega (arith, is, all, length-append (spelling i) lent.rest, length-drop n rest))

-- a lent instruction lies in the bytes
pub lent_within : (limits : Bounds) (bytes : List ℕ) (i : Instruction) → IsLent limits bytes i
    → length (spelling i) ≤ length bytes
lent_within limits bytes i lent =
    omega (arith, ap length lent.spelled, length-append (spelling i) lent.rest)

-- and so do all of them
pub pass_within : (holding : Bool) (policy : Policy) (at : ℕ) (bytes : List ℕ)
    (before : SessionView) (n : ℕ)
    (after : SessionView) (count : ℕ) (hs : List Report)
    → PassInTurn holding policy at bytes before n after count hs → count ≤ length bytes
pass_within holding policy at bytes before zero after count hs (is, none, same) =
    omega (arith, none)
pass_within holding policy at bytes before (suc n) after count hs
    (between, so_far, i, earlier, pass, lent, both, is, same) =
    let front = pass_within holding policy at bytes before n between so_far earlier pass in
    let long = lent_within before.machine.limits (drop so_far bytes) i lent in
    omega (arith, is, front, long, length-drop so_far bytes)

-- the one behind them lies in the bytes too
pub stops_within : {holding : Bool} {policy : Policy} {at : ℕ} {bytes : List ℕ}
    {before : SessionView} {count : ℕ} (here : StopsAt holding policy at bytes before count)
    → count + length (spelling here.instruction) ≤ length bytes
stops_within {holding} {policy} {at} {bytes} {before} {count} here =
    let front = pass_within holding policy at bytes before here.number here.between count
    here.earlier here.pass in
    let long = lent_within before.machine.limits (drop count bytes) here.instruction here.lent in
    omega (arith, front, long, length-drop count bytes)
