-- The slim form, written instruction by instruction.
use Rattle.std.proofs.Common.{◌≡◌, ℕ, ◌+◌, ◌≤◌, List, [], ◌∷◌, ◌++◌, length, take, drop, Option}
use Rattle.std.proofs.Common.{refl, sym, ap, subst, ◌∙◌, arith, append_assoc, append-nil}
use Rattle.std.proofs.Common.{length-append}
use Rattle.std.specs.Prelude.{◌≢◌}
use Rattle.pkops.specs.Spelling.{Instruction, spelling}
use Rattle.pkread.specs.Sequence.{spellings}
use Rattle.pkmachine.specs.Effects.{effect_of}
use Rattle.pkopt.specs.declared.fate.Fate.{Fate}
use Rattle.pkopt.specs.declared.fate.Fate.TheVariants.{IsPast}
use Rattle.pkopt.specs.declared.fate.Plan.{Plan}
use Rattle.pkopt.specs.declared.place.Place.{Place}
use Rattle.pkopt.specs.Private.Fates.{fate_by, fate_in, reads_after, writes_after, IsPlanFor}
use Rattle.pkopt.specs.Limit.{IsPastLimit}
use Rattle.pkopt.specs.Slim.{slim, left_of, slim_from}
use Rattle.pkopt.specs.Private.Passes.{memo_use}
use Rattle.pkopt.specs.Private.Places.{places_from}
use Rattle.pkopt.specs.Writers.{Writes, after, sources, new_number, after_all}
use Rattle.pkopt.specs.Private.HeardParts.{after_all-append}
use Rattle.pkopt.proofs.SlimForm.Fates.{At, Emits, RightFor, fate_right, at_next, on_right}
use Rattle.pkopt.proofs.SlimForm.Fates.{past_right}
use Rattle.pkopt.proofs.SlimForm.Unchanged.{AllPlain, Next, Slim, after_plain, form_on, form_up_to}
use Rattle.pkopt.proofs.SlimForm.Unchanged.{form_written, next_place, none_ahead, second}
use Rattle.pkopt.proofs.SlimForm.Unchanged.{slim_plain, sources_plain, spellings-append}

-- the output is the slim form
pub record IsSlim (p : List Instruction) (limit : ℕ) (out : List ℕ) : Type 0 where
  pub spelled : out ≡ spellings (slim p)
  pub fits : new_number (sources [] p) (length (after_all p [])) ≤ limit

-- the input of the second pass: bytes that begin with the pickle, the places of its instructions
-- that may change, its length in bytes, and a plan
pub record Aims (bytes : List ℕ) (places : List Place) (taken : ℕ) (plan : Plan)
    (p : List Instruction) : Type 0 where
  pub rest : List ℕ
  pub spelled : bytes ≡ spellings p ++ rest
  pub places_so : places ≡ places_from 0 p
  pub taken_so : taken ≡ length (spellings p)
  pub planned : IsPlanFor p plan

-- the write at this offset is read, and its number would be the limit
pub record IsPastAt (p : List Instruction) (limit at : ℕ) : Type 0 where
  pub before : List Instruction
  pub past : IsPastLimit limit p before
  pub place : at ≡ length (spellings before)

slim_from-append : (vs : List (Option ℕ)) (ws : Writes) (is js : List Instruction)
    → slim_from vs ws (is ++ js) ≡ slim_from vs ws is ++ slim_from vs (after_all is ws) js
slim_from-append vs ws [] js = refl
slim_from-append vs ws (x ∷ xs) js = ap
    (λ (l : List Instruction). left_of vs ws (effect_of x.op) x ++ l)
    (slim_from-append vs (after x ws) xs js)
    ∙ sym (append_assoc (left_of vs ws (effect_of x.op) x) (slim_from vs (after x ws) xs)
    (slim_from vs (after_all xs (after x ws)) js))

-- one more instruction was processed
pub record AddsPlace (plan : Plan) (bytes : List ℕ) (place : Place) (old new : Slim) : Type 0 where
  pub goes_on : fate_in plan place.op old.writes old.reads ≢ IsPast
  pub writes_now : new.writes ≡ writes_after (memo_use place.op) old.writes
  pub reads_now : new.reads ≡ reads_after (memo_use place.op) old.reads
  pub from_now : new.from ≤ place.at + place.size
  pub form_now : Emits (fate_in plan place.op old.writes old.reads) place.op
      (take place.size (drop place.at bytes)) (form_up_to place.at bytes old)
      (form_up_to (place.at + place.size) bytes new)

module _ (bytes : List ℕ) (places : List Place) (taken : ℕ) (plan : Plan) (p : List Instruction)
    (aims : Aims bytes places taken plan p) where
  abbrev vs : List (Option ℕ)
  vs = sources [] p

  -- the slim form up to here, where the pass stands between these
  pub record Stood (before left : List Instruction) (at writes reads : ℕ)
      (form : List ℕ) : Type 0 where
    pub parts : p ≡ before ++ left
    pub here : at ≡ length (spellings before)
    pub place : At vs plan.limit (after_all before []) left writes reads
    pub spelled : form ≡ spellings (slim_from vs [] before)

  -- and the places of what isn't plain among what is left
  pub record Slimmed (ahead : List Place) (out : Slim) : Type 0 where
    pub before : List Instruction
    pub left : List Instruction
    pub at : ℕ
    pub stood : Stood before left at out.writes out.reads (form_up_to at bytes out)
    pub begun : out.from ≤ at
    pub ahead_so : ahead ≡ places_from at left

  pub slimmed_first : (out : Slim) → out.writes ≡ 0 → out.reads ≡ 0 → out.from ≡ 0 → out.bytes ≡ []
      → Slimmed places out
  slimmed_first out writes reads from empty = record {
    before = [];
    left = p;
    at = 0;
    stood = record {
      parts = refl;
      here = refl;
      place = record {
        counted = writes;
        reading = ap (λ k. drop k vs) reads;
        within = omega arith;
      };
      spelled = form_written bytes out 0 from ∙ empty;
    };
    begun = omega (arith, from);
    ahead_so = aims.places_so;
  }

  -- the form grows by what these instructions spell
  grown : (form more : List ℕ) (is js : List Instruction) → form ≡ spellings is
      → more ≡ spellings js → form ++ more ≡ spellings (is ++ js)
  grown form more is js e f =
      ap (λ (l : List ℕ). l ++ more) e ∙ ap (λ (l : List ℕ). spellings is ++ l) f
      ∙ sym (spellings-append is js)

  -- the plain instructions stay as they are
  stood_plain : (before q js : List Instruction) (at writes reads : ℕ) (form : List ℕ) → AllPlain q
      → Stood before (q ++ js) at writes reads form
      → Stood (before ++ q) js (at + length (spellings q)) writes reads (form ++ spellings q)
  stood_plain before q js at writes reads form plain h =
      let ws = after_all before [] in
      let e = ap (λ (l : List ℕ). length l) (spellings-append before q) in
      let l = length-append (spellings before) (spellings q) in
      let here = h.here in
      let same : after_all (before ++ q) [] ≡ ws = after_all-append before q []
      ∙ ap (λ (l : List Instruction). after_all l ws) (sym (append-nil q))
      ∙ after_plain q [] ws plain in
      record {
        parts = h.parts ∙ sym (append_assoc before q js);
        here = omega (arith, here, e, l);
        place = rw same (record {
          counted = h.place.counted;
          reading = h.place.reading ∙ sources_plain q js ws plain;
          within = h.place.within;
        });
        spelled = grown form (spellings q) (slim_from vs [] before) q h.spelled refl
            ∙ ap (λ l. spellings l)
            (sym (slim_from-append vs [] before q ∙ ap
            (λ (l : List Instruction). slim_from vs [] before ++ l) (slim_plain vs q ws plain)));
      }

  bytes_at : (before left : List Instruction) → p ≡ before ++ left
      → bytes ≡ spellings before ++ (spellings left ++ aims.rest)
  bytes_at before left parts =
      aims.spelled ∙ ap (λ q. spellings q ++ aims.rest) parts
      ∙ ap (λ (l : List ℕ). l ++ aims.rest) (spellings-append before left)
      ∙ append_assoc (spellings before) (spellings left) aims.rest

  -- the bytes of instructions in the middle
  middle : (before q js : List Instruction) (at : ℕ) → at ≡ length (spellings before)
      → p ≡ before ++ (q ++ js) → take (length (spellings q)) (drop at bytes) ≡ spellings q
  middle before q js at here parts =
      second bytes (spellings before) (spellings q)
      (spellings js ++ aims.rest) at (length (spellings q)) here refl
      (bytes_at before (q ++ js) parts ∙ ap (λ (l : List ℕ). spellings before ++ (l ++ aims.rest))
      (spellings-append q js)
      ∙ ap (λ (l : List ℕ). spellings before ++ l)
      (append_assoc (spellings q) (spellings js) aims.rest))

  -- the form grows by the plain instructions
  form_plain : (before q js : List Instruction) (out : Slim) (at : ℕ) → AllPlain q
      → out.from ≤ at → Stood before (q ++ js) at out.writes out.reads (form_up_to at bytes out)
      → Stood (before ++ q) js (at + length (spellings q)) out.writes out.reads
      (form_up_to (at + length (spellings q)) bytes out)
  form_plain before q js out at plain le h =
      rw (form_on bytes out at (length (spellings q)) le
      ∙ ap (λ (l : List ℕ). form_up_to at bytes out ++ l) (middle before q js at h.here h.parts))
      (stood_plain before q js at out.writes out.reads (form_up_to at bytes out) plain h)

  module _ (place : Place) (later : List Place) (out : Slim) (h : Slimmed (place ∷ later) out) where
    next : Next h.at place later h.left
    next = next_place h.left h.at place later h.ahead_so

    abbrev done : List Instruction
    done = h.before ++ next.plain

    abbrev i : Instruction
    i = next.first

    abbrev ws : Writes
    ws = after_all done []

    stands_at : place.at ≡ h.at + length (spellings next.plain)
    stands_at = ap (λ (x : Place). x.at) next.stands

    size_so : place.size ≡ length (spelling i)
    size_so = ap (λ (x : Place). x.size) next.stands

    same : place.op ≡ i.op
    same = ap (λ (x : Place). x.op) next.stands

    there : Stood done (i ∷ next.others) place.at out.writes out.reads
        (form_up_to place.at bytes out)
    there = subst
        (λ n. Stood done (i ∷ next.others) n out.writes out.reads (form_up_to n bytes out))
        (sym stands_at)
        (form_plain h.before next.plain (i ∷ next.others) out h.at next.all_plain h.begun
        (rw next.parts at h.stood))

    -- it begins behind what is copied
    pub begun_at : out.from ≤ place.at
    begun_at = let e = stands_at in let le = h.begun in omega (arith, e, le)

    spelled_at : take place.size (drop place.at bytes) ≡ spelling i
    spelled_at =
        let one : spellings (i ∷ []) ≡ spelling i = append-nil (spelling i) in
        ap (λ n. take n (drop place.at bytes)) (size_so ∙ ap (λ (l : List ℕ). length l) (sym one))
        ∙ middle done (i ∷ []) next.others place.at there.here there.parts ∙ one

    abbrev fate : Fate
    fate = fate_in plan i.op out.writes out.reads

    right : RightFor vs plan.limit plan.numbers.items aims.planned.numbers ws i next.others
        (effect_of i.op) fate
    right = subst
        (λ (l : List (Option ℕ)). RightFor vs plan.limit plan.numbers.items
        aims.planned.numbers ws i next.others (effect_of i.op)
        (fate_by (memo_use i.op) l plan.numbers.items plan.limit i.op out.writes out.reads))
        (sym aims.planned.reads)
        (fate_right vs plan.limit plan.numbers.items aims.planned.numbers ws i next.others
        out.writes out.reads there.place)

    -- it isn't passed
    pub slimmed_halted : fate_in plan place.op out.writes out.reads ≡ IsPast
        → IsPastAt p plan.limit place.at
    slimmed_halted q =
        let past = past_right vs plan.limit plan.numbers.items aims.planned.numbers ws i
        next.others (effect_of i.op) fate
        (subst (λ o. fate_in plan o out.writes out.reads ≡ IsPast) same q) right in
        record {
          before = done;
          past = (i, next.others, there.parts, past.0, past.1, past.2);
          place = there.here;
        }

    -- it is passed
    pub slimmed_next : (new : Slim) → AddsPlace plan bytes place out new → Slimmed later new
    slimmed_next new adds =
        let goes = subst (λ o. fate_in plan o out.writes out.reads ≢ IsPast) same adds.goes_on in
        let written = on_right vs plan.limit plan.numbers.items aims.planned.numbers ws i
        next.others (effect_of i.op) fate goes right in
        let spelled = take place.size (drop place.at bytes) in
        let form = form_up_to (place.at + place.size) bytes new in
        let emitted = rw same at adds.form_now in
        let more : after_all (done ++ i ∷ []) [] ≡ after i ws = after_all-append done (i ∷ []) [] in
        let counts = rw same at adds.writes_now in
        let reads = rw same at adds.reads_now in
        let one = append-nil (spelling i) in
        let e = ap (λ (l : List ℕ). length l) (spellings-append done (i ∷ [])) in
        let l = length-append (spellings done) (spelling i ++ []) in
        let k = ap (λ (l : List ℕ). length l) one in
        let here = there.here in
        let size = size_so in
        record {
          before = done ++ i ∷ [];
          left = next.others;
          at = place.at + place.size;
          stood = record {
            parts = there.parts ∙ sym (append_assoc done (i ∷ []) next.others);
            here = omega (arith, here, e, l, k, size);
            place = rw (more, counts, reads)
                (at_next vs plan.limit plan.numbers.items aims.planned.numbers ws i next.others
                out.writes out.reads there.place written.1);
            spelled = written.0 (form_up_to place.at bytes out) form spelled spelled_at emitted
                ∙ grown (form_up_to place.at bytes out)
                (spellings (left_of vs ws (effect_of i.op) i)) (slim_from vs [] done)
                (left_of vs ws (effect_of i.op) i) there.spelled refl
                ∙ ap (λ l. spellings l)
                (ap (λ (l : List Instruction). slim_from vs [] done ++ l)
                (sym (append-nil (left_of vs ws (effect_of i.op) i)))
                ∙ sym (slim_from-append vs [] done (i ∷ [])));
          };
          begun = adds.from_now;
          ahead_so = next.ahead ∙ ap (λ n. places_from n next.others)
              (sym (ap (λ n. n + place.size) stands_at
              ∙ ap (λ n. h.at + length (spellings next.plain) + n) size_so));
        }

  -- all of it is passed
  module _ (out : Slim) (h : Slimmed [] out) where
    all_plain : AllPlain h.left
    all_plain = none_ahead h.left h.at h.ahead_so

    taken_at : taken ≡ h.at + length (spellings h.left)
    taken_at =
        let here = h.stood.here in
        let t = aims.taken_so in
        let e = ap (λ q. length (spellings q)) h.stood.parts in
        let a = ap (λ (l : List ℕ). length l) (spellings-append h.before h.left) in
        let l = length-append (spellings h.before) (spellings h.left) in
        omega (arith, here, t, e, a, l)

    pub slimmed_last : (new : List ℕ) → new ≡ form_up_to taken bytes out → IsSlim p plan.limit new
    slimmed_last new written =
        let s = form_plain h.before h.left [] out h.at all_plain h.begun
        (rw (append-nil h.left) h.stood) in
        let all : h.before ++ h.left ≡ p = sym h.stood.parts in
        record {
          spelled = written ∙ ap (λ n. form_up_to n bytes out) taken_at ∙ s.spelled
              ∙ ap (λ q. spellings (slim_from vs [] q)) all;
          fits = rw (ap (λ q. after_all q []) all) at s.place.within;
        }
