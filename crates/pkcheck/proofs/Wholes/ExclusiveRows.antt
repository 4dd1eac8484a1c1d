-- No row of pickles is both accepted and refused.
use Rattle.std.proofs.Common.{◌≡◌, ◌≢◌, ℕ, ◌+◌, ◌<◌, inl, inr, List, [], ◌∷◌, ◌++◌, length, Option}
use Rattle.std.proofs.Common.{Some, refl, sym, ap, subst, ◌∙◌, arith, length-append, append-nil}
use Rattle.std.proofs.Common.{append_assoc}
use Rattle.std.specs.Prelude.{All, flat_map}
use Rattle.std.specs.Io.KnownBytes.{IsAtEnd}
use Rattle.std.proofs.lemmas.List.{map-append}
use Rattle.pkops.specs.Limits.{Bounds}
use Rattle.pkops.specs.Payloads.{payload_limit, payload_limit_at}
use Rattle.pkops.specs.Scans.{Begun}
use Rattle.pkops.specs.Spelling.{Instruction, spelling}
use Rattle.pkops.specs.declared.Op.TheVariants as op
use Rattle.pkops.specs.declared.Reason.{Reason}
use Rattle.pkops.specs.declared.Reason.TheVariants as reason
use Rattle.pkread.specs.Rows.{IsAmiss, ShowsReason, Sight, Takes, all_bytes}
use Rattle.pkread.specs.Sequence.{spellings}
use Rattle.pkread.specs.Sequences.{OneFront, OneSequence, SequenceGoesOn}
use Rattle.pkcheck.specs.declared.loading.Loading.{Loading}
use Rattle.pkmachine.specs.declared.memo.Memo.{Memo}
use Rattle.pkmachine.specs.declared.memo.Memo.TheVariants.{Fresh, Kept}
use Rattle.pkmachine.specs.declared.old_strings.OldStrings.{OldStrings}
use Rattle.pkcheck.specs.Exclusive.{YesOfRowExcludesNo}
use Rattle.pkmachine.specs.Faults.{Arrivals, everyone}
use Rattle.pkmachine.specs.Knowledge.{Policy}
use Rattle.pkimport.specs.Import.{Asked}
use Rattle.pkcheck.specs.Refused.{RefusedFrom, Why, growing, judging, reading}
use Rattle.pkcheck.specs.RowOfPickles.{AreAccepted, HasMore, begins, bytes_of_all}
use Rattle.pkmachine.specs.RowRuns.{Beginning, Pickle, run_row, sequences_of, RunsFrom}
use Rattle.pkcheck.specs.RunFaults.{HasRunFault}
use Rattle.pkmachine.specs.Runs.{CanCome, Outcome, State, start}
use Rattle.pkmachine.specs.WholeRuns.{CanGetTo, GetsTo}
use Rattle.pkcheck.proofs.Wholes.Examples.{bare}
use Rattle.pkcheck.proofs.Wholes.Exclusive.{OneAnswer, at_end, consumed, not_amiss, not_refused}
use Rattle.pkcheck.proofs.Wholes.RowOfPickles.{some_byte}

-- ---- runs behind pickles depend on the instructions of these alone

module _ (setting : OldStrings) (q : List Instruction) where
  abbrev runs_behind : List (List Instruction) → Arrivals
  runs_behind ps = record {
    setting = setting;
    any = λ s. (first : State)
        × ((os : List (List Outcome)) × (run_row setting ps os start ≡ Some first))
        × GetsTo setting q first s;
    some = λ s. (first : State)
        × ((os : List (List Outcome)) × All (All CanCome) os
        × (run_row setting ps os start ≡ Some first))
        × CanGetTo setting q first s;
    outcome = CanCome;
  }

  not_both : (p : List Instruction) (ps : List (List Instruction)) → [] ≡ p ∷ ps → ⊥
  not_both p ps e = cc

  pub same_runs : (F : Arrivals → Type 0) (memo : Memo) (xs ys : List Pickle)
      → sequences_of xs ≡ sequences_of ys → F (RunsFrom setting (begins memo xs) q)
      → F (RunsFrom setting (begins memo ys) q)
  same_runs F Fresh xs ys e h = h
  same_runs F Kept [] [] e h = h
  same_runs F Kept [] (y ∷ ys) e h = absurd (not_both y.instructions (sequences_of ys) e)
  same_runs F Kept (x ∷ xs) [] e h = absurd (not_both x.instructions (sequences_of xs) (sym e))
  same_runs F Kept (x ∷ xs) (y ∷ ys) e h = subst (λ ps. F (runs_behind ps)) e h

-- ---- lists

bytes_split : (xs ys : List Pickle)
    → length (bytes_of_all (xs ++ ys)) ≡ length (bytes_of_all xs) + length (bytes_of_all ys)
bytes_split [] ys = omega arith
bytes_split (x ∷ xs) ys = omega (
  arith,
  bytes_split xs ys,
  length-append (spellings x.instructions) (bytes_of_all (xs ++ ys)),
  length-append (spellings x.instructions) (bytes_of_all xs),
)

both_empty : (a b : List ℕ) → [] ≡ a ++ b → (a ≡ []) × (b ≡ [])
both_empty [] b e = (refl, sym e)
both_empty (x ∷ a) b e = cc

-- ---- a source without another byte

module _ (one : OneAnswer) (nothing : (limit : ℕ) → Begun limit []) (here after : Sight)
    (is : here.left ≡ Some []) where
  empty : (bytes : List ℕ) → Takes here after bytes → bytes ≡ []
  empty bytes t = let c = consumed here [] bytes after is t in (both_empty bytes c.0 c.2).0

  amiss : (limit : ℕ) (bytes : List ℕ) (r : Reason) → Takes here after bytes
      → IsAmiss limit bytes r → ⊥
  amiss limit bytes r t h = not_amiss one limit [] (bare op.Stop) refl
      (inl (nothing limit, omega arith)) r (subst (λ z. IsAmiss limit z r) (empty bytes t) h)

  none_shown : (limit : ℕ) (bytes : List ℕ) (at taken : ℕ) → taken ≡ at + length bytes
      → at < all_bytes → (r : Reason) → r ≢ reason.Truncated → r ≢ reason.Source
      → r ≢ reason.OutOfMemory → ShowsReason limit here after bytes taken r → ⊥
  none_shown limit bytes at taken is few reason.Truncated t n m h = t refl
  none_shown limit bytes at taken is few reason.Source t n m h = n refl
  none_shown limit bytes at taken is few reason.OutOfMemory t n m h = m refl
  none_shown limit bytes at taken is few reason.TooLarge t n m (k, inl h) =
      amiss limit bytes reason.TooLarge k h
  none_shown limit bytes at taken is few reason.TooLarge t n m (k, inr h) =
      (let all = h.1 in omega (arith, all, is, few, ap length (empty bytes k)))
  none_shown limit bytes at taken is few r t n m h = amiss limit bytes r h.0 h.1

  -- a pickle is refused there only because none begins
  none_refused : (setting : OldStrings) (b : Beginning) (policy : Policy) (limits : Bounds)
      (q : List Instruction) (at : ℕ) → at < all_bytes → (r : Reason) (pair : Option Asked)
      → r ≢ reason.Truncated → r ≢ reason.Source → r ≢ reason.OutOfMemory
      → Why setting b policy limits q here after at r pair → ⊥
  none_refused setting b policy limits q at few r pair t n m (reading h) =
      none_shown (payload_limit_at limits h.bytes) h.bytes at h.taken h.shown.taken few r t n m
      h.shown.row
  none_refused setting b policy limits q at few r pair t n m (judging h) =
      let e = empty (spelling h.instruction) h.bytes in cc
  none_refused setting b policy limits q at few r pair t n m (growing h) = m h.memory

-- ---- both rows, pickle by pickle

module _ (one : OneAnswer) (nothing : (limit : ℕ) → Begun limit []) (front : OneFront)
    (goes : SequenceGoesOn) (unique : OneSequence) where
  module _ (loading : Loading) (policy : Policy) (limits : Bounds) (row before : List Pickle)
      (few : length (bytes_of_all row) < all_bytes) (some : sequences_of row ≢ [])
      (new here after : Sight) (at : ℕ) (r : Reason) (pair : Option Asked)
      (ends : IsAtEnd new.left)
      (refused : RefusedFrom (length (bytes_of_all before)) loading.old_strings
      (begins loading.memo before) policy limits here after at r pair)
      (more : r ≡ reason.Truncated → before ≢ [] → HasMore here)
      (n : r ≢ reason.Source) (m : r ≢ reason.OutOfMemory) where
    -- how many bytes come before the refused pickle
    bytes_before : (done : List Pickle) → sequences_of done ≡ sequences_of before
        → length (bytes_of_all done) ≡ length (bytes_of_all before)
    bytes_before done same = ap (λ ps. length (flat_map spellings ps)) same

    -- the first row has ended, and the second has not
    at_its_end : (done : List Pickle) → row ≡ done ++ [] → sequences_of done ≡ sequences_of before
        → here.left ≡ Some [] → ⊥
    at_its_end done all same is =
        let ended = all ∙ append-nil done in
        let q = refused.instructions in
        let c = consumed here [] (spellings q) refused.here is refused.bytes in
        let none = both_empty (spellings q) c.0 c.2 in
        none_refused one nothing refused.here after (c.1 ∙ ap Some none.1) loading.old_strings
        (begins loading.memo before) policy limits q at
        (omega (
          arith,
          refused.place,
          ap length none.0,
          few,
          ap (λ l. length (bytes_of_all l)) ended,
          bytes_before done same,
        ))
        r pair
        (λ e. more e (λ f. some (ap sequences_of ended ∙ (same ∙ ap sequences_of f))) is) n m
        refused.why

    all_taken : (bytes : List ℕ) (old : Sight) → old.left ≡ Some bytes → Takes old new []
        → bytes ≡ []
    all_taken bytes old is t = let c = consumed old bytes [] new is t in
        c.2 ∙ at_end new.left c.0 c.1 ends

    in_turn : (xs ys done gone : List Pickle) (bytes : List ℕ) (old other : Sight)
        → row ≡ done ++ xs → before ≡ gone ++ ys → sequences_of done ≡ sequences_of gone
        → old.left ≡ Some bytes → other.left ≡ Some bytes
        → AreAccepted loading policy limits old new done xs
        → AreAccepted loading policy limits other here gone ys → ⊥
    in_turn [] [] done gone bytes old other all others same is also a b =
        let c = consumed other bytes [] here also b in
        at_its_end done all (same ∙ ap sequences_of (sym (others ∙ append-nil gone)))
        (c.1 ∙ ap Some (sym c.2 ∙ all_taken bytes old is a))
    in_turn [] (y ∷ ys) done gone bytes old other all others same is also a (middle, (h, _), b) =
        let c = consumed other bytes (spellings h.instructions) middle also h.bytes in
        omega (
          arith,
          some_byte h.instructions h.sequence.stops,
          ap length (sym (all_taken bytes old is a) ∙ c.2),
          length-append (spellings h.instructions) c.0,
        )
    in_turn (x ∷ xs) [] done gone bytes old other all others same is also (middle, (h, is_x), a) b =
        let c = consumed old bytes (spellings h.instructions) middle is h.bytes in
        let d = consumed other bytes [] here also b in
        let like = same ∙ ap sequences_of (sym (others ∙ append-nil gone)) in
        not_refused one nothing front goes c.0 (d.1 ∙ ap Some (sym d.2 ∙ c.2)) h.sequence
        (omega (
          arith,
          few,
          ap (λ l. length (bytes_of_all l)) all,
          bytes_split done (x ∷ xs),
          length-append (spellings x.instructions) (bytes_of_all xs),
          bytes_before done like,
          ap (λ z. length (spellings z)) is_x,
        ))
        (λ q i after e f. h.faultless q i after e r
        (same_runs loading.old_strings q (λ at_i. HasRunFault policy limits q (everyone at_i) i r)
        loading.memo before done (sym like) f))
        refused n m
    in_turn (x ∷ xs) (y ∷ ys) done gone bytes old other all others same is also
        (middle, (h, is_x), a) (between, (k, is_y), b) =
        let c = consumed old bytes (spellings h.instructions) middle is h.bytes in
        let d = consumed other bytes (spellings k.instructions) between also k.bytes in
        let u = unique (payload_limit limits) (payload_limit limits) h.instructions k.instructions
        c.0 d.0 h.sequence k.sequence (sym c.2 ∙ d.2) in
        in_turn xs ys (done ++ x ∷ []) (gone ++ y ∷ []) c.0 middle between
        (all ∙ sym (append_assoc done (x ∷ []) xs))
        (others ∙ sym (append_assoc gone (y ∷ []) ys))
        (map-append (λ (z : Pickle). z.instructions) done (x ∷ [])
        ∙ (ap (λ l. l ++ x.instructions ∷ []) same
        ∙ (ap (λ p. sequences_of gone ++ p ∷ []) (sym is_x ∙ (u.0 ∙ is_y))
        ∙ sym (map-append (λ (z : Pickle). z.instructions) gone (y ∷ [])))))
        c.1 (d.1 ∙ ap Some (sym u.1)) a b

  pub yes_of_row_excludes_no : YesOfRowExcludesNo
  yes_of_row_excludes_no loading policy limits bytes old new taken pickles imports other after
      pickle at r pair known same accepted refused n m =
      in_turn loading policy limits accepted.row refused.before
      (omega (arith, accepted.within, accepted.count)) accepted.is_row.some new refused.here after
      at r pair accepted.ends refused.refused refused.more n m accepted.row refused.before [] []
      bytes old other refl refl refl known same accepted.each refused.each
