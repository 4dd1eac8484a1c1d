-- Of the same bytes two refusals to read take as many, and name the same reason.
use Rattle.std.proofs.Common.{◌≡◌, ◌≢◌, ℕ, ◌+◌, ◌<◌, ◌≤◌, inl, inr, cond, List, [], ◌∷◌, ◌++◌}
use Rattle.std.proofs.Common.{length, take, Some, refl, sym, ap, subst, ◌∙◌, arith, length-append}
use Rattle.std.specs.Io.KnownBytes.{IsAtEnd}
use Rattle.std.proofs.lemmas.Bool.{cases_lt}
use Rattle.std.proofs.lemmas.List.{append_cancel_left, take-append-le}
use Rattle.std.proofs.Math.Seq.{take-append_seam, take-length}
use Rattle.pkops.specs.Answer.{Bad, More, Whole}
use Rattle.pkops.specs.Limits.{Bounds}
use Rattle.pkops.specs.Payloads.{is_passed_code, payload_limit_at}
use Rattle.pkops.specs.Scans.{Begun}
use Rattle.pkops.specs.declared.Fault.TheVariants as fault
use Rattle.pkops.specs.declared.Reason.{Reason}
use Rattle.pkops.specs.declared.Reason.TheVariants as reason
use Rattle.pkread.specs.Rows.{IsAmiss, Refuses, ShowsReason, Sight, Takes, all_bytes}
use Rattle.pkcheck.proofs.Wholes.Exclusive.{OneAnswer, at_end, consumed}

-- a reason that concerns neither memory nor the source comes with the bytes that were taken
takes_of : (limit : ℕ) (here new : Sight) (bytes : List ℕ) (taken : ℕ) (r : Reason)
    → r ≢ reason.Source → ShowsReason limit here new bytes taken r → Takes here new bytes
takes_of limit here new bytes taken reason.Source n h = absurd (n refl)
takes_of limit here new bytes taken reason.Truncated n h = h.0
takes_of limit here new bytes taken reason.TooLarge n h = h.0
takes_of limit here new bytes taken reason.OutOfMemory n h = h.0
takes_of limit here new bytes taken r n h = h.0

module _ (one : OneAnswer) (nothing : (limit : ℕ) → Begun limit []) (limits : Bounds)
    (tail : List ℕ) (at : ℕ) (few : at + length tail ≤ all_bytes) where
  -- bytes that begin an instruction aren't amiss
  not_amiss : (limit : ℕ) (bytes : List ℕ) (r : Reason) → Begun limit bytes
      → IsAmiss limit bytes r → ⊥
  not_amiss limit bytes (reason.UnknownOpcode c) begun h =
      let e = one limit bytes More (Bad (fault.UnknownOpcode c)) begun h in cc
  not_amiss limit bytes reason.BadArgument begun h =
      let e = one limit bytes More (Bad fault.BadArgument) begun h in cc
  not_amiss limit bytes reason.TooLarge begun h =
      let e = one limit bytes More (Bad fault.TooLarge) begun h in cc
  not_amiss limit bytes reason.ExtensionCode begun (i, n, w, o) =
      let e = one limit bytes More (Whole i n) begun w in cc
  not_amiss limit bytes (reason.UnsupportedProtocol p) begun (i, n, w, o) =
      let e = one limit bytes More (Whole i n) begun w in cc
  not_amiss limit bytes _ begun h = h

  -- they show a reason only where the source or the room for an offset ends
  ends : (limit : ℕ) (here new : Sight) (bytes : List ℕ) (taken : ℕ) (r : Reason)
      → here.left ≡ Some tail → taken ≡ at + length bytes → r ≢ reason.Source
      → r ≢ reason.OutOfMemory → length bytes < length tail → Begun limit bytes
      → ShowsReason limit here new bytes taken r → ⊥
  ends limit here new bytes taken reason.Source is long n m lt begun h = n refl
  ends limit here new bytes taken reason.OutOfMemory is long n m lt begun h = m refl
  ends limit here new bytes taken reason.Truncated is long n m lt begun (t, end, l, b) =
      let c = consumed here tail bytes new is t in
      let none : c.0 ≡ [] = at_end new.left c.0 c.1 end in
      let e : tail ≡ bytes ++ [] = c.2 ∙ ap (λ z. bytes ++ z) none in
      let k = ap length e in
      omega (arith, k, length-append bytes [], lt)
  ends limit here new bytes taken reason.TooLarge is long n m lt begun (t, inl h) =
      not_amiss limit bytes reason.TooLarge begun h
  ends limit here new bytes taken reason.TooLarge is long n m lt begun (t, inr (b, all)) =
      omega (arith, all, long, lt, few)
  ends limit here new bytes taken r is long n m lt begun h = not_amiss limit bytes r begun h.1

  -- two fronts of the same bytes: the shorter is a front of the longer
  front_of : (a b rest more : List ℕ) → tail ≡ a ++ rest → tail ≡ b ++ more
      → length a ≤ length b → take (length a) b ≡ a
  front_of a b rest more e f le =
      sym (take-append-le (length a) b more le) ∙ ap (take (length a)) (sym f ∙ e)
      ∙ take-append_seam a rest

  -- it has the same limit on payloads, if it has any byte
  begun_alike : (a b : List ℕ) → take (length a) b ≡ a
      → Begun (payload_limit_at limits b) (take (length a) b) → Begun (payload_limit_at limits a) a
  begun_alike [] b e begun = nothing (payload_limit_at limits [])
  begun_alike (c ∷ cs) [] e begun = cc
  begun_alike (c ∷ cs) (d ∷ ds) e begun =
      let same : d ≡ c = cc in
      subst (λ z. Begun (cond (is_passed_code z) limits.passed limits.counted) (c ∷ cs)) same
      (subst (Begun (payload_limit_at limits (d ∷ ds))) e begun)

  -- a refusal to read, for a reason that concerns neither memory nor the source
  module _ (here new : Sight) (bytes : List ℕ) (taken : ℕ) (r : Reason) (is : here.left ≡ Some tail)
      (n : r ≢ reason.Source) (m : r ≢ reason.OutOfMemory)
      (h : Refuses (payload_limit_at limits bytes) here new bytes at taken r) where
    pub read_first : (rest : List ℕ) × (new.left ≡ Some rest) × (tail ≡ bytes ++ rest)
    read_first = consumed here tail bytes new is
        (takes_of (payload_limit_at limits bytes) here new bytes taken r n h.row)

    -- no other takes more
    not_longer : (there after : Sight) (others : List ℕ) (count : ℕ) (s : Reason) (more : List ℕ)
        → tail ≡ others ++ more
        → Refuses (payload_limit_at limits others) there after others at count s
        → length bytes < length others → ⊥
    not_longer there after others count s more f g lt =
        let rest = read_first in
        let le = length-append others more in
        let whole = ap length f in
        let same = front_of bytes others rest.0 more rest.2 f (omega (arith, lt)) in
        ends (payload_limit_at limits bytes) here new bytes taken r is h.taken n m
        (omega (arith, lt, le, whole))
        (begun_alike bytes others same (g.fronts (length bytes) lt)) h.row

    -- what shows a reason to one shows it to the other
    shows : (there after : Sight) (rest more : List ℕ) (s : Reason) → new.left ≡ Some rest
        → after.left ≡ Some more → rest ≡ more → s ≢ reason.Source → s ≢ reason.OutOfMemory
        → ShowsReason (payload_limit_at limits bytes) there after bytes taken s
        → ShowsReason (payload_limit_at limits bytes) here new bytes taken s
    shows there after rest more reason.Source l k e ns ms g = absurd (ns refl)
    shows there after rest more reason.OutOfMemory l k e ns ms g = absurd (ms refl)
    shows there after rest more reason.Truncated l k e ns ms g = (
      takes_of (payload_limit_at limits bytes) here new bytes taken r n h.row,
      subst IsAtEnd (sym l) (e ∙ at_end after.left more k g.1),
      g.2,
      g.3,
    )
    shows there after rest more reason.TooLarge l k e ns ms g =
        (takes_of (payload_limit_at limits bytes) here new bytes taken r n h.row, g.1)
    shows there after rest more s l k e ns ms g =
        (takes_of (payload_limit_at limits bytes) here new bytes taken r n h.row, g.1)

  -- two refusals to read name the same reason
  module _ (here new there after : Sight) (bytes others : List ℕ) (taken count : ℕ) (r s : Reason)
      (is : here.left ≡ Some tail) (n : r ≢ reason.Source) (m : r ≢ reason.OutOfMemory)
      (h : Refuses (payload_limit_at limits bytes) here new bytes at taken r)
      (was : there.left ≡ Some tail) (k : s ≢ reason.Source) (l : s ≢ reason.OutOfMemory)
      (g : Refuses (payload_limit_at limits others) there after others at count s) where
    same_bytes : length bytes ≡ length others → others ≡ bytes
    same_bytes e =
        let a = read_first here new bytes taken r is n m h in
        let b = read_first there after others count s was k l g in
        let front = front_of bytes others a.0 b.0 a.2 b.2 (omega (arith, e)) in
        sym (take-length others) ∙ ap (λ z. take z others) (sym e) ∙ front

    same_reason : others ≡ bytes → r ≡ s
    same_reason e =
        let found : Refuses (payload_limit_at limits bytes) there after bytes at count s =
        subst (λ b. Refuses (payload_limit_at limits b) there after b at count s) e g in
        let a = read_first here new bytes taken r is n m h in
        let b = read_first there after bytes count s was k l found in
        let rests = append_cancel_left bytes a.0 b.0 (sym a.2 ∙ b.2) in
        let all : count ≡ taken = found.taken ∙ sym h.taken in
        sym (h.alone m s l (shows here new bytes taken r is n m h there after a.0 b.0 s a.1 b.1
        rests k l
        (subst (λ z. ShowsReason (payload_limit_at limits bytes) there after bytes z s) all
        found.row)))

    pub one_reason : r ≡ s
    one_reason = elim (cases_lt (length bytes) (length others)) [
      | inl lt ↦
          let b = read_first there after others count s was k l g in
          absurd
          (not_longer here new bytes taken r is n m h there after others count s b.0 b.2 g lt)
      | inr le ↦ elim (cases_lt (length others) (length bytes)) [
        | inl lt ↦
            let a = read_first here new bytes taken r is n m h in
            absurd
            (not_longer there after others count s was k l g here new bytes taken r a.0 a.2 h lt)
        | inr more ↦ same_reason (same_bytes (omega (arith, le, more)))
      ]
    ]
