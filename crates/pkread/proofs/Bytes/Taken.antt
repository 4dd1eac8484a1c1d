-- Reads, and what several of them take.
use Rattle.std.proofs.Common.{◌≡◌, ◌≢◌, ℕ, zero, suc, ◌+◌, ◌-◌, ◌%◌, ◌^◌, ◌<◌, ◌≤◌, List, [], ◌∷◌}
use Rattle.std.proofs.Common.{◌++◌, length, take, drop, get_or, Option, None, Some, refl, sym, ap}
use Rattle.std.proofs.Common.{subst, ◌∙◌, arith, length-append, append_assoc, append-nil}
use Rattle.std.proofs.Common.{drop_at, get_or-drop, length-drop, length-take, take-take}
use Rattle.std.proofs.Common.{take_at, take-add, Result, Ok, Err}
use Rattle.std.specs.Io.KnownBytes.{Consumes}
use Rattle.std.specs.List.{AllByRecursion}
use Rattle.std.proofs.lemmas.List.{drop-take}
use Rattle.pkops.specs.declared.Reason.TheVariants.{Source, Truncated, TooLarge, OutOfMemory}
use Rattle.pkread.proofs.Bytes.Takes.{Consumes-more, Takes-more, Takes-none}
use Rattle.pkread.specs.Rows.{Reason, Sight, Takes, all_bytes}
use Rattle.pkread.specs.Private.Progress.{Intake}
use Rattle.pkread.specs.Private.Reads.{LackRow, LacksSome, PulledInto, ReadsSome, ReadsByte}
use Rattle.pkread.specs.Private.Reads.{ReadsNone, TakesAll, Took, TookAll}
use Rattle.pkread.specs.Pull.{AreAllBytes}

pub AreBytes-take : (n : ℕ) (c : List ℕ) → AreAllBytes c → AreAllBytes (take n c)
AreBytes-take zero c f i = omega arith
AreBytes-take (suc n) [] f i = f i
AreBytes-take (suc n) (x ∷ c) f zero = f 0
AreBytes-take (suc n) (x ∷ c) f (suc i) = AreBytes-take n c (λ k. f (suc k)) i

pub AreBytes-drop : (n : ℕ) (c : List ℕ) → AreAllBytes c → AreAllBytes (drop n c)
AreBytes-drop n c h i = rw get_or-drop (h (n + i))

pub AreBytes-both : (a b : List ℕ) → AreAllBytes a → AreAllBytes b → AreAllBytes (a ++ b)
AreBytes-both [] b f g i = g i
AreBytes-both (x ∷ a) b f g zero = f 0
AreBytes-both (x ∷ a) b f g (suc i) = AreBytes-both a b (λ k. f (suc k)) g i

-- what stands in a store behind a place was read
pub pulled_reads : (wanted n from : ℕ) (items mid new : List ℕ) (before after : Sight) →
    from + wanted ≤ length mid → take from mid ≡ take from items →
    PulledInto wanted n from mid new before after → 0 < n →
    ReadsSome wanted n (take from items) before (take (from + n) new) after
pulled_reads wanted n from items mid new before after room same p some =
    let size = p.size in
    let within = p.within in
    record {
      bytes = take n (drop from new);
      fit = AreBytes-take n (drop from new) (AreBytes-drop from new p.fit);
      held = take-add from n new ∙ ap (λ (l : List ℕ). l ++ take n (drop from new)) (p.same ∙ same);
      taken = p.taken;
      some = some;
      within = within;
      count = omega (arith, length-take n (drop from new), length-drop from new);
    }

-- nothing was taken so far
pub takes_none : (s : Sight) → Takes s s []
takes_none s = none_of s.left s.failures
  where
    none_of : (left : Option (List ℕ)) (f : ℕ) →
        let s : Sight = record { left = left; failures = f } in Takes s s []
    none_of None f = record { bytes = tt; count = refl }
    none_of (Some xs) f = record { bytes = refl; count = refl }

pub took_none : (p : Intake) → Took [] p p
took_none p = record {
  fit = λ i. omega arith;
  held = sym (append-nil p.bytes);
  source = takes_none p.source;
  count = omega arith;
}

lack_row : (o m p : Sight) (c : List ℕ) (u : ℕ) (r : Reason) →
    Takes o m c → u < all_bytes → ReadsNone m p r → LackRow o p c u r
lack_row o m p c u Source k l h = record {
  between = m.left;
  bytes = k.bytes;
  count = h ∙ ap (λ (f : ℕ). (f + 1) % (2 ^ 64)) k.count;
}
lack_row o m p c u Truncated k l h = (Takes-none k h.0, h.1, l)
lack_row o m p c u OutOfMemory k l h = Takes-none k h
lack_row o m p c u _ k l h = absurd h

-- a read gave none, where some are wanted
pub lacks_all : (count : ℕ) (old new : Intake) (r : Reason) →
    0 < count → old.taken < all_bytes → new.bytes ≡ old.bytes → new.taken ≡ old.taken →
    ReadsNone old.source new.source r → LacksSome count old new r
lacks_all count old new r some room same still h = record {
  bytes = [];
  fit = λ i. omega arith;
  held = same ∙ sym (append-nil old.bytes);
  count_is = omega (arith, still);
  lacks = some;
  row = lack_row old.source old.source new.source [] new.taken r (takes_none old.source)
      (omega (arith, room, still)) h;
}

-- what was taken in two steps
pub took_both : (c d : List ℕ) (old mid new : Intake) →
    Took c old mid → Took d mid new → Took (c ++ d) old new
took_both c d old mid new k l = record {
  fit = AreBytes-both c d k.fit l.fit;
  held = l.held ∙ (ap (λ (b : List ℕ). b ++ d) k.held ∙ append_assoc old.bytes c d);
  source = Takes-more k.source l.source;
  count = omega (arith, k.count, l.count, length-append c d);
}

pub lack_more : (o m p : Sight) (c d : List ℕ) (u : ℕ) (r : Reason) →
    Takes o m c → LackRow m p d u r → LackRow o p (c ++ d) u r
lack_more o m p c d u Source k h = record {
  between = h.between;
  bytes = Consumes-more o.left m.left h.between c d k.bytes h.bytes;
  count = h.count ∙ ap (λ (f : ℕ). (f + 1) % (2 ^ 64)) k.count;
}
lack_more o m p c d u Truncated k h = (Takes-more k h.0, h.1, h.2)
lack_more o m p c d u TooLarge k h = (Takes-more k h.0, h.1)
lack_more o m p c d u OutOfMemory k h = Takes-more k h
lack_more o m p c d u _ k h = absurd h

-- one byte, as a field of one
pub took_one : (x : ℕ) (old new : Intake) → Took (x ∷ []) old new → TookAll 1 old new
took_one x old new k = record { bytes = x ∷ []; took = k; all = refl }

-- a byte more that ends no line
pub endless_more : (c : List ℕ) (x : ℕ) →
    AllByRecursion (λ byte. byte ≢ 10) c → x ≢ 10 → AllByRecursion (λ byte. byte ≢ 10) (c ++ x ∷ [])
endless_more [] x h ne = (ne, tt)
endless_more (y ∷ c) x h ne = (h.0, endless_more c x h.1 ne)

-- fewer came behind some that were taken
pub lacks_after : (count left : ℕ) (c : List ℕ) (old mid new : Intake) (reason : Reason) →
    Took c old mid → length c + left ≡ count → LacksSome left mid new reason →
    LacksSome count old new reason
lacks_after count left c old mid new reason k all s =
    let lacks = s.lacks in
    record {
      bytes = c ++ s.bytes;
      fit = AreBytes-both c s.bytes k.fit s.fit;
      held = s.held ∙ (ap (λ (b : List ℕ). b ++ s.bytes) k.held ∙ append_assoc old.bytes c s.bytes);
      count_is = omega (arith, s.count_is, k.count, length-append c s.bytes);
      lacks = omega (arith, all, lacks, length-append c s.bytes);
      row = lack_more old.source mid.source new.source c s.bytes new.taken reason k.source s.row;
    }

-- some bytes, and then the rest
module _ (count n v : ℕ) (c : List ℕ) (old mid new : Intake)
    (k : Took c old mid) (is : length c ≡ n) (le : n ≤ count) (rest : v ≡ count - n) where
  pub takes_rest : {A : Type 0} (r : Result A Reason) → TakesAll v r mid new →
      TakesAll count r old new
  takes_rest (Ok x) s =
      let all = s.all in
      record {
        bytes = c ++ s.bytes;
        took = took_both c s.bytes old mid new k s.took;
        all = omega (arith, is, all, le, rest, length-append c s.bytes);
      }
  takes_rest (Err reason) s =
      lacks_after count v c old mid new reason k (omega (arith, is, le, rest)) s

all_of_one : (n : ℕ) (to : List ℕ) → length to ≡ 1 → n ≤ length to → 0 < n →
    take n to ≡ get_or to 0 0 ∷ []
all_of_one n [] e le some = absurd (omega arith)
all_of_one n (x ∷ []) e le some = let is : n ≡ 1 = omega arith in rw is refl
all_of_one n (x ∷ y ∷ to) e le some = absurd (omega arith)

-- a byte was put behind those held
pub byte_reads : (n held : ℕ) (items mid new to : List ℕ) (before after : Sight) → length to ≡ 1 →
    n ≤ length to → 0 < n → take (held + 1) new ≡ take held mid ++ get_or to 0 0 ∷ [] →
    take held mid ≡ take held items → Consumes before.left after.left (take n to) →
    after.failures ≡ before.failures → get_or to 0 0 < 256 →
    ReadsByte (get_or to 0 0) (take held items) before (take (held + 1) new) after
byte_reads n held items mid new to before after e le some put same took still fits = record {
  fit = fits;
  held = put ∙ ap (λ (l : List ℕ). l ++ get_or to 0 0 ∷ []) same;
  taken = record { bytes = rw (all_of_one n to e le some) at took; count = still };
}

-- a field was put behind the bytes held
module _ (n held size : ℕ) (items mid new to : List ℕ) (len : length to ≡ size) (room : held + size
    ≤ length mid) (le : n ≤ length to) (put : take (held + size) new ≡ take held mid ++ to) where
  head : length (take held mid) ≡ held
  head = omega (arith, room, length-take held mid)

  kept : take held new ≡ take held mid
  kept = sym (take-take held (held + size) new (omega arith)) ∙ (ap (take held) put
      ∙ take_at (take held mid) to held head)

  behind : take n (drop held new) ≡ take n to
  behind = sym (take-take n size (drop held new) (omega (arith, len, le)))
      ∙ ap (take n) (sym (drop-take held size new) ∙ (ap (drop held) put
      ∙ drop_at (take held mid) to held head))

  -- of which so many bytes were read
  pub field_reads : (before after : Sight) → 0 < n → take held mid ≡ take held items →
      Consumes before.left after.left (take n to) → after.failures ≡ before.failures →
      AreAllBytes new → ReadsSome size n (take held items) before (take (held + n) new) after
  field_reads before after some same took still fits = record {
    bytes = take n to;
    fit = subst AreAllBytes behind (AreBytes-take n (drop held new) (AreBytes-drop held new fits));
    held = take-add held n new ∙ (ap (λ (l : List ℕ). l ++ take n (drop held new)) (kept ∙ same)
        ∙ ap (λ (l : List ℕ). take held items ++ l) behind);
    taken = record { bytes = took; count = still };
    some = some;
    within = omega (arith, len, le);
    count = omega (arith, le, length-take n to);
  }

-- the first byte that a buffer holds
pub first_held : (n x : ℕ) (items : List ℕ) → (n ≡ 0 → ⊥) → n ≤ length items →
    x ≡ get_or items 0 x → (rest : List ℕ) × (take n items ≡ x ∷ rest)
first_held zero x items some within is = absurd (some refl)
first_held (suc n) x [] some within is = absurd (omega (arith, within))
first_held (suc n) x (y ∷ items) some within is =
    (take n items, ap (λ z. z ∷ take n items) (sym is))
