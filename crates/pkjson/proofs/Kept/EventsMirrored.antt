-- The arena holds what the events say.
use Rattle.std.proofs.Common.{◌≡◌, ℕ, suc, zero, ◌<◌, Bool, true, false, cond, List, [], ◌∷◌, ◌++◌}
use Rattle.std.proofs.Common.{length, refl, sym, ap, ◌∙◌, arith, Option, Some, None, append-nil}
use Rattle.std.proofs.Common.{append_assoc}
use Rattle.std.specs.Prelude.{option_map}
use Rattle.pkops.specs.Spelling.{Instruction}
use Rattle.pkmachine.specs.Runs.{Event, Import, Did}
use Rattle.pkjson.specs.Contents.{Kind, same, kind_by_effect, kinds, maker, given_to, all_given}
use Rattle.pkjson.specs.Contents.{held_by, contents, paired, standing, characters, OfItems, OfPairs}
use Rattle.pkjson.specs.Unfolds.{Pairs}
use Rattle.pkjson.specs.Private.Arena.{Kept, kept_by, kept_in, kind_at, given_at, holds, more_given}
use Rattle.pkjson.specs.Private.Arena.{update}
use Rattle.pkjson.specs.Private.Mirrors.{Mirrors}

abbrev first : {A : Type 0} → Option A → Option A → Option A
first (Some x) o = Some x
first None o = o

cond_first : {A : Type 0} (b : Bool) (x : A) (o p : Option A)
    → cond b (Some x) (first o p) ≡ first (cond b (Some x) o) p
cond_first true x o p = refl
cond_first false x o p = refl

maker_append : (n : ℕ) (es fs : List Event) → maker n (es ++ fs) ≡ first (maker n es) (maker n fs)
maker_append n [] fs = refl
maker_append n (Did i xs (Some m) ∷ es) fs = ap (cond (same m n) (Some i)) (maker_append n es fs)
    ∙ cond_first (same m n) i (maker n es) (maker n fs)
maker_append n (Did i xs None ∷ es) fs = maker_append n es fs
maker_append n (Import a b ∷ es) fs = maker_append n es fs

given_append : (n : ℕ) (es fs : List Event) → all_given n (es ++ fs) ≡ all_given n es
    ++ all_given n fs
given_append n [] fs = refl
given_append n (e ∷ es) fs = ap (λ l. given_to n e ++ l) (given_append n es fs)
    ∙ sym (append_assoc (given_to n e) (all_given n es) (all_given n fs))

map_first : {A B : Type 0} (f : A → B) (o p : Option A)
    → option_map f (first o p) ≡ first (option_map f o) (option_map f p)
map_first f None p = refl
map_first f (Some x) p = refl

map_cond : {A B : Type 0} (f : A → B) (b : Bool) (x : A)
    → option_map f (cond b (Some x) None) ≡ cond b (Some (f x)) None
map_cond f true x = refl
map_cond f false x = refl

kind_snoc : (ks : List Kept) (k : Kept) (n : ℕ)
    → kind_at (ks ++ k ∷ []) n ≡ first (kind_at ks n) (cond (same (length ks) n) (Some k.kind) None)
kind_snoc [] k zero = refl
kind_snoc [] k (suc n) = refl
kind_snoc (j ∷ ks) k zero = refl
kind_snoc (j ∷ ks) k (suc n) = kind_snoc ks k n

given_snoc : (ks : List Kept) (kind : Kind) (xs gs : List ℕ) (n : ℕ)
    → given_at ks n ≡ kept_in (kind_at ks n) gs → given_at (ks ++ record
    { kind = kind; given = kept_by kind xs } ∷ []) n ≡ kept_in
    (kind_at (ks ++ record { kind = kind; given = kept_by kind xs } ∷ []) n)
    (gs ++ cond (same (length ks) n) xs [])
given_snoc [] kind xs gs zero h = ap (λ l. kept_by kind (l ++ xs)) h
given_snoc [] kind xs gs (suc n) h = h ∙ sym (append-nil gs)
given_snoc (j ∷ ks) kind xs gs zero h = h ∙ ap (kept_by j.kind) (sym (append-nil gs))
given_snoc (j ∷ ks) kind xs gs (suc n) h = given_snoc ks kind xs gs n h

pub mirrors_made : (ks : List Kept) (es : List Event) (i : Instruction) (xs : List ℕ) (m : ℕ)
    → m ≡ length ks → Mirrors ks es
    → Mirrors (ks ++ record { kind = kind_by_effect i; given = kept_by (kind_by_effect i) xs } ∷ [])
    (es ++ Did i xs (Some m) ∷ [])
mirrors_made ks es i xs m e h = rw e (record {
  kinds = λ n. kind_snoc ks _ n ∙ ap (λ o. first o (cond (same (length ks) n)
      (Some (kind_by_effect i)) None)) (h.kinds n) ∙ ap (first (kinds es n))
      (sym (map_cond kind_by_effect (same (length ks) n) i)) ∙ sym
      (map_first kind_by_effect (maker n es) _) ∙ ap (option_map kind_by_effect)
      (sym (maker_append n es _));
  given = λ n. given_snoc ks (kind_by_effect i) xs (all_given n es) n (h.given n)
      ∙ ap (kept_in _)
      (ap (λ l. all_given n es ++ l) (sym (append-nil _)) ∙ sym (given_append n es _));
})

pub kind_update : (ks : List Kept) (r : ℕ) (xs : List ℕ) (n : ℕ)
    → kind_at (update ks r (more_given xs)) n ≡ kind_at ks n
kind_update [] r xs n = refl
kind_update (k ∷ ks) zero xs zero = refl
kind_update (k ∷ ks) zero xs (suc n) = refl
kind_update (k ∷ ks) (suc r) xs zero = refl
kind_update (k ∷ ks) (suc r) xs (suc n) = kind_update ks r xs n

kept_more : (kind : Kind) (gs xs : List ℕ) → kept_by kind (kept_by kind gs ++ xs)
    ≡ kept_by kind (gs ++ xs)
kept_more OfItems gs xs = refl
kept_more kind gs xs = refl

given_update : (ks : List Kept) (r : ℕ) (xs gs : List ℕ) (n : ℕ) → r < length ks
    → given_at ks n ≡ kept_in (kind_at ks n) gs
    → given_at (update ks r (more_given xs)) n ≡ kept_in (kind_at (update ks r (more_given xs)) n)
    (gs ++ cond (same r n) xs [])
given_update [] r xs gs n l h = absurd (omega arith)
given_update (k ∷ ks) zero xs gs zero l h = ap (λ ys. kept_by k.kind (ys ++ xs)) h
    ∙ kept_more k.kind gs xs
given_update (k ∷ ks) zero xs gs (suc n) l h = h ∙ ap (kept_in (kind_at ks n)) (sym (append-nil gs))
given_update (k ∷ ks) (suc r) xs gs zero l h = h ∙ ap (kept_by k.kind) (sym (append-nil gs))
given_update (k ∷ ks) (suc r) xs gs (suc n) l h = given_update ks r xs gs n (omega arith) h

first_none : {A : Type 0} (o : Option A) → first o None ≡ o
first_none None = refl
first_none (Some x) = refl

pub mirrors_received : (ks : List Kept) (es : List Event) (i : Instruction) (r : ℕ) (xs : List ℕ)
    → r < length ks → Mirrors ks es → Mirrors (update ks r (more_given xs))
    (es ++ Did i (r ∷ xs) None ∷ [])
mirrors_received ks es i r xs l h = record {
  kinds = λ n. kind_update ks r xs n ∙ h.kinds n
      ∙ ap (option_map kind_by_effect) (sym (first_none (maker n es)) ∙ sym (maker_append n es _));
  given = λ n. given_update ks r xs (all_given n es) n l (h.given n)
      ∙ ap (kept_in _)
      (ap (λ l. all_given n es ++ l) (sym (append-nil _)) ∙ sym (given_append n es _));
}

paired_same : (f g : ℕ → Option Kind) (xs : List ℕ) → ((n : ℕ) → f n ≡ g n)
    → paired f xs ≡ paired g xs
paired_same f g (k ∷ x ∷ xs) h = ap (λ o. (characters o, x) ∷ paired f xs) (h k)
    ∙ ap (λ l. (characters (g k), x) ∷ l) (paired_same f g xs h)
paired_same f g xs h = refl

held_same : (f g : ℕ → Option Kind) (xs : List ℕ) (o : Option Kind) → ((n : ℕ) → f n ≡ g n)
    → option_map (held_by f xs) o ≡ option_map (held_by g xs) o
held_same f g xs (Some OfPairs) h = ap (λ ps. Some (Pairs (standing [] ps))) (paired_same f g xs h)
held_same f g xs o h = refl

held_kept : (f : ℕ → Option Kind) (xs : List ℕ) (o : Option Kind)
    → option_map (held_by f (kept_in o xs)) o ≡ option_map (held_by f xs) o
held_kept f xs None = refl
held_kept f xs (Some OfItems) = refl
held_kept f xs o = refl

-- what the arena holds is what the objects hold
pub mirrors_contents : (ks : List Kept) (es : List Event) → Mirrors ks es → (n : ℕ)
    → holds ks n ≡ contents es n
mirrors_contents ks es h n = held_same _ _ _ _ h.kinds
    ∙ ap (λ xs. option_map (held_by (kinds es) xs) (kind_at ks n)) (h.given n)
    ∙ held_kept (kinds es) (all_given n es) (kind_at ks n)
    ∙ ap (option_map (held_by (kinds es) (all_given n es))) (h.kinds n)
