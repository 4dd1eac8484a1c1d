-- Facts about accounts, bills and tallies.
use Rattle.std.proofs.Common.{◌≡◌, ℕ, ◌<◌, ◌≤◌, Bool, true, false, cond, ◌||◌, List, [], ◌∷◌, ◌++◌}
use Rattle.std.proofs.Common.{length, map, Some, refl, sym, ap, ◌∙◌, arith, length-append, le-ltb}
use Rattle.std.specs.Prelude.{slice_get, unwrap_or, drop, take}
use Rattle.std.proofs.lemmas.Option.{slice_get_within, slice_get-get_or, get_or_from_slice_get}
use Rattle.std.proofs.Math.ListN.{get_or-append}
use Rattle.std.proofs.Math.Seq.{drop-length, get_or-append_seam}
use Rattle.std.proofs.lemmas.List.{drop-append-le, take-append-drop, take-append-le}
use Rattle.pkops.specs.declared.Op.{Op}
use Rattle.pkops.specs.declared.Op.TheVariants as op
use Rattle.pkops.specs.Spelling.{Instruction}
use Rattle.pkmachine.specs.Covers.{Pointwise}
use Rattle.pkmachine.specs.Runs.{Event, Import, Did}
use Rattle.pkload.specs.Heft.{Heft, heft_of}
use Rattle.pkload.specs.Keys.{keys_of}
use Rattle.pkload.specs.Laws.{Costs}
use Rattle.pkload.specs.declared.tally.Tally.{Tally}
use Rattle.pkload.specs.Tally.{Implies, IsAtMost, builds_import, with_key, with_keys, no_tally}
use Rattle.pkload.specs.Tally.{with_operation}
use Rattle.pkload.specs.Weighed.{Account, account_along, account_with, answered_again, heft_at}
use Rattle.pkload.specs.Weighed.{account_of, hefts_with, no_account, no_heft, tally_since}

pub along_end : (a : Account) (es : List Event) (e : Event)
    → account_along a (es ++ e ∷ []) ≡ account_with (account_along a es) e
along_end a [] e = refl
along_end a (x ∷ es) e = along_end (account_with a x) es e

-- in two parts
along_both : (a : Account) (es fs : List Event)
    → account_along a (es ++ fs) ≡ account_along (account_along a es) fs
along_both a [] fs = refl
along_both a (x ∷ es) fs = along_both (account_with a x) es fs

same_after : (a b : Account) (e : Event) → a.hefts ≡ b.hefts
    → (account_with a e).hefts ≡ (account_with b e).hefts
same_after a b (Import m n) h = h
same_after a b (Did i ns r) h = ap (hefts_with i ns r) h

-- what objects cost doesn't depend on what was counted
same_hefts : (a b : Account) (es : List Event) → a.hefts ≡ b.hefts
    → (account_along a es).hefts ≡ (account_along b es).hefts
same_hefts a b [] h = h
same_hefts a b (e ∷ es) h =
    same_hefts (account_with a e) (account_with b e) es (same_after a b e h)

abbrev since : List Event → List Event → Account
since before es = account_along (record { hefts = (account_of before).hefts; tally = no_tally }) es

hefts_since : (n : ℕ) (es : List Event)
    → (since (take n es) (drop n es)).hefts ≡ (account_of es).hefts
hefts_since n es =
    same_hefts (record { hefts = (account_of (take n es)).hefts; tally = no_tally })
    (account_of (take n es)) (drop n es) refl
    ∙ ap (λ a. a.hefts) (sym (along_both no_account (take n es) (drop n es)))
    ∙ ap (λ l. (account_of l).hefts) (take-append-drop n es)

-- what is counted with one more event
pub since_end : (n : ℕ) (es : List Event) (e : Event) → n ≤ length es
    → tally_since n (es ++ e ∷ [])
    ≡ (account_with (record { hefts = (account_of es).hefts; tally = tally_since n es }) e).tally
since_end n es e h =
    ap (λ l. (since l (drop n (es ++ e ∷ []))).tally) (take-append-le n es (e ∷ []) h)
    ∙ ap (λ l. (since (take n es) l).tally) (drop-append-le n es (e ∷ []) h)
    ∙ ap (λ a. a.tally)
    (along_end (record { hefts = (account_of (take n es)).hefts; tally = no_tally }) (drop n es) e)
    ∙ ap (λ l. (account_with (record { hefts = l; tally = tally_since n es }) e).tally)
    (hefts_since n es)

-- nothing is counted at the start of a pickle
pub none_since : (es : List Event) → tally_since (length es) es ≡ no_tally
none_since es = ap (λ l. (since (take (length es) es) l).tally) (drop-length es)

-- the costs of objects that the bill knows
pub costs_are : (hefts hs : List Heft) (ns : List ℕ) → Pointwise (Costs hefts) hs ns
    → map (heft_at hefts) ns ≡ hs
costs_are hefts [] [] h = refl
costs_are hefts (x ∷ hs) (n ∷ ns) h =
    ap (λ o. unwrap_or o no_heft ∷ map (heft_at hefts) ns) h.0
    ∙ ap (λ l. x ∷ l) (costs_are hefts hs ns h.1)
costs_are hefts _ _ h = absurd h

pub kept_at : (hefts : List Heft) (r x : Heft) (n : ℕ) → slice_get hefts n ≡ Some x
    → slice_get (hefts ++ r ∷ []) n ≡ Some x
kept_at hefts r x n h =
    let lt = slice_get_within hefts n x h in
    let lt' : n < length (hefts ++ r ∷ []) = omega (arith, length-append hefts (r ∷ [])) in
    slice_get-get_or (hefts ++ r ∷ []) n x lt'
    ∙ ap Some (get_or-append hefts (r ∷ []) x n lt ∙ get_or_from_slice_get hefts n x x h)

pub new_at : (hefts : List Heft) (r : Heft)
    → slice_get (hefts ++ r ∷ []) (length hefts) ≡ Some r
new_at hefts r =
    let lt' : length hefts < length (hefts ++ r ∷ []) =
    omega (arith, length-append hefts (r ∷ [])) in
    slice_get-get_or (hefts ++ r ∷ []) (length hefts) r lt'
    ∙ ap Some (get_or-append_seam hefts r [] r)

-- a result with the next number is a new object
pub next_is_new : (i : Instruction) (ns : List ℕ) (hefts : List Heft)
    → hefts_with i ns (Some (length hefts)) hefts
    ≡ hefts ++ heft_of i (map (heft_at hefts) ns) ∷ []
next_is_new i ns hefts =
    let answer = heft_of i (map (heft_at hefts) ns) in
    ap (λ b. cond b (answered_again answer (length hefts) hefts) (hefts ++ answer ∷ []))
    (le-ltb (length hefts) (length hefts) (omega arith))

-- ---- tallies only grow

pub implies_itself : (b : Bool) → Implies b b
implies_itself true = refl
implies_itself false = tt

pub implies_across : (a b c : Bool) → Implies a b → Implies b c → Implies a c
implies_across true true c h g = g
implies_across true false c h g = cc
implies_across false b c h g = tt

implies_or : (a b : Bool) → Implies a (a || b)
implies_or true b = refl
implies_or false b = tt

pub at_most_itself : (t : Tally) → IsAtMost t t
at_most_itself t = search (arith, implies_itself)

pub at_most_across : (a b c : Tally) → IsAtMost a b → IsAtMost b c → IsAtMost a c
at_most_across a b c h g = search (arith, implies_across)

key_grows : (t : Tally) (h : Heft) → IsAtMost t (with_key t h)
key_grows t h = search (arith, implies_itself)

keys_grow : (t : Tally) (hs : List Heft) → IsAtMost t (with_keys t hs)
keys_grow t [] = at_most_itself t
keys_grow t (h ∷ hs) = at_most_across t (with_keys t hs) (with_key (with_keys t hs) h)
    (keys_grow t hs) (key_grows (with_keys t hs) h)

pub operation_grows : (o : Op) (hs : List Heft) (t : Tally) → IsAtMost t (with_operation o hs t)
operation_grows o hs t =
    let g = keys_grow t (keys_of o hs) in search (arith, implies_across, implies_or)

-- ---- an instruction without operands counts nothing

no_keys : (o : Op) → keys_of {A = Heft} o [] ≡ []
no_keys op.SetItem = refl
no_keys op.SetItems = refl
no_keys op.Dict = refl
no_keys op.AddItems = refl
no_keys op.FrozenSet = refl
no_keys _ = refl

no_receiver : (o : Op) → builds_import o [] ≡ false
no_receiver op.Build = refl
no_receiver _ = refl

pub nothing_counted : (o : Op) (t : Tally) → with_operation o [] t ≡ t
nothing_counted o t =
    ap (λ keys. record (with_keys t keys) {
      builds = (with_keys t keys).builds || builds_import o [];
    }) (no_keys o)
    ∙ ap (λ b. record t { builds = t.builds || b }) (no_receiver o)
    ∙ ap (λ b. record t { builds = b }) (grind arith)
