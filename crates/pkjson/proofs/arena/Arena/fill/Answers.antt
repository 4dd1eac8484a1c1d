-- The receiver lies below its operands, and just these are given to it.
use Rattle.std.proofs.Common.{◌≡◌, ℕ, List, [], ◌<◌, sym, ap, subst, ◌∙◌, length, Some, Ok, Result}
use Rattle.std.proofs.Common.{refl}
use Rattle.pkstack.specs.Shape.{Breach, Entry, and_then}
use Rattle.pkjson.specs.Private.PlainActions.{found_above, filled_of}
use Rattle.pkjson.specs.Private.Arena.{Arena, Kept}
use Rattle.pkjson.specs.Private.Held.{parts}
use Rattle.pkjson.specs.Private.Seen.{seen_entries, kept_all, FindsObject}
use Rattle.pkjson.proofs.DictKeys.SettledMembers.{kept_length}
use Rattle.pkjson.proofs.Kept.OperandsTaken.{above_below}
use Rattle.pkjson.proofs.arena.Arena.fill.Goals as goal

filled : (m : List (ℕ × ℕ)) (es fs : List (Entry ℕ)) (ks ls : List Kept) → es ≡ fs → ks ≡ ls
    → ◌≡◌ {A = Result Arena Breach}
    (Ok (record { shape = record { entries = es; memo = m }; kept = ks }))
    (Ok (record { shape = record { entries = fs; memo = m }; kept = ls }))
filled m es fs ks ls e f = rw (e, f) refl

pub fill-requires-clause-within : goal.fill-requires-clause-within
fill-requires-clause-within c =
    let f : FindsObject (found_above c.args.takes (seen_entries c.args.self.now.stack.items []))
    c.args.self.now.stack.items (Some (c.in-Some.place, c.in-Some.receiver)) =
    rw c.deref.ensures.value at (rw c.in-Some.is at c.receiver_of.ensures) in
    let b = above_below (length (kept_all c.args.self.now.objects.items)) c.args.takes
    (seen_entries c.args.self.now.stack.items []) _ c.requires f.1 in
    subst (λ n. c.in-Some.receiver < n) (kept_length c.args.self.now.objects.items) b.0.0

pub returns-in-Ok-clause-ok : goal.returns-in-Ok-clause-ok
returns-in-Ok-clause-ok c =
    let f : FindsObject (found_above c.args.takes (seen_entries c.args.self.now.stack.items []))
    c.args.self.now.stack.items (Some (c.in-Some.place, c.in-Some.receiver)) =
    rw c.deref.ensures.value at (rw c.in-Some.is at c.receiver_of.ensures) in
    ap (λ x. and_then x (λ t. Ok (filled_of t (parts c.args.self.now)))) f.1
    ∙ filled c.args.self.now.memo _ _ _ _
    (sym (ap (λ l. seen_entries l []) c.in-Ok.ensures.stack ∙ f.2))
    (sym c.in-Ok.ensures.objects)
