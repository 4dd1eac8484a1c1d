-- Of sixteen bytes moved as one, any first few lie in the store where they should.
use Rattle.std.proofs.Common.{◌≡◌, ◌≤◌, ◌+◌, ◌++◌, ℕ, ◌-◌, List, length, take, drop, ap, sym, ◌∙◌}
use Rattle.std.proofs.Common.{arith}
use Rattle.std.proofs.lemmas.List.{length-take-le, take-take}
use Rattle.std.proofs.Math.Seq.{take-append-add}
use Rattle.pkopt.proofs.made.put_move.Goals as goal

-- the front of what was put
front_put : (at n m : ℕ) (old new bytes : List ℕ) → n ≤ m → at ≤ length old
    → take (at + m) new ≡ take at old ++ take m bytes
    → take (at + n) new ≡ take at old ++ take n bytes
front_put at n m old new bytes le within e =
    sym (take-take (at + n) (at + m) new (omega (arith, le))) ∙ ap (take (at + n)) e
    ∙ ap (λ k. take (k + n) (take at old ++ take m bytes)) (sym (length-take-le at old within))
    ∙ take-append-add (take at old) (take m bytes) n
    ∙ ap (λ (l : List ℕ). take at old ++ l) (take-take n m bytes le)

pub returns-clause-front : goal.returns-clause-front
returns-clause-front c = λ n le.
    let moved = c.copy_from_slice.new.self in
    let old = c.args.store.now.items in
    let bytes = drop c.args.from c.args.bytes.now in
    let room = c.requires.room in
    let size : c.args.from + 16 - c.args.from ≡ 16 = omega arith in
    let is : moved ≡ take 16 bytes =
    c.copy_from_slice.ensures.after ∙ ap (λ n. take n bytes) size in
    let len : length moved ≡ 16 = c.copy_from_slice.ensures.len in
    front_put c.args.at n 16 old c.put.new.store.items bytes le (omega (arith, room))
    (ap (λ n. take (c.args.at + n) c.put.new.store.items) (sym len) ∙ c.put.ensures.front
    ∙ ap (λ (l : List ℕ). take c.args.at old ++ l) is)
