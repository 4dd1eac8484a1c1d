-- The tests of ASCII and of names, and that names are text.
use Rattle.std.proofs.Common.{◌≡◌, ℕ, zero, suc, true, nat_lt, List, [], ◌∷◌, length, refl, sym, ap}
use Rattle.std.proofs.Common.{subst, ◌∙◌, arith, IsAscii, IsUtf8}
use Rattle.std.specs.List.{list_all}
use Rattle.std.specs.Char.{is_ascii}
use Rattle.std.proofs.lemmas.Bool.{and_parts, and_from, ltb-true, lt-ltb}
use Rattle.std.proofs.lemmas.Str.{IsUtf8-from_ascii}
use Rattle.pkops.specs.declared.op.Op.TheVariants as op
use Rattle.pkops.specs.declared.arg.Arg.{Arg}
use Rattle.pkops.specs.declared.arg.Arg.TheVariants as arg
use Rattle.pkops.specs.Spelling.{Op, Argument, Instruction, Pair, instruction, shown_arg}
use Rattle.pkops.specs.Contents.{IsName, IsGood}
use Rattle.pkops.specs.RuleTests.{is_name}

pub ascii_is : (line : List ℕ) → list_all is_ascii line ≡ true → IsAscii line
ascii_is [] e i = omega arith
ascii_is (x ∷ line) e zero = ltb-true x 128 (and_parts (is_ascii x) (list_all is_ascii line) e).0
ascii_is (x ∷ line) e (suc i) = ascii_is line (and_parts (is_ascii x) (list_all is_ascii line) e).1
    i

pub is_ascii_of : (line : List ℕ) → IsAscii line → list_all is_ascii line ≡ true
is_ascii_of [] h = refl
is_ascii_of (x ∷ line) h = and_from (is_ascii x) _ (lt-ltb x 128 (h 0))
    (is_ascii_of line (λ i. h (suc i)))

pub name_is : (line : List ℕ) → is_name line ≡ true → IsName line
name_is line e =
    let p = and_parts (nat_lt 0 (length line)) (list_all is_ascii line) e in
    record { ascii = ascii_is line p.1; some = ltb-true 0 (length line) p.0 }

pub is_name_of : (line : List ℕ) → IsName line → is_name line ≡ true
is_name_of line h = and_from _ _ (lt-ltb 0 (length line) h.some) (is_ascii_of line h.ascii)

-- no other opcode has two lines
pair_names : (o : Op) (first second : List ℕ) → IsGood (instruction o (Pair first second))
    → IsName first × IsName second
pair_names op.Global first second h = h.contents
pair_names op.Inst first second h = h.contents
pair_names _ first second h = absurd h.suits

pub are_text : (i : Instruction) (found : Arg) (first second : _) → shown_arg found ≡ i.arg
    → found ≡ arg.Pair first second → IsGood i → IsUtf8 first.now × IsUtf8 second.now
are_text i found first second shown e h =
    let n = pair_names i.op first.now second.now
    (subst (λ (a : Argument). IsGood (instruction i.op a)) (sym shown ∙ ap shown_arg e) h) in
    (IsUtf8-from_ascii first.now n.0.ascii, IsUtf8-from_ascii second.now n.1.ascii)
