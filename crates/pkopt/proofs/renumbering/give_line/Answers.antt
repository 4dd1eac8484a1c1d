-- One digit is the numeral of a number below 10, and two digits that of one below 100.
use Rattle.std.proofs.Common.{◌≡◌, ℕ, List, [], ◌∷◌, ◌++◌, ◌∙◌, ◌/◌, ◌%◌, ◌+◌, ap, sym, arith}
use Rattle.std.specs.Fmt.{decimal}
use Rattle.std.proofs.lemmas.Fmt.{decimal_digit, decimal_step}
use Rattle.pkops.specs.Table.{code_of}
use Rattle.pkopt.proofs.Pieces.{on_ok}
use Rattle.pkopt.proofs.renumbering.give_line.Goals as goal

abbrev line : ℕ → List ℕ → List ℕ
line code digits = code ∷ (digits ++ 10 ∷ [])

pub returns-then-number-lt10 : goal.returns-then-number-lt10
returns-then-number-lt10 g c = on_ok _ _ c.take.result c.take.ensures (λ h.
    let n = c.args.number in
    let text : c.digit.result ∷ [] ≡ decimal n = ap (λ (d : ℕ). d ∷ []) c.digit.ensures
    ∙ sym (decimal_digit n c.if-number-lt10.true) in
    rw (ap (λ (d : ℕ). line d (c.digit.result ∷ [])) c.code.ensures
    ∙ ap (λ (l : List ℕ). line (code_of c.args.op) l) text) at h)

pub returns-then-number-lt100 : goal.returns-then-number-lt100
returns-then-number-lt100 g c =
    on_ok _ _ c.take-then-number-lt100.result c.take-then-number-lt100.ensures (λ h.
    let n = c.args.number in
    let first = c.digit-then-number-lt100.result in
    let second = c.digit-then-number-lt100-2.result in
    let low = c.if-number-lt10.false in
    let high = c.if-number-lt100.true in
    let text : first ∷ second ∷ [] ≡ decimal n =
    ap (λ (d : ℕ). d ∷ second ∷ []) c.digit-then-number-lt100.ensures
    ∙ ap (λ (d : ℕ). (48 + n / 10) ∷ d ∷ []) c.digit-then-number-lt100-2.ensures
    ∙ sym (decimal_step n low (omega (arith, high))
    ∙ ap (λ (l : List ℕ). l ++ (48 + n % 10) ∷ [])
    (decimal_digit (n / 10) (omega (arith, high)))) in
    rw (ap (λ (d : ℕ). line d (first ∷ second ∷ [])) c.code-then-number-lt100.ensures
    ∙ ap (λ (l : List ℕ). line (code_of c.args.op) l) text) at h)
