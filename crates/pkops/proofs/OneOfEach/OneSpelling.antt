-- No spelling begins another.
use Rattle.std.proofs.Common.{◌≡◌, ℕ, ◌+◌, ◌≤◌, List, [], ◌++◌, length, refl, sym, ap, subst, ◌∙◌}
use Rattle.std.proofs.Common.{arith, append-nil}
use Rattle.pkops.specs.Table.{Op, code_of}
use Rattle.pkops.specs.Spelling.{Argument, Counted, Instruction, instruction, laid, layout_at}
use Rattle.pkops.specs.Spelling.{spelling}
use Rattle.pkops.specs.Scans.{IsWithin, Spells}
use Rattle.pkops.specs.Private.FirstFaults.{arg_at}
use Rattle.pkops.proofs.ExactReaders.Fields.{ok_is}
use Rattle.pkops.proofs.ExactReaders.Arguments.{arg_exact}
use Rattle.pkops.proofs.OneOfEach.OneCode.{one_code}

payload_len : Argument → ℕ
payload_len (Counted payload) = length payload
payload_len _ = 0

within : (limit : ℕ) (a : Argument) → payload_len a ≤ limit → IsWithin limit a
unfolding payload_len
within limit (Counted payload) h = h
within limit _ h = tt

-- the arguments of one opcode
one_argument : (o : Op) (a b : Argument) (more : List ℕ)
    → Spells (instruction o a) (spelling (instruction o a))
    → Spells (instruction o b) (spelling (instruction o b))
    → laid (layout_at o) b ≡ laid (layout_at o) a ++ more → (a ≡ b) × (more ≡ [])
one_argument o a b more s t e =
    let limit = payload_len a + payload_len b in
    let first = (arg_exact limit (layout_at o)).again a more
    (record { suits = s.good.suits; within = within limit a (omega arith) }) in
    let second = (arg_exact limit (layout_at o)).again b []
    (record { suits = t.good.suits; within = within limit b (omega arith) }) in
    let same = ok_is (a, more) (b, [])
    (sym first
    ∙ (ap (arg_at limit (layout_at o)) (sym e ∙ sym (append-nil (laid (layout_at o) b)))
    ∙ second)) in
    (ap (λ (p : Argument × List ℕ). p.0) same, ap (λ (p : Argument × List ℕ). p.1) same)

same_op : (o p : Op) (a b : Argument) (more : List ℕ) → o ≡ p
    → Spells (instruction o a) (spelling (instruction o a))
    → Spells (instruction p b) (spelling (instruction p b))
    → laid (layout_at p) b ≡ laid (layout_at o) a ++ more
    → (more ≡ []) × (instruction o a ≡ instruction p b)
same_op o p a b more same s t e =
    let P : Op → Type 0 = λ q. Spells (instruction q b) (spelling (instruction q b))
    → laid (layout_at q) b ≡ laid (layout_at o) a ++ more
    → (more ≡ []) × (instruction o a ≡ instruction q b) in
    subst P same (λ u f. let r = one_argument o a b more s u f in (r.1, ap (instruction o) r.0)) t e

pub one_spelling : (i j : Instruction) (front more : List ℕ) → Spells i front
    → Spells j (front ++ more) → (more ≡ []) × (i ≡ j)
one_spelling i j front more s t =
    let whole : spelling j ≡ spelling i ++ more =
    sym t.spelled ∙ ap (λ (f : List ℕ). f ++ more) s.spelled in
    let codes : code_of i.op ≡ code_of j.op = cc in
    let rest : laid (layout_at j.op) j.arg ≡ laid (layout_at i.op) i.arg ++ more = cc in
    same_op i.op j.op i.arg j.arg more (one_code i.op j.op codes)
    (record { spelled = refl; good = s.good }) (record { spelled = refl; good = t.good }) rest
