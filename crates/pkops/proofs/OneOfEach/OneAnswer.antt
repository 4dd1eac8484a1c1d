-- A scan has one answer.
use Rattle.std.proofs.Common.{◌≡◌, ◌≢◌, ◌⊎◌, ℕ, suc, ◌+◌, List, [], ◌∷◌, ◌++◌, length, take, drop}
use Rattle.std.proofs.Common.{Result, Ok, Err, refl, sym, ap, subst, ◌∙◌, arith, inl, inr}
use Rattle.std.proofs.Common.{take-append-drop, length-drop, length-take}
use Rattle.pkops.specs.declared.reading.Unread.TheVariants as stop
use Rattle.pkops.specs.Answer.{Answer, Whole, More, Bad, Answers}
use Rattle.pkops.specs.Table.{Op, code_of}
use Rattle.pkops.specs.Spelling.{Argument, Instruction, instruction, laid, layout_at, spelling}
use Rattle.pkops.specs.Contents.{IsGood}
use Rattle.pkops.specs.Private.FirstFaults.{arg_at}
use Rattle.pkops.proofs.ExactReaders.Arguments.{arg_exact}
use Rattle.pkops.proofs.ExactReaders.Exact.{ArgFault, IsArgument, Fault, UnknownOpcode, BadArgument}
use Rattle.pkops.proofs.ExactReaders.Exact.{TooLarge, Unread}
use Rattle.pkops.proofs.OneOfEach.OneCode.{one_code}

module _ (limit code : ℕ) (from : List ℕ) where
  -- what may be answered where this was read behind the code of an opcode
  abbrev Says : Op → Answer → Result (Argument × List ℕ) Unread → Type 0
  Says o r (Ok (arg, rest)) =
      ((n : ℕ) × (r ≡ Whole (instruction o arg) n) × IsGood (instruction o arg)
      × (n + length rest ≡ suc (length from)))
      ⊎ ((r ≡ Bad BadArgument) × (IsGood (instruction o arg) → ⊥))
  Says o r (Err stop.Short) = r ≡ More
  Says o r (Err (stop.Bad fault)) = r ≡ Bad fault

  -- an opcode has the code, and what is read behind it is answered; or none has
  abbrev Found : Answer → Type 0
  Found r = ((o : Op) × (code_of o ≡ code) × Says o r (arg_at limit (layout_at o) from))
      ⊎ (((o : Op) → code_of o ≢ code) × (r ≡ Bad (UnknownOpcode code)))

  known : (o : Op) (r : Answer) (read : Result (Argument × List ℕ) Unread) → code_of o ≡ code
      → arg_at limit (layout_at o) from ≡ read → Says o r read → Found r
  known o r read is e says = inl (o, is, rw e says)

  again : (i : Instruction) (rest : List ℕ) → code ∷ from ≡ spelling i ++ rest
      → IsArgument limit (layout_at i.op) i.arg
      → (code_of i.op ≡ code) × (arg_at limit (layout_at i.op) from ≡ Ok (i.arg, rest))
  again i rest parts is =
      let tails : from ≡ laid (layout_at i.op) i.arg ++ rest = cc in (
        cc,
        ap (arg_at limit (layout_at i.op)) tails
            ∙ (arg_exact limit (layout_at i.op)).again i.arg rest is,
      )

  faulty : (o : Op) (rest : List ℕ) (fault : Fault) → code ∷ from ≡ code_of o ∷ rest
      → ArgFault limit (layout_at o) fault rest → Found (Bad fault)
  faulty o rest fault e h =
      let tails : rest ≡ from = cc in
      known o (Bad fault) _ (cc) ((arg_exact limit (layout_at o)).faulty from fault
      (subst (ArgFault limit (layout_at o) fault) tails h)) refl

  found : (r : Answer) → Answers limit (code ∷ from) r → Found r
  found (Whole i n) h =
      let bytes = code ∷ from in
      let a = again i (drop n bytes) (sym (take-append-drop n bytes)
      ∙ ap (λ (t : List ℕ). t ++ drop n bytes) h.spells.spelled)
      (record { suits = h.spells.good.suits; within = h.within }) in
      let fits = h.fits in
      known i.op (Whole i n) _ a.0 a.1
      (inl (n, refl, h.spells.good, omega (arith, length-drop n bytes)))
  found More (i, more, h) =
      let codes : code_of i.op ≡ code = (let p = h.parts in cc) in
      let tails : laid (layout_at i.op) i.arg ≡ from ++ more = (let p = h.parts in cc) in
      known i.op More _ codes ((arg_exact limit (layout_at i.op)).stays from
      (record { value = i.arg; more = more; may = h.may; parts = tails; lacks = h.lacks })) refl
  found (Bad (UnknownOpcode c)) (rest, e, none) =
      let codes : c ≡ code = cc in
      inr (λ o is. none o (is ∙ sym codes), ap (λ (d : ℕ). Bad (UnknownOpcode d)) codes)
  found (Bad BadArgument) (inl (i, rest, h)) =
      let a = again i rest h.parts
      (record { suits = h.laid.suits; within = h.laid.within }) in
      known i.op (Bad BadArgument) _ a.0 a.1 (inr (refl, h.bad))
  found (Bad BadArgument) (inr (o, rest, e, h)) = faulty o rest BadArgument e h
  found (Bad TooLarge) (o, rest, e, h) = faulty o rest TooLarge e h

  same : (o : Op) (r s : Answer) (read : Result (Argument × List ℕ) Unread) → Says o r read
      → Says o s read → r ≡ s
  same o r s (Ok (arg, rest)) (inl (n, e, good, len)) (inl (m, f, good', len')) =
      let ns : n ≡ m = omega (arith, len, len') in
      e ∙ (ap (Whole (instruction o arg)) ns ∙ sym f)
  same o r s (Ok (arg, rest)) (inl (n, e, good, len)) (inr (f, bad)) = absurd (bad good)
  same o r s (Ok (arg, rest)) (inr (e, bad)) (inl (n, f, good, len)) = absurd (bad good)
  same o r s (Ok (arg, rest)) (inr (e, bad)) (inr (f, bad')) = e ∙ sym f
  same o r s (Err stop.Short) e f = e ∙ sym f
  same o r s (Err (stop.Bad fault)) e f = e ∙ sym f

  one : (r s : Answer) → Found r → Found s → r ≡ s
  one r s (inl (o, is, a)) (inl (p, is', b)) =
      let ops = one_code p o (is' ∙ sym is) in
      same o r s (arg_at limit (layout_at o) from) a
      (subst (λ (q : Op). Says q s (arg_at limit (layout_at q) from)) ops b)
  one r s (inl (o, is, a)) (inr (none, e)) = absurd (none o is)
  one r s (inr (none, e)) (inl (o, is, a)) = absurd (none o is)
  one r s (inr (none, e)) (inr (none', f)) = e ∙ sym f

-- the one answer of no bytes
only_more : (limit : ℕ) (r : Answer) → Answers limit [] r → r ≡ More
only_more limit (Whole i n) h = absurd
    (let l = ap length h.spells.spelled in let none : length {A = ℕ} (take n []) ≡ 0 =
    omega (arith, length-take {A = ℕ} n []) in omega arith)
only_more limit More h = refl
only_more limit (Bad (UnknownOpcode c)) h = absurd (let e = h.1 in cc)
only_more limit (Bad BadArgument) (inl h) = absurd (let e = h.2.parts in cc)
only_more limit (Bad BadArgument) (inr h) = absurd (let e = h.2 in cc)
only_more limit (Bad TooLarge) h = absurd (let e = h.2 in cc)

pub one_answer : (limit : ℕ) (bytes : List ℕ) (r s : Answer) → Answers limit bytes r
    → Answers limit bytes s → r ≡ s
one_answer limit [] r s a b = only_more limit r a ∙ sym (only_more limit s b)
one_answer limit (code ∷ from) r s a b =
    one limit code from r s (found limit code from r a) (found limit code from s b)
