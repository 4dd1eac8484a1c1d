-- What the reader of an argument finds, said of the instruction.
use Rattle.std.proofs.Common.{◌≡◌, ℕ, ◌-◌, ◌≤◌, List, [], ◌∷◌, ◌++◌, length, take, drop}
use Rattle.std.proofs.Common.{get_or, Option, Some, None, Result, Ok, Err, refl, sym, ap, subst}
use Rattle.std.proofs.Common.{◌∙◌, arith, inl, inr, length-append, length-drop, take_all, take_at}
use Rattle.std.proofs.Common.{SomeIff}
use Rattle.pkops.specs.declared.op.Op.TheVariants as op
use Rattle.pkops.specs.Answer.{Answer, IsWhole, Answers}
use Rattle.pkops.specs.Table.{Kind, Op, code_of, kind_of}
use Rattle.pkops.specs.Spelling.{Argument, Nothing, Instruction, instruction, laid, layout_of}
use Rattle.pkops.specs.Spelling.{layout_at, spelling}
use Rattle.pkops.specs.Contents.{IsGood}
use Rattle.pkops.specs.Scans.{Begun, HasFault}
use Rattle.pkops.specs.Private.FirstFaults.{IsUnread, arg_at}
use Rattle.pkops.proofs.ExactReaders.Exact.{ArgFault, IsArgument, IsBytes, Takes, Fault}
use Rattle.pkops.proofs.ExactReaders.Exact.{UnknownOpcode, BadArgument, TooLarge, Unread, Short}
use Rattle.pkops.proofs.ExactReaders.Exact.{Bad, Layout}
use Rattle.pkops.proofs.ExactReaders.Fields.{not_nil}
use Rattle.pkops.proofs.ExactReaders.Arguments.{arg_exact}

-- no bytes begin an instruction
pub nothing_begun : (limit : ℕ) → Begun limit []
nothing_begun limit = (
  instruction op.None Nothing,
  0x4e ∷ [],
  record {
    may = record { suits = tt; within = λ _. tt };
    parts = refl;
    lacks = not_nil (0x4e ∷ []) (omega arith);
  },
)

-- what is read behind the code of an opcode
module _ (limit : ℕ) (o : Op) (bytes : List ℕ) (is : bytes ≡ code_of o ∷ drop 1 bytes)
    (fits : IsBytes (drop 1 bytes)) where
  abbrev Reads : Result (Argument × List ℕ) Unread → Type 0
  Reads r = arg_at limit (layout_at o) (drop 1 bytes) ≡ r

  module _ (arg : Argument) (rest : List ℕ) (e : Reads (Ok (arg, rest))) where
    pub takes : Takes (IsArgument limit (layout_at o)) (laid (layout_at o)) (drop 1 bytes) arg rest
    takes = (arg_exact limit (layout_at o)).takes (drop 1 bytes) arg rest fits e

    parts : bytes ≡ spelling (instruction o arg) ++ rest
    parts = is ∙ ap (λ (t : List ℕ). code_of o ∷ t) takes.parts

    pub rest_le : length rest ≤ length bytes
    rest_le = omega (arith, ap length parts, length-append (spelling (instruction o arg)) rest)

    pub made_is : (made : Instruction) (found : Option Instruction)
        → SomeIff found (IsGood (instruction o arg)) (instruction o arg) → found ≡ Some made
        → IsWhole limit bytes made (length bytes - length rest)
    made_is made None iff found_is = absurd cc
    made_is made (Some i) iff found_is =
        let old = iff.1 in
        let now : instruction o arg ≡ made = cc in
        let s = spelling (instruction o arg) in
        let len : length s ≡ length bytes - length rest =
        omega (arith, ap length parts, length-append s rest) in
        subst (λ (j : Instruction). IsWhole limit bytes j (length bytes - length rest)) now
        (record {
          fits = omega arith;
          spells = record {
            spelled = ap (take (length bytes - length rest)) parts ∙ take_at s rest _ len;
            good = iff.0;
          };
          within = takes.is.within;
        })

    pub broken : (IsGood (instruction o arg) → ⊥) → HasFault limit BadArgument bytes
    broken bad = inl (
      instruction o arg,
      rest,
      record {
        laid = record { suits = takes.is.suits; within = takes.is.within };
        parts = parts;
        bad = bad;
      },
    )

  pub begun : Reads (Err Short) → Begun limit bytes
  begun e =
      let l = (arg_exact limit (layout_at o)).short (drop 1 bytes) fits e in (
        instruction o l.value,
        l.more,
        record {
          may = l.may;
          parts = ap (λ (t : List ℕ). code_of o ∷ t) l.parts
              ∙ ap (λ (t : List ℕ). t ++ l.more) (sym is);
          lacks = l.lacks;
        },
      )

  fault_is : (fault : Fault) → ArgFault limit (layout_at o) fault (drop 1 bytes)
      → HasFault limit fault bytes
  fault_is (UnknownOpcode c) h = absurd h
  fault_is BadArgument h = inr (o, drop 1 bytes, is, h)
  fault_is TooLarge h = (o, drop 1 bytes, is, h)

  pub faulty : (fault : Fault) → Reads (Err (Bad fault)) → HasFault limit fault bytes
  faulty fault e =
      fault_is fault ((arg_exact limit (layout_at o)).bad (drop 1 bytes) fault fits e)

  pub unread_is : (why : Unread) (result : Answer) → Reads (Err why) → IsUnread why result
      → Answers limit bytes result
  unread_is Short result e says = rw says (begun e)
  unread_is (Bad fault) result e says = rw says (faulty fault e)

-- the code in front of bytes
pub in_front : (o : Op) (bytes : List ℕ) → 1 ≤ length bytes → code_of o ≡ get_or bytes 0 0
    → bytes ≡ code_of o ∷ drop 1 bytes
in_front o [] some is = absurd (omega arith)
in_front o (code ∷ from) some is = ap (λ (c : ℕ). c ∷ from) (sym is)

-- what the code passes to the reader of an argument is what the lemmas above speak of
pub read_is : (limit : ℕ) (o : Op) (bytes : List ℕ) {given : ℕ} {lay : Layout} {k : Kind}
    {r : Result (Argument × List ℕ) Unread} → given ≡ limit → k ≡ kind_of o
    → lay ≡ layout_of k → arg_at given lay (take (length bytes - 1) (drop 1 bytes)) ≡ r
    → arg_at limit (layout_at o) (drop 1 bytes) ≡ r
read_is limit o bytes same kind_is is_lay e =
    let lay_is = is_lay ∙ ap layout_of kind_is in
    sym (rw (
      same,
      lay_is,
      take_all (length bytes - 1) (drop 1 bytes)
          (omega (arith, length-drop 1 bytes)),
    ) refl) ∙ e
