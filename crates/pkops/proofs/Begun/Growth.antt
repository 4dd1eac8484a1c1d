-- Bytes that grow to an instruction, field by field.
use Rattle.std.proofs.Common.{◌≡◌, ℕ, ◌<◌, ◌≤◌, Bool, List, [], ◌∷◌, ◌++◌, length, take, drop, Ok}
use Rattle.std.proofs.Common.{Err, refl, sym, ap, ◌∙◌, arith, w32, take_at, drop_at, take_all}
use Rattle.std.proofs.Common.{length-append, take-append-drop, length-drop, append-nil}
use Rattle.std.specs.Int.{cast_signed}
use Rattle.byteorder.specs.Endian.{little_number}
use Rattle.byteorder.specs.Numbers.{little_from-take}
use Rattle.pkops.specs.declared.layout.Layout.TheVariants as layout
use Rattle.pkops.specs.KnownLayout.{Lies, split_of, field_len, IsFixed}
use Rattle.pkops.specs.Private.FirstFaults.{arg_at, payload_at, bytes_at, number_at}
use Rattle.pkops.specs.Scans.{Begun, HasFault}
use Rattle.pkops.specs.Spelling.{Argument, Nothing, Number, Signed, Float, Counted, instruction}
use Rattle.pkops.specs.Spelling.{Width, laid, layout_at, size_of, count_limit}
use Rattle.pkops.specs.Table.{Op, code_of}
use Rattle.pkops.proofs.ExactReaders.Arguments.{arg_exact}
use Rattle.pkops.proofs.ExactReaders.Exact.{IsBytes, BadArgument, TooLarge, Short, Layout}
use Rattle.pkops.proofs.ExactReaders.Fields.{too_few, enough, few_bytes, many_bytes, not_nil}
use Rattle.pkops.proofs.ExactReaders.Payloads.{no_count, negative, large, plain}
use Rattle.pkops.proofs.ExactReaders.Scans.{begun, faulty}

-- a field that lacks a byte
pub field_short : (limit : ℕ) (lay : Layout) (from : List ℕ) → length from < field_len lay
    → arg_at limit lay from ≡ Err Short
unfolding arg_at
field_short limit layout.Nothing from l = absurd (omega arith)
field_short limit layout.U1 from l = rw (too_few 1 from l) refl
field_short limit layout.U2 from l = rw (too_few 2 from l) refl
field_short limit layout.I4 from l = rw (too_few 4 from l) refl
field_short limit layout.U4 from l = rw (too_few 4 from l) refl
field_short limit layout.U8 from l = rw (too_few 8 from l) refl
field_short limit layout.F8 from l = rw (few_bytes 8 from l) refl
field_short limit (layout.Line most) from l = absurd (omega arith)
field_short limit (layout.Pair most) from l = absurd (omega arith)
field_short limit (layout.Counted size signed) from l = rw (no_count limit size signed from l) refl

none_after : (n : ℕ) (from : List ℕ) → length from ≡ n → drop n from ≡ []
none_after n from e = ap (drop n) (sym (append-nil from)) ∙ drop_at from [] n e

-- a number that is whole
number_whole : (n : ℕ) (from : List ℕ) → length from ≡ n
    → number_at n from ≡ Ok (little_number n from, [])
number_whole n from e = enough n from (omega arith)
    ∙ ap (λ (rest : List ℕ). Ok (little_number n from, rest)) (none_after n from e)

-- a field that is whole
pub field_whole : (limit : ℕ) (lay : Layout) (from : List ℕ) → IsFixed lay
    → length from ≡ field_len lay → (arg : Argument) × (arg_at limit lay from ≡ Ok (arg, []))
    × (0 ≡ split_of arg)
unfolding arg_at
field_whole limit layout.Nothing [] f e = (Nothing, refl, refl)
field_whole limit layout.Nothing (x ∷ from) f e = absurd (omega arith)
field_whole limit layout.U1 from f e =
    (Number 1 (little_number 1 from), rw (number_whole 1 from e) refl, refl)
field_whole limit layout.U2 from f e =
    (Number 2 (little_number 2 from), rw (number_whole 2 from e) refl, refl)
field_whole limit layout.I4 from f e =
    (Signed (cast_signed w32 (little_number 4 from)), rw (number_whole 4 from e) refl, refl)
field_whole limit layout.U4 from f e =
    (Number 4 (little_number 4 from), rw (number_whole 4 from e) refl, refl)
field_whole limit layout.U8 from f e =
    (Number 8 (little_number 8 from), rw (number_whole 8 from e) refl, refl)
field_whole limit layout.F8 from f e =
    (Float (take 8 from), rw (many_bytes 8 from (omega arith), none_after 8 from e) refl, refl)
field_whole limit _ from f e = absurd f

-- what is read to the end lies there
pub read_lies : (limit : ℕ) (o : Op) (arg : Argument) (from : List ℕ) → IsBytes from
    → arg_at limit (layout_at o) from ≡ Ok (arg, []) → 0 ≡ split_of arg
    → Lies limit o arg 0 (code_of o ∷ from)
read_lies limit o arg from fits e s =
    let t = (arg_exact limit (layout_at o)).takes from arg [] fits e in
    record {
      laid = record { suits = t.is.suits; within = t.is.within };
      spelled = ap (λ (r : List ℕ). code_of o ∷ r) (t.parts ∙ append-nil (laid (layout_at o) arg));
      split_is = s;
    }

pub field_begun : (limit : ℕ) (o : Op) (from : List ℕ) → IsBytes from
    → length from < field_len (layout_at o) → Begun limit (code_of o ∷ from)
field_begun limit o from fits l = begun limit o (code_of o ∷ from) refl fits
    (field_short limit (layout_at o) from l)

pub field_lies : (limit : ℕ) (o : Op) (from : List ℕ) → IsBytes from → IsFixed (layout_at o)
    → length from ≡ field_len (layout_at o) → (arg : Argument)
    × Lies limit o arg 0 (code_of o ∷ from)
field_lies limit o from fits f l =
    let w = field_whole limit (layout_at o) from f l in
    (w.0, read_lies limit o w.0 from fits w.1 w.2)

-- a count and some of its payload
module _ (limit : ℕ) (o : Op) (size : Width) (signed : Bool)
    (is : layout_at o ≡ layout.Counted size signed) (field : List ℕ)
    (len : length field ≡ size_of size) where
  abbrev count : ℕ
  count = little_number (size_of size) field

  module _ (more : List ℕ) where
    long : size_of size ≤ length (field ++ more)
    long = omega (arith, length-append field more)

    front : take (size_of size) (field ++ more) ≡ field
    front = take_at field more (size_of size) len

    same : little_number (size_of size) (field ++ more) ≡ count
    same = sym (little_from-take 0 (size_of size) (size_of size) (field ++ more) (omega arith))
        ∙ ap (little_number (size_of size)) front

    behind : drop (size_of size) (field ++ more) ≡ more
    behind = drop_at field more (size_of size) len

    reads : count < count_limit size signed → count ≤ limit
        → payload_at limit size signed (field ++ more) ≡ bytes_at count more
    reads under within =
        plain limit size signed (field ++ more) long (rw same under) (rw same within)
        ∙ (ap (λ (n : ℕ). bytes_at n (drop (size_of size) (field ++ more))) same
        ∙ ap (bytes_at count) behind)

  pub payload_begun : (more : List ℕ) → IsBytes (field ++ more) → count < count_limit size signed
      → count ≤ limit → length more < count → Begun limit (code_of o ∷ (field ++ more))
  unfolding arg_at
  payload_begun more fits under within l =
      begun limit o (code_of o ∷ (field ++ more)) refl fits
      (rw (is, reads more under within, few_bytes count more l) refl)

  pub payload_lies : (more : List ℕ) → IsBytes (field ++ more) → count < count_limit size signed
      → count ≤ limit → length more ≡ count → Lies limit o (Counted more) 0
      (code_of o ∷ (field ++ more))
  unfolding arg_at
  payload_lies more fits under within l =
      let all : take count more ≡ more = take_all count more (omega arith) in
      read_lies limit o (Counted more) (field ++ more) fits
      (rw (
        is,
        reads more under within,
        many_bytes count more (omega arith),
        none_after count more l,
        all,
      ) refl) refl

  pub count_negative : IsBytes field → count_limit size signed ≤ count
      → HasFault limit BadArgument (code_of o ∷ field)
  unfolding arg_at
  count_negative fits over = faulty limit o (code_of o ∷ field) refl fits BadArgument
      (rw (is, negative limit size signed field (omega arith) over) refl)

  pub count_large : IsBytes field → count < count_limit size signed → limit < count
      → HasFault limit TooLarge (code_of o ∷ field)
  unfolding arg_at
  count_large fits under over = faulty limit o (code_of o ∷ field) refl fits TooLarge
      (rw (is, large limit size signed field (omega arith) under over) refl)

-- what lies there is begun by each of its fronts
pub lies_begun : (limit : ℕ) (o : Op) (arg : Argument) (split : ℕ) (bytes : List ℕ)
    → Lies limit o arg split bytes → (k : ℕ) → k < length bytes → Begun limit (take k bytes)
lies_begun limit o arg split bytes h k l = (
  instruction o arg,
  drop k bytes,
  record {
    may = record { suits = h.laid.suits; within = λ _. h.laid.within };
    parts = sym h.spelled ∙ sym (take-append-drop k bytes);
    lacks = not_nil (drop k bytes) (omega (arith, length-drop k bytes));
  },
)
