-- The length of the instruction at the front of some bytes, from its layout.
use Rattle.std.proofs.Common.{◌≡◌, ℕ, ◌+◌, ◌^◌, ◌≤◌, Bool, true, false, eqb, ltb, List, [], ◌∷◌}
use Rattle.std.proofs.Common.{◌++◌, length, take, drop, get_or, Some, refl, sym, ap, subst, ◌∙◌}
use Rattle.std.proofs.Common.{arith, inl, inr, append_assoc, length-append}
use Rattle.std.specs.Prelude.{◌≢◌, ◌==◌, position}
use Rattle.std.specs.List.{AllByRecursion, position_or_len}
use Rattle.std.proofs.lemmas.Bool.{cases_Bool, eqb-true}
use Rattle.std.proofs.Math.Seq.{take-append_seam}
use Rattle.byteorder.specs.Endian.{little_bytes, little_number}
use Rattle.byteorder.specs.Numbers.{little_number-reads_back, length-bytes_low_first}
use Rattle.pkops.specs.Contents.{IsGood}
use Rattle.pkops.specs.KnownLayout.{Lies, count_in, split_of}
use Rattle.pkops.specs.declared.Layout.{Layout}
use Rattle.pkops.specs.declared.Layout.TheVariants as layout
use Rattle.pkops.specs.declared.Width.{Width}
use Rattle.pkops.specs.declared.Width.TheVariants.{One, Four, Eight}
use Rattle.pkops.specs.declared.Op.{Op}
use Rattle.pkops.specs.Spelling.{Argument, Nothing, Number, Signed, Line, Counted, Instruction}
use Rattle.pkops.specs.Spelling.{Suits, bytes_of, count_limit, instruction, layout_at, line_feed}
use Rattle.pkops.specs.Spelling.{size_of, spelling}
use Rattle.pkops.specs.Table.{code_of}
use Rattle.pkread.specs.Admission.{IsAllowed}
use Rattle.pkjson.specs.Private.Fronts.{HasFront, IsLength, Measures}

-- arguments of a layout have n bytes less the code, and aren't two lines
abbrev IsSpelledBy : ℕ → Layout → Type 0
IsSpelledBy n lay =
    (arg : Argument) (code : ℕ) → Suits lay arg
    → (n ≡ length (code ∷ bytes_of arg lay)) × (split_of arg ≡ 0)

suits_there : (o : Op) (lay : Layout) → layout_at o ≡ lay → (i : Instruction) → o ≡ i.op → IsGood i
    → Suits lay i.arg
suits_there o lay e i same g = subst (λ l. Suits l i.arg) (ap layout_at (sym same) ∙ e) g.suits

pub fixed_length : (o : Op) (bytes : List ℕ) (n : ℕ) (lay : Layout) → lay ≡ layout_at o
    → IsSpelledBy n lay → Measures o bytes n
unfolding Measures
fixed_length o bytes n lay is w i more same e g =
    let s = w i.arg (code_of i.op) (suits_there o lay (sym is) i same g) in
    record {
      whole = s.0 ∙ ap (λ l. length (code_of i.op ∷ bytes_of i.arg l)) (is ∙ ap layout_at same);
      unsplit = s.1;
    }

pub none : IsSpelledBy 1 layout.Nothing
none Nothing code s = (refl, refl)
none arg code s = absurd s

pub u1 : IsSpelledBy 2 layout.U1
u1 (Number w n) code s = let l = length-bytes_low_first 0 w n in (omega (arith, l, s.0), refl)
u1 arg code s = absurd s

pub u2 : IsSpelledBy 3 layout.U2
u2 (Number w n) code s = let l = length-bytes_low_first 0 w n in (omega (arith, l, s.0), refl)
u2 arg code s = absurd s

pub u4 : IsSpelledBy 5 layout.U4
u4 (Number w n) code s = let l = length-bytes_low_first 0 w n in (omega (arith, l, s.0), refl)
u4 arg code s = absurd s

pub i4 : IsSpelledBy 5 layout.I4
i4 (Signed z) code s = (refl, refl)
i4 arg code s = absurd s

count_fits : (size : Width) (signed : Bool) → count_limit size signed ≤ 256 ^ size_of size
count_fits One true = omega arith
count_fits One false = omega arith
count_fits Four true = omega arith
count_fits Four false = omega arith
count_fits Eight true = omega arith
count_fits Eight false = omega arith

-- the count is that of the payload
counted_there : (size : Width) (signed : Bool) (arg : Argument) (code : ℕ) (more : List ℕ)
    → Suits (layout.Counted size signed) arg
    → (size_of size + 1 + count_in size
    (drop 1 (code ∷ bytes_of arg (layout.Counted size signed) ++ more))
    ≡ length (code ∷ bytes_of arg (layout.Counted size signed))) × (split_of arg ≡ 0)
counted_there size signed (Counted payload) code more s =
    let field = little_bytes (size_of size) (length payload) in
    let long : length field ≡ size_of size = length-bytes_low_first 0 (size_of size)
    (length payload) in
    let is : count_in size ((field ++ payload) ++ more) ≡ length payload =
    ap (little_number (size_of size)) (append_assoc field payload more)
    ∙ little_number-reads_back (size_of size) (length payload) (payload ++ more)
    (omega (arith, s, count_fits size signed)) in
    (omega (arith, is, long, length-append field payload), refl)
counted_there size signed arg code more s = absurd s

pub counted_length : (size : Width) (bytes : List ℕ) (n : ℕ)
    → n ≡ size_of size + 1 + count_in size (drop 1 bytes) → (o : Op) (signed : Bool)
    → layout_at o ≡ layout.Counted size signed → Measures o bytes n
unfolding Measures
counted_length size bytes n is o signed lay i more same e g =
    let l : layout_at i.op ≡ layout.Counted size signed = ap layout_at (sym same) ∙ lay in
    let s = counted_there size signed i.arg (code_of i.op) more
    (suits_there o (layout.Counted size signed) lay i same g) in
    let b : bytes ≡ code_of i.op ∷ bytes_of i.arg (layout.Counted size signed) ++ more =
    e ∙ ap (λ z. code_of i.op ∷ bytes_of i.arg z ++ more) l in
    record {
      whole = is ∙ ap (λ z. size_of size + 1 + count_in size (drop 1 z)) b ∙ s.0
          ∙ ap (λ z. length (code_of i.op ∷ bytes_of i.arg z)) (sym l);
      unsplit = s.1;
    }

not_feed : (x : ℕ) → x ≢ 10 → eqb x 10 ≡ false
not_feed x h = elim (eqb x 10) as (λ v. eqb x 10 ≡ v
    → eqb x 10 ≡ false) [ true ↦ λ e. absurd (h (eqb-true x 10 e)) | false ↦ λ e. e ] refl

end_at : (text rest : List ℕ) → AllByRecursion (λ byte. byte ≢ line_feed) text
    → position_or_len (λ byte. eqb byte 10) (text ++ 10 ∷ rest) ≡ length text
end_at [] rest h = refl
end_at (x ∷ text) rest h = rw (not_feed x h.0, end_at text rest h.1) (omega arith)

found_at : (xs : List ℕ) (end : ℕ) → position (λ byte. byte == 10) xs ≡ Some end
    → position_or_len (λ byte. eqb byte 10) xs ≡ end
found_at xs end e = elim (cases_Bool (ltb (position_or_len (λ byte. eqb byte 10) xs) (length xs))) [
  | inl lt ↦ let f = rw lt at e in cc
  | inr ge ↦ let f = rw ge at e in absurd cc
]

line_there : (most end : ℕ) (arg : Argument) (code : ℕ) (more : List ℕ)
    → Suits (layout.Line most) arg → position_or_len (λ byte. eqb byte 10)
    (drop 1 (code ∷ bytes_of arg (layout.Line most) ++ more)) ≡ end
    → (end + 2 ≡ length (code ∷ bytes_of arg (layout.Line most))) × (split_of arg ≡ 0)
line_there most end (Line text) code more s e =
    let f : position_or_len (λ byte. eqb byte 10) ((text ++ 10 ∷ []) ++ more)
    ≡ length text = ap (position_or_len (λ byte. eqb byte 10))
    (append_assoc text (10 ∷ []) more) ∙ end_at text more s.whole in
    (omega (arith, e, f, length-append text (10 ∷ [])), refl)
line_there most end arg code more s e = absurd s

pub line_length : (bytes : List ℕ) (end : ℕ) → position (λ byte. byte == 10) (drop 1 bytes)
    ≡ Some end → (o : Op) (most : ℕ) → layout_at o ≡ layout.Line most → Measures o bytes (end + 2)
unfolding Measures
line_length bytes end is o most lay i more same e g =
    let l : layout_at i.op ≡ layout.Line most = ap layout_at (sym same) ∙ lay in
    let b : bytes ≡ code_of i.op ∷ bytes_of i.arg (layout.Line most) ++ more =
    e ∙ ap (λ z. code_of i.op ∷ bytes_of i.arg z ++ more) l in
    let p = found_at (drop 1 bytes) end is in
    let s = line_there most end i.arg (code_of i.op) more
    (suits_there o (layout.Line most) lay i same g)
    (ap (λ z. position_or_len (λ byte. eqb byte 10) (drop 1 z)) (sym b) ∙ p) in
    record {
      whole = s.0 ∙ ap (λ z. length (code_of i.op ∷ bytes_of i.arg z)) (sym l);
      unsplit = s.1;
    }

module _ (one : (a b : Op) → code_of a ≡ code_of b → a ≡ b) (bytes : List ℕ) (o : Op) (n : ℕ)
    (first : code_of o ≡ get_or bytes 0 0) (measured : Measures o bytes n) where
  module _ (limit : ℕ) (i : Instruction) (more : List ℕ) (e : bytes ≡ spelling i ++ more)
      (h : IsAllowed limit i) where
    same : o ≡ i.op
    same = one o i.op (first ∙ ap (λ (l : List ℕ). get_or l 0 0) e)

    here : i ≡ instruction o i.arg
    here = ap (λ p. instruction p i.arg) (sym same)

    long : IsLength i n
    unfolding Measures
    long = measured i more same e h.good

    lies : Lies limit o i.arg 0 (take n bytes)
    lies = record {
      laid = record {
        suits = subst (λ p. Suits (layout_at p) i.arg) (sym same) h.good.suits;
        within = h.within;
      };
      spelled = ap (λ m. take m bytes) long.whole ∙ ap (take (length (spelling i))) e
          ∙ take-append_seam (spelling i) more ∙ ap spelling here;
      split_is = sym long.unsplit;
    }

    good : IsGood (instruction o i.arg)
    good = subst IsGood here h.good

  pub may_spell : (limit : ℕ) × HasFront limit bytes → (limit : ℕ) × (arg : Argument)
      × Lies limit o arg 0 (take n bytes) × IsGood (instruction o arg)
  may_spell f = (f.0, f.1.0.arg, lies f.0 f.1.0 f.1.1 f.1.2 f.1.3, good f.0 f.1.0 f.1.1 f.1.2 f.1.3)

  pub front_spelled : (made : Instruction)
      → ((limit : ℕ) (arg : Argument) → Lies limit o arg 0 (take n bytes)
      → made ≡ instruction o arg) → (limit : ℕ) (i : Instruction) (more : List ℕ)
      → bytes ≡ spelling i ++ more → IsAllowed limit i → (made ≡ i) × (n ≡ length (spelling i))
  front_spelled made is limit i more e h = (
    is limit i.arg (lies limit i more e h) ∙ sym (here limit i more e h),
    (long limit i more e h).whole,
  )
