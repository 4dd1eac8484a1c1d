-- What bytes spell behind their code is the argument that they are said to hold.
use Rattle.std.proofs.Common.{◌≡◌, ℕ, ◌+◌, ◌-◌, ◌^◌, ◌<◌, List, [], ◌∷◌, ◌++◌, length, take, drop}
use Rattle.std.proofs.Common.{refl, sym, ap, ap₂, subst, ◌∙◌, arith}
use Rattle.std.specs.Int.{w32, cast_signed, cast_unsigned}
use Rattle.std.proofs.lemmas.List.{take_at, drop_at, length-append, append-nil, append_assoc}
use Rattle.std.proofs.lemmas.Int.{to_z-of_z}
use Rattle.std.proofs.Math.Facts.{Fits-of_z}
use Rattle.byteorder.specs.Endian.{little_bytes, little_number}
use Rattle.byteorder.specs.Numbers.{little_number-reads_back, length-bytes_low_first}
use Rattle.pkops.specs.declared.form.Form.{Form}
use Rattle.pkops.specs.declared.form.Form.TheVariants as form
use Rattle.pkops.specs.declared.layout.Layout.{Layout}
use Rattle.pkops.specs.declared.layout.Layout.TheVariants as layout
use Rattle.pkops.specs.Behind.{argument_behind, argument_in, spelled_by, split_by}
use Rattle.pkops.specs.Contents.{IsGood}
use Rattle.pkops.specs.KnownLayout.{Lies, split_of}
use Rattle.pkops.specs.Scans.{IsWithin}
use Rattle.pkops.specs.Spelling.{Argument, Nothing, Number, Signed, Float, Line, Pair, Counted}
use Rattle.pkops.specs.Spelling.{Suits, instruction, laid, layout_at, line_feed, size_of, spelling}
use Rattle.pkops.specs.Table.{Op, code_of}

number_back : (width n : ℕ) → n < 256 ^ width → little_number width (little_bytes width n) ≡ n
number_back width n h =
    ap (little_number width) (sym (append-nil (little_bytes width n)))
    ∙ little_number-reads_back width n [] h

-- the numbers, whatever width the argument says
numbered : (width given n : ℕ) → given ≡ width → n < 256 ^ width
    → Number width (little_number width (little_bytes given n)) ≡ Number given n
numbered width given n e h =
    ap (λ w. Number width (little_number width (little_bytes w n))) e
    ∙ ap (Number width) (number_back width n h) ∙ ap (λ w. Number w n) (sym e)

-- the text of a line, which lies before its end
in_line : (code : ℕ) (text : List ℕ) → take (length (code ∷ (text ++ line_feed ∷ [])) - 2)
    (text ++ line_feed ∷ []) ≡ text
in_line code text = take_at text (line_feed ∷ []) _
    (let n = length-append text (line_feed ∷ []) in omega arith)

-- the second of two
in_second : (code : ℕ) (first second : List ℕ)
    → take (length (code ∷ ((first ++ line_feed ∷ []) ++ (second ++ line_feed ∷ []))) - length first
    - 3)
    (drop (length first + 2) (code ∷ ((first ++ line_feed ∷ []) ++ (second ++ line_feed ∷ []))))
    ≡ second
in_second code first second =
    let front : drop (length first + 2)
    (code ∷ ((first ++ line_feed ∷ []) ++ (second ++ line_feed ∷ []))) ≡ second ++ line_feed
    ∷ [] =
    drop_at (code ∷ (first ++ line_feed ∷ [])) (second ++ line_feed ∷ []) (length first + 2)
    (let n = length-append first (line_feed ∷ []) in omega arith) in
    rw front (take_at second (line_feed ∷ []) _ (
    let n = length-append (first ++ line_feed ∷ []) (second ++ line_feed ∷ []) in
    let m = length-append first (line_feed ∷ []) in
    let k = length-append second (line_feed ∷ []) in
    omega arith))

in_first : (code : ℕ) (first second : List ℕ)
    → take (length first) ((first ++ line_feed ∷ []) ++ (second ++ line_feed ∷ [])) ≡ first
in_first code first second =
    ap (take (length first)) (append_assoc first (line_feed ∷ []) (second ++ line_feed ∷ []))
    ∙ take_at first (line_feed ∷ (second ++ line_feed ∷ [])) (length first) refl

-- the argument that is laid out behind a code is the one that is read there
behind : (lay : Layout) (arg : Argument) (code split : ℕ) → Suits lay arg → split ≡ split_of arg
    → argument_behind lay split (code ∷ laid lay arg) ≡ arg
behind layout.Nothing Nothing code split h e = refl
behind layout.U1 (Number width n) code split h e = numbered 1 width n h.0 h.1
behind layout.U2 (Number width n) code split h e = numbered 2 width n h.0 h.1
behind layout.U4 (Number width n) code split h e = numbered 4 width n h.0 h.1
behind layout.U8 (Number width n) code split h e = numbered 8 width n h.0 h.1
behind layout.I4 (Signed z) code split h e =
    ap (λ n. Signed (cast_signed w32 n))
    (number_back 4 (cast_unsigned w32 z) (let f = (Fits-of_z h).fits in omega arith))
    ∙ ap Signed (to_z-of_z w32 z h)
behind layout.F8 (Float bytes) code split h e = refl
behind (layout.Line most) (Line text) code split h e = ap Line (in_line code text)
behind (layout.Pair most) (Pair first second) code split h e =
    rw e (ap₂ Pair (in_first code first second) (in_second code first second))
behind (layout.Counted size signed) (Counted payload) code split h e =
    ap Counted
    (drop_at (code ∷ little_bytes (size_of size) (length payload)) payload (size_of size + 1)
    (let n = length-bytes_low_first 0 (size_of size) (length payload) in omega arith))
behind _ _ code split h e = absurd h

-- the same of bytes that are said to hold it
pub lies_behind : (limit : ℕ) (op : Op) (arg : Argument) (split : ℕ) (bytes : List ℕ)
    → Lies limit op arg split bytes → argument_behind (layout_at op) split bytes ≡ arg
lies_behind limit op arg split bytes h =
    ap (argument_behind (layout_at op) split) h.spelled
    ∙ behind (layout_at op) arg (code_of op) split h.laid.suits h.split_is

-- some limit lets the argument pass
within_some : (arg : Argument) → (limit : ℕ) × IsWithin limit arg
within_some (Counted payload) = (length payload, omega arith)
within_some _ = (0, tt)

-- what an instruction holds in bytes lies there
pub held_lies : (op : Op) (split : ℕ) (bytes : List ℕ)
    → IsGood (instruction op (argument_behind (layout_at op) split bytes))
    → bytes ≡ spelling (instruction op (argument_behind (layout_at op) split bytes))
    → split ≡ split_of (argument_behind (layout_at op) split bytes)
    → (limit : ℕ) × (arg : Argument) × Lies limit op arg split bytes
held_lies op split bytes good spelled is_split =
    let within = within_some (argument_behind (layout_at op) split bytes) in (
      within.0,
      argument_behind (layout_at op) split bytes,
      record {
        laid = record { suits = good.suits; within = within.1 };
        spelled = spelled;
        split_is = is_split;
      },
    )

-- the same of a form of which that is known
pub form_lies : (op : Op) (held : Form) (split : ℕ) (bytes : _) → held ≡ form.Spelled split bytes
    → IsGood (instruction op (argument_in op held))
    → spelled_by op held ≡ spelling (instruction op (argument_in op held))
    → split_by held ≡ split_of (argument_in op held)
    → (limit : ℕ) × (arg : Argument) × Lies limit op arg split bytes.now
form_lies op held split bytes e good spelled is_split =
    held_lies op split bytes.now (subst (λ x. IsGood (instruction op (argument_in op x))) e good)
    (subst (λ x. spelled_by op x ≡ spelling (instruction op (argument_in op x))) e spelled)
    (subst (λ x. split_by x ≡ split_of (argument_in op x)) e is_split)

-- the argument that lies there is good, and that of the form
pub record IsHeld (op : Op) (held : Form) (split : ℕ) (bytes : List ℕ) : Type 0 where
  pub limit : ℕ
  pub arg : Argument
  pub lies : Lies limit op arg split bytes
  pub good : IsGood (instruction op arg)
  pub is : argument_in op held ≡ arg

pub form_held : (op : Op) (held : Form) (split : ℕ) (bytes : _) → held ≡ form.Spelled split bytes
    → IsGood (instruction op (argument_in op held))
    → spelled_by op held ≡ spelling (instruction op (argument_in op held))
    → split_by held ≡ split_of (argument_in op held) → IsHeld op held split bytes.now
form_held op held split bytes e good spelled is_split =
    let lies = form_lies op held split bytes e good spelled is_split in
    let is = ap (argument_in op) e ∙ lies_behind lies.0 op lies.1 split bytes.now lies.2 in
    record {
      limit = lies.0;
      arg = lies.1;
      lies = lies.2;
      good = subst (λ x. IsGood (instruction op x)) is good;
      is = is;
    }
