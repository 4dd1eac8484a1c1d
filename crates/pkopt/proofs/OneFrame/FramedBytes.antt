-- The bytes of the optimized form are those of the slim form with a FRAME put in.
use Rattle.std.proofs.Common.{◌≡◌, ℕ, suc, ◌-◌, Bool, true, false, cond, List, [], ◌∷◌, ◌++◌}
use Rattle.std.proofs.Common.{length, take, drop, get_or, Option, inl, inr, refl, sym, ap, subst}
use Rattle.std.proofs.Common.{◌∙◌, arith}
use Rattle.std.specs.Prelude.{nat_eq}
use Rattle.pkops.specs.declared.Op.{Op}
use Rattle.pkops.specs.declared.Op.TheVariants as op
use Rattle.pkops.specs.declared.Layout.TheVariants as layout
use Rattle.pkops.specs.Spelling.{Argument, Number, Instruction, instruction, Suits, layout_at, laid}
use Rattle.pkops.specs.Spelling.{spelling}
use Rattle.pkops.specs.Table.{code_of}
use Rattle.pkread.specs.Admission.{IsAllowed}
use Rattle.pkread.specs.Sequence.{spellings}
use Rattle.pkmachine.specs.Effects.{effect_of}
use Rattle.pkopt.proofs.SlimForm.Allowed.{EndsInStop}
use Rattle.pkopt.specs.Private.FrameBytes.{head_length, framed_bytes}
use Rattle.pkopt.specs.OneFrame.{is_proto, has_frame, frame_around, in_frame, optimized}
use Rattle.pkopt.specs.Slim.{renumbered, left_of, slim_from, slim}
use Rattle.pkopt.specs.Writers.{Writes, after, sources, new_number}
use Rattle.pkopt.proofs.SlimForm.NewForms.{NamesNumber, form_keeps, left_by}
use Rattle.pkopt.proofs.OneFrame.FramedForm.{EndsByStop, ends_by, slim_ends}

-- a PROTO of the slim form is one of the pickle, so it is good
abbrev GoodProto : Instruction → Type 0
GoodProto i = is_proto i.op ≡ true → Suits (layout_at i.op) i.arg

abbrev GoodProtos : List Instruction → Type 0
GoodProtos [] = Unit {0}
GoodProtos (i ∷ is) = GoodProto i × GoodProtos is

protos_append : (is js : List Instruction) → GoodProtos is → GoodProtos js → GoodProtos (is ++ js)
protos_append [] js h g = g
protos_append (i ∷ is) js h g = (h.0, protos_append is js h.1 g)

memo_no_proto : (o : Op) → is_proto o ≡ true → effect_of o ≡ effect_of op.Proto
memo_no_proto op.Proto e = refl
memo_no_proto o e = cc

module _ (vs : List (Option ℕ)) (limit : ℕ) where
  -- an instruction that gets another number is no PROTO
  no_proto : (n : ℕ) (i : Instruction) → NamesNumber (effect_of i.op) → GoodProto (renumbered n i)
  no_proto n i names e = absurd (subst NamesNumber
      (memo_no_proto i.op (sym (form_keeps is_proto refl refl i.op n) ∙ e)) names)

  left_good : (ws : Writes) (i : Instruction) → IsAllowed limit i
      → GoodProtos (left_of vs ws (effect_of i.op) i)
  left_good ws i h = left_by GoodProtos vs ws i (effect_of i.op) tt ((λ e. h.good.suits), tt)
      (λ w names lt. (no_proto (new_number vs w) i names, tt))

  protos_slim : (ws : Writes) (is : List Instruction) → EndsInStop limit is
      → GoodProtos (slim_from vs ws is)
  protos_slim ws [] h = absurd h
  protos_slim ws (i ∷ is) (a, inl h) = protos_append (left_of vs ws (effect_of i.op) i) _
      (left_good ws i a)
      (subst (λ is. GoodProtos (slim_from vs (after i ws) is)) (sym h.1) tt)
  protos_slim ws (i ∷ is) (a, inr h) = protos_append (left_of vs ws (effect_of i.op) i) _
      (left_good ws i a) (protos_slim (after i ws) is h.1)

two_bytes : (a : Argument) → Suits layout.U1 a
    → (b : ℕ) × (code_of op.Proto ∷ laid layout.U1 a ≡ 128 ∷ b ∷ [])
two_bytes (Number w n) h = (
  get_or (laid layout.U1 (Number 1 n)) 0 0,
  ap (λ w. code_of op.Proto ∷ laid layout.U1 (Number w n)) h.0,
)
two_bytes a h = absurd h

proto_bytes : (o : Op) (a : Argument) → is_proto o ≡ true → Suits (layout_at o) a
    → (b : ℕ) × (spelling (instruction o a) ≡ 128 ∷ b ∷ [])
proto_bytes op.Proto a e h = two_bytes a h
proto_bytes o a e h = cc

other_code : (o : Op) → is_proto o ≡ false → nat_eq (code_of o) 128 ≡ false
other_code op.Proto e = cc
other_code o e = refl

no_head : (b : ℕ) (bytes : List ℕ) → nat_eq b 128 ≡ false → head_length (b ∷ bytes) ≡ 0
no_head b [] e = refl
no_head b (c ∷ bytes) e = ap (λ t. cond t 2 0) e

framed_at : (k : ℕ) (bytes : List ℕ) → head_length bytes ≡ k
    → framed_bytes bytes ≡ take k bytes
    ++ (spelling (instruction op.Frame (Number 8 (length bytes - k))) ++ drop k bytes)
framed_at k bytes e = ap
    (λ k. take k bytes
    ++ (spelling (instruction op.Frame (Number 8 (length bytes - k))) ++ drop k bytes)) e

two_less : (n : ℕ) → suc (suc n) - 2 ≡ n
two_less n = omega arith

bytes_by : (b : Bool) (i : Instruction) (is : List Instruction) → is_proto i.op ≡ b → GoodProto i
    → framed_bytes (spelling i ++ spellings is)
    ≡ spellings (cond b (i ∷ frame_around is ∷ is) (frame_around (i ∷ is) ∷ i ∷ is))
bytes_by true i is p h =
    let s = proto_bytes i.op i.arg p (h p) in
    ap (λ (l : List ℕ). framed_bytes (l ++ spellings is)) s.1
    ∙ ap (λ n. 128 ∷ s.0 ∷ (spelling (instruction op.Frame (Number 8 n)) ++ spellings is))
    (two_less (length (spellings is)))
    ∙ sym (ap (λ (l : List ℕ). l ++ spellings (frame_around is ∷ is)) s.1)
bytes_by false i is p h = framed_at 0 (spellings (i ∷ is))
    (no_head (code_of i.op) (laid (layout_at i.op) i.arg ++ spellings is) (other_code i.op p))
    ∙ ap (λ n. spelling (instruction op.Frame (Number 8 n)) ++ spellings (i ∷ is)) (omega arith)

in_frame_bytes : (q : List Instruction) → GoodProtos q → EndsByStop q
    → framed_bytes (spellings q) ≡ spellings (in_frame q)
in_frame_bytes [] h e = absurd e
in_frame_bytes (i ∷ is) h e = bytes_by (is_proto i.op) i is refl h.0

-- the bytes of the optimized form
pub optimized_bytes : (limit : ℕ) (p : List Instruction) → EndsInStop limit p → has_frame p ≡ true
    → framed_bytes (spellings (slim p)) ≡ spellings (optimized p)
optimized_bytes limit p h f = in_frame_bytes (slim p) (protos_slim (sources [] p) limit [] p h)
    (slim_ends (sources [] p) [] p (ends_by limit p h)).0
    ∙ sym (ap (λ b. spellings (cond b (in_frame (slim p)) (slim p))) f)

pub unframed_bytes : (p : List Instruction) → has_frame p ≡ false
    → spellings (slim p) ≡ spellings (optimized p)
unframed_bytes p f = sym (ap (λ b. spellings (cond b (in_frame (slim p)) (slim p))) f)
