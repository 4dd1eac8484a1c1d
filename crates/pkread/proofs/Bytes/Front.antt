-- The instruction at the front of the bytes that a source has at hand.
use Rattle.std.proofs.Common.{◌≡◌, ℕ, suc, zero, ◌+◌, ◌-◌, ◌*◌, ◌<◌, ◌≤◌, Bool, false, true, List}
use Rattle.std.proofs.Common.{[], ◌∷◌, ◌++◌, length, take, drop, get_or, None, refl, sym, ap, subst}
use Rattle.std.proofs.Common.{◌∙◌, arith, slice_index, IsUtf8, take-add, get_or-take, length-drop}
use Rattle.std.proofs.Common.{length-take}
use Rattle.byteorder.specs.Endian.{little_bytes, little_from}
use Rattle.byteorder.specs.Numbers.{little_from-lt}
use Rattle.pkops.specs.Contents.{Keeps, rule_of}
use Rattle.pkops.specs.Growth.{CountLaws, FieldLaws}
use Rattle.pkops.specs.Limits.{Bounds}
use Rattle.pkops.specs.KnownLayout.{AreBytes, Lies, count_in, field_len}
use Rattle.pkops.specs.Payloads.{payload_limit}
use Rattle.pkops.specs.Spelling.{Counted, Number, count_limit, instruction, layout_at, size_of}
use Rattle.pkops.specs.Table.{code_of}
use Rattle.pkops.specs.declared.Layout.TheVariants as layout
use Rattle.pkops.specs.declared.Width.{Width}
use Rattle.pkops.specs.declared.Op.{Op}
use Rattle.pkops.specs.declared.Op.TheVariants as op
use Rattle.pkread.proofs.Bytes.FrontLines.{other_role}
use Rattle.pkread.proofs.Bytes.Plain.{any_rule, takes_any, text_admitted, text_rule}
use Rattle.pkread.proofs.Bytes.Taken.{AreBytes-take}
use Rattle.pkread.specs.Admission.{objection}
use Rattle.pkread.specs.Private.Arms.{HasFixedLength, IsFront}
use Rattle.pkread.specs.Private.Judgement.{is_plain}
use Rattle.pkread.specs.Pull.{AreAllBytes}

-- an opcode with an argument of fixed length, of which all are good
pub fixed_front : FieldLaws → (limits : Bounds) (n : ℕ) (o : Op) (bytes : List ℕ) →
    HasFixedLength o n → AreAllBytes bytes → n ≤ length bytes → code_of o ≡ get_or bytes 0 0 →
    IsFront limits o 0 n bytes
fixed_front fields limits n o [] h fits room code = absurd (omega (arith, room, h.length_is))
fixed_front fields limits n o (x ∷ rest) h fits room code =
    let limit = payload_limit limits o in
    let size = field_len (layout_at o) in
    let behind : AreAllBytes rest = λ i. fits (suc i) in
    let is : n ≡ suc size = omega (arith, h.length_is) in
    let long : length (take size rest) ≡ size = omega (arith, is, room, length-take size rest) in
    let whole = fields.whole limit o (take size rest) (AreBytes-take size rest behind) h.fixed
    long in
    let any = takes_any o h.plain in
    let same : suc size ≡ n = sym is in
    let lies : Lies limit o whole.0 0 (take n (x ∷ rest)) =
    subst (λ (m : ℕ). Lies limit o whole.0 0 (take m (x ∷ rest))) same (rw (← code) whole.1) in
    record {
      found = record {
        arg = whole.0;
        lies = lies;
        good = record { suits = lies.laid.suits; contents = rw any.contents tt };
        admitted = any.admitted whole.0;
      };
      role = h.role;
      within = room;
    }

-- a known protocol is spelled in one byte, and PROTO with it is admitted
protocol_is : (version : ℕ) → version ≤ 5 → (little_bytes 1 version ≡ version ∷ [])
    × (objection (instruction op.Proto (Number 1 version)) ≡ None)
protocol_is zero known = (refl, refl)
protocol_is (suc zero) known = (refl, refl)
protocol_is (suc (suc zero)) known = (refl, refl)
protocol_is (suc (suc (suc zero))) known = (refl, refl)
protocol_is (suc (suc (suc (suc zero)))) known = (refl, refl)
protocol_is (suc (suc (suc (suc (suc zero))))) known = (refl, refl)
protocol_is (suc (suc (suc (suc (suc (suc more)))))) known = absurd (omega (arith, known))

-- PROTO with a known protocol
pub proto_front : (limits : Bounds) (bytes : List ℕ) → 2 ≤ length bytes →
    code_of op.Proto ≡ get_or bytes 0 0 → get_or bytes 1 0 ≤ 5 → IsFront limits op.Proto 0 2 bytes
proto_front limits [] room code known = absurd (omega (arith, room))
proto_front limits (x ∷ []) room code known = absurd (omega (arith, room))
proto_front limits (x ∷ version ∷ rest) room code known =
    let is = protocol_is version known in
    let small : version < 256 = omega (arith, known) in
    record {
      found = record {
        arg = Number 1 version;
        lies = record {
          laid = record { suits = (refl, small); within = tt };
          spelled = rw (code, is.0) refl;
          split_is = refl;
        };
        good = record { suits = (refl, small); contents = tt };
        admitted = is.1;
      };
      role = refl;
      within = room;
    }

-- the number in the first bytes doesn't depend on those behind them
number_take : (i n k : ℕ) (xs : List ℕ) → i + n ≤ k →
    little_from i n (take k xs) ≡ little_from i n xs
number_take i zero k xs le = refl
number_take i (suc n) k xs le =
    ap (λ x. x + 256 * little_from (suc i) n (take k xs))
    (get_or-take k xs i 0 (omega (arith, le)))
    ∙ ap (λ x. slice_index xs i + 256 * x) (number_take (suc i) n k xs (omega (arith, le)))

-- a payload that is good for its opcode
payload_keeps : (o : Op) (size : Width) (payload : List ℕ) (plain : Bool) →
    layout_at o ≡ layout.Counted size false → is_plain o ≡ plain →
    (is_plain o ≡ false → IsUtf8 payload) → Keeps (rule_of o) (Counted payload)
payload_keeps o size payload true lay e good = rw (any_rule o e) tt
payload_keeps o size payload false lay e good = rw (text_rule o size false lay e) (good e)

-- a payload that is good and within the limit
pub counted_front : CountLaws → (limits : Bounds) (n : ℕ) (o : Op) (size : Width) (bytes : List ℕ) →
    layout_at o ≡ layout.Counted size false → AreAllBytes bytes → code_of o ≡ get_or bytes 0 0 →
    size_of size + 1 ≤ length bytes → count_in size (drop 1 bytes) ≤ payload_limit limits o →
    n ≡ size_of size + 1 + count_in size (drop 1 bytes) → n ≤ length bytes →
    (is_plain o ≡ false → IsUtf8 (take (n - (size_of size + 1)) (drop (size_of size + 1) bytes))) →
    IsFront limits o 0 n bytes
counted_front counts limits n o size [] lay fits code head within is room good =
    absurd (omega (arith, head))
counted_front counts limits n o size (x ∷ rest) lay fits code head within is room good =
    let limit = payload_limit limits o in
    let k = size_of size in
    let count = count_in size rest in
    let field = take k rest in
    let payload = take count (drop k rest) in
    let same : count_in size field ≡ count = number_take 0 k k rest (omega arith) in
    let whole : take (k + count) rest ≡ field ++ payload = take-add k count rest in
    let behind : AreAllBytes rest = λ i. fits (suc i) in
    let long : length field ≡ k = omega (arith, length-take k rest, head) in
    let all : length payload ≡ count =
    omega (arith, length-take count (drop k rest), length-drop k rest, is, room, head) in
    let small : count < count_limit size false = little_from-lt 0 k rest behind in
    let front = counts.whole limit o size false field payload
    (record { lay = lay; len = long })
    (subst (λ (l : List ℕ). AreBytes l) whole (AreBytes-take (k + count) rest behind))
    (omega (arith, same, small)) (omega (arith, same, within)) (omega (arith, same, all)) in
    let e : n ≡ suc (k + count) = omega (arith, is) in
    let spelled : code_of o ∷ (field ++ payload) ≡ take n (x ∷ rest) =
    rw (e, code) (ap (λ (l : List ℕ). x ∷ l) (sym whole)) in
    let lies : Lies limit o (Counted payload) 0 (take n (x ∷ rest)) =
    subst (λ (l : List ℕ). Lies limit o (Counted payload) 0 l) spelled front in
    let left : n - (k + 1) ≡ count = omega (arith, is) in
    let head_is : k + 1 ≡ suc k = omega arith in
    let good' : is_plain o ≡ false → IsUtf8 (take (n - (k + 1)) (drop k rest)) =
    λ e. subst (λ (m : ℕ). IsUtf8 (take (n - (k + 1)) (drop m (x ∷ rest)))) head_is (good e) in
    record {
      found = record {
        arg = Counted payload;
        lies = lies;
        good = record {
          suits = lies.laid.suits;
          contents = payload_keeps o size payload (is_plain o) lay refl
              (subst (λ (m : ℕ). is_plain o ≡ false → IsUtf8 (take m (drop k rest))) left good');
        };
        admitted = text_admitted o size false (Counted payload) lay;
      };
      role = other_role o (rw lay (λ e. cc)) (rw lay (λ e. cc));
      within = room;
    }
