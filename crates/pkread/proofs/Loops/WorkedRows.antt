-- Definitions at work: what they say of small inputs.
use Rattle.std.proofs.Common.{◌≡◌, ◌≢◌, ℕ, List, [], ◌∷◌, None, Some, arith, refl}
use Rattle.std.proofs.lemmas.List.Elements.{All-nil, All-push}
use Rattle.std.specs.Iterator.{at_most}
use Rattle.pkops.specs.Limits.{Bounds, standard}
use Rattle.pkops.specs.Payloads.{payload_limit, payload_limit_at}
use Rattle.pkops.specs.Spelling.{Instruction, Nothing, Number, Pair, instruction}
use Rattle.pkops.specs.declared.Op.TheVariants as op
use Rattle.pkops.specs.declared.Reason.TheVariants.{ExtensionCode, UnsupportedProtocol}
use Rattle.pkread.specs.Admission.{IsAllowed, objection}
use Rattle.pkread.specs.Framing.{Piece, Role, frame_spans, counted, frame, other, refused_at, stop}
use Rattle.pkread.specs.Framing.{total}
use Rattle.pkread.specs.Genops.{most_items, walk_of}
use Rattle.pkread.specs.Pieces.{piece_of}
use Rattle.pkread.specs.Rows.{IsAmiss, Takes}
use Rattle.pkread.specs.Sequence.{IsSequence, spellings}

-- a piece of this length
abbrev one : ℕ → Role → Piece
one n r = record { length = n; role = r }

-- FRAME with the argument 2, NONE and STOP: the frame holds both, and is closed by STOP
frame_of_two : refused_at 0 (one 9 (frame 2) ∷ one 1 other ∷ one 1 stop ∷ []) ≡ None
frame_of_two = refl

-- with the argument 3 STOP leaves a byte of the frame
frame_of_three : refused_at 0 (one 9 (frame 3) ∷ one 1 other ∷ one 1 stop ∷ []) ≡ Some 2
frame_of_three = refl

-- with the argument 1 STOP stands outside the frame
frame_of_one : refused_at 0 (one 9 (frame 1) ∷ one 1 other ∷ one 1 stop ∷ []) ≡ None
frame_of_one = refl

-- an instruction of two bytes doesn't fit into a frame of one
frame_too_short : refused_at 0 (one 9 (frame 1) ∷ one 2 other ∷ one 1 stop ∷ []) ≡ Some 1
frame_too_short = refl

-- a FRAME stands in no frame
frame_in_frame : refused_at 0 (one 9 (frame 10) ∷ one 9 (frame 1) ∷ one 1 stop ∷ []) ≡ Some 1
frame_in_frame = refl

-- a frame of length 0 is closed at once
empty_frames : refused_at 0 (one 9 (frame 0) ∷ one 9 (frame 0) ∷ one 1 other ∷ one 1 stop ∷ [])
    ≡ None
empty_frames = refl

-- one byte of a frame of two is still open behind NONE
one_left : counted 2 (one 1 other) ≡ Some 1
one_left = refl

-- the contents of a FRAME begin behind its nine bytes
contents_behind : frame_spans 2 (one 9 (frame 2) ∷ one 1 other ∷ []) ≡ record { from = 11; to = 13 }
    ∷ []
contents_behind = refl

-- ten bytes in all
total_of_two : total (one 9 (frame 2) ∷ one 1 other ∷ []) ≡ 10
total_of_two = refl

-- EXT1, PROTO 6 and PROTO 5
objects_to_extension : objection (instruction op.Ext1 (Number 1 5)) ≡ Some ExtensionCode
objects_to_extension = refl

objects_to_six : objection (instruction op.Proto (Number 1 6)) ≡ Some (UnsupportedProtocol 6)
objects_to_six = refl

admits_five : objection (instruction op.Proto (Number 1 5)) ≡ None
admits_five = refl

-- the bytes 80 06 and what follows: PROTO 6
six_is_amiss : (rest : List ℕ) → IsAmiss 16_777_216 (0x80 ∷ 6 ∷ rest) (UnsupportedProtocol 6)
six_is_amiss rest = (
  instruction op.Proto (Number 1 6),
  2,
  record {
    fits = omega arith;
    spells =
        record { spelled = refl; good = record { suits = (refl, omega arith); contents = tt } };
    within = tt;
  },
  refl,
)

-- FRAME with the argument 2, as a piece
frame_piece : piece_of (instruction op.Frame (Number 8 2)) ≡ one 9 (frame 2)
frame_piece = refl

-- GLOBAL of a module and a name of one byte each, as a piece
global_piece : piece_of (instruction op.Global (Pair (109 ∷ []) (102 ∷ []))) ≡ one 5 other
global_piece = refl

-- NONE and STOP
abbrev none_stop : List Instruction
none_stop = instruction op.None Nothing ∷ instruction op.Stop Nothing ∷ []

-- their bytes
none_stop_bytes : spellings none_stop ≡ 0x4e ∷ 0x2e ∷ []
none_stop_bytes = refl

-- they are allowed under any limit, and a sequence
allows_none : (limit : ℕ) → IsAllowed limit (instruction op.None Nothing)
allows_none limit =
    record { good = record { suits = tt; contents = tt }; within = tt; admitted = refl }

allows_stop : (limit : ℕ) → IsAllowed limit (instruction op.Stop Nothing)
allows_stop limit =
    record { good = record { suits = tt; contents = tt }; within = tt; admitted = refl }

none_stop_sequence : (limit : ℕ) → IsSequence (λ _. limit) none_stop
none_stop_sequence limit = record {
  each = All-push (IsAllowed limit) (instruction op.None Nothing ∷ []) (instruction op.Stop Nothing)
      (All-push (IsAllowed limit) [] (instruction op.None Nothing) (All-nil (IsAllowed limit))
      (allows_none limit)) (allows_stop limit);
  stops = (
    instruction op.None Nothing ∷ [],
    instruction op.Stop Nothing,
    refl,
    refl,
    All-push (λ i. i.op ≢ op.Stop) [] (instruction op.None Nothing)
        (All-nil (λ i. i.op ≢ op.Stop)) (λ e. cc),
  );
}

-- a walk over two bytes has three items at most, and none once it is done
items_of_two : most_items (walk_of (0x4e ∷ 0x2e ∷ []) 0) ≡ at_most 3
items_of_two = refl

-- a source of two bytes gives one of them
takes_one : Takes (record { left = Some (0x4e ∷ 0x2e ∷ []); failures = 0 })
    (record { left = Some (0x2e ∷ []); failures = 0 }) (0x4e ∷ [])
takes_one = record { bytes = refl; count = refl }

-- a payload of bytes may have as many as the limit on those passed over says, one of text as many
-- as that on those held
abbrev three_and_five : Bounds
three_and_five = record standard { counted = 3; passed = 5 }

limit_of_bytes : payload_limit three_and_five op.BinBytes ≡ 5
limit_of_bytes = refl

limit_of_text : payload_limit three_and_five op.BinUnicode ≡ 3
limit_of_text = refl

limit_at_bytes : payload_limit_at three_and_five (0x42 ∷ []) ≡ 5
limit_at_bytes = refl

limit_at_text : payload_limit_at three_and_five (0x58 ∷ []) ≡ 3
limit_at_text = refl
