-- Frames (PEP 3154, section Framing): first as intervals of offsets, then as a rule that counts the
-- bytes left in the open frame.
use Rattle.std.specs.Prelude.{◌≡◌, ℕ, ◌+◌, ◌-◌, ◌<◌, ◌≤◌, cond, nat_lt, nat_eq, List, [], ◌∷◌, ◌++◌}
use Rattle.std.specs.Prelude.{length, All, Contains, ◌⊎◌, Option, None, Some, MatchOption}
use Rattle.std.specs.Prelude.{MatchResult, Result, option_map}

-- what the frame rules see of an instruction: FRAME with its argument, STOP, or any other
pub data Role : Type 0 where
  frame : ℕ → Role
  stop : Role
  other : Role

-- an instruction of a list whose spans follow each other without gaps
pub record Piece : Type 0 where
  pub length : ℕ
  pub role : Role

-- the offsets from `from` up to, but not including, `to`
pub record Span : Type 0 where
  pub from : ℕ
  pub to : ℕ

-- the span contains the offset
abbrev pub Holds : Span → ℕ → Type 0
Holds s k = (s.from ≤ k) × (k < s.to)

-- the spans overlap
abbrev pub Meets : Span → Span → Type 0
Meets s c = (k : ℕ) × Holds s k × Holds c k

-- the first span lies within the second
abbrev pub LiesInside : Span → Span → Type 0
LiesInside s c = (c.from ≤ s.from) × (s.to ≤ c.to)

-- the length of a list of pieces in bytes
abbrev pub total : List Piece → ℕ
total [] = 0
total (p ∷ ps) = p.length + total ps

-- the contents of an instruction whose span ends at `from`: for FRAME, as many bytes as its
-- argument says; for any other, none
abbrev pub contents_of : ℕ → Role → List Span
contents_of from (frame n) = record { from = from; to = from + n } ∷ []
contents_of from stop = []
contents_of from other = []

-- the contents of each FRAME in a list that starts at offset `at`
abbrev pub frame_spans : ℕ → List Piece → List Span
frame_spans at [] = []
frame_spans at (p ∷ ps) = contents_of (at + p.length) p.role ++ frame_spans (at + p.length) ps

-- the span of a piece that follows these pieces
abbrev pub span_after : List Piece → Piece → Span
span_after before p = record { from = total before; to = total before + p.length }

-- the span lies within one of the others
abbrev pub LiesInOne : Span → List Span → Type 0
LiesInOne s cs = (c : Span) × Contains cs c × LiesInside s c

-- the span overlaps none of the others
abbrev pub MeetsNone : Span → List Span → Type 0
MeetsNone s cs = (c : Span) → Contains cs c → Meets s c → ⊥

-- the role is FRAME
abbrev pub IsFrame : Role → Type 0
IsFrame (frame n) = Unit {0}
IsFrame _ = ⊥

-- the role is STOP
abbrev pub IsStop : Role → Type 0
IsStop stop = Unit {0}
IsStop _ = ⊥

-- p obeys the frame rules in the list before ++ p ∷ after: it lies within the contents of one
-- earlier FRAME or overlaps no contents at all; a FRAME overlaps none; and no frame extends beyond
-- STOP
pub record IsFramed (before : List Piece) (p : Piece) (after : List Piece) : Type 0 where
  pub whole :
      LiesInOne (span_after before p) (frame_spans 0 before)
      ⊎ MeetsNone (span_after before p) (frame_spans 0 (before ++ p ∷ after))
  pub frame : IsFrame p.role → MeetsNone (span_after before p) (frame_spans 0 (before ++ p ∷ after))
  pub stop : IsStop p.role → (c : Span) → Contains (frame_spans 0 before) c →
      c.to ≤ (span_after before p).to

-- every piece obeys the frame rules
abbrev pub Framed : List Piece → Type 0
Framed ps = (before : List Piece) (p : Piece) (after : List Piece) →
    ps ≡ before ++ p ∷ after → IsFramed before p after

-- the piece at index k breaks the frame rules, and no earlier piece does
pub record FirstUnframed (ps : List Piece) (k : ℕ) : Type 0 where
  pub here : (before : List Piece) × (p : Piece) × (after : List Piece) ×
      (ps ≡ before ++ p ∷ after) × (length before ≡ k) × (IsFramed before p after → ⊥)
  pub earlier : (before : List Piece) (p : Piece) (after : List Piece) →
      ps ≡ before ++ p ∷ after → length before < k → IsFramed before p after

-- The counting rule. Its state is one number: the bytes left in the open frame.

-- the number of bytes in the frame that a piece opens
abbrev pub opened : Role → ℕ
opened (frame n) = n
opened _ = 0

-- the bytes left after a piece inside a frame with n bytes left, or None if it is refused
abbrev pub left_open : ℕ → ℕ → Role → Option ℕ
left_open n len (frame m) = None
left_open n len stop = cond (nat_eq len n) (Some 0) None
left_open n len other = cond (nat_lt n len) None (Some (n - len))

-- the bytes left after a piece, where n were left before it, or None if it is refused
abbrev pub counted : ℕ → Piece → Option ℕ
counted n p = cond (nat_eq n 0) (Some (opened p.role)) (left_open n p.length p.role)

-- an index shifted by one, for a list with one more piece in front
abbrev pub one_later : Option ℕ → (ℕ → Option ℕ) → Option ℕ
one_later None f = Some 0
one_later (Some n) f = option_map (λ k. k + 1) (f n)

-- continues with the number, if there is one
abbrev pub then_counted : Option ℕ → (ℕ → Option ℕ) → Option ℕ
then_counted None f = None
then_counted (Some n) f = f n

-- the bytes left after all pieces, or None if one of them is refused
abbrev pub counted_all : ℕ → List Piece → Option ℕ
counted_all n [] = Some n
counted_all n (p ∷ ps) = then_counted (counted n p) (λ m. counted_all m ps)

-- the index of the first piece that the rule refuses, where n bytes are left before the list
abbrev pub refused_at : ℕ → List Piece → Option ℕ
refused_at n [] = None
refused_at n (p ∷ ps) = one_later (counted n p) (λ m. refused_at m ps)

-- the counting rule is exact: the first piece that it refuses is the first that breaks the frame
-- rules, and if it refuses none, none does
abbrev pub CountingIsExact : Type 0
CountingIsExact = (ps : List Piece) → All (λ p. 0 < p.length) ps →
    MatchOption (refused_at 0 ps) (Framed ps) (FirstUnframed ps)

-- the effect of a call that takes the piece and changes the bytes left from `old` to `new`; a
-- refused piece changes nothing
abbrev pub TakesPiece : {A E : Type 0} → ℕ → Piece → Result A E → ℕ → Type 0
TakesPiece old p result new =
    MatchResult result (λ _. counted old p ≡ Some new) (λ _. (counted old p ≡ None) × (new ≡ old))
