-- One line, or two, at the front of the bytes that a source has at hand.
use Rattle.std.proofs.Common.{◌≡◌, ◌≢◌, ℕ, suc, zero, ◌+◌, ◌<◌, ◌≤◌, ◌==◌, false}
use Rattle.std.proofs.Common.{true, List, [], ◌∷◌, ◌++◌, length, take, drop, get_or, Some, refl}
use Rattle.std.proofs.Common.{sym, ap, ◌∙◌, arith}
use Rattle.std.specs.List.{AllByRecursion}
use Rattle.std.proofs.Math.Seq.{take-add}
use Rattle.std.proofs.lemmas.List.{length-drop, length-take, take-take, take_all, take_more}
use Rattle.std.proofs.lemmas.List.Quantifiers.{position-Some}
use Rattle.std.proofs.lemmas.Bool.Decides.{nat_tests}
use Rattle.pkops.specs.Contents.{IsGood}
use Rattle.pkops.specs.Lengths.{end_of_line}
use Rattle.pkops.specs.Limits.{Bounds}
use Rattle.pkops.specs.Spelling.{IsLine, Line, Pair, Suits, instruction, layout_at, line_feed}
use Rattle.pkops.specs.Table.{code_of}
use Rattle.pkops.specs.declared.Layout.TheVariants as layout
use Rattle.pkops.specs.declared.Op.{Op}
use Rattle.pkops.specs.declared.Op.TheVariants as op
use Rattle.pkread.proofs.Bytes.Texts.{line_admitted, pair_admitted}
use Rattle.pkread.specs.Framing.{other}
use Rattle.pkread.specs.Pieces.{role_of}
use Rattle.pkread.specs.Private.Arms.{IsFront, has_two_lines}

-- an opcode whose argument varies in length is neither STOP nor FRAME
pub other_role : (o : Op) → layout_at o ≢ layout.Nothing → layout_at o ≢ layout.U8 →
    role_of o 0 ≡ other
other_role op.Stop nothing eight = absurd (nothing refl)
other_role op.Frame nothing eight = absurd (eight refl)
other_role _ nothing eight = refl

-- a line has no line feed before its end
no_feed : (xs : List ℕ) (n : ℕ) → n ≤ length xs →
    ((k : ℕ) → k < n → (get_or xs k 0 == 10) ≡ false) →
    AllByRecursion (λ byte. byte ≢ line_feed) (take n xs)
no_feed xs zero le h = tt
no_feed [] (suc n) le h = absurd (omega (arith, le))
no_feed (x ∷ xs) (suc n) le h = (
  λ e. let f : (x == 10) ≡ false = h 0 (omega arith) in let t : true ≡ false = rw e at f in
      absurd cc,
  no_feed xs n (omega (arith, le)) (λ k lt. h (suc k) (omega (arith, lt))),
)

-- the first line feed of some bytes, with as many bytes behind it as are at hand
module _ (end : ℕ) (line : List ℕ) (found : end_of_line line ≡ Some end) where
  ends : (end < length line) × ((get_or line end 0 == 10) ≡ true)
      × ((k : ℕ) → k < end → (get_or line k 0 == 10) ≡ false)
  ends = position-Some (λ (byte : ℕ). byte == 10) line end 0 found

  pub is_line : (most : ℕ) → end ≤ most → IsLine most (take end line)
  is_line most short = let inside = ends.0 in record {
    short = omega (arith, length-take end line, short);
    whole = no_feed line end (omega (arith, inside)) ends.2;
  }

  -- the line and its line feed
  pub line_whole : (count : ℕ) (rest : List ℕ) → line ≡ take count rest →
      (take (end + 1) rest ≡ take end line ++ line_feed ∷ []) × (end + 1 ≤ count)
      × (end + 1 ≤ length rest)
  line_whole count rest is =
      let inside = ends.0 in
      let feed : get_or line end 0 ≡ 10 = grind (arith, nat_tests, ends.1) in
      let long : length line ≡ length (take count rest) = ap length is in
      let low : end + 1 ≤ count = omega (arith, inside, long, length-take count rest) in (
        sym (take-take (end + 1) count rest low)
            ∙ (ap (take (end + 1)) (sym is)
            ∙ (take_more line end 0 inside ∙ ap (λ b. take end line ++ b ∷ []) feed)),
        low,
        omega (arith, inside, long, length-take count rest),
      )

-- a line that ends in the bytes behind the code
module _ (o : Op) (most end : ℕ) (line : List ℕ) (lay : layout_at o ≡ layout.Line most)
    (found : end_of_line line ≡ Some end) (short : end ≤ most) where
  pub front_suits : Suits (layout_at o) (Line (take end line))
  front_suits = rw lay (is_line end line found most short)

  pub line_front : (count : ℕ) (bytes : List ℕ) → 0 < length bytes →
      code_of o ≡ get_or bytes 0 0 → line ≡ take count (drop 1 bytes) →
      IsGood (instruction o (Line (take end line))) → (limits : Bounds) →
      IsFront limits o 0 (end + 2) bytes
  line_front count [] some code is good limits = absurd (omega (arith, some))
  line_front count (x ∷ rest) some code is good limits =
      let whole = line_whole end line found count rest is in
      let high = whole.2 in
      let e : end + 2 ≡ suc (end + 1) = omega arith in
      record {
        found = record {
          arg = Line (take end line);
          lies = record {
            laid = record { suits = front_suits; within = tt };
            spelled = rw (e, code) (ap (λ (l : List ℕ). x ∷ l) whole.0);
            split_is = refl;
          };
          good = good;
          admitted = line_admitted o most (Line (take end line)) lay;
        };
        role = other_role o (rw lay (λ e. cc)) (rw lay (λ e. cc));
        within = omega (arith, high);
      }

-- two lines that end in the bytes behind the code
module _ (o : Op) (most first second : ℕ) (lines behind : List ℕ)
    (lay : layout_at o ≡ layout.Pair most) (found : end_of_line lines ≡ Some first)
    (short : first ≤ most) (more : ℕ) (is' : behind ≡ take more (drop (first + 1) lines))
    (found' : end_of_line behind ≡ Some second) (short' : second ≤ most) where
  one : (take (first + 1) lines ≡ take first lines ++ line_feed ∷ []) × (first + 1 ≤ length lines)
      × (first + 1 ≤ length lines)
  one = line_whole first lines found (length lines) lines
      (sym (take_all (length lines) lines (omega arith)))

  two : (take (second + 1) (drop (first + 1) lines) ≡ take second behind ++ line_feed ∷ [])
      × (second + 1 ≤ more) × (second + 1 ≤ length (drop (first + 1) lines))
  two = line_whole second behind found' more (drop (first + 1) lines) is'

  pub both : first + 1 + (second + 1) ≤ length lines
  both = omega (arith, one.1, two.2, length-drop (first + 1) lines)

  pub pair_suits : Suits (layout_at o) (Pair (take first lines) (take second behind))
  pair_suits =
      rw lay (is_line first lines found most short, is_line second behind found' most short')

  pub pair_front : (count : ℕ) (bytes : List ℕ) → 0 < length bytes → code_of o ≡ get_or bytes 0 0 →
      lines ≡ take count (drop 1 bytes) →
      IsGood (instruction o (Pair (take first lines) (take second behind))) → (limits : Bounds) →
      IsFront limits o first (first + second + 3) bytes
  pair_front count [] some code is good limits = absurd (omega (arith, some))
  pair_front count (x ∷ rest) some code is good limits =
      let long : length lines ≡ length (take count rest) = ap length is in
      let cut : take (first + 1 + (second + 1)) rest ≡ take (first + 1 + (second + 1)) lines =
      sym (take-take (first + 1 + (second + 1)) count rest
      (omega (arith, both, long, length-take count rest)))
      ∙ ap (take (first + 1 + (second + 1))) (sym is) in
      let halves : take (first + 1 + (second + 1)) lines
      ≡ (take first lines ++ line_feed ∷ []) ++ (take second behind ++ line_feed ∷ []) =
      take-add (first + 1) (second + 1) lines
      ∙ (ap (λ l. l ++ take (second + 1) (drop (first + 1) lines)) one.0)
      ∙ ap (λ l. (take first lines ++ line_feed ∷ []) ++ l) two.0 in
      let e : first + second + 3 ≡ suc (first + 1 + (second + 1)) = omega arith in
      record {
        found = record {
          arg = Pair (take first lines) (take second behind);
          lies = record {
            laid = record { suits = pair_suits; within = tt };
            spelled = rw (e, code) (ap (λ (l : List ℕ). x ∷ l) (cut ∙ halves));
            split_is = omega (arith, both, length-take first lines);
          };
          good = good;
          admitted = pair_admitted o most (Pair (take first lines) (take second behind)) lay;
        };
        role = other_role o (rw lay (λ e. cc)) (rw lay (λ e. cc));
        within = omega (arith, both, long, length-take count rest);
      }

-- whether an opcode has two lines, by its layout
pub two_lines : (o : Op) (most : ℕ) → layout_at o ≡ layout.Pair most → has_two_lines o ≡ true
two_lines op.Global most e = refl
two_lines op.Inst most e = refl
two_lines _ most e = absurd cc

pub no_two_lines : (o : Op) → ((most : ℕ) → layout_at o ≢ layout.Pair most) →
    has_two_lines o ≡ false
no_two_lines op.Global unlike = absurd (unlike 65_536 refl)
no_two_lines op.Inst unlike = absurd (unlike 65_536 refl)
no_two_lines _ unlike = refl
