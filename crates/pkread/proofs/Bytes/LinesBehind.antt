-- The lines behind a code.
use Rattle.std.proofs.Common.{◌≡◌, ◌≢◌, ℕ, ◌+◌, ◌-◌, ◌%◌, ◌^◌, ◌≤◌, ◌⊎◌, List, [], ◌∷◌, ◌++◌}
use Rattle.std.proofs.Common.{length, refl, sym, ap, ◌∙◌, subst, inl, inr, arith, length-append}
use Rattle.std.proofs.Common.{append_assoc, take_all}
use Rattle.std.specs.List.{AllByRecursion}
use Rattle.pkops.specs.Growth.{BegunLaws}
use Rattle.pkops.specs.KnownLayout.{Lies}
use Rattle.pkops.specs.Scans.{Begun, HasFault, IsLong}
use Rattle.pkops.specs.Spelling.{IsLine, Line, Pair, instruction, layout_at}
use Rattle.pkops.specs.Table.{code_of}
use Rattle.pkops.specs.declared.Fault.TheVariants as fault
use Rattle.pkops.specs.declared.Layout.TheVariants as layout
use Rattle.pkops.specs.declared.Op.{Op}
use Rattle.pkops.specs.declared.Reason.TheVariants.{Source, Truncated, TooLarge}
use Rattle.pkread.proofs.Bytes.Behind.{begun_fronts, fronts_more, row_behind}
use Rattle.pkread.proofs.Bytes.Takes.{Consumes-more, Takes-more}
use Rattle.pkread.proofs.Bytes.Taken.{took_both}
use Rattle.pkread.specs.Private.Arms.{Grows, LacksLine, LineRow, RowBehind, Stops, TookLine}
use Rattle.pkread.specs.Private.Progress.{Intake}
use Rattle.pkread.specs.Rows.{Reason, FrontsBegin, Sight, Takes}
use Rattle.pkread.specs.Private.Reads.{Took}

abbrev Endless : List ℕ → Type 0
Endless c = AllByRecursion (λ byte. byte ≢ 10) c

line_begun : (limit most : ℕ) (o : Op) (text : List ℕ) → layout_at o ≡ layout.Line most →
    length text ≤ most → Endless text → Begun limit (code_of o ∷ text)
line_begun limit most o text lay short clean = (
  instruction o (Line text),
  10 ∷ [],
  record {
    may = record { suits = rw lay (record { short = short; whole = clean }); within = λ _. tt };
    parts = refl;
    lacks = λ e. cc;
  },
)

-- a line that is one byte too long
last_of : (c : List ℕ) (n : ℕ) → length c ≡ n + 1 →
    (d : List ℕ) × (x : ℕ) × (c ≡ d ++ x ∷ []) × (length d ≡ n)
last_of [] n e = absurd (omega arith)
last_of (x ∷ []) n e = ([], x, refl, omega arith)
last_of (x ∷ y ∷ c) n e =
    let ih = last_of (y ∷ c) (n - 1) (omega arith) in
    let e2 = ih.3 in
    (x ∷ ih.0, ih.1, ap (λ (l : List ℕ). x ∷ l) ih.2, omega arith)

Endless-front : (a b : List ℕ) → Endless (a ++ b) → Endless a
Endless-front [] b h = tt
Endless-front (x ∷ a) b h = (h.0, Endless-front a b h.1)

pair_begun : (limit most : ℕ) (o : Op) (text : List ℕ) → layout_at o ≡ layout.Pair most →
    length text ≤ most → Endless text → Begun limit (code_of o ∷ text)
pair_begun limit most o text lay short clean = (
  instruction o (Pair text []),
  10 ∷ 10 ∷ [],
  record {
    may = record {
      suits = rw lay (
        record { short = short; whole = clean },
        record {
          short = omega arith;
          whole = tt;
        },
      );
      within = λ _. tt;
    };
    parts = ap (λ (l : List ℕ). code_of o ∷ l) (append_assoc text (10 ∷ []) (10 ∷ []));
    lacks = λ e. cc;
  },
)

second_begun : (limit most : ℕ) (o : Op) (first text : List ℕ) → layout_at o ≡ layout.Pair most →
    IsLine most first → length text ≤ most → Endless text →
    Begun limit (code_of o ∷ ((first ++ 10 ∷ []) ++ text))
second_begun limit most o first text lay line short clean = (
  instruction o (Pair first text),
  10 ∷ [],
  record {
    may = record {
      suits = rw lay (line, record { short = short; whole = clean });
      within = λ _. tt;
    };
    parts = ap (λ (l : List ℕ). code_of o ∷ l) (sym (append_assoc (first ++ 10 ∷ []) text (10 ∷
        [])));
    lacks = λ e. cc;
  },
)

is_long : (most : ℕ) (c : List ℕ) → length c ≡ most + 1 → Endless c → IsLong most c
is_long most c e h = record {
  long = omega arith;
  endless = rw (take_all (most + 1) c (omega arith)) h;
}

-- what a row says of the length
line_length : (most : ℕ) (m n : Sight) (run : List ℕ) (u : ℕ) (r : Reason) →
    LineRow most m n run u r → (length run ≤ most) ⊎ (length run ≡ most + 1)
line_length most m n run u TooLarge w = elim w.1 [ inl s ↦ inl s.0 | inr l ↦ inr l ]
line_length most m n run u _ w = inl w.0

line_row : (limit most : ℕ) (m n : Sight) (run b : List ℕ) (u : ℕ) (r : Reason) →
    LineRow most m n run u r → (length run ≤ most → Begun limit b) → (length run ≡ most + 1 →
    HasFault limit fault.TooLarge b) → RowBehind limit m n run b u r
line_row limit most m n run b u TooLarge w short long =
    (w.0, elim w.1 [ inl s ↦ inr (short s.0, s.1) | inr l ↦ inl (long l) ])
line_row limit most m n run b u r w short long = row_behind limit m n run b u r (short w.0) w.1

-- no line behind bytes behind which there may be one
line_stops : BegunLaws → (limit most : ℕ) (old new : Intake) (r : Reason) →
    ((c : List ℕ) → length c ≤ most → Endless c → Begun limit (old.bytes ++ c)) →
    ((c : List ℕ) → length c ≡ most + 1 → Endless c →
    HasFault limit fault.TooLarge (old.bytes ++ c)) →
    LacksLine most old new r → Stops limit old new r
line_stops laws limit most old new r begun fault s =
    let all : List ℕ = old.bytes ++ s.bytes in
    record {
      bytes = s.bytes;
      held = s.held;
      count_is = s.count_is;
      fronts = rw s.held (elim (line_length most old.source new.source s.bytes new.taken r s.row) [
        | inl short ↦ begun_fronts laws limit all (begun s.bytes short s.endless)
        | inr long ↦
            let l = last_of s.bytes most long in
            let clean : Endless (l.0 ++ l.1 ∷ []) = rw l.2 at s.endless in
            let len = l.3 in
            let same : all ≡ (old.bytes ++ l.0) ++ l.1 ∷ [] =
            ap (λ (c : List ℕ). old.bytes ++ c) l.2
            ∙ sym (append_assoc old.bytes l.0 (l.1 ∷ [])) in
            subst (λ (b : List ℕ). FrontsBegin limit b) (sym same)
            (fronts_more laws limit (old.bytes ++ l.0) l.1
            (begun l.0 (omega arith) (Endless-front l.0 (l.1 ∷ []) clean)))
      ]);
      row = rw s.held (line_row limit most old.source new.source s.bytes all new.taken r s.row
          (λ short. begun s.bytes short s.endless)
          (λ long. fault s.bytes long s.endless));
    }

-- a row of what was taken in two steps
row_more : (limit : ℕ) (o m n : Sight) (c d b : List ℕ) (u : ℕ) (r : Reason) →
    Takes o m c → RowBehind limit m n d b u r → RowBehind limit o n (c ++ d) b u r
row_more limit o m n c d b u Source k h =
    let w = h.0 in (
      record {
        between = w.between;
        bytes = Consumes-more o.left m.left w.between c d k.bytes w.bytes;
        count = w.count ∙ ap (λ (f : ℕ). (f + 1) % (2 ^ 64)) k.count;
      },
      h.1,
    )
row_more limit o m n c d b u Truncated k h = (Takes-more k h.0, h.1, h.2, h.3)
row_more limit o m n c d b u _ k h = (Takes-more k h.0, h.1)

pub stops_more : (limit : ℕ) (c : List ℕ) (old mid new : Intake) (r : Reason) →
    Took c old mid → Stops limit mid new r → Stops limit old new r
stops_more limit c old mid new r k s = record {
  bytes = c ++ s.bytes;
  held = s.held ∙ (ap (λ (b : List ℕ). b ++ s.bytes) k.held ∙ append_assoc old.bytes c s.bytes);
  count_is = omega (arith, s.count_is, k.count, length-append c s.bytes);
  fronts = s.fronts;
  row = row_more limit old.source mid.source new.source c s.bytes new.bytes new.taken r k.source
      s.row;
}

pub one_stops : BegunLaws → (limit most : ℕ) (o : Op) (old new : Intake) (r : Reason) →
    old.bytes ≡ code_of o ∷ [] → layout_at o ≡ layout.Line most → LacksLine most old new r →
    Stops limit old new r
one_stops laws limit most o old new r e lay s =
    line_stops laws limit most old new r
    (λ c short clean. rw e (line_begun limit most o c lay short clean))
    (λ c long clean. rw e (o, c, refl, rw lay (is_long most c long clean)))
    s

pub one_lies : (limit most : ℕ) (o : Op) (old new : Intake) → old.bytes ≡ code_of o ∷ [] →
    layout_at o ≡ layout.Line most → (s : TookLine most old new) →
    Lies limit o (Line s.text) 0 new.bytes
one_lies limit most o old new e lay s = record {
  laid = record { suits = rw lay s.line; within = tt };
  spelled = s.took.held ∙ ap (λ (b : List ℕ). b ++ (s.text ++ 10 ∷ [])) e;
  split_is = refl;
}

pub first_stops : BegunLaws → (limit most : ℕ) (o : Op) (old new : Intake) (r : Reason) →
    old.bytes ≡ code_of o ∷ [] → layout_at o ≡ layout.Pair most → LacksLine most old new r →
    Stops limit old new r
first_stops laws limit most o old new r e lay s =
    line_stops laws limit most old new r
    (λ c short clean. rw e (pair_begun limit most o c lay short clean))
    (λ c long clean. rw e (o, c, refl, rw lay (inl (is_long most c long clean))))
    s

module _ (limit most : ℕ) (o : Op) (old mid new : Intake) (e : old.bytes ≡ code_of o ∷ [])
    (lay : layout_at o ≡ layout.Pair most) (first : TookLine most old mid) where
  mid_is : mid.bytes ≡ code_of o ∷ (first.text ++ 10 ∷ [])
  mid_is = first.took.held ∙ ap (λ (b : List ℕ). b ++ (first.text ++ 10 ∷ [])) e

  pub second_stops : BegunLaws → (r : Reason) → LacksLine most mid new r → Stops limit old new r
  second_stops laws r s =
      let fault : (c : List ℕ) → length c ≡ most + 1 → Endless c →
      HasFault limit fault.TooLarge (code_of o ∷ ((first.text ++ 10 ∷ []) ++ c)) =
      λ c long clean. (
        o,
        (first.text ++ 10 ∷ []) ++ c,
        refl,
        rw lay (inr (first.text, c, first.line, refl, is_long most c long clean)),
      ) in
      stops_more limit (first.text ++ 10 ∷ []) old mid new r first.took
      (line_stops laws limit most mid new r
      (λ c short clean. rw mid_is (second_begun limit most o first.text c lay first.line short
      clean))
      (λ c long clean. rw mid_is (fault c long clean))
      s)

  pub both_grow : (x : ℕ) (b : List ℕ) → b ≡ mid.bytes → x ≡ length b - 2 →
      TookLine most mid new → Grows limit o x old new
  both_grow x b same split s =
      let len : length mid.bytes ≡ length first.text + 2 =
      omega (arith, ap length mid_is, length-append first.text (10 ∷ [])) in
      record {
        bytes = (first.text ++ 10 ∷ []) ++ (s.text ++ 10 ∷ []);
        took = took_both (first.text ++ 10 ∷ []) (s.text ++ 10 ∷ []) old mid new first.took s.took;
        arg = Pair first.text s.text;
        lies = record {
          laid = record { suits = rw lay (first.line, s.line); within = tt };
          spelled = s.took.held ∙ ap (λ (b : List ℕ). b ++ (s.text ++ 10 ∷ [])) mid_is;
          split_is = omega (arith, split, ap length same, len);
        };
      }
