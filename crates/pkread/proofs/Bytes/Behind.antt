-- The bytes behind a code.
use Rattle.std.proofs.Common.{◌≡◌, ℕ, ◌+◌, ◌-◌, ◌<◌, ◌≤◌, Bool, List, [], ◌∷◌, ◌++◌, length, take}
use Rattle.std.proofs.Common.{drop, refl, ap, ◌∙◌, inl, inr, arith, add-one, length-append}
use Rattle.std.proofs.lemmas.List.{length-take, take-append-drop, take-append-le, take_at}
use Rattle.std.proofs.lemmas.Bool.{cases_lt}
use Rattle.pkops.specs.Growth.{BegunLaws, CountLaws, FieldLaws}
use Rattle.pkops.specs.KnownLayout.{IsCountField, IsFixed, Lies, count_in, field_len}
use Rattle.pkops.specs.Scans.{Begun}
use Rattle.pkops.specs.Spelling.{Counted, count_limit, layout_at, size_of}
use Rattle.pkops.specs.Table.{code_of}
use Rattle.pkops.specs.declared.Layout.TheVariants as layout
use Rattle.pkops.specs.declared.Width.{Width}
use Rattle.pkops.specs.declared.Width.TheVariants as width
use Rattle.pkops.specs.declared.Op.{Op}
use Rattle.pkops.specs.declared.Reason.TheVariants.{Source, Truncated, BadArgument}
use Rattle.pkops.specs.declared.Reason.TheVariants.{TooLarge, OutOfMemory}
use Rattle.pkread.proofs.Bytes.Taken.{AreBytes-both, AreBytes-take, lacks_after, took_both}
use Rattle.pkread.proofs.Bytes.Taken.{took_none}
use Rattle.pkread.specs.Private.Arms.{Counts, Grows, RowBehind, Stops}
use Rattle.pkread.specs.Private.Progress.{Intake}
use Rattle.pkread.specs.Rows.{Reason, FrontsBegin, Sight}
use Rattle.pkread.specs.Private.Reads.{LackRow, LacksSome, Took, TookAll}
use Rattle.pkread.specs.Pull.{AreAllBytes}
use Rattle.pkread.specs.declared.arms.Count.{Count}

-- the fronts of what begins an instruction
pub begun_fronts : BegunLaws → (limit : ℕ) (b : List ℕ) → Begun limit b → FrontsBegin limit b
begun_fronts laws limit b h k l =
    laws.fronts limit (take k b) (drop k b) (rw (take-append-drop k b) h)

-- the fronts of what has a byte more
pub fronts_more : BegunLaws → (limit : ℕ) (b : List ℕ) (x : ℕ) → Begun limit b → (k : ℕ) →
    k < length (b ++ x ∷ []) → Begun limit (take k (b ++ x ∷ []))
fronts_more laws limit b x h k l =
    elim (cases_lt k (length b)) [
      | inl lt ↦ rw (take-append-le k b (x ∷ []) (omega arith)) (begun_fronts laws limit b h k lt)
      | inr ge ↦ let same : k ≡ length b =
          omega (arith, length-append b (x ∷ []), l) in
          rw (same, take_at b (x ∷ []) (length b) refl) h
    ]

pub row_behind : (limit : ℕ) (m n : Sight) (run b : List ℕ) (u : ℕ) (r : Reason) → Begun limit b →
    LackRow m n run u r → RowBehind limit m n run b u r
row_behind limit m n run b u Source h w = (w, h)
row_behind limit m n run b u Truncated h w = (w.0, w.1, w.2, h)
row_behind limit m n run b u TooLarge h w = (w.0, inr (h, w.1))
row_behind limit m n run b u OutOfMemory h w = (w, h)
row_behind limit m n run b u _ h w = absurd w

-- fewer bytes came than are needed
pub stops_lacking : BegunLaws → (limit count : ℕ) (old new : Intake) (r : Reason) →
    (s : LacksSome count old new r) → Begun limit (old.bytes ++ s.bytes) → Stops limit old new r
stops_lacking laws limit count old new r s h =
    let h' : Begun limit new.bytes = rw s.held h in
    record {
      bytes = s.bytes;
      held = s.held;
      count_is = s.count_is;
      fronts = begun_fronts laws limit new.bytes h';
      row = row_behind limit old.source new.source s.bytes new.bytes new.taken r h' s.row;
    }

-- an argument of a fixed length
pub field_stops : BegunLaws → FieldLaws → (limit count : ℕ) (o : Op) (old new : Intake)
    (r : Reason) → old.bytes ≡ code_of o ∷ [] → count ≡ field_len (layout_at o) →
    LacksSome count old new r → Stops limit old new r
field_stops laws field limit count o old new r e w s =
    let l = s.lacks in
    stops_lacking laws limit count old new r s (rw e (field.begun limit o s.bytes s.fit (omega
    arith)))

pub field_grows : FieldLaws → (limit count : ℕ) (o : Op) (old new : Intake) →
    old.bytes ≡ code_of o ∷ [] → IsFixed (layout_at o) → count ≡ field_len (layout_at o) →
    TookAll count old new → Grows limit o 0 old new
field_grows field limit count o old new e f w s =
    let l = s.all in
    let g = field.whole limit o s.bytes s.took.fit f (omega arith) in
    let is : new.bytes ≡ code_of o ∷ s.bytes =
    s.took.held ∙ ap (λ (b : List ℕ). b ++ s.bytes) e in
    record { bytes = s.bytes; took = s.took; arg = g.0; lies = rw is g.1 }

-- no argument
pub nothing_grows : FieldLaws → (limit : ℕ) (o : Op) (old : Intake) →
    old.bytes ≡ code_of o ∷ [] → layout_at o ≡ layout.Nothing → Grows limit o 0 old old
nothing_grows field limit o old e lay =
    let f : IsFixed (layout_at o) = rw lay tt in
    let w : 0 ≡ field_len (layout_at o) = rw lay refl in
    field_grows field limit 0 o old old e f w
    (record { bytes = []; took = took_none old; all = refl })

count_front : BegunLaws → FieldLaws →
    (limit : ℕ) (o : Op) (size : Width) (signed : Bool) (field : List ℕ) →
    layout_at o ≡ layout.Counted size signed → AreAllBytes field → length field ≡ size_of size →
    (k : ℕ) → k < length (code_of o ∷ field) → Begun limit (take k (code_of o ∷ field))
count_front laws fields limit o size signed field lay fits len k l =
    elim (cases_lt 0 k) [
      | inr none ↦ let e : k ≡ 0 =
          omega arith in rw e (laws.fronts limit [] (code_of o ∷ []) (fields.begun limit o [] (λ i.
          omega arith) (rw lay (small size))))
      | inl some ↦
          let j = k - 1 in
          let e : k ≡ j + 1 = omega arith in
          rw (e, add-one) (fields.begun limit o (take j field) (AreBytes-take j field fits) (rw lay
          (omega (arith, length-take j field))))
    ]
  where
    small : (size : Width) → 0 < size_of size
    small width.One = omega arith
    small _ = omega arith

-- what is held once the count is whole
module _ (c : Count) (o : Op) (old new : Intake) (e : old.bytes ≡ code_of o ∷ [])
    (lay : layout_at o ≡ layout.Counted c.width c.signed) (s : TookAll (size_of c.width) old new)
  where
    pub count_held : new.bytes ≡ code_of o ∷ s.bytes
    count_held = s.took.held ∙ ap (λ (b : List ℕ). b ++ s.bytes) e

    pub count_is : (b : List ℕ) (x : ℕ) → b ≡ new.bytes → x ≡ count_in c.width (drop 1 b) →
        x ≡ count_in c.width s.bytes
    count_is b x f g = g ∙ ap (λ (d : List ℕ). count_in c.width (drop 1 d)) (f ∙ count_held)

    count_field : IsCountField o c.width c.signed s.bytes
    count_field = record { lay = lay; len = s.all }

    stops_fault : BegunLaws → FieldLaws → (r : Reason) →
        RowBehind c.limit old.source new.source s.bytes new.bytes new.taken r →
        Stops c.limit old new r
    stops_fault laws fields r row = record {
      bytes = s.bytes;
      held = s.took.held;
      count_is = s.took.count;
      fronts = rw count_held
          (count_front laws fields c.limit o c.width c.signed s.bytes lay s.took.fit s.all);
      row = row;
    }

    pub stops_negative : BegunLaws → FieldLaws → CountLaws → (x : ℕ) →
        x ≡ count_in c.width s.bytes → count_limit c.width c.signed ≤ x →
        Stops c.limit old new BadArgument
    stops_negative laws fields counts x is over =
        let w = counts.negative c.limit o c.width c.signed s.bytes count_field s.took.fit
        (rw is at over) in
        stops_fault laws fields BadArgument (s.took.source, rw count_held w)

    pub stops_large : BegunLaws → FieldLaws → CountLaws → (x : ℕ) →
        x ≡ count_in c.width s.bytes → x < count_limit c.width c.signed → c.limit < x →
        Stops c.limit old new TooLarge
    stops_large laws fields counts x is under over =
        let w = counts.large c.limit o c.width c.signed s.bytes count_field s.took.fit
        (rw is at under) (rw is at over) in
        stops_fault laws fields TooLarge (s.took.source, inl (rw count_held w))

-- the payload behind a count
module _ (c : Count) (x : ℕ) (o : Op) (old mid new : Intake) (e : old.bytes ≡ code_of o ∷ [])
    (lay : layout_at o ≡ layout.Counted c.width c.signed) (k : Counts c x old mid) where
  payload_held : (more : List ℕ) → mid.bytes ++ more ≡ code_of o ∷ (k.field ++ more)
  payload_held more =
      ap (λ (b : List ℕ). b ++ more) (k.took.held ∙ ap (λ (b : List ℕ). b ++ k.field) e)

  pub payload_stops : BegunLaws → CountLaws → (r : Reason) → LacksSome x mid new r →
      Stops c.limit old new r
  payload_stops laws counts r s =
      let both : AreAllBytes (k.field ++ s.bytes) =
      AreBytes-both k.field s.bytes k.took.fit s.fit in
      let under = k.under in
      let within = k.within in
      let is = k.count in
      let lacks = s.lacks in
      let all = lacks_after (length k.field + x) x k.field old mid new r k.took refl s in
      let h : Begun c.limit new.bytes = rw (s.held, payload_held s.bytes)
      (counts.begun c.limit o c.width c.signed k.field s.bytes
      (record { lay = lay; len = k.len }) both (omega arith) (omega arith) (omega arith)) in
      record {
        bytes = all.bytes;
        held = all.held;
        count_is = all.count_is;
        fronts = begun_fronts laws c.limit new.bytes h;
        row = row_behind c.limit old.source new.source all.bytes new.bytes new.taken r h all.row;
      }

  pub payload_lie : CountLaws → (s : TookAll x mid new) →
      Lies c.limit o (Counted s.bytes) 0 new.bytes
  payload_lie counts s =
      let both : AreAllBytes (k.field ++ s.bytes) =
      AreBytes-both k.field s.bytes k.took.fit s.took.fit in
      let under = k.under in
      let within = k.within in
      let is = k.count in
      let all = s.all in
      let lies = counts.whole c.limit o c.width c.signed k.field s.bytes
      (record { lay = lay; len = k.len }) both (omega arith) (omega arith) (omega arith) in
      rw (s.took.held, payload_held s.bytes) lies

  pub payload_took : (s : TookAll x mid new) → Took (k.field ++ s.bytes) old new
  payload_took s = took_both k.field s.bytes old mid new k.took s.took

  pub payload_grows : CountLaws → TookAll x mid new → Grows c.limit o 0 old new
  payload_grows counts s = record {
    bytes = k.field ++ s.bytes;
    took = payload_took s;
    arg = Counted s.bytes;
    lies = payload_lie counts s;
  }
