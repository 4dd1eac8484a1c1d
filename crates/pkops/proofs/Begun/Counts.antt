-- How long what is begun can be, by its count.
use Rattle.std.proofs.Common.{◌≡◌, ℕ, ◌+◌, ◌<◌, ◌≤◌, ◌⊎◌, Bool, List, [], ◌∷◌, ◌++◌, length, drop}
use Rattle.std.proofs.Common.{refl, sym, ap, ◌∙◌, inl, inr, arith, length-append}
use Rattle.std.proofs.lemmas.Bool.{cases_lt}
use Rattle.std.proofs.lemmas.List.{take-append-le}
use Rattle.byteorder.specs.Endian.{little_bytes, little_number}
use Rattle.byteorder.specs.Numbers.{little_from-take, little_number-reads_back}
use Rattle.byteorder.specs.Numbers.{length-bytes_low_first}
use Rattle.pkops.specs.declared.layout.Layout.{Layout}
use Rattle.pkops.specs.declared.layout.Layout.TheVariants as layout
use Rattle.pkops.specs.declared.layout.Width.{Width}
use Rattle.pkops.specs.declared.layout.Width.TheVariants as width
use Rattle.pkops.specs.Payloads.{HasCount}
use Rattle.pkops.specs.Scans.{Begun, IsWithin, count_len}
use Rattle.pkops.specs.Spelling.{Argument, Counted, Suits, count_limit, laid, layout_at, size_of}
use Rattle.pkops.specs.Table.{Op, code_of}
use Rattle.pkops.proofs.ExactReaders.Payloads.{cut, limit_fits}
use Rattle.pkops.proofs.Begun.Sizes.{begun_is_short}

-- a payload behind a count, or none
record CountedBy (lay : Layout) (arg : Argument) (count : ℕ) : Type 0 where
  size : Width
  signed : Bool
  payload : List ℕ
  is_lay : lay ≡ layout.Counted size signed
  is_arg : arg ≡ Counted payload
  fits : length payload < count_limit size signed
  count_is : count ≡ length payload

-- an argument is within its own count
own_count : (lay : Layout) (arg : Argument) → Suits lay arg
    → (count : ℕ) × IsWithin count arg × ((count ≡ 0) ⊎ CountedBy lay arg count)
own_count (layout.Counted size signed) (Counted payload) s = (
  length payload,
  omega arith,
  inr
      (record {
        size = size;
        signed = signed;
        payload = payload;
        is_lay = refl;
        is_arg = refl;
        fits = s;
        count_is = refl;
      }),
)
own_count _ (Counted payload) s = absurd s
own_count lay _ s = (0, tt, inl refl)

-- the number that a whole count holds, whatever stands behind it
count_behind : (size : Width) (signed : Bool) (payload bytes more : List ℕ)
    → length payload < count_limit size signed → little_bytes (size_of size) (length payload)
    ++ payload ≡ bytes ++ more → size_of size ≤ length bytes
    → little_number (size_of size) bytes ≡ length payload
count_behind size signed payload bytes more fits parts le =
    let field = little_bytes (size_of size) (length payload) in
    let len : length field ≡ size_of size = length-bytes_low_first 0 (size_of size)
    (length payload) in
    let c = cut field payload bytes more parts (omega arith) in
    ap (little_number (size_of size)) c.1 ∙ little_number-reads_back (size_of size)
    (length payload) c.0 (omega (arith, limit_fits size signed))

-- a count reads the same with more bytes behind it
count_longer : (n : ℕ) (bytes more : List ℕ) → n ≤ length bytes
    → little_number n (bytes ++ more) ≡ little_number n bytes
count_longer n bytes more le =
    sym (little_from-take 0 n n (bytes ++ more) (omega arith))
    ∙ (ap (little_number n) (take-append-le n bytes more le)
    ∙ little_from-take 0 n n bytes (omega arith))

has_count : (op : Op) (bytes rest after : List ℕ) (arg : Argument) (count : ℕ)
    → code_of op ∷ laid (layout_at op) arg ≡ bytes ++ rest
    → count_len (layout_at op) ≤ length (drop 1 bytes) → CountedBy (layout_at op) arg count
    → HasCount op (bytes ++ after) count
has_count op [] rest after arg count parts le c =
    absurd (let w : size_of c.size ≤ 0 = rw c.is_lay at le in no_width c.size w)
  where
    no_width : (size : Width) → size_of size ≤ 0 → ⊥
    no_width width.One h = omega arith
    no_width width.Four h = omega arith
    no_width width.Eight h = omega arith
has_count op (x ∷ behind) rest after arg count parts le c =
    let w : size_of c.size ≤ length behind = rw c.is_lay at le in
    let first : x ≡ code_of op = cc in
    let tail : laid (layout_at op) arg ≡ behind ++ rest = cc in
    let tail' : little_bytes (size_of c.size) (length c.payload) ++ c.payload ≡ behind ++ rest =
    rw (c.is_lay, c.is_arg) at tail in
    record {
      size = c.size;
      signed = c.signed;
      behind = behind ++ after;
      lay = c.is_lay;
      begins = ap (λ (y : ℕ). y ∷ (behind ++ after)) first;
      whole = omega (arith, length-append behind after);
      count_is = c.count_is
          ∙ sym (count_longer (size_of c.size) behind after w
          ∙ count_behind c.size c.signed c.payload behind rest c.fits tail' w);
    }

-- what is begun has few bytes, or fewer than its count says
pub begun_is_counted : (limit : ℕ) (bytes after : List ℕ) → Begun limit bytes
    → (length bytes < 131_075)
    ⊎ ((op : Op) × (count : ℕ) × HasCount op (bytes ++ after) count × (length bytes < count + 9))
begun_is_counted limit bytes after (i, more, h) =
    elim (cases_lt (length (drop 1 bytes)) (count_len (layout_at i.op))) [
      | inl lt ↦
          let begun : Begun 0 bytes = (
            i,
            more,
            record {
              may = record { suits = h.may.suits; within = λ le. absurd (omega arith) };
              parts = h.parts;
              lacks = h.lacks;
            },
          ) in
          inl (omega (arith, begun_is_short 0 bytes begun))
      | inr le ↦
          let own = own_count (layout_at i.op) i.arg h.may.suits in
          let begun : Begun own.0 bytes = (
            i,
            more,
            record {
              may = record { suits = h.may.suits; within = λ le. own.1 };
              parts = h.parts;
              lacks = h.lacks;
            },
          ) in
          let short = begun_is_short own.0 bytes begun in
          elim own.2 [
            | inl none ↦ inl (omega (arith, none, short))
            | inr c ↦ elim (cases_lt (length bytes) 131_075) [
              | inl few ↦ inl few
              | inr many ↦ inr (
                i.op,
                own.0,
                has_count i.op bytes more after i.arg own.0 h.parts le c,
                omega (arith, short),
              )
            ]
          ]
    ]
