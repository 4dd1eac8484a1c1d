-- The reader of an argument is exact, whatever its layout.
use Rattle.std.proofs.Common.{◌≡◌, ◌≢◌, ℕ, ◌^◌, ◌<◌, Bool, List, [], ◌++◌, length, Ok, refl, sym}
use Rattle.std.proofs.Common.{ap, subst, arith, w32, length-append}
use Rattle.std.specs.Int.{cast_signed, cast_unsigned}
use Rattle.std.proofs.lemmas.Int.{to_z-of_z, of_z-to_z}
use Rattle.std.proofs.Math.Facts.{Fits-of_z, Fits-of_lt, sfits_to_z}
use Rattle.byteorder.specs.Endian.{little_bytes}
use Rattle.pkops.specs.declared.layout.Layout.TheVariants as layout
use Rattle.pkops.specs.Spelling.{Argument, Nothing, Number, Signed, Float, Line, Pair, Counted}
use Rattle.pkops.specs.Spelling.{Width, Suits, laid, IsLine}
use Rattle.pkops.specs.Scans.{MayBegin, IsNegative, IsAbove}
use Rattle.pkops.specs.Private.FirstFaults.{arg_at}
use Rattle.pkops.proofs.ExactReaders.Exact.{ArgFault, IsArgument, Takes, Layout, Fault}
use Rattle.pkops.proofs.ExactReaders.Exact.{UnknownOpcode, BadArgument, TooLarge}
use Rattle.pkops.proofs.ExactReaders.Fields.{ok_is, NoFault, self, number_exact, bytes_exact}
use Rattle.pkops.proofs.ExactReaders.Fields.{some_left}
use Rattle.pkops.proofs.ExactReaders.Lines.{line_text, line_exact}
use Rattle.pkops.proofs.ExactReaders.LinePairs.{IsPair, pair_text, pair_exact}
use Rattle.pkops.proofs.ExactReaders.Payloads.{IsPayload, MayPayload, counted}
use Rattle.pkops.proofs.ExactReaders.Payloads.{payload_exact}
use Rattle.pkops.proofs.ExactReaders.WrappedReaders.{ArgExact, PlainlyWraps, Wraps, plainly}
use Rattle.pkops.proofs.ExactReaders.WrappedReaders.{wrapped_exact}

-- an argument of no fault
none : (limit : ℕ) (lay : Layout) → ((bytes : List ℕ) → IsNegative lay bytes → ⊥)
    → ((bytes : List ℕ) → IsAbove limit lay bytes → ⊥) → (fault : Fault) (bytes : List ℕ)
    → ArgFault limit lay fault bytes → NoFault fault bytes
none limit lay p q (UnknownOpcode code) bytes h = h
none limit lay p q BadArgument bytes h = p bytes h
none limit lay p q TooLarge bytes h = q bytes h

-- ---- what an argument of each layout holds

-- the argument is a number of n bytes, as the layouts of such numbers say
abbrev IsNumber : (n : ℕ) → Argument → Type 0
IsNumber n (Number width x) = (width ≡ n) × (x < 256 ^ n)
IsNumber n _ = ⊥

number_back : (n : ℕ) (a : Argument) → IsNumber n a → (x : ℕ) × (a ≡ Number n x) × (x < 256 ^ n)
number_back n (Number width x) h = (x, ap (λ (w : ℕ). Number w x) h.0, h.1)
number_back n _ h = absurd h

abbrev of_signed : ℕ → Argument
of_signed x = Signed (cast_signed w32 x)

i4_back : (a : Argument) → Suits layout.I4 a → (x : ℕ) × (a ≡ of_signed x) × (x < 256 ^ 4)
i4_back (Signed z) h =
    (cast_unsigned w32 z, ap Signed (sym (to_z-of_z w32 z h)), (Fits-of_z h).fits)
i4_back _ h = absurd h

f8_back : (a : Argument) → Suits layout.F8 a → (x : List ℕ) × (a ≡ Float x) × (length x ≡ 8)
f8_back (Float x) h = (x, refl, h)
f8_back _ h = absurd h

line_back : (most : ℕ) (a : Argument) → Suits (layout.Line most) a
    → (x : List ℕ) × (a ≡ Line x) × IsLine most x
line_back most (Line x) h = (x, refl, h)
line_back most _ h = absurd h

abbrev of_pair : List ℕ × List ℕ → Argument
of_pair x = Pair x.0 x.1

pair_back : (most : ℕ) (a : Argument) → Suits (layout.Pair most) a
    → (x : List ℕ × List ℕ) × (a ≡ of_pair x) × IsPair most x
pair_back most (Pair x y) h = ((x, y), refl, h)
pair_back most _ h = absurd h

-- ---- how each is read

-- a number of n bytes, where the layout is one of such a number
number_wraps : (limit n : ℕ) (lay : Layout) → ((a : Argument) → Suits lay a ≡ IsNumber n a)
    → ((bytes : List ℕ) → IsNegative lay bytes → ⊥)
    → ((bytes : List ℕ) → IsAbove limit lay bytes → ⊥)
    → PlainlyWraps limit lay (λ y. y < 256 ^ n) (little_bytes n) NoFault (Number n)
number_wraps limit n lay same p q =
    plainly (λ x h. rw same (refl, h)) (λ x. tt) (λ a h. number_back n a (rw same at h))
    (λ x h. refl) (λ fault bytes h. absurd h) (none limit lay p q)

i4_wraps : (limit : ℕ)
    → PlainlyWraps limit layout.I4 (λ y. y < 256 ^ 4) (little_bytes 4) NoFault of_signed
i4_wraps limit =
    plainly (λ x h. sfits_to_z (Fits-of_lt (omega arith))) (λ x. tt) i4_back
    (λ x h. ap (little_bytes 4) (of_z-to_z w32 x (omega arith))) (λ fault bytes h. absurd h)
    (none limit layout.I4 (λ _ h. h) (λ _ h. h))

f8_wraps : (limit : ℕ) → PlainlyWraps limit layout.F8 (λ y. length y ≡ 8) self NoFault Float
f8_wraps limit =
    plainly (λ x h. h) (λ x. tt) f8_back (λ x h. refl) (λ fault bytes h. absurd h)
    (none limit layout.F8 (λ _ h. h) (λ _ h. h))

line_wraps : (limit most : ℕ) → PlainlyWraps limit (layout.Line most) (IsLine most) line_text
    (ArgFault limit (layout.Line most)) Line
line_wraps limit most =
    plainly (λ x h. h) (λ x. tt) (line_back most) (λ x h. refl) (λ _ _ h. h) (λ _ _ h. h)

pair_wraps : (limit most : ℕ) → PlainlyWraps limit (layout.Pair most) (IsPair most) pair_text
    (ArgFault limit (layout.Pair most)) of_pair
pair_wraps limit most =
    plainly (λ x h. h) (λ x. tt) (pair_back most) (λ x h. refl) (λ _ _ h. h) (λ _ _ h. h)

module _ (limit : ℕ) (size : Width) (signed : Bool) where
  counted_back : (a : Argument) → IsArgument limit (layout.Counted size signed) a
      → (x : List ℕ) × (a ≡ Counted x) × IsPayload limit size signed x
  counted_back (Counted x) h = (x, refl, record { fits = h.suits; within = h.within })
  counted_back _ h = absurd h.suits

  counted_may : (a : Argument) (bytes : List ℕ)
      → MayBegin limit (layout.Counted size signed) a bytes
      → (x : List ℕ) × (a ≡ Counted x) × MayPayload limit size signed x bytes
  counted_may (Counted x) bytes h = (x, refl, record { fits = h.suits; within = h.within })
  counted_may _ bytes h = absurd h.suits

  counted_wraps : Wraps limit (layout.Counted size signed) (IsPayload limit size signed)
      (MayPayload limit size signed) (counted size)
      (ArgFault limit (layout.Counted size signed)) Counted
  counted_wraps = record {
    forth = λ x h. record { suits = h.fits; within = h.within };
    back = counted_back;
    may_forth = λ x bytes h. record { suits = h.fits; within = h.within };
    may_back = counted_may;
    text_is = λ x h. refl;
    text_may = λ x bytes h. refl;
    fault_forth = λ _ _ h. h;
    fault_back = λ _ _ h. h;
  }

-- an argument of no bytes
nothing_again : (limit : ℕ) (a : Argument) (rest : List ℕ) → Suits layout.Nothing a
    → arg_at limit layout.Nothing (laid layout.Nothing a ++ rest) ≡ Ok (a, rest)
unfolding arg_at
nothing_again limit Nothing rest h = refl
nothing_again limit _ rest h = absurd h

nothing_lacks : (a : Argument) (bytes more : List ℕ) → Suits layout.Nothing a
    → laid layout.Nothing a ≡ bytes ++ more → more ≢ [] → ⊥
nothing_lacks Nothing bytes more h e lacks = let some = some_left more lacks in
    omega (arith, ap length e, length-append bytes more)
nothing_lacks _ bytes more h e lacks = absurd h

nothing_exact : (limit : ℕ) → ArgExact limit layout.Nothing
unfolding arg_at
nothing_exact limit = record {
  takes = λ bytes x rest fits e. let same = ok_is (Nothing, bytes) (x, rest) e in
      subst (λ (p : Argument × List ℕ). Takes (IsArgument limit layout.Nothing)
      (laid layout.Nothing) bytes p.0 p.1) same
      (record { is = record { suits = tt; within = tt }; parts = refl; rest_fits = fits });
  again = λ x rest h. nothing_again limit x rest h.suits;
  short = λ bytes fits e. absurd cc;
  stays = λ bytes h. absurd (nothing_lacks h.value bytes h.more h.may.suits h.parts h.lacks);
  bad = λ bytes fault fits e. absurd cc;
  faulty = λ bytes fault h. absurd (none limit layout.Nothing (λ _ p. p) (λ _ p. p) fault bytes h);
}

pub arg_exact : (limit : ℕ) (lay : Layout) → ArgExact limit lay
unfolding arg_at
arg_exact limit layout.Nothing = nothing_exact limit
arg_exact limit layout.U1 = wrapped_exact (number_exact 1)
    (number_wraps limit 1 layout.U1 (λ a. refl) (λ _ h. h) (λ _ h. h))
arg_exact limit layout.U2 = wrapped_exact (number_exact 2)
    (number_wraps limit 2 layout.U2 (λ a. refl) (λ _ h. h) (λ _ h. h))
arg_exact limit layout.I4 = wrapped_exact (number_exact 4) (i4_wraps limit)
arg_exact limit layout.U4 = wrapped_exact (number_exact 4)
    (number_wraps limit 4 layout.U4 (λ a. refl) (λ _ h. h) (λ _ h. h))
arg_exact limit layout.U8 = wrapped_exact (number_exact 8)
    (number_wraps limit 8 layout.U8 (λ a. refl) (λ _ h. h) (λ _ h. h))
arg_exact limit layout.F8 = wrapped_exact (bytes_exact 8) (f8_wraps limit)
arg_exact limit (layout.Line most) = wrapped_exact (line_exact limit most) (line_wraps limit most)
arg_exact limit (layout.Pair most) = wrapped_exact (pair_exact limit most) (pair_wraps limit most)
arg_exact limit (layout.Counted size signed) =
    wrapped_exact (payload_exact limit size signed) (counted_wraps limit size signed)
