-- Exact readers of arguments, made of exact readers of what the arguments hold.
use Rattle.std.proofs.Common.{◌≡◌, ℕ, List, ◌++◌, Result, Ok, Err, sym, ap, subst, ◌∙◌, inl, inr}
use Rattle.pkops.specs.Spelling.{Argument, Suits, laid}
use Rattle.pkops.specs.Scans.{IsWithin, MayBegin}
use Rattle.pkops.specs.Private.FirstFaults.{◌>>=◌, arg_at}
use Rattle.pkops.proofs.ExactReaders.Exact.{ArgFault, IsArgument, IsBytes, IsExact, Lacks, Takes}
use Rattle.pkops.proofs.ExactReaders.Exact.{Layout, Fault, Unread, Short, Bad}
use Rattle.pkops.proofs.ExactReaders.Fields.{ok_is}
use Rattle.pkops.proofs.ExactReaders.LinePairs.{bind_ok, bind_err}

abbrev pub ArgExact : ℕ → Layout → Type 0
ArgExact limit lay = IsExact (arg_at limit lay) (IsArgument limit lay) (MayBegin limit lay)
    (laid lay) (ArgFault limit lay)

-- an exact reader of x gives one of arguments, where each argument of the layout is one g x
pub record Wraps {X : Type 0} (limit : ℕ) (lay : Layout) (Is : X → Type 0)
    (May : X → List ℕ → Type 0) (text : X → List ℕ) (Faulty : Fault → List ℕ → Type 0)
    (g : X → Argument) : Type 0 where
  pub forth : (x : X) → Is x → IsArgument limit lay (g x)
  pub back : (a : Argument) → IsArgument limit lay a → (x : X) × (a ≡ g x) × Is x
  pub may_forth : (x : X) (bytes : List ℕ) → May x bytes → MayBegin limit lay (g x) bytes
  pub may_back : (a : Argument) (bytes : List ℕ) → MayBegin limit lay a bytes
      → (x : X) × (a ≡ g x) × May x bytes
  pub text_is : (x : X) → Is x → laid lay (g x) ≡ text x
  pub text_may : (x : X) (bytes : List ℕ) → May x bytes → laid lay (g x) ≡ text x
  pub fault_forth : (fault : Fault) (bytes : List ℕ) → Faulty fault bytes
      → ArgFault limit lay fault bytes
  pub fault_back : (fault : Fault) (bytes : List ℕ) → ArgFault limit lay fault bytes
      → Faulty fault bytes

-- the same where no limit is on what was read
abbrev pub PlainlyWraps : {X : Type 0} (limit : ℕ) (lay : Layout) (Is : X → Type 0)
    → (text : X → List ℕ) (Faulty : Fault → List ℕ → Type 0) (g : X → Argument) → Type 0
PlainlyWraps limit lay Is text Faulty g = Wraps limit lay Is (λ x _. Is x) text Faulty g

pub plainly : {X : Type 0} {limit : ℕ} {lay : Layout} {Is : X → Type 0} {text : X → List ℕ}
    {Faulty : Fault → List ℕ → Type 0} {g : X → Argument} → ((x : X) → Is x → Suits lay (g x))
    → ((x : X) → IsWithin limit (g x))
    → ((a : Argument) → Suits lay a → (x : X) × (a ≡ g x) × Is x)
    → ((x : X) → Is x → laid lay (g x) ≡ text x)
    → ((fault : Fault) (bytes : List ℕ) → Faulty fault bytes → ArgFault limit lay fault bytes)
    → ((fault : Fault) (bytes : List ℕ) → ArgFault limit lay fault bytes → Faulty fault bytes)
    → PlainlyWraps limit lay Is text Faulty g
plainly suits within back text_is forth faults = record {
  forth = λ x h. record { suits = suits x h; within = within x };
  back = λ a h. back a h.suits;
  may_forth = λ x bytes h. record { suits = suits x h; within = λ _. within x };
  may_back = λ a bytes h. back a h.suits;
  text_is = text_is;
  text_may = λ x bytes h. text_is x h;
  fault_forth = forth;
  fault_back = faults;
}

module _ {X : Type 0} {read : List ℕ → Result (X × List ℕ) Unread} {Is : X → Type 0}
    {May : X → List ℕ → Type 0} {text : X → List ℕ} {Faulty : Fault → List ℕ → Type 0} {limit : ℕ}
    {lay : Layout} {g : X → Argument} (ex : IsExact read Is May text Faulty)
    (wr : Wraps limit lay Is May text Faulty g) where
  abbrev end : X × List ℕ → Result (Argument × List ℕ) Unread
  end x = Ok (g x.0, x.1)

  abbrev wrapped : List ℕ → Result (Argument × List ℕ) Unread
  wrapped bytes = read bytes >>= end

  wrapped_takes : (bytes : List ℕ) (a : Argument) (rest : List ℕ) → IsBytes bytes
      → wrapped bytes ≡ Ok (a, rest) → Takes (IsArgument limit lay) (laid lay) bytes a rest
  wrapped_takes bytes a rest fits e =
      let b = bind_ok (read bytes) end (a, rest) e in
      let t = ex.takes bytes b.0.0 b.0.1 fits b.1 in
      let made : Takes (IsArgument limit lay) (laid lay) bytes (g b.0.0) b.0.1 = record {
        is = wr.forth b.0.0 t.is;
        parts = t.parts ∙ ap (λ (s : List ℕ). s ++ b.0.1) (sym (wr.text_is b.0.0 t.is));
        rest_fits = t.rest_fits;
      } in
      subst (λ (p : Argument × List ℕ). Takes (IsArgument limit lay) (laid lay) bytes p.0 p.1)
      (ok_is (g b.0.0, b.0.1) (a, rest) b.2) made

  wrapped_again : (a : Argument) (rest : List ℕ) → IsArgument limit lay a
      → wrapped (laid lay a ++ rest) ≡ Ok (a, rest)
  wrapped_again a rest h =
      let b = wr.back a h in
      let text_is : laid lay a ++ rest ≡ text b.0 ++ rest =
      ap (λ (t : List ℕ). t ++ rest) (ap (laid lay) b.1 ∙ wr.text_is b.0 b.2) in
      ap wrapped text_is
      ∙ (ap (λ r. r >>= end) (ex.again b.0 rest b.2)
      ∙ ap (λ (y : Argument). Ok (y, rest)) (sym b.1))

  wrapped_short : (bytes : List ℕ) → IsBytes bytes → wrapped bytes ≡ Err Short
      → Lacks (MayBegin limit lay) (laid lay) bytes
  wrapped_short bytes fits e = elim (bind_err (read bytes) end Short e) [
    | inl f ↦
        let l = ex.short bytes fits f in
        record {
          value = g l.value;
          more = l.more;
          may = wr.may_forth l.value bytes l.may;
          parts = wr.text_may l.value bytes l.may ∙ l.parts;
          lacks = l.lacks;
        }
    | inr f ↦ absurd (let h = f.2 in cc)
  ]

  wrapped_stays : (bytes : List ℕ) → Lacks (MayBegin limit lay) (laid lay) bytes
      → wrapped bytes ≡ Err Short
  wrapped_stays bytes h =
      let b = wr.may_back h.value bytes h.may in
      ap (λ r. r >>= end) (ex.stays bytes
      (record {
        value = b.0;
        more = h.more;
        may = b.2;
        parts = sym (ap (laid lay) b.1 ∙ wr.text_may b.0 bytes b.2) ∙ h.parts;
        lacks = h.lacks;
      }))

  wrapped_bad : (bytes : List ℕ) (fault : Fault) → IsBytes bytes → wrapped bytes ≡ Err (Bad fault)
      → ArgFault limit lay fault bytes
  wrapped_bad bytes fault fits e = elim (bind_err (read bytes) end (Bad fault) e) [
    | inl f ↦ wr.fault_forth fault bytes (ex.bad bytes fault fits f)
    | inr f ↦ absurd (let h = f.2 in cc)
  ]

  pub wrapped_exact : IsExact wrapped (IsArgument limit lay) (MayBegin limit lay) (laid lay)
      (ArgFault limit lay)
  wrapped_exact = record {
    takes = wrapped_takes;
    again = wrapped_again;
    short = wrapped_short;
    stays = wrapped_stays;
    bad = wrapped_bad;
    faulty = λ bytes fault h. ap (λ r. r >>= end)
        (ex.faulty bytes fault (wr.fault_back fault bytes h));
  }
