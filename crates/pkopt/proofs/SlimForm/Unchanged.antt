-- Instructions that stay as they are, up to the next that may not.
use Rattle.std.proofs.Common.{◌≡◌, ℕ, ◌+◌, ◌-◌, ◌≤◌, Bool, true, false, cond, ◌||◌, List, [], ◌∷◌}
use Rattle.std.proofs.Common.{◌++◌, length, take, drop, Option, refl, sym, ap, ◌∙◌, arith}
use Rattle.std.proofs.Common.{append_assoc, append-nil, length-append}
use Rattle.std.proofs.lemmas.List.{drop-drop}
use Rattle.std.specs.List.{list_any}
use Rattle.std.proofs.Math.Seq.{take-add, take-append_seam, drop-append_seam}
use Rattle.pkops.specs.Spelling.{Instruction, spelling}
use Rattle.pkread.specs.Sequence.{spellings}
use Rattle.pkopt.specs.declared.place.Place.{Place}
use Rattle.pkopt.specs.OneFrame.{has_frame}
use Rattle.pkopt.specs.Private.Produced.{between}
use Rattle.pkopt.specs.Private.Places.{stays_as_is, place_of, places_from}
use Rattle.pkopt.specs.Slim.{is_frame, slim_from}
use Rattle.pkopt.specs.Writers.{Writes, after, sources, after_all}
use Rattle.pkopt.proofs.SlimForm.PlainInstructions.{plain_is}

pub spellings-append : (xs ys : List Instruction)
    → spellings (xs ++ ys) ≡ spellings xs ++ spellings ys
spellings-append [] ys = refl
spellings-append (x ∷ xs) ys = ap (λ (l : List ℕ). spelling x ++ l) (spellings-append xs ys)
    ∙ sym (append_assoc (spelling x) (spellings xs) (spellings ys))

-- all of them are plain
abbrev pub AllPlain : List Instruction → Type 0
AllPlain [] = Unit {0}
AllPlain (i ∷ is) = (stays_as_is i.op ≡ true) × AllPlain is

pub after_plain : (q js : List Instruction) (ws : Writes) → AllPlain q
    → after_all (q ++ js) ws ≡ after_all js ws
after_plain [] js ws h = refl
after_plain (i ∷ is) js ws h = ap (λ (x : Writes). after_all (is ++ js) x)
    ((plain_is i h.0).no_write ws) ∙ after_plain is js ws h.1

pub sources_plain : (q js : List Instruction) (ws : Writes) → AllPlain q
    → sources ws (q ++ js) ≡ sources ws js
sources_plain [] js ws h = refl
sources_plain (i ∷ is) js ws h =
    ap (λ (l : List (Option ℕ)). l ++ sources (after i ws) (is ++ js)) ((plain_is i h.0).no_read ws)
    ∙ ap (λ (x : Writes). sources x (is ++ js)) ((plain_is i h.0).no_write ws)
    ∙ sources_plain is js ws h.1

pub slim_plain : (vs : List (Option ℕ)) (q : List Instruction) (ws : Writes) → AllPlain q
    → slim_from vs ws q ≡ q
slim_plain vs [] ws h = refl
slim_plain vs (i ∷ is) ws h =
    ap (λ (l : List Instruction). l ++ slim_from vs (after i ws) is) ((plain_is i h.0).stays vs ws)
    ∙ ap (λ (l : List Instruction). i ∷ l)
    (ap (λ (x : Writes). slim_from vs x is) ((plain_is i h.0).no_write ws)
    ∙ slim_plain vs is ws h.1)

framed_by : (b : Bool) (i : Instruction) (later : List Place) (is : List Instruction) (here : ℕ)
    → stays_as_is i.op ≡ b → list_any (λ (x : Place). is_frame x.op) later ≡ has_frame is
    → list_any (λ (x : Place). is_frame x.op) (cond b later (place_of here i ∷ later))
    ≡ is_frame i.op || has_frame is
framed_by true i later is here p e = e ∙ ap (λ b. b || has_frame is) (sym (plain_is i p).no_frame)
framed_by false i later is here p e = ap (λ b. is_frame i.op || b) e

-- a pickle has a FRAME where one of the places is of one
pub framed_places : (is : List Instruction) (here : ℕ)
    → list_any (λ (x : Place). is_frame x.op) (places_from here is) ≡ has_frame is
framed_places [] here = refl
framed_places (i ∷ is) here = framed_by (stays_as_is i.op) i
    (places_from (here + length (spelling i)) is) is here refl
    (framed_places is (here + length (spelling i)))

-- the next instruction that isn't plain stands at this place
pub record Next (here : ℕ) (place : Place) (later : List Place)
    (left : List Instruction) : Type 0 where
  pub plain : List Instruction
  pub first : Instruction
  pub others : List Instruction
  pub parts : left ≡ plain ++ first ∷ others
  pub all_plain : AllPlain plain
  pub stands : place ≡ place_of (here + length (spellings plain)) first
  pub ahead : later ≡ places_from (here + length (spellings plain) + length (spelling first)) others

head_of : (a b : Place) (later bs : List Place) → a ∷ later ≡ b ∷ bs → (a ≡ b) × (later ≡ bs)
head_of a b later bs e = (cc, cc)

next_by : (b : Bool) (i : Instruction) (is : List Instruction) (here : ℕ) (place : Place)
    (later : List Place) → stays_as_is i.op ≡ b
    → place ∷ later ≡ cond b (places_from (here + length (spelling i)) is)
    (place_of here i ∷ places_from (here + length (spelling i)) is)
    → (place ∷ later ≡ places_from (here + length (spelling i)) is
    → Next (here + length (spelling i)) place later is) → Next here place later (i ∷ is)
next_by true i is here place later p e on =
    let n = on e in
    let l = length-append (spelling i) (spellings n.plain) in
    let at : here + length (spelling i) + length (spellings n.plain) ≡ here
    + length (spelling i ++ spellings n.plain) = omega (arith, l) in
    record {
      plain = i ∷ n.plain;
      first = n.first;
      others = n.others;
      parts = ap (λ (l : List Instruction). i ∷ l) n.parts;
      all_plain = (p, n.all_plain);
      stands = n.stands ∙ ap (λ at. place_of at n.first) at;
      ahead = n.ahead ∙ ap (λ at. places_from (at + length (spelling n.first)) n.others) at;
    }
next_by false i is here place later p e on =
    let h = head_of place (place_of here i) later (places_from (here + length (spelling i)) is) e in
    let at : here ≡ here + 0 = omega arith in
    record {
      plain = [];
      first = i;
      others = is;
      parts = refl;
      all_plain = tt;
      stands = h.0 ∙ ap (λ at. place_of at i) at;
      ahead = h.1 ∙ ap (λ at. places_from (at + length (spelling i)) is) at;
    }

pub next_place : (left : List Instruction) (here : ℕ) (place : Place) (later : List Place)
    → place ∷ later ≡ places_from here left → Next here place later left
next_place [] here place later e = cc
next_place (i ∷ is) here place later e = next_by (stays_as_is i.op) i is here place later refl e
    (λ q. next_place is (here + length (spelling i)) place later q)

-- where there is none, all are plain
none_by : (b : Bool) (i : Instruction) (is : List Instruction) (here n : ℕ) → stays_as_is i.op ≡ b
    → [] ≡ cond b (places_from n is) (place_of here i ∷ places_from n is)
    → ([] ≡ places_from n is → AllPlain is) → AllPlain (i ∷ is)
none_by true i is here n p e on = (p, on e)
none_by false i is here n p e on = cc

pub none_ahead : (left : List Instruction) (here : ℕ) → [] ≡ places_from here left → AllPlain left
none_ahead [] here e = tt
none_ahead (i ∷ is) here e = none_by (stays_as_is i.op) i is here
    (here + length (spelling i)) refl e (λ q. none_ahead is (here + length (spelling i)) q)

-- the bytes behind the first of three parts, and those of the second
pub behind_first : (bytes a b : List ℕ) (from : ℕ) → from ≡ length a → bytes ≡ a ++ b
    → drop from bytes ≡ b
behind_first bytes a b from here e = ap (λ n. drop n bytes) here ∙ ap (drop (length a)) e
    ∙ drop-append_seam a b

pub second : (bytes a b c : List ℕ) (from n : ℕ) → from ≡ length a → n ≡ length b
    → bytes ≡ a ++ (b ++ c) → take n (drop from bytes) ≡ b
second bytes a b c from n here size e = ap (take n) (behind_first bytes a (b ++ c) from here e)
    ∙ ap (λ n. take n (b ++ c)) size ∙ take-append_seam b c

-- a pass with the bytes that it has produced
pub record Slim : Type 0 where
  pub writes : ℕ
  pub reads : ℕ
  pub from : ℕ
  pub bytes : List ℕ

-- the slim form up to this offset: the bytes produced, then the unchanged bytes not produced yet
abbrev pub form_up_to : ℕ → List ℕ → Slim → List ℕ
form_up_to here bytes out = out.bytes ++ between out.from here bytes

-- a run that goes on
run_on : (bytes : List ℕ) (from here n : ℕ) → from ≤ here
    → take (here + n - from) (drop from bytes) ≡ take (here - from) (drop from bytes)
    ++ take n (drop here bytes)
run_on bytes from here n le =
    let size : here + n - from ≡ (here - from) + n = omega (arith, le) in
    let place : from + (here - from) ≡ here = omega (arith, le) in
    ap (λ k. take k (drop from bytes)) size ∙ take-add (here - from) n (drop from bytes)
    ∙ ap (λ (l : List ℕ). take (here - from) (drop from bytes) ++ take n l)
    (drop-drop (here - from) from bytes ∙ ap (λ k. drop k bytes) place)

-- the form grows by what stays as it is
pub form_on : (bytes : List ℕ) (out : Slim) (here n : ℕ) → out.from ≤ here
    → form_up_to (here + n) bytes out ≡ form_up_to here bytes out ++ take n (drop here bytes)
form_on bytes out here n le =
    ap (λ (l : List ℕ). out.bytes ++ l) (run_on bytes out.from here n le)
    ∙ sym (append_assoc out.bytes (take (here - out.from) (drop out.from bytes))
    (take n (drop here bytes)))

-- all of it is written
pub form_written : (bytes : List ℕ) (out : Slim) (here : ℕ) → out.from ≡ here
    → form_up_to here bytes out ≡ out.bytes
form_written bytes out here e =
    let none : here - out.from ≡ 0 = omega (arith, e) in
    ap (λ k. out.bytes ++ take k (drop out.from bytes)) none ∙ append-nil out.bytes
