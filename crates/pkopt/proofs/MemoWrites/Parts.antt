-- The parts of a pickle, recorded one after another.
use Rattle.std.proofs.Common.{◌≡◌, ℕ, ◌+◌, ◌<◌, ◌≤◌, Bool, true, false, cond, ◌||◌, List, [], ◌∷◌}
use Rattle.std.proofs.Common.{◌++◌, length, drop, get_or, refl, sym, ap, subst, ◌∙◌, arith}
use Rattle.std.proofs.Common.{append-nil}
use Rattle.std.proofs.Math.Bool.{or-false}
use Rattle.std.proofs.lemmas.List.{drop_more}
use Rattle.std.proofs.lemmas.List.Folds.{list_any-append}
use Rattle.std.specs.List.{list_any}
use Rattle.pkops.specs.declared.Op.{Op}
use Rattle.pkops.specs.declared.Op.TheVariants as op
use Rattle.pkopt.specs.declared.place.Part.{Part}
use Rattle.pkopt.specs.declared.place.Place.{Place}
use Rattle.pkopt.specs.Private.Places.{end_behind, end_of, has_frames, place, place_behind}
use Rattle.pkopt.specs.Private.Places.{places_behind, stays_as_is, with_place}
use Rattle.pkopt.specs.Private.HeardParts.{with_place-append}
use Rattle.pkopt.specs.Slim.{is_frame}

pub end_behind-more : (from : ℕ) (parts : List Part) (part : Part)
    → end_behind from (parts ++ part ∷ []) ≡ end_of (end_behind from parts) part
end_behind-more from [] part = refl
end_behind-more from (x ∷ xs) part = end_behind-more (end_of from x) xs part

pub places_behind-more : (from : ℕ) (parts : List Part) (part : Part)
    → places_behind from (parts ++ part ∷ []) ≡ places_behind from parts
    ++ places_behind (end_behind from parts) (part ∷ [])
places_behind-more from [] part = refl
places_behind-more from (x ∷ xs) part =
    ap (with_place (place_behind from x)) (places_behind-more (end_of from x) xs part)
    ∙ with_place-append (place_behind from x) (places_behind (end_of from x) xs)
    (places_behind (end_behind (end_of from x) xs) (part ∷ []))

-- parts end behind where they begin
pub behind_least : (parts : List Part) (from : ℕ) → from ≤ end_behind from parts
behind_least [] from = omega arith
behind_least (x ∷ xs) from = let l = behind_least xs (end_of from x) in omega (arith, l)

plain_no_frame : (o : Op) → stays_as_is o ≡ true → is_frame o ≡ false
plain_no_frame op.Frame e = cc
plain_no_frame o e = refl

framed_part : (b : Bool) (part : Part) (from : ℕ) (later : List Place) (others : Bool)
    → stays_as_is part.op ≡ b → others ≡ list_any (λ (x : Place). is_frame x.op) later
    → is_frame part.op || others ≡ list_any (λ (x : Place). is_frame x.op)
    (cond b later (place_behind from part ∷ later))
framed_part true part from later others p e = ap (λ b. b || others) (plain_no_frame part.op p) ∙ e
framed_part false part from later others p e = ap (λ b. is_frame part.op || b) e

-- one of the parts has a FRAME where one of the places is of one
pub framed_parts : (parts : List Part) (from : ℕ)
    → list_any (λ (x : Part). is_frame x.op) parts ≡ list_any (λ (x : Place). is_frame x.op)
    (places_behind from parts)
framed_parts [] from = refl
framed_parts (x ∷ xs) from = framed_part (stays_as_is x.op) x from
    (places_behind (end_of from x) xs) (list_any (λ (x : Part). is_frame x.op) xs) refl
    (framed_parts xs (end_of from x))

-- one part more may have a FRAME
pub frames_more : (parts parts' : List Part) (part : Part) → parts' ≡ parts ++ part ∷ []
    → has_frames parts' ≡ has_frames parts || is_frame part.op
frames_more parts parts' part grown = ap has_frames grown
    ∙ list_any-append (λ (x : Part). is_frame x.op) parts (part ∷ [])
    ∙ ap (λ b. has_frames parts || b) (or-false (is_frame part.op))

-- where parts end that have one part more
end_more : (parts parts' : List Part) (part : Part) → parts' ≡ parts ++ part ∷ []
    → end_behind 0 parts' ≡ end_behind 0 parts + part.gap + part.size
end_more parts parts' part grown = ap (end_behind 0) grown ∙ end_behind-more 0 parts part

-- bytes that stay are recorded
pub stayed : (part : Part) (end end' : ℕ) (parts parts' : List Part) → part.gap ≡ 0
    → stays_as_is part.op ≡ true → parts' ≡ parts ++ part ∷ [] → end' ≡ end + part.size
    → end ≡ end_behind 0 parts → (end' ≡ end_behind 0 parts')
    × (places_behind 0 parts' ≡ places_behind 0 parts)
stayed part end end' parts parts' none plain grown moved h =
    let e = end_more parts parts' part grown in (
      omega (arith, e, none, moved, h),
      ap (places_behind 0) grown ∙ places_behind-more 0 parts part
          ∙ ap
          (λ b. places_behind 0 parts ++ cond b []
          (place_behind (end_behind 0 parts) part ∷ [])) plain
          ∙ append-nil (places_behind 0 parts),
    )

-- an instruction that may change is recorded
pub marked_at : (part : Part) (at end end' : ℕ) (parts parts' : List Part)
    → stays_as_is part.op ≡ false → parts' ≡ parts ++ part ∷ []
    → end + part.gap ≡ at → end' ≡ at + part.size
    → end ≡ end_behind 0 parts → (end' ≡ end_behind 0 parts')
    × (places_behind 0 parts' ≡ places_behind 0 parts ++ place at part.size part.op ∷ [])
marked_at part at end end' parts parts' changes grown here moved h =
    let e = end_more parts parts' part grown in
    let behind : end_behind 0 parts + part.gap ≡ at = omega (arith, here, h) in (
      omega (arith, e, here, moved, h),
      ap (places_behind 0) grown ∙ places_behind-more 0 parts part
          ∙ ap
          (λ b. places_behind 0 parts ++ cond b []
          (place_behind (end_behind 0 parts) part ∷ [])) changes
          ∙ ap (λ n. places_behind 0 parts ++ place n part.size part.op ∷ []) behind,
    )

-- the next part is the one at k, and its place is x
module _ (parts : List Part) (from k : ℕ) (d : Part) (x : Place) (size : ℕ)
    (lt : k < length parts) (e : x ≡ place_behind from (get_or parts k d))
    (same : size ≡ x.size) where
  abbrev rest : List Part
  rest = drop (k + 1) parts

  -- it ends below this number, and so do the parts behind it, where all of them do
  pub short_behind : (top : ℕ) → end_behind from (drop k parts) < top
      → (x.at + size < top) × (end_behind (x.at + size) rest < top)
  short_behind top h =
      let s : end_behind (end_of from (get_or parts k d)) rest < top =
      subst (λ (l : List Part). end_behind from l < top) (drop_more parts k d lt) h in
      let here : end_of from (get_or parts k d) ≡ x.at + size =
      sym (ap (λ n. x.at + n) same ∙ ap (λ (y : Place). y.at + y.size) e) in
      let more = subst (λ n. end_behind n rest < top) here s in
      let least = behind_least rest (x.at + size) in
      (omega (arith, more, least), more)

  -- it may have an instruction that may change
  pub places_next : places_behind from (drop k parts)
      ≡ with_place x (places_behind (x.at + size) rest)
  places_next =
      ap (places_behind from) (drop_more parts k d lt)
      ∙ ap (λ (y : Place). with_place y (places_behind (y.at + y.size) rest)) (sym e)
      ∙ ap (λ n. with_place x (places_behind (x.at + n) rest)) (sym same)

pub ends_short : (top : ℕ) (parts : List Part) (from k : ℕ) (d : Part) → k < length parts
    → end_behind from (drop k parts) < top → end_of from (get_or parts k d) < top
ends_short top parts from k d lt h = (short_behind parts from k d _ _ lt refl refl top h).0
