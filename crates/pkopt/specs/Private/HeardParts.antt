-- Listening to one part of a pickle after another is the same as listening to the whole.
use Rattle.std.proofs.Common.{◌≡◌, ℕ, true, false, cond, List, [], ◌∷◌, ◌++◌, Option, refl, sym, ap}
use Rattle.std.proofs.Common.{subst, ◌∙◌, append_assoc, append-nil}
use Rattle.pkops.specs.Operands.{memo_number}
use Rattle.pkops.specs.Spelling.{Instruction}
use Rattle.pkmachine.specs.Effects.{effect_of}
use Rattle.pkcheck.specs.Heard.{Heard}
use Rattle.pkopt.specs.declared.place.Place.{Place}
use Rattle.pkopt.specs.declared.trace.Trace.{Trace}
use Rattle.pkopt.specs.Private.Passes.{FollowsWrites, Hears}
use Rattle.pkopt.specs.Private.Places.{stays_as_is, place_of, places_behind, places_told, told}
use Rattle.pkopt.specs.Private.Places.{with_place}
use Rattle.std.proofs.lemmas.List.{map-append}
use Rattle.pkopt.specs.Writers.{Writes, after, read_by, sources, after_all}

pub after_all-append : (is js : List Instruction) (ws : Writes)
    → after_all (is ++ js) ws ≡ after_all js (after_all is ws)
after_all-append [] js ws = refl
after_all-append (i ∷ is) js ws = after_all-append is js (after i ws)

pub sources-append : (ws : Writes) (is js : List Instruction)
    → sources ws (is ++ js) ≡ sources ws is ++ sources (after_all is ws) js
sources-append ws [] js = refl
sources-append ws (i ∷ is) js =
    let read = read_by (effect_of i.op) (memo_number i) ws in
    ap (λ (l : List (Option ℕ)). read ++ l) (sources-append (after i ws) is js)
    ∙ sym (append_assoc read (sources (after i ws) is) (sources (after_all is (after i ws)) js))

pub with_place-append : (x : Place) (xs ys : List Place)
    → with_place x (xs ++ ys) ≡ with_place x xs ++ ys
with_place-append x xs ys =
    elim (stays_as_is x.op) as (λ b. cond b (xs ++ ys) (x ∷ (xs ++ ys)) ≡ cond b xs (x ∷ xs) ++ ys)
    [ true ↦ refl | false ↦ refl ]

places_told-append : (hs ks : List Heard)
    → places_told (hs ++ ks) ≡ places_told hs ++ places_told ks
places_told-append [] ks = refl
places_told-append (h ∷ hs) ks =
    let here = place_of h.at h.instruction in
    ap (with_place here) (places_told-append hs ks)
    ∙ with_place-append here (places_told hs) (places_told ks)

pub hears_none : (x : Trace) → Hears x x []
hears_none x = λ ws h e. record {
  follows = h;
  ends = e;
  sources_now = sym (append-nil x.sources.items);
  places_now = sym (append-nil (places_behind 0 x.parts.items));
}

pub hears_more : (x y z : Trace) (hs : List Heard) (h : Heard) → Hears x y hs
    → Hears y z (h ∷ []) → Hears x z (hs ++ h ∷ [])
hears_more x y z hs h f g = λ ws s e.
    let a = f ws s e in
    let behind = after_all (told hs) ws in
    let b = g behind a.follows a.ends in
    let one = h ∷ [] in
    let all : told (hs ++ one) ≡ told hs ++ told one = map-append (λ h. h.instruction) hs one in
    let read = sources behind (told one) in
    record {
      follows =
          subst (λ (x : Writes). FollowsWrites x z)
          (sym (ap (λ (l : List Instruction). after_all l ws) all
          ∙ after_all-append (told hs) (told one) ws)) b.follows;
      sources_now =
          b.sources_now
          ∙ ap (λ (l : List (Option ℕ)). l ++ read) a.sources_now
          ∙ append_assoc x.sources.items (sources ws (told hs)) read
          ∙ ap (λ (l : List (Option ℕ)). x.sources.items ++ l)
          (sym (ap (sources ws) all ∙ sources-append ws (told hs) (told one)));
      ends = b.ends;
      places_now =
          b.places_now
          ∙ ap (λ (l : List Place). l ++ places_told one) a.places_now
          ∙ append_assoc (places_behind 0 x.parts.items) (places_told hs) (places_told one)
          ∙ ap (λ (l : List Place). places_behind 0 x.parts.items ++ l)
          (sym (places_told-append hs one));
    }
