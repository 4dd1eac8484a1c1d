-- What is known along a pickle, heard instruction by instruction.
use Rattle.std.proofs.Common.{◌≡◌, ℕ, ◌+◌, false, cond, List, [], ◌∷◌, ◌++◌, length, Option, Result}
use Rattle.std.proofs.Common.{Ok, Err, refl, sym, ap, ◌∙◌, append-nil, length-append}
use Rattle.std.specs.Prelude.{OnOk}
use Rattle.pkops.specs.Operands.{memo_number}
use Rattle.pkops.specs.Spelling.{Instruction, spelling}
use Rattle.pkread.specs.Sequence.{spellings}
use Rattle.pkmachine.specs.Effects.{effect_of}
use Rattle.pkcheck.specs.Heard.{Heard, heard, AreHeardBehind}
use Rattle.pkopt.specs.declared.place.Part.{Part}
use Rattle.pkopt.specs.declared.trace.Trace.{Trace}
use Rattle.pkopt.specs.Private.Passes.{IsNewTrace, EndsSo, Hears, Marks, NotesStep, Tracks}
use Rattle.pkopt.specs.Private.Places.{end_behind, has_frames, stays_as_is, place_of, places_behind}
use Rattle.pkopt.specs.Private.Places.{places_from, places_told, told, with_place}
use Rattle.pkopt.specs.Writers.{read_by, sources, after_all}
use Rattle.pkopt.proofs.MemoWrites.Followed.{holds_none}
use Rattle.pkopt.proofs.SlimForm.Unchanged.{spellings-append}

-- another one is heard
pub other_heard : {A E : Type 0} (r : Result A E) (x y : Trace) (at marks : ℕ) (i : Instruction)
    → stays_as_is i.op ≡ false → OnOk r (Marks (place_of at i) x y)
    → OnOk r (NotesStep i.op (memo_number i) x y) → OnOk r (Hears x y (heard at i marks ∷ []))
other_heard (Ok a) x y at marks i e placed step = λ ws h ends.
    let s = step ws h in
    let p = placed ends in
    record {
      follows = s.0;
      ends = p.0;
      sources_now = s.1 ∙ ap (λ (l : List (Option ℕ)). x.sources.items ++ l)
          (sym (append-nil (read_by (effect_of i.op) (memo_number i) ws)));
      places_now = p.1 ∙ ap (λ b. places_behind 0 x.parts.items ++ cond b [] (place_of at i ∷ []))
          (sym e);
    }
other_heard (Err a) x y at marks i e placed step = tt

-- all of a pickle was heard
heard_told : (before is : List Instruction) (hs : List Heard) → AreHeardBehind before is hs
    → told hs ≡ is
heard_told before [] [] h = refl
heard_told before (i ∷ is) (x ∷ hs) h = ap (λ (j : Instruction). j ∷ told hs) h.0.same
    ∙ ap (λ (l : List Instruction). i ∷ l) (heard_told (before ++ i ∷ []) is hs h.1)
heard_told before is hs h = absurd h

heard_places : (before is : List Instruction) (hs : List Heard) → AreHeardBehind before is hs
    → places_told hs ≡ places_from (length (spellings before)) is
heard_places before [] [] h = refl
heard_places before (i ∷ is) (x ∷ hs) h =
    let more : length (spellings (before ++ i ∷ [])) ≡ length (spellings before)
    + length (spelling i) = ap length (spellings-append before (i ∷ []))
    ∙ length-append (spellings before) (spelling i ++ [])
    ∙ ap (λ (l : List ℕ). length (spellings before) + length l) (append-nil (spelling i)) in
    ap (λ (j : Instruction). with_place (place_of x.at j) (places_told hs)) h.0.same
    ∙ ap (λ at. with_place (place_of at i) (places_told hs)) h.0.place
    ∙ ap (with_place (place_of (length (spellings before)) i))
    (heard_places (before ++ i ∷ []) is hs h.1 ∙ ap (λ at. places_from at is) more)
heard_places before is hs h = absurd h

pub heard_tracks : (x y : Trace) (p : List Instruction) (hs : List Heard) → IsNewTrace x
    → AreHeardBehind [] p hs → Hears x y hs → Tracks p y
heard_tracks x y p hs first each h =
    let nothing : EndsSo x = (
      first.end ∙ ap (end_behind 0) (sym first.parts),
      first.framed ∙ ap has_frames (sym first.parts),
    ) in
    let s = h []
    (record {
      holds = holds_none x.memo first.memo;
      count = first.writes;
    }) nothing in
    let all = heard_told [] p hs each in
    record {
      reads = s.sources_now ∙ ap (λ (l : List (Option ℕ)). l ++ sources [] (told hs)) first.sources
          ∙ ap (sources []) all;
      writes = s.follows.count ∙ ap (λ q. length (after_all q [])) all;
      places = s.places_now ∙ ap (λ (l : List Part). places_behind 0 l ++ places_told hs)
          first.parts ∙ heard_places [] p hs each;
      ends = sym s.ends.0;
      framed = s.ends.1;
    }
