-- From the end of a plain run to the answer.
use Rattle.std.proofs.Common.{◌≡◌, ◌<◌, ℕ, true, List, length, refl, sym, ap, ◌∙◌, subst, Result}
use Rattle.std.proofs.Common.{Ok, Err, Vec, Global}
use Rattle.serde_json.specs.Data.{Data}
use Rattle.std.specs.Prelude.{IfOk, IfErr, OnOk, Option}
use Rattle.std.specs.declared.io.Error.{Error}
use Rattle.serde_json.specs.View.{view}
use Rattle.serde_json.specs.declared.value.Value.{Value}
use Rattle.pkops.specs.Limits.{Bounds}
use Rattle.pkops.specs.Spelling.{Instruction}
use Rattle.pkmachine.specs.Effects.{effect_of}
use Rattle.pkstack.specs.Shape.{Entry, top}
use Rattle.std.proofs.lemmas.Result.{IfErr-weaker, IfOk-weaker}
use Rattle.pkjson.specs.declared.action.Action.TheVariants.{Stops}
use Rattle.pkjson.specs.declared.arena.Arena.{Arena as Held}
use Rattle.pkjson.specs.declared.error.ExportError.{ExportError}
use Rattle.pkjson.specs.declared.error.ExportError.TheVariants.{TooDeep, TooMany, OutOfMemory}
use Rattle.pkjson.specs.declared.node.Node.{Node}
use Rattle.pkjson.specs.declared.objects.Object.{Object}
use Rattle.pkjson.specs.Private.PlainActions.{ActsAs}
use Rattle.pkjson.specs.Private.Arena.{Kept, holds}
use Rattle.pkjson.specs.Contents.{contents}
use Rattle.pkjson.specs.Export.{AcceptedAs, AppendsText, Results, IsValueOf, IsTextOf}
use Rattle.pkjson.specs.Export.{IsNotExported}
use Rattle.pkjson.specs.Private.Held.{parts}
use Rattle.pkjson.specs.Private.Nodes.{heap_of}
use Rattle.pkjson.specs.Plain.{is_plain_data}
use Rattle.pkjson.specs.Private.Replayed.{Replays}
use Rattle.pkjson.specs.Private.Result.{IsAnswered, IsValue, IsText, IsTooLarge}
use Rattle.pkjson.specs.Private.Seen.{kept_all}
use Rattle.pkjson.specs.Private.Settled.{AreGivenBelow, AreSettled}
use Rattle.pkjson.proofs.Runs.PlainRun.{StandsAt, stops_here}
use Rattle.pkjson.proofs.Values.NoFloats.{floatless}
use Rattle.pkjson.proofs.Kept.EventsMirrored.{mirrors_contents}
use Rattle.pkjson.proofs.DictKeys.SettledMembers.{settled_heap, all_given_below, kept_length}
use Rattle.pkjson.proofs.Kept.OperandsTaken.{ok_same, top_below}
use Rattle.pkjson.proofs.Values.ByContents.{unfolds_same}

pub replays : (limits : Bounds) (bytes : List ℕ) (p : List Instruction) (rest : List ℕ) (at : ℕ)
    (a : Held) (i : Instruction) → AcceptedAs limits bytes p
    → StandsAt limits.counted p rest at (parts a) i → is_plain_data i.op ≡ true
    → ActsAs Stops (effect_of i.op) → (x : ℕ) (es : List (Entry ℕ))
    → top (parts a).shape.entries ≡ Ok (x, es) → Replays limits bytes (parts a).kept x
replays limits bytes p rest at a i w h plain acts x es t =
    let r = stops_here limits.counted p rest at (parts a) i h plain acts in
    let q : r.0.0 ≡ x = ap (λ z. z.0) (ok_same r.0 (x, es) (sym r.1 ∙ t)) in
    record {
      events = h.state.events;
      results = subst (λ z. Results limits bytes z h.state.events) q
          (record {
            instructions = p;
            accepted = w;
            plain = r.3;
            state = _;
            run = r.2;
            seen = refl;
          });
      holds = mirrors_contents (parts a).kept h.state.events h.mirrors.objects;
      within = top_below (length (parts a).kept) (parts a).shape.entries
          (x, es) h.mirrors.held.entries t;
      closed = all_given_below (length (parts a).kept) (parts a).kept h.mirrors.closed;
    }

module _ (limits : Bounds) (bytes : List ℕ) (ks : List Kept) (x : ℕ)
    (r : Replays limits bytes ks x) where
  pub is_value_of : (v : Data) → IsValue (holds ks) limits.depth limits.values x v
      → IsValueOf limits bytes v
  is_value_of v h =
      let u = unfolds_same (holds ks) (contents r.events) r.holds x v h.0 in
      record {
        object = x;
        events = r.events;
        results = r.results;
        unfolds = u;
        shallow = h.1;
        few = h.2;
        floatless = floatless r.events x v u;
      }

  pub is_refused : (e : ExportError) → IsTooLarge (holds ks) limits.depth limits.values x e
      → IsNotExported limits bytes e
  is_refused TooDeep h = record {
    object = x;
    events = r.events;
    results = r.results;
    deep = λ v u. h v (unfolds_same (contents r.events) (holds ks) (λ n. sym (r.holds n)) x v u);
  }
  is_refused TooMany h = record {
    object = x;
    events = r.events;
    results = r.results;
    value = h.0;
    unfolds = unfolds_same (holds ks) (contents r.events) r.holds x h.0 h.1;
    shallow = h.2;
    many = h.3;
  }
  is_refused OutOfMemory h = tt
  is_refused e h = absurd h

-- the nodes say the same
module _ (ks : List Kept) (ns : List Node) (s : AreSettled ks ks ns) (deepest most x : ℕ) where
  pub is_value : (v : Data) → IsValue (heap_of ns) deepest most x v
      → IsValue (holds ks) deepest most x v
  is_value v h = (unfolds_same (heap_of ns) (holds ks) (settled_heap ks ns s) x v h.0, h.1, h.2)

  pub is_too_large : (e : ExportError) → IsTooLarge (heap_of ns) deepest most x e
      → IsTooLarge (holds ks) deepest most x e
  is_too_large TooDeep h =
      λ v u. h v (unfolds_same (holds ks) (heap_of ns) (λ n. sym (settled_heap ks ns s n)) x v u)
  is_too_large TooMany h =
      (h.0, unfolds_same (heap_of ns) (holds ks) (settled_heap ks ns s) x h.0 h.1, h.2, h.3)
  is_too_large OutOfMemory h = tt
  is_too_large e h = absurd h

  pub is_text : (text : List ℕ) → IsText (heap_of ns) deepest most x text
      → IsText (holds ks) deepest most x text
  is_text text h = (h.0, is_value h.0 h.1, h.2)

  refusal_in : {A : Type 0} (r : Result A ExportError)
      → IfErr r (IsTooLarge (heap_of ns) deepest most x)
      → IfErr r (IsTooLarge (holds ks) deepest most x)
  refusal_in r = IfErr-weaker r _ _ is_too_large

  value_in : (r : Result Value ExportError) → IfOk r
      (λ w. IsValue (heap_of ns) deepest most x (view w))
      → IfOk r (λ w. IsValue (holds ks) deepest most x (view w))
  value_in r = IfOk-weaker r _ _ (λ w. is_value (view w))

  text_in : (r : Result (Vec ℕ Global) ExportError)
      → IfOk r (λ t. IsText (heap_of ns) deepest most x t.items)
      → IfOk r (λ t. IsText (holds ks) deepest most x t.items)
  text_in r = IfOk-weaker r _ _ (λ t. is_text t.items)

-- the answer that was written is that of the objects
pub answered_held : (ks : List Kept) (ns : List Node) (s : AreSettled ks ks ns) (limits : Bounds)
    (x : ℕ) (old new : Option (List ℕ)) (r : Result (Result (Unit {0}) ExportError) Error)
    → IfOk r (IsAnswered (heap_of ns) limits x old new)
    → IfOk r (IsAnswered (holds ks) limits x old new)
answered_held ks ns s limits x old new (Ok (Ok u)) h =
    (h.0, is_text ks ns s limits.depth limits.values x h.0 h.1, h.2)
answered_held ks ns s limits x old new (Ok (Err e)) h =
    (is_too_large ks ns s limits.depth limits.values x e h.0, h.1)
answered_held ks ns s limits x old new (Err e) h = h

-- the limits are those of the caller
module _ (ks : List Kept) (ns : List Node) (s : AreSettled ks ks ns) (d m deepest most x : ℕ)
    (e : d ≡ deepest) (f : m ≡ most) where
  pub value_held : (r : Result Value ExportError)
      → IfOk r (λ w. IsValue (heap_of ns) d m x (view w))
      → IfOk r (λ w. IsValue (holds ks) deepest most x (view w))
  value_held r h = rw (← e, ← f) (value_in ks ns s d m x r h)

  pub text_held : (r : Result (Vec ℕ Global) ExportError)
      → IfOk r (λ t. IsText (heap_of ns) d m x t.items)
      → IfOk r (λ t. IsText (holds ks) deepest most x t.items)
  text_held r h = rw (← e, ← f) (text_in ks ns s d m x r h)

  pub refusal_held : {A : Type 0} (r : Result A ExportError)
      → IfErr r (IsTooLarge (heap_of ns) d m x) → IfErr r (IsTooLarge (holds ks) deepest most x)
  refusal_held r h = rw (← e, ← f) (refusal_in ks ns s d m x r h)

-- it is that of the bytes
module _ (limits : Bounds) (bytes : List ℕ) (os : List Object) (x : ℕ)
    (p : Replays limits bytes (kept_all os) x) where
  pub result_within : x < length os
  result_within = subst (λ n. x < n) (kept_length os) p.within

  pub result_closed : AreGivenBelow (length os) (kept_all os)
  result_closed = subst (λ n. AreGivenBelow n (kept_all os)) (kept_length os) p.closed

  module _ (ls : List Object) (e : ls ≡ os) where
    there : Replays limits bytes (kept_all ls) x
    there = subst (λ z. Replays limits bytes (kept_all z) x) (sym e) p

    pub value_answered : (r : Result Value ExportError)
        → IfOk r (λ w. IsValue (holds (kept_all ls)) limits.depth limits.values x (view w))
        → IfOk r (λ w. IsValueOf limits bytes (view w))
    value_answered r = IfOk-weaker r _ _
        (λ w. is_value_of limits bytes (kept_all ls) x there (view w))

    pub text_answered : (r : Result (Vec ℕ Global) ExportError)
        → IfOk r (λ t. IsText (holds (kept_all ls)) limits.depth limits.values x t.items)
        → IfOk r (λ t. IsTextOf limits bytes t.items)
    text_answered (Ok t) h = (h.0, is_value_of limits bytes (kept_all ls) x there h.0 h.1, h.2)
    text_answered (Err f) h = h

    pub refusal_answered : {A : Type 0} (r : Result A ExportError)
        → IfErr r (IsTooLarge (holds (kept_all ls)) limits.depth limits.values x)
        → IfErr r (IsNotExported limits bytes)
    refusal_answered r = IfErr-weaker r _ _ (is_refused limits bytes (kept_all ls) x there)

    module _ (old new : Option (List ℕ)) where
      pub text_appended : (r : Result (Result (Unit {0}) ExportError) Error)
          → IfOk r (IsAnswered (holds (kept_all ls)) limits x old new)
          → IfOk r (λ answer. OnOk answer (AppendsText limits bytes old new))
      text_appended (Ok (Ok u)) h =
          (h.0, (h.1.0, is_value_of limits bytes (kept_all ls) x there h.1.0 h.1.1, h.1.2), h.2)
      text_appended (Ok (Err e)) h = tt
      text_appended (Err e) h = h

      pub refusal_told : (r : Result (Result (Unit {0}) ExportError) Error)
          → IfOk r (IsAnswered (holds (kept_all ls)) limits x old new)
          → IfOk r (λ answer. IfErr answer (IsNotExported limits bytes))
      refusal_told (Ok (Ok u)) h = tt
      refusal_told (Ok (Err e)) h = is_refused limits bytes (kept_all ls) x there e h.0
      refusal_told (Err e) h = h
