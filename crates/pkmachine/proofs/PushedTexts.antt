-- A text is appended to the table under the number that lies on the stack, or the number is taken
-- back.
use Rattle.std.proofs.Common.{◌≡◌, ◌-◌, ◌≤◌, ◌∙◌, ◌∷◌, ◌++◌, [], ℕ, List, Result, Ok, Err}
use Rattle.std.proofs.Common.{OnOk, IfErr, ap, arith, drop, inr, length, length-append, refl, subst}
use Rattle.std.proofs.Common.{suc, sym}
use Rattle.pkimport.specs.Table.{Noted}
use Rattle.pkstack.specs.Places.{below}
use Rattle.pkstack.specs.Shape.{Entry, Item}
use Rattle.pkmachine.specs.declared.new_text.NotPushed.{NotPushed}
use Rattle.pkmachine.specs.declared.new_text.NotPushed.TheVariants.{OutOfMemory}
use Rattle.pkmachine.specs.declared.held.Held.{Held}
use Rattle.pkmachine.specs.declared.value.Value.TheVariants as value
use Rattle.pkmachine.specs.Private.NamedOperations.{AreSeen, StackAndTable}
use Rattle.pkmachine.specs.Private.NewTexts.{HasPushedText, reason_for, with_reason}
use Rattle.pkmachine.proofs.ResolvedEntries.{text_seen, text_sees}

-- the table with one more text
abbrev pub appended : List ℕ → Noted → Noted
appended text table = record { texts = table.texts ++ text ∷ []; asked = table.asked }

-- the topmost entry is above all others
taken_back : {A : Type 0} (entry : Entry A) (entries : List (Entry A))
    → below (length entries) (entry ∷ entries) ≡ entries
taken_back entry entries =
    let one : suc (length entries) - length entries ≡ 1 = omega arith in
    ap (λ count. drop count (entry ∷ entries)) one

module _ {I : Type 0} (limit : ℕ) (text : List ℕ) (item : I) (old : StackAndTable I)
    (sees : AreSeen old) where
  -- the number of the text lies on top
  abbrev pub numbered : List (Entry (Held I))
  numbered =
      Item (record { value = value.Text (length old.table.texts); item = item }) ∷ old.entries

  pub text_pushed : {A : Type 0} (a : A) (new : StackAndTable I) → new.entries ≡ numbered
      → length new.entries ≤ limit → new.table ≡ appended text old.table
      → HasPushedText item limit text old new (Ok a)
  text_pushed a new entries room table =
      let texts = old.table.texts in
      rw (table, entries) (record {
        ok = text_seen texts text item old.entries sees;
        has = refl;
        sees = text_sees texts text item old.entries sees;
        grows = record { more = text ∷ []; is = refl };
        count = omega (arith, length-append texts (text ∷ []));
        asked = refl;
        room = rw entries at room;
        err = tt;
      })

  pub text_added : {A : Type 0} (x : Result A NotPushed) (entries : List (Entry (Held I)))
      (table : Noted) (place : ℕ) (new : StackAndTable I) → entries ≡ numbered
      → length entries ≤ limit → table ≡ old.table → place ≡ length old.entries
      → OnOk x (new.entries ≡ entries) → OnOk x (new.table ≡ appended text table)
      → IfErr x (λ why. (new.entries ≡ below place entries) × (new.table ≡ table)
      × (why ≡ OutOfMemory))
      → HasPushedText item limit text old new (with_reason x)
  text_added (Ok a) entries table place new top room same at kept added err =
      text_pushed a new (kept ∙ top) (subst (λ l. length l ≤ limit) (sym kept) room)
      (added ∙ ap (appended text) same)
  text_added (Err why) entries table place new top room same at kept added err = record {
    ok = tt;
    has = tt;
    sees = tt;
    grows = tt;
    count = tt;
    asked = tt;
    room = tt;
    err = (
      err.0 ∙ ap (below place) top ∙ ap (λ n. below n numbered) at ∙ taken_back _ old.entries,
      err.1 ∙ same,
      inr (ap reason_for err.2),
    );
  }
