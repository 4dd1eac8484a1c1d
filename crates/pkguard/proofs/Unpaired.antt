-- A refusal with every import permitted has no pair, and so its verdict for C has none.
use Rattle.std.proofs.Common.{◌≡◌, ℕ, List, length, Option, Some, None, refl, sym, ap, subst, ◌∙◌}
use Rattle.pkops.specs.Limits.{Bounds}
use Rattle.pkops.specs.Spelling.{Instruction}
use Rattle.pkops.specs.declared.Reason.{Reason}
use Rattle.pkops.specs.declared.Reason.TheVariants as reason
use Rattle.pkread.specs.Rows.{Sight}
use Rattle.pkmachine.specs.Faults.{Arrivals, IsPairOf}
use Rattle.pkmachine.specs.Knowledge.{Policy}
use Rattle.pkimport.specs.Import.{Asked, AskedPair, AskedUnknown}
use Rattle.pkcheck.specs.Refused.{Why, growing, judging, reading}
use Rattle.pkmachine.specs.RowRuns.{Afresh, Beginning}
use Rattle.pkcheck.specs.WithImports.{RefusedWithImports}
use Rattle.pkmachine.specs.declared.OldStrings.{OldStrings}
use Rattle.pkguard.specs.Encoding.{encoded_all, wanted_by}
use Rattle.pkguard.specs.Guard.{IsImportsBefore, memory, placed, verdict_behind}
use Rattle.pkguard.specs.declared.verdict.Verdict.{Verdict}

none_off : (here : Arrivals) (i : Instruction) (r : Reason) (pair : Option Asked)
    → IsPairOf None here i r pair → pair ≡ None
none_off here i reason.ImportOffList None h = refl
none_off here i reason.ImportOffList (Some (AskedPair m n)) h = absurd h.1
none_off here i reason.ImportOffList (Some AskedUnknown) h = absurd h
none_off here i _ pair h = h

without_pair : (setting : OldStrings) (b : Beginning) (limits : Bounds)
    (before : List Instruction) (here new : Sight) (at : ℕ) (r : Reason) (pair : Option Asked)
    → Why setting b None limits before here new at r pair → pair ≡ None
without_pair setting b limits before here new at r pair (reading h) = h.none
without_pair setting b limits before here new at r pair (judging h) =
    none_off _ h.instruction r pair h.asks
without_pair setting b limits before here new at r pair (growing h) = h.none

-- the verdict for C, given the answer of the check, whose source held the pickle
pub told_before : {old : OldStrings} {policy : Policy} {limits : Bounds}
    {held pickle rest before after : List ℕ} {wanted : ℕ} {verdict : Verdict} {at : ℕ}
    {why : Reason} {pair : Option Asked} {imports : List Asked} → policy ≡ None → held ≡ pickle
    → RefusedWithImports 0 old Afresh policy limits (memory held) (memory rest) at why pair imports
    → verdict ≡ verdict_behind at why (length imports) → verdict.at ≡ at
    → wanted ≡ wanted_by imports → after ≡ placed (encoded_all imports) before
    → IsImportsBefore old limits pickle before after wanted verdict
told_before {old} {limits = limits} {held} {rest = rest} {verdict = verdict} {at} {why} {pair}
    {imports} any same refused told place asks room =
    let r = subst (λ p. RefusedWithImports 0 old Afresh p limits (memory held) (memory rest) at
    why pair imports) any refused in
    let none = without_pair old Afresh limits r.refused.instructions r.refused.here (memory rest)
    at why pair r.refused.why in
    record {
      rest = rest;
      why = why;
      imports = imports;
      refused = subst (λ b. RefusedWithImports 0 old Afresh None limits (memory b) (memory rest)
          verdict.at why None imports) same
          (subst (λ a. RefusedWithImports 0 old Afresh None limits (memory held) (memory rest) a
          why None imports) (sym place)
          (subst (λ x. RefusedWithImports 0 old Afresh None limits (memory held) (memory rest) at
          why x imports) none r));
      told = told ∙ ap (λ a. verdict_behind a why (length imports)) (sym place);
      asks = asks;
      room = room;
    }
