-- An export, in terms of the content of the file.
use Rattle.std.proofs.Common.{◌≡◌, ℕ, List, [], ◌++◌, Option, Some, None, refl, sym, ap, ◌∙◌}
use Rattle.std.proofs.Common.{append-nil, subst, Result, Ok, Err}
use Rattle.std.specs.Prelude.{IfOk}
use Rattle.std.specs.Io.KnownBytes.{Consumes, IsAtEnd}
use Rattle.pkops.specs.Limits.{standard}
use Rattle.pkread.specs.Rows.{Sight}
use Rattle.pkjson.specs.Export.{IsNotExported}
use Rattle.pkjson.specs.declared.ExportError.{ExportError}
use Rattle.pkjson.specs.declared.ExportError.TheVariants.{OutOfMemory}
use Rattle.pkprint.specs.declared.Outcome.{Outcome}
use Rattle.pkprint.specs.declared.Outcome.TheVariants.{Done, Refused, Unread}
use Rattle.pktool.specs.Answers.{HasContent, IsExport, opened}
use Rattle.pktool.specs.Ends.{HasAnswer, Writes}
use Rattle.pktool.specs.Json.{EndsWith, IsErrorFor, ReadsWhole, error_line, value_line}

consumed_all : (xs : List ℕ) (left : Option (List ℕ)) (bytes : List ℕ)
    → Consumes (Some xs) left bytes → IsAtEnd left → bytes ≡ xs
consumed_all xs None bytes p q = absurd p
consumed_all xs (Some ys) bytes p q =
    sym (p ∙ ap (λ (l : List ℕ). bytes ++ l) q ∙ append-nil bytes)

has_content : (content : Option (List ℕ)) (new : Sight) (bytes : List ℕ)
    → ReadsWhole (opened content) new bytes → HasContent content bytes
has_content None new bytes h = tt
has_content (Some xs) new bytes h = consumed_all xs new.left bytes h.0.bytes h.1

some_content : (content : Option (List ℕ)) → (bytes : List ℕ) × HasContent content bytes
some_content None = ([], tt)
some_content (Some xs) = (xs, refl)

not_exported : (content : Option (List ℕ)) (new : Sight) (error : ExportError)
    → IsErrorFor standard (opened content) new error
    → (bytes : List ℕ) × HasContent content bytes × IsNotExported standard bytes error
not_exported content new OutOfMemory h =
    let some = some_content content in (some.0, some.1, tt)
not_exported content new _ h = (h.0, has_content content new h.0 h.1, h.2)

ended : (content : Option (List ℕ)) (new : Sight) (before after : Option (List ℕ))
    (outcome : Outcome) → HasAnswer outcome
    → EndsWith standard (opened content) new before after outcome
    → Writes before after (IsExport content) outcome
ended content new before after Done has h =
    (value_line h.2, (h.0, has_content content new h.0 h.1, h.2, h.3, refl), h.4)
ended content new before after Refused has h =
    let why = not_exported content new h.0 h.1 in
    (error_line h.0, (why.0, why.1, h.0, why.2, refl), h.2)
ended content new before after Unread has h = absurd has

-- an export that ended with an answer wrote the text that is right for its outcome
pub exported_text : {E : Type 0} (content left : Option (List ℕ)) (failures : ℕ) (new : Sight)
    (before after : Option (List ℕ)) (outcome : Outcome) (answered : Result Outcome E)
    → left ≡ content → failures ≡ 0
    → EndsWith standard (record { left = left; failures = failures }) new before after outcome
    → IfOk answered (λ same. (same ≡ outcome) × HasAnswer outcome)
    → IfOk answered (Writes before after (IsExport content))
exported_text content left failures new before after outcome (Ok same) p q h has =
    subst (λ o. Writes before after (IsExport content) o) (sym has.0)
    (ended content new before after outcome has.1
    (subst (λ n. EndsWith standard (record { left = content; failures = n }) new before after
    outcome) q
    (subst (λ l. EndsWith standard (record { left = l; failures = failures }) new before after
    outcome) p h)))
exported_text content left failures new before after outcome (Err error) p q h has = tt
