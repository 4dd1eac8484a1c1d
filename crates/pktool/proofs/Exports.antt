-- How an export ends, put together of its steps.
use Rattle.std.proofs.Common.{ℕ, List, [], ◌∷◌, ◌++◌, Option, Some, None, Result, Ok, Err, OnOk}
use Rattle.std.proofs.Common.{refl, sym, ap, subst, ◌∙◌, append_assoc}
use Rattle.std.specs.Io.KnownBytes.{Appends, Consumes}
use Rattle.pkops.specs.Limits.{Bounds}
use Rattle.pkread.specs.Rows.{Sight, Takes}
use Rattle.pkjson.specs.Export.{AppendsText, IsNotExported}
use Rattle.pkjson.specs.declared.ExportError.{ExportError}
use Rattle.pkjson.specs.declared.ExportError.TheVariants.{OutOfMemory}
use Rattle.pkcheck.specs.Appended.{appends_then}
use Rattle.pkprint.specs.declared.Outcome.TheVariants.{Done}
use Rattle.pktool.specs.Json.{EndsWith, IsErrorFor, ReadsWhole}

consumes_none : (a : Option (List ℕ)) → Consumes a a []
consumes_none None = tt
consumes_none (Some x) = refl

consumes_then : (a b c : Option (List ℕ)) (xs ys : List ℕ) → Consumes a b xs → Consumes b c ys
    → Consumes a c (xs ++ ys)
consumes_then None b c xs ys p q = tt
consumes_then (Some x) None c xs ys p q = absurd p
consumes_then (Some x) (Some y) None xs ys p q = absurd q
consumes_then (Some x) (Some y) (Some z) xs ys p q = p ∙ ap (λ (l : List ℕ). xs ++ l) q
    ∙ sym (append_assoc xs ys z)

pub takes_none : (a : Sight) → Takes a a []
takes_none a = record { bytes = consumes_none a.left; count = refl }

pub takes_then : {a b c : Sight} {xs ys : List ℕ} → Takes a b xs → Takes b c ys
    → Takes a c (xs ++ ys)
takes_then {a} {b} {c} {xs} {ys} p q = record {
  bytes = consumes_then a.left b.left c.left xs ys p.bytes q.bytes;
  count = q.count ∙ p.count;
}

pub error_for : (limits : Bounds) (old new : Sight) (bytes : List ℕ) (e : ExportError)
    → ReadsWhole old new bytes → IsNotExported limits bytes e → IsErrorFor limits old new e
error_for limits old new bytes OutOfMemory t h = (bytes, t.0)
error_for limits old new bytes _ t h = (bytes, t, h)

-- the text and then a line end
pub ends_done : (limits : Bounds) (old new : Sight) (a b c : Option (List ℕ)) (bytes : List ℕ)
    → ReadsWhole old new bytes → AppendsText limits bytes a b → Appends b c (10 ∷ [])
    → EndsWith limits old new a c Done
ends_done limits old new a b c bytes t h q =
    (bytes, t, h.1.0, h.1.1, rw (← h.1.2) (appends_then a b c h.0 _ h.2 q))

-- a line whose name is written between two texts
pub named_line : {A E : Type 0} (r : Result A E) (a b c d : Option (List ℕ))
    (front digits middle name last : List ℕ) → Appends a b (front ++ (digits ++ middle))
    → Appends b c name → OnOk r (Appends c d last)
    → OnOk r (Appends a d (front ++ (digits ++ (middle ++ (name ++ last)))))
named_line (Err e) a b c d front digits middle name last p q s = tt
named_line (Ok x) a b c d front digits middle name last p q s =
    let e = append_assoc front (digits ++ middle) (name ++ last)
    ∙ ap (λ (l : List ℕ). front ++ l) (append_assoc digits middle (name ++ last)) in
    subst (λ (l : List ℕ). Appends a d l) e
    (appends_then a b d (front ++ (digits ++ middle)) (name ++ last) p
    (appends_then b c d name last q s))
