-- One step of the walk over a slice.
use Rattle.std.proofs.Common.{◌≡◌, ℕ, ◌+◌, ◌-◌, Bool, false, true, List, ◌++◌, length, take, drop}
use Rattle.std.proofs.Common.{Some, None, Ok, Err, refl, sym, ap, ◌∙◌, arith, length-take}
use Rattle.std.proofs.Common.{length-drop, take-append-drop, take_all}
use Rattle.pkops.specs.Answer.{IsWhole}
use Rattle.pkops.specs.Inst.{instruction_of}
use Rattle.pkops.specs.Spelling.{spelling}
use Rattle.pkops.specs.declared.Inst.{Inst}
use Rattle.pkops.specs.declared.Reason.{Reason}
use Rattle.pkread.proofs.Reasons.Objections.{no_objection}
use Rattle.pkread.proofs.Reasons.OneRow.{RefusedAlone}
use Rattle.pkread.specs.Admission.{objection}
use Rattle.pkread.specs.Genops.{Walk, Walks, is_stop}

-- the walk that goes on with these bytes
abbrev pub going : List ℕ → ℕ → ℕ → Walk
going bytes at limit = record { bytes = bytes; at = at; limit = limit; done = false }

-- an instruction that is whole is given, and the bytes behind it are left
pub gives_item : (b : List ℕ) (at limit n : ℕ) (i : Inst) (stops : Bool) →
    IsWhole limit b (instruction_of i) n → objection (instruction_of i) ≡ None →
    stops ≡ is_stop (instruction_of i).op →
    Walks (going b at limit) (Some (Ok (at, i))) (record {
      bytes = take (length b - n) (drop n b);
      at = at + n;
      limit = limit;
      done = stops;
    })
gives_item b at limit n i stops w e s =
    let rest : take (length b - n) (drop n b) ≡ drop n b =
    take_all (length b - n) (drop n b) (omega (arith, length-drop n b)) in
    let size : length (take n b) ≡ n = omega (arith, length-take n b, w.fits) in
    let spelled : take n b ≡ spelling (instruction_of i) = w.spells.spelled in
    record {
      place = refl;
      allowed = record {
        good = w.spells.good;
        within = w.within;
        admitted = no_objection (instruction_of i) e;
      };
      bytes = rw rest (sym (take-append-drop n b) ∙ ap (λ (l : List ℕ). l ++ drop n b) spelled);
      offset = omega (arith, size, ap length spelled);
      limit = refl;
      done = s;
    }

-- what stands there is refused
pub refuses_item : (b : List ℕ) (at limit : ℕ) (r : Reason) → RefusedAlone limit b r →
    Walks (going b at limit) (Some (Err (record { at = at; reason = r }))) (record {
      bytes = b;
      at = at;
      limit = limit;
      done = true;
    })
refuses_item b at limit r p = record { place = refl; why = p.0; alone = p.1; after = refl }
