-- What begins an instruction is begun by each of its fronts.
use Rattle.std.proofs.Common.{ℕ, List, ◌++◌, ◌∙◌, append_assoc, arith, length-append, length-drop}
use Rattle.pkops.specs.Scans.{Begun}
use Rattle.pkops.proofs.ExactReaders.Fields.{not_nil, some_left}

pub fronts_begin : (limit : ℕ) (front more : List ℕ) → Begun limit (front ++ more)
    → Begun limit front
fronts_begin limit front more (i, rest, h) = (
  i,
  more ++ rest,
  record {
    may = record {
      suits = h.may.suits;
      within = λ le. h.may.within
          (omega (
            arith,
            length-drop 1 front,
            length-drop 1 (front ++ more),
            length-append front more,
          ));
    };
    parts = h.parts ∙ append_assoc front more rest;
    lacks = not_nil (more ++ rest) (omega (arith, length-append more rest, some_left rest h.lacks));
  },
)
