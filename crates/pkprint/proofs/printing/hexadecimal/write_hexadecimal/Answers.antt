-- The digits of a chunk are appended to those of the bytes before it.
use Rattle.std.proofs.Common.{refl, List, [], ◌++◌, ℕ, ap, sym, ◌∙◌, append_assoc}
use Rattle.hex.specs.Hex.{encode_with}
use Rattle.pkprint.proofs.Lines.{encode_with-append}
use Rattle.pkcheck.specs.Appended.{appends_none, appends_then}
use Rattle.pkprint.proofs.printing.hexadecimal.write_hexadecimal.Goals as goal

pub loop-rest-init : goal.loop-rest-init
unfolding encode_with
loop-rest-init g c = ([], refl, appends_none (g.W.Write.contents c.args.out.now))

pub loop-rest-preserved : goal.loop-rest-preserved
loop-rest-preserved g c =
    let (done, cut, so_far) = c.loop-rest.invariant in
    let chunk = c.split_at.result.0.now in (
      done ++ chunk,
      cut ∙ ap (λ (xs : List ℕ). done ++ xs) c.split_at.ensures.by_index.0
          ∙ sym (append_assoc done chunk _),
      rw encode_with-append (search (appends_then, so_far, c.in_ok-write_chunk.ensures)),
    )
