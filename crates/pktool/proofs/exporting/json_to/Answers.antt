-- The source was read to its end, so the line is its text, or says why it has none.
use Rattle.std.proofs.Common.{◌≡◌, ℕ, List, Option, subst}
use Rattle.std.specs.Prelude.{IfErr, OnErr, OnOk}
use Rattle.std.specs.Io.KnownBytes.{Appends}
use Rattle.pkjson.specs.Export.{AppendsText, IsNotExported}
use Rattle.pktool.specs.Json.{error_line}
use Rattle.pktool.proofs.Exports.{ends_done, error_for}
use Rattle.pktool.proofs.exporting.json_to.Goals as goal

pub returns : goal.returns
returns g c =
    let before = g.W.Write.contents c.args.out.now in
    let between = g.W.Write.contents c.export_to.new.out in
    let after = g.W.Write.contents c.write_export_error-in-Err.new.out in
    let all = (let t = rw c.in-Some.is at c.in-Ok.ensures.all in t) in
    let why = subst (λ r. IfErr r (IsNotExported c.args.limits.now c.as_slice.result.now))
    c.in-Err.is c.in_ok-export_to.ensures.error in
    let same = subst (λ r. OnErr r (between ≡ before)) c.in-Err.is
    c.in_ok-export_to.ensures.unwritten in (
      c.in-Err.error,
      error_for _ _ _ _ c.in-Err.error all (rw c.as_slice.ensures.value at why),
      subst (λ (old : Option (List ℕ)). Appends old after (error_line c.in-Err.error)) same
          c.in_ok-write_export_error-in-Err.ensures,
    )

pub returns-in-Ok-2 : goal.returns-in-Ok-2
returns-in-Ok-2 g c =
    let before = g.W.Write.contents c.args.out.now in
    let between = g.W.Write.contents c.export_to.new.out in
    let after = g.W.Write.contents c.write_all.new.self in
    let all = (let t = rw c.in-Some.is at c.in-Ok.ensures.all in t) in
    let text = subst
    (λ r. OnOk r (AppendsText c.args.limits.now c.as_slice.result.now before between))
    c.in-Ok-2.is c.in_ok-export_to.ensures.text in
    ends_done _ _ _ before between after _ all (rw c.as_slice.ensures.value at text)
    c.in_ok-write_all-in-Ok-2.ensures.bytes
