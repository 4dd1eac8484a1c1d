-- Each turn tells of one more lent instruction and judges it, up to a refusal or a failure.
use Rattle.std.proofs.Common.{append-nil, append_assoc, length, ap, subst, sym, ◌∙◌, ◌-◌, ◌++◌, []}
use Rattle.std.proofs.Common.{refl}
use Rattle.pkops.specs.Inst.{instruction_of}
use Rattle.pkcheck.proofs.Wholes.InTurn.{IsInside, counted_back, all_passed, along_more, along_none}
use Rattle.pkcheck.proofs.Wholes.InTurn.{behind_slice, is_inside, passed, shorter, stop_here}
use Rattle.pkcheck.proofs.Wholes.InTurn.{turned_down}
use Rattle.pkcheck.proofs.session.Session.hear_all_lent.Goals as goal

pub instructions-init : goal.instructions-init
instructions-init g c =
    let inside = c.inside-inside in
    record {
      frame = refl;
      whole = subst (λ v. IsInside v.frame c.args.bytes.now inside.result.now) c.self.view_is
          (is_inside c.self.inside.frames c.args.bytes.now inside.result.now inside.ensures.outside
          inside.ensures.inside);
      hears = [];
      along = rw (ap (λ v. v.machine) c.self.view_is)
          (along_none c.requires.well c.requires.running);
      heard = λ first hs h. subst (g.A.Audience.hears first c.args.audience.now)
          (sym (append-nil hs)) h;
    }

pub returns-in-Err-clause-err : goal.returns-in-Err-clause-err
returns-in-Err-clause-err g c =
    let h = c.instructions.invariant.along in
    let lent = (let l = rw c.limits.ensures at c.in-Some.ensures in l) in
    let same = rw (counted_back h, c.marks.ensures.known) at c.in-Err.ensures.err in (
      stop_here h c.instructions.invariant.whole lent refl,
      c.len-length.ensures,
      (c.instructions.audience, c.instructions.invariant.heard, same),
    )

pub returns-in-Err-step_on-clause-no : goal.returns-in-Err-step_on-clause-no
returns-in-Err-step_on-clause-no g c =
    let h = c.instructions.invariant.along in
    let lent = (let l = rw c.limits.ensures at c.in-Some.ensures in l) in
    let told = rw (counted_back h, c.marks.ensures.known) at c.in_default-tell_lent.ensures.ok in (
      turned_down h c.instructions.invariant.whole lent refl c.len-length.ensures
          (c.in-Err-step_on.ensures.step.fails h.refused),
      λ first earlier x. subst (g.A.Audience.hears first c.tell_lent.new.audience)
          (append_assoc earlier c.instructions.invariant.hears _)
          (g.met.A.Audience.hears_more first _ _ (earlier ++ c.instructions.invariant.hears) _
          (c.instructions.invariant.heard first earlier x) told),
    )

pub instructions-smaller : goal.instructions-smaller
instructions-smaller g c = shorter _ c.instructions.rest.now (instruction_of c.in-Some.inst) _
    c.in-Some.ensures c.len-length.ensures

pub instructions-preserved : goal.instructions-preserved
instructions-preserved g c =
    let h = c.instructions.invariant.along in
    let lent = (let l = rw c.limits.ensures at c.in-Some.ensures in l) in
    let told = rw (counted_back h, ← passed h, c.marks.ensures.known) at
    c.in_default-tell_lent.ensures.ok in
    record {
      frame = c.instructions.invariant.frame;
      whole = c.instructions.invariant.whole;
      hears = _;
      along = rw (behind_slice c.len-length.result c.instructions.rest.now, c.len-length.ensures)
          (along_more h c.instructions.invariant.whole lent
          c.in_default-step_on.ensures.step.goes_on);
      heard = λ first earlier x. subst (g.A.Audience.hears first c.tell_lent.new.audience)
          (append_assoc earlier c.instructions.invariant.hears _)
          (g.met.A.Audience.hears_more first _ _ (earlier ++ c.instructions.invariant.hears) _
          (c.instructions.invariant.heard first earlier x) told);
    }

pub returns-clause-ok : goal.returns-clause-ok
returns-clause-ok g c =
    let h = c.instructions.invariant.along in
    let frame = c.take_inside.ensures ∙ ap (λ n. n - (length c.inside-inside.result.now
    - length c.instructions.rest.now)) (c.instructions.invariant.frame
    ∙ ap (λ v. v.frame) c.self.view_is) in (
      h.number,
      c.instructions.invariant.hears,
      rw frame (all_passed h),
      c.instructions.invariant.heard,
    )
