-- What the reader returned is told and then judged. Of a skipped payload only opcode and length are
-- told, and whatever has them is judged alike.
use Rattle.std.proofs.Common.{◌≡◌, ◌∙◌, Result, Ok, Err, IfErr, IfOk, OnOk, ap, inl, inr, subst}
use Rattle.std.proofs.Common.{sym}
use Rattle.std.proofs.lemmas.Result.{IfErr-weaker}
use Rattle.pkread.specs.ReaderCalls.{Steps, StepsFrom, state}
use Rattle.pkread.specs.declared.Next.TheVariants as next
use Rattle.pkstack.specs.Shape.{marks_of}
use Rattle.pkcheck.proofs.Wholes.Payloads.{skipped_told, whole_told}
use Rattle.pkcheck.proofs.session.Session.hear_next.Goals as goal

-- what is heard is accepted
accepted : {T E X H B C : Type 0} (r : Result (Result T E) X) → (B → H → C)
    → IfOk r (λ _. H) → IfOk r (λ j. OnOk j B) → IfOk r (λ j. OnOk j C)
accepted (Ok (Ok x)) f h b = f b h
accepted (Ok (Err e)) f h b = tt
accepted (Err x) f h b = tt

-- or refused
refused : {T E X H : Type 0} {P Q R : E → Type 0} (r : Result (Result T E) X)
    → ((e : E) → P e → Q e → H → R e) → IfOk r (λ _. H) → IfOk r (λ j. IfErr j P)
    → IfOk r (λ j. IfErr j Q) → IfOk r (λ j. IfErr j R)
refused (Ok (Err e)) f h p q = f e p q h
refused (Ok (Ok x)) f h p q = tt
refused (Err x) f h p q = tt

-- ---- where payloads are held

pub returns-in-Ok-Inst-clause-ok : goal.returns-in-Ok-Inst-clause-ok
returns-in-Ok-Inst-clause-ok g c =
    let s = state g.R.Source.left g.R.Source.failures c.args.reader.now in
    let t = state g.R.Source.left g.R.Source.failures c.next.follows.lender-at-none in
    let at = c.in-Ok-Inst.at in
    let inst = c.in-Ok-Inst.inst in
    let is : c.next.result ≡ Ok (next.Inst at inst) =
    cc (c.in-Ok-Inst.is, c.in-Ok-Inst.field-0-is) in
    let stepped = subst (λ r. Steps s r t) is c.next.follows.holds-at-none.1 in
    let gives = subst (λ f. StepsFrom f s (Ok (next.Inst at inst)) t) c.requires.ready stepped.1 in
    rw (sym c.holds.ensures ∙ c.if-holds.true) (accepted c.hear_one.result
    (λ both heard. record {
      at = at;
      gave = (inst, stepped, (both, heard));
      within = gives.within;
    }) c.hear_one.ensures.heard c.hear_one.ensures.ok)

pub returns-in-Ok-Inst-clause-no : goal.returns-in-Ok-Inst-clause-no
returns-in-Ok-Inst-clause-no g c =
    let s = state g.R.Source.left g.R.Source.failures c.args.reader.now in
    let t = state g.R.Source.left g.R.Source.failures c.next.follows.lender-at-none in
    let inst = c.in-Ok-Inst.inst in
    let is : c.next.result ≡ Ok (next.Inst c.in-Ok-Inst.at inst) =
    cc (c.in-Ok-Inst.is, c.in-Ok-Inst.field-0-is) in
    let stepped = subst (λ r. Steps s r t) is c.next.follows.holds-at-none.1 in
    rw (sym c.holds.ensures ∙ c.if-holds.true) (refused c.hear_one.result
    (λ r place why heard. inr (record { gave = rw place (inst, stepped, (why, heard)) }))
    c.hear_one.ensures.heard c.hear_one.ensures.place c.hear_one.ensures.no)

pub returns-in-Ok-Inst-clause-err : goal.returns-in-Ok-Inst-clause-err
returns-in-Ok-Inst-clause-err g c =
    let s = state g.R.Source.left g.R.Source.failures c.args.reader.now in
    let t = state g.R.Source.left g.R.Source.failures c.next.follows.lender-at-none in
    let inst = c.in-Ok-Inst.inst in
    let is : c.next.result ≡ Ok (next.Inst c.in-Ok-Inst.at inst) =
    cc (c.in-Ok-Inst.is, c.in-Ok-Inst.field-0-is) in
    let stepped = subst (λ r. Steps s r t) is c.next.follows.holds-at-none.1 in
    rw (sym c.holds.ensures ∙ c.if-holds.true) (IfErr-weaker c.hear_one.result _ _
    (λ error fails. record { at = c.in-Ok-Inst.at; gave = (inst, stepped, fails) })
    c.hear_one.ensures.err)

-- ---- where they are skipped, an instruction that has none

pub returns-in-Ok-Inst-next_head-clause-ok : goal.returns-in-Ok-Inst-next_head-clause-ok
returns-in-Ok-Inst-next_head-clause-ok g c =
    let at = c.in-Ok-Inst-next_head.at in
    let inst = c.in-Ok-Inst-next_head.inst in
    let (stepped, whole, within) = whole_told
    (state g.R.Source.left g.R.Source.failures c.args.reader.now)
    (state g.R.Source.left g.R.Source.failures c.next_head.follows.lender-at-none)
    c.next_head.result c.next_head.follows.holds-at-none.1 c.requires.ready at inst
    (cc (c.in-Ok-Inst-next_head.is, c.in-Ok-Inst-next_head.field-0-is)) in
    rw (sym c.holds.ensures ∙ c.if-holds.false) (accepted c.hear_one-in-Ok-Inst-next_head.result
    (λ both heard. record {
      at = at;
      gave = inl (inst, stepped, (both, rw whole heard));
      within = within;
    }) c.hear_one-in-Ok-Inst-next_head.ensures.heard c.hear_one-in-Ok-Inst-next_head.ensures.ok)

pub returns-in-Ok-Inst-next_head-clause-no : goal.returns-in-Ok-Inst-next_head-clause-no
returns-in-Ok-Inst-next_head-clause-no g c =
    let inst = c.in-Ok-Inst-next_head.inst in
    let (stepped, whole, within) = whole_told
    (state g.R.Source.left g.R.Source.failures c.args.reader.now)
    (state g.R.Source.left g.R.Source.failures c.next_head.follows.lender-at-none)
    c.next_head.result c.next_head.follows.holds-at-none.1 c.requires.ready
    c.in-Ok-Inst-next_head.at inst
    (cc (c.in-Ok-Inst-next_head.is, c.in-Ok-Inst-next_head.field-0-is)) in
    let heard = c.hear_one-in-Ok-Inst-next_head.ensures in
    rw (sym c.holds.ensures ∙ c.if-holds.false) (refused c.hear_one-in-Ok-Inst-next_head.result
    (λ r place why told. inr (record {
      gave = rw place (inl (inst, stepped, (why, rw whole told)));
    })) heard.heard heard.place heard.no)

pub returns-in-Ok-Inst-next_head-clause-err : goal.returns-in-Ok-Inst-next_head-clause-err
returns-in-Ok-Inst-next_head-clause-err g c =
    let at = c.in-Ok-Inst-next_head.at in
    let inst = c.in-Ok-Inst-next_head.inst in
    let (stepped, whole, within) = whole_told
    (state g.R.Source.left g.R.Source.failures c.args.reader.now)
    (state g.R.Source.left g.R.Source.failures c.next_head.follows.lender-at-none)
    c.next_head.result c.next_head.follows.holds-at-none.1 c.requires.ready at inst
    (cc (c.in-Ok-Inst-next_head.is, c.in-Ok-Inst-next_head.field-0-is)) in
    rw (sym c.holds.ensures ∙ c.if-holds.false)
    (IfErr-weaker c.hear_one-in-Ok-Inst-next_head.result _ _
    (λ error fails. record { at = at; gave = inl (inst, stepped, rw whole fails) })
    c.hear_one-in-Ok-Inst-next_head.ensures.err)

-- ---- one whose payload is skipped

pub returns-in-Err-tell_skipped-clause-err : goal.returns-in-Err-tell_skipped-clause-err
returns-in-Err-tell_skipped-clause-err g c =
    let skips = sym c.holds.ensures ∙ c.if-holds.false in
    let known = c.marks.ensures.known
    ∙ ap (λ v. marks_of v.machine.knowledge.entries) c.self.view_is in
    let (stepped, within, told) = skipped_told
    (state g.R.Source.left g.R.Source.failures c.args.reader.now)
    (state g.R.Source.left g.R.Source.failures c.next_head.follows.lender-at-none)
    c.next_head.result c.next_head.follows.holds-at-none.1 c.requires.ready c.in-Ok-Passed.at
    c.in-Ok-Passed.op c.in-Ok-Passed.field-0-2 (cc (c.in-Ok-Passed.is, c.in-Ok-Passed.field-0-is))
    c.taken.result c.taken.ensures in
    let fails = rw known at (c.in-Err-tell_skipped.ensures.err skips) in
    rw skips (record {
      at = c.in-Ok-Passed.at;
      gave = inr (
        c.in-Ok-Passed.op,
        c.in-Ok-Passed.field-0-2,
        stepped,
        λ i l. rw (told i l).1 fails,
      );
    })

pub returns-in-Err-judge_passed-clause-no : goal.returns-in-Err-judge_passed-clause-no
returns-in-Err-judge_passed-clause-no g c =
    let skips = sym c.holds.ensures ∙ c.if-holds.false in
    let known = c.marks.ensures.known
    ∙ ap (λ v. marks_of v.machine.knowledge.entries) c.self.view_is in
    let (stepped, within, told) = skipped_told
    (state g.R.Source.left g.R.Source.failures c.args.reader.now)
    (state g.R.Source.left g.R.Source.failures c.next_head.follows.lender-at-none)
    c.next_head.result c.next_head.follows.holds-at-none.1 c.requires.ready c.in-Ok-Passed.at
    c.in-Ok-Passed.op c.in-Ok-Passed.field-0-2 (cc (c.in-Ok-Passed.is, c.in-Ok-Passed.field-0-is))
    c.taken.result c.taken.ensures in
    let heard = rw known at (c.in_default.ensures.ok skips) in
    rw skips (inr (record {
      gave = inr (
        c.in-Ok-Passed.op,
        c.in-Ok-Passed.field-0-2,
        stepped,
        λ i l. let (k, skipped) = told i l in (
          c.in-Err-judge_passed.ensures.err i k,
          rw skipped heard,
        ),
      );
    }))

pub returns-in-Ok-Passed-clause-ok : goal.returns-in-Ok-Passed-clause-ok
returns-in-Ok-Passed-clause-ok g c =
    let skips = sym c.holds.ensures ∙ c.if-holds.false in
    let known = c.marks.ensures.known
    ∙ ap (λ v. marks_of v.machine.knowledge.entries) c.self.view_is in
    let (stepped, within, told) = skipped_told
    (state g.R.Source.left g.R.Source.failures c.args.reader.now)
    (state g.R.Source.left g.R.Source.failures c.next_head.follows.lender-at-none)
    c.next_head.result c.next_head.follows.holds-at-none.1 c.requires.ready c.in-Ok-Passed.at
    c.in-Ok-Passed.op c.in-Ok-Passed.field-0-2 (cc (c.in-Ok-Passed.is, c.in-Ok-Passed.field-0-is))
    c.taken.result c.taken.ensures in
    let heard = rw known at (c.in_default.ensures.ok skips) in
    rw skips (record {
      at = c.in-Ok-Passed.at;
      gave = inr (
        c.in-Ok-Passed.op,
        c.in-Ok-Passed.field-0-2,
        stepped,
        λ i l. let (k, skipped) = told i l in (
          c.in_default-judge_passed.ensures.ok i k,
          rw skipped heard,
        ),
      );
      within = within;
    })
