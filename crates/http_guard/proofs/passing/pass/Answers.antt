use Rattle.std.proofs.Common.{◌≡◌, ◌∙◌, ℕ, List, refl, ap, sym, subst, drop}
use Rattle.std.specs.Prelude.{is_ok, Bool, IfOk, IsTrue, OnOk, Result, Ok, Err}
use Rattle.streams.specs.Writes.{Writes}
use Rattle.http_framing.specs.Front.{request_at}
use Rattle.http_framing.specs.Input.{Requested}
use Rattle.http_framing.specs.Request.{Request}
use Rattle.http_connection.specs.Turn.{TakesTurn}
use Rattle.origin_policy.specs.Answers.{forbidden_text, preflight_text}
use Rattle.origin_policy.specs.Verdict.{decision_of}
use Rattle.http_guard.specs.Passage.{Forbade, Passed, PassedTo, Questioned}
use Rattle.http_guard.proofs.Decided.{cut_of_some, writes-too}
use Rattle.http_guard.proofs.Going.{becomes-forbidden, becomes-passed, becomes-passed_to, becomes-questioned}
use Rattle.http_guard.proofs.passing.pass.Goals as goal

-- what was written whole was answered
keeps : {A E : Type 0} {whole : Bool} (r : Result A E) → OnOk r (IsTrue whole) → IsTrue (is_ok r) → IsTrue whole
keeps (Ok x) given ok = given
keeps (Err e) given ok = absurd (cc)

pub judge-requires : goal.judge-requires
judge-requires g c = (c.requires.begins.0, _, c.requires.begins.1)

pub returns-in-Pass-clause-passage : goal.returns-in-Pass-clause-passage
returns-in-Pass-clause-passage g c =
    let begins = c.requires.begins in
    let turn = c.answer-answered.ensures.turn in
    let takes = subst (λ (request : Request). TakesTurn (g.S.Service.answers c.args.context.now) c.args.service.now c.answer-answered.new.self (Requested request) turn.0) c.request-request.ensures turn.1 in
    let decided = ap decision_of (sym c.in-Pass.is) ∙ c.judge.ensures begins.0 _ begins.1 in
    (Passed turn.0, becomes-passed c.args.bytes.now (drop c.args.spans.now.body.end c.args.bytes.now) _ begins.0 begins.1 begins.2 decided takes (cut_of_some _ _ _ c.answer-answered.result turn.2.1 turn.3), turn.2, turn.3, turn.4)

pub returns-in-PassTo-clause-passage : goal.returns-in-PassTo-clause-passage
returns-in-PassTo-clause-passage g c =
    let begins = c.requires.begins in
    let turn = c.answer_to.ensures.turn in
    let takes = subst (λ (request : Request). TakesTurn (g.S.Service.answers c.args.context.now) c.args.service.now c.answer_to.new.service (Requested request) turn.0) c.request-request.ensures turn.1 in
    let decided = ap decision_of (sym c.in-PassTo.is) ∙ c.judge.ensures begins.0 _ begins.1 in (
      PassedTo c.in-PassTo.origin.now turn.0 (is_ok c.answer_to.result.1),
      becomes-passed_to c.args.bytes.now (drop c.args.spans.now.body.end c.args.bytes.now) c.in-PassTo.origin.now (is_ok c.answer_to.result.1) _ begins.0 begins.1 begins.2 decided takes (keeps c.answer_to.result.1 turn.3, turn.4),
      turn.2,
      refl,
      turn.5,
    )

pub returns-in-Preflight-clause-passage : goal.returns-in-Preflight-clause-passage
returns-in-Preflight-clause-passage g c =
    let begins = c.requires.begins in
    let origin = c.in-Preflight.origin.now in
    let request = request_at c.args.bytes.now c.args.spans.now in
    let r = c.closes_after.result in
    let decided = ap decision_of (sym c.in-Preflight.is) ∙ c.judge.ensures begins.0 _ begins.1 in
    let text = ap (preflight_text origin) (c.closes.ensures ∙ ap (λ (q : Request). q.closes) c.request-request.ensures) in
    let writes = subst (λ (t : List ℕ). Writes (g.W.Sink.taken c.args.writer) (g.W.Sink.taken c.write_preflight-written.new.writer) c.write_preflight-written.result t) text c.write_preflight-written.ensures.written in (
      Questioned request origin (is_ok r),
      becomes-questioned c.args.bytes.now (drop c.args.spans.now.body.end c.args.bytes.now) origin (is_ok r) request begins.0 begins.1 begins.2 decided,
      writes-too _ _ _ c.write_preflight-written.result r c.closes_after.ensures.written writes,
      refl,
      subst (λ (q : Request). IfOk r (λ closes. closes ≡ q.closes)) c.request-request.ensures c.closes_after.ensures.closes,
    )

pub returns-in-Forbidden-clause-passage : goal.returns-in-Forbidden-clause-passage
returns-in-Forbidden-clause-passage g c =
    let begins = c.requires.begins in
    let reason = c.in-Forbidden.reason in
    let request = request_at c.args.bytes.now c.args.spans.now in
    let r = c.closes_after-in-Forbidden.result in
    let decided = ap decision_of (sym c.in-Forbidden.is) ∙ c.judge.ensures begins.0 _ begins.1 in
    let method = c.method.ensures ∙ ap (λ (q : Request). q.method) c.request-request.ensures in
    let closes = c.closes-in-Forbidden.ensures ∙ ap (λ (q : Request). q.closes) c.request-request.ensures in
    let writes = subst (λ (t : List ℕ). Writes (g.W.Sink.taken c.args.writer) (g.W.Sink.taken c.write_forbidden-written.new.writer) c.write_forbidden-written.result t)
    (λ i. forbidden_text reason (method i) (closes i)) c.write_forbidden-written.ensures.written in (
      Forbade request reason (is_ok r),
      becomes-forbidden c.args.bytes.now (drop c.args.spans.now.body.end c.args.bytes.now) reason (is_ok r) request begins.0 begins.1 begins.2 decided,
      writes-too _ _ _ c.write_forbidden-written.result r c.closes_after-in-Forbidden.ensures.written writes,
      refl,
      subst (λ (q : Request). IfOk r (λ closes. closes ≡ q.closes)) c.request-request.ensures c.closes_after-in-Forbidden.ensures.closes,
    )
