use Rattle.std.proofs.Common.{Err, refl, ap, sym, ◌∙◌, subst}
use Rattle.std.specs.Prelude.{IfOk}
use Rattle.http_request.specs.Rejections.{Decided}
use Rattle.http_request.specs.Forms.{HasForm}
use Rattle.http_request.specs.declared.asked.Asked.{Asked}
use Rattle.http_request.specs.declared.extent.Extent.{Extent}
use Rattle.http_request.proofs.Forms.{decided-fits}
use Rattle.http_response.specs.Texts.{refusal_text}
use Rattle.http_turns.specs.ResponseText.{after_closing}
use Rattle.http_response.specs.declared.connection.Connection.{Connection}
use Rattle.http_turns.proofs.Turns.{answers_decided, answers_lost}
use Rattle.http_turns.proofs.turn.respond.Goals as goal

pub carry_out-requires : goal.carry_out-requires
carry_out-requires g c =
    subst (λ (decided : Decided Asked). IfOk decided HasForm) (sym (sym c.in-Ok-Ok.field-0-is ∙ c.in-Ok-Ok.ensures.decides)) (decided-fits c.args.request.now)

pub returns-in-Err : goal.returns-in-Err
returns-in-Err g c = answers_lost g.S.Viewer.goes g.S.Viewer.known _ _ _ c.place-place.ensures.place _ c.args.request.now c.extent_of-extent.result c.extent_of-extent.ensures c.no_memory.ensures

pub returns-in-Ok-Err : goal.returns-in-Ok-Err
returns-in-Ok-Err g c =
    let place = c.place-place.result in
    let closes = c.closes-closes.result in
    answers_decided g.S.Viewer.goes g.S.Viewer.known _ _ place c.place-place.ensures.place _ c.args.request.now closes (sym c.closes-closes.ensures) (Err c.in-Ok-Err.refusal) _
    (sym c.in-Ok-Err.field-0-is ∙ c.in-Ok-Err.ensures.decides) refl (
      c.refused-response.ensures.text
          ∙ ap (λ (k : Connection). refusal_text place k c.extent_of-extent.result c.in-Ok-Err.refusal) c.connection_after.ensures
          ∙ ap (λ (e : Extent). refusal_text place (after_closing closes) e c.in-Ok-Err.refusal) c.extent_of-extent.ensures,
      refl,
    )
