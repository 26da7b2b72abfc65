use Rattle.std.proofs.Common.{refl, sym, ap, subst, ◌∙◌}
use Rattle.model.specs.Query.{Answer, Opened}
use Rattle.http_response.specs.Measured.{IsLong}
use Rattle.http_response.specs.Texts.{answer_text}
use Rattle.http_response.specs.declared.connection.Connection.{Connection}
use Rattle.session_api.specs.Revisions.{opened_by}
use Rattle.http_turns.specs.ResponseText.{after_closing}
use Rattle.http_turns.proofs.reading.reply_opening.Goals as goal

pub returns-in-Ok : goal.returns-in-Ok
returns-in-Ok g c query answer long =
    let opened = Opened (opened_by (g.O.Revisions.document c.args.opening) (g.O.Revisions.shown c.args.opening)) in (
      subst (λ (a : Answer). IsLong query a) (sym long.answer_is) long.long,
      c.in-Ok.ensures.response query long.has_len
          ∙ ap (λ (k : Connection). answer_text c.args.place k query opened) c.connection_after.ensures
          ∙ ap (λ (a : Answer). answer_text c.args.place (after_closing c.args.closes) query a) (sym long.answer_is),
      refl,
    )
