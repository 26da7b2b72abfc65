use Rattle.std.proofs.Common.{Ok, refl, ap, sym, ◌∙◌, subst}
use Rattle.http_request.specs.declared.asked.Asked.TheVariants as asked
use Rattle.http_request.specs.Forms.{HasForm}
use Rattle.http_response.specs.Texts.{welcome_text}
use Rattle.http_response.specs.declared.connection.Connection.{Connection}
use Rattle.http_turns.proofs.Turns.{answers_decided}
use Rattle.http_turns.proofs.turn.carry_out.Goals as goal

pub write-requires : goal.write-requires
write-requires g c = subst HasForm c.in-Command.is c.requires

pub returns-in-Welcome : goal.returns-in-Welcome
returns-in-Welcome g c =
    λ request asks closes_is.
    let place = c.place.result in
    answers_decided g.S.Viewer.goes g.S.Viewer.known _ _ place c.place.ensures.place _ request c.args.closes closes_is (Ok asked.Welcome) _
    (sym (asks ∙ ap Ok c.in-Welcome.is)) refl
    (c.welcome-response.ensures.text ∙ ap (λ (k : Connection). welcome_text place k) c.connection_after.ensures, refl)
