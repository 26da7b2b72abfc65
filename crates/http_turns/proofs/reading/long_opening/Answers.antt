use Rattle.std.proofs.Common.{◌≡◌, rules, ap, sym, ◌∙◌, option_map}
use Rattle.model.specs.History.{now}
use Rattle.model.specs.Query.{Opened}
use Rattle.session_api.specs.Known.{history_of}
use Rattle.session_api.specs.Revisions.{known_opened, opened_by}
use Rattle.http_turns.proofs.LongAnswers.{known-answer}
use Rattle.http_turns.proofs.reading.long_opening.Goals as goal

pub returns : goal.returns
returns g c =
    let d = now (history_of (g.S.Viewer.known c.args.session.now)) in
    let document = g.S.Opened.Revisions.document in
    let shown = g.S.Opened.Revisions.shown in
    let opened : option_map (λ o. Opened (opened_by (document o) (shown o))) c.in_ok-found.found ≡ known_opened d c.args.query.now = search rules in
    let known = ap (option_map (λ o. Opened (opened_by (document o) (shown o)))) (sym c.in-Some.is) ∙ opened in
    let long = rw c.in-Some-2.is at c.in_ok-len.ensures.long in
    record { answer_is = known-answer d c.args.query.now _ known; long = long.0; has_len = long.1 }
