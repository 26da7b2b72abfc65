use Rattle.std.proofs.Common.{◌≡◌, ℕ, List, Option, Some, sym, ◌∙◌, subst}
use Rattle.std.specs.Prelude.{IfOk, IsSome}
use Rattle.std.proofs.lemmas.Option.{same_Some}
use Rattle.model.specs.Command.{Entry}
use Rattle.http_response.specs.Texts.{reply_text}
use Rattle.http_response.specs.Told.{reply_told}
use Rattle.http_turns.specs.ResponseText.{after_closing}
use Rattle.session_api.proofs.Histories.{entry_there}
use Rattle.http_turns.proofs.Texts.{entry-told}
use Rattle.http_turns.proofs.writing.tell_reply.Goals as goal

pub reply_of-response-requires : goal.reply_of-response-requires
reply_of-response-requires g c =
    let k = g.S.Viewer.known c.args.session.now in
    let place = c.args.place in
    let entry = c.requires.0 in
    let is : c.in-Some.entry.now ≡ entry = same_Some _ _ (c.in-Some.ensures.entry ∙ entry_there k place entry c.requires.2) in
    subst (λ (e : Entry). IsSome (reply_told c.args.form e.command e.reply)) (sym is) (entry-told k place entry c.args.form c.place-recalled.ensures.legal c.requires.2 c.requires.1)

pub returns : goal.returns
returns g c =
    λ entry told.
    let k = g.S.Viewer.known c.args.session.now in
    let place = c.args.place in
    let form = c.args.form in
    let is : c.in-Some.entry.now ≡ entry = same_Some _ _ (c.in-Some.ensures.entry ∙ entry_there k place entry told) in
    let due = reply_text place (after_closing c.args.closes) form entry.command entry.reply in
    let same : reply_text place c.connection_after.result form c.in-Some.entry.now.command c.in-Some.entry.now.reply ≡ due =
    (λ i. reply_text place (c.connection_after.ensures i) form (is i).command (is i).reply) in
    c.made.ensures due (subst (λ (w : Option (List ℕ)). IfOk c.reply_of-response.result (λ r. Some r ≡ w)) same c.reply_of-response.ensures)
