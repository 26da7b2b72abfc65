use Rattle.std.proofs.Common.{◌≡◌, ℕ, List, Option, Some, ap, subst}
use Rattle.std.specs.Prelude.{IfOk}
use Rattle.http_response.specs.Texts.{answer_text}
use Rattle.http_response.specs.declared.connection.Connection.{Connection}
use Rattle.http_turns.specs.ResponseText.{after_closing}
use Rattle.http_turns.proofs.reading.sent_with.Goals as goal

pub returns : goal.returns
returns c =
    let query = c.args.query.now in
    let found = c.args.found.now in
    let due = answer_text c.args.place (after_closing c.args.closes) query found in
    let same = ap (λ (k : Connection). answer_text c.args.place k query found) c.connection_after.ensures in
    c.made.ensures due (subst (λ (w : Option (List ℕ)). IfOk c.answer_with-response.result (λ r. Some r ≡ w)) same c.answer_with-response.ensures)
