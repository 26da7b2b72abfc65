use Rattle.std.proofs.Common.{length, subst}
use Rattle.model.specs.History.{now}
use Rattle.model.specs.Query.{Query}
use Rattle.model.specs.Answers.{answer_to}
use Rattle.session_api.specs.Known.{history_of}
use Rattle.http_turns.specs.Replies.{RepliesWith}
use Rattle.http_turns.proofs.reading.read_since.Goals as goal

pub returns : goal.returns
returns g c =
    let k = g.S.Viewer.known c.args.session.now in
    subst (λ (q : Query). RepliesWith (length k.seen) c.args.closes q (answer_to (now (history_of k)) q) c.reply_made.result)
    c.changes_query-query.ensures c.reply_made.ensures
