use Rattle.std.proofs.Common.{sym, ◌∙◌}
use Rattle.http_turns.proofs.Texts.{answer_due}
use Rattle.http_turns.proofs.reading.answer_with.Goals as goal

pub unreachable-requires : goal.unreachable-requires
unreachable-requires c =
    answer_due c.args.place c.args.connection c.args.query.now c.args.found.now c.requires (sym c.in_default.is ∙ c.in_ok-response.ensures.text)
