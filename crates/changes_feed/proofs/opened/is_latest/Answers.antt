use Rattle.std.proofs.Common.{sym, ◌∙◌}
use Rattle.changes_feed.proofs.Claimed.{leaf_itself, missing_itself}
use Rattle.changes_feed.proofs.opened.is_latest.Goals as goal

pub returns-then-knows : goal.returns-then-knows
returns-then-knows c = λ l. leaf_itself c.args.tree.now c.oldest-recalled.ensures.tree.forest c.args.rev (sym c.knows.ensures ∙ c.if-knows.true) (sym c.is_leaf.ensures ∙ l)

pub returns : goal.returns
returns c = λ _. missing_itself c.args.tree.now c.oldest-recalled.ensures.tree.forest c.args.rev (sym c.knows.ensures ∙ c.if-knows.false)
