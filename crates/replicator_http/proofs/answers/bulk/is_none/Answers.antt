use Rattle.std.proofs.Common.{◌∙◌}
use Rattle.replicator_http.proofs.Under.{empty-view}
use Rattle.replicator_http.proofs.answers.bulk.is_none.Goals as goal

pub returns : goal.returns
returns c = c.is_empty.ensures ∙ empty-view c.args.refused.now
