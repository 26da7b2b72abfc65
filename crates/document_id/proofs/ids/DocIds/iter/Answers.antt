use Rattle.std.proofs.Common.{All, subst}
use Rattle.model.specs.Command.{IsId}
use Rattle.document_id.proofs.ids.DocIds.iter.Goals as goal

pub returns-clause-ids : goal.returns-clause-ids
returns-clause-ids c = subst (All IsId) c.self.view_is c.self.invariant.each
