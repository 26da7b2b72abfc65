-- So far they are ids.
use Rattle.std.proofs.Common.{take}
use Rattle.std.specs.Prelude.{All}
use Rattle.model.specs.Command.{IsId}
use Rattle.document_id.proofs.ids.recall_all.Given as goal

abbrev pub invariant-loop-id : goal.invariant-loop-id
invariant-loop-id l = All IsId (take l.id-index l.ids)
