use Rattle.std.specs.Prelude.{All}
use Rattle.std.proofs.Common.{arith, subst}
use Rattle.std.proofs.lemmas.List.{take_all}
use Rattle.std.proofs.lemmas.List.Elements.{All-more}
use Rattle.model.specs.Command.{Id}
use Rattle.model.specs.Database.{Record, IsRecord}
use Rattle.snapshots.proofs.records.listed.recall_all.Goals as goal

abbrev Is : Id × Record → Type 0
Is d = IsRecord d.0 d.1

pub loop-id-preserved : goal.loop-id-preserved
loop-id-preserved c = All-more Is c.args.documents.now c.loop-id.id-index c.loop-id-item.result (omega arith) c.loop-id.invariant (subst Is c.loop-id-item.is c.recall_one.ensures)

pub returns : goal.returns
returns c = subst (All Is) (take_all c.loop-id.id-index c.args.documents.now (omega arith)) c.loop-id.invariant
