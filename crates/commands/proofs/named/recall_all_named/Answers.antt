use Rattle.std.proofs.Common.{All, arith, subst}
use Rattle.std.proofs.lemmas.List.{take_all}
use Rattle.model.specs.Command.{NamesRevs}
use Rattle.commands.proofs.Steps.{All_next}
use Rattle.commands.proofs.named.recall_all_named.Goals as goal

pub loop-document-preserved : goal.loop-document-preserved
loop-document-preserved c =
    All_next NamesRevs c.args.documents.now c.loop-document.document-index c.document-item.result (omega arith) c.document-item.is c.loop-document.invariant c.recall_ranges.ensures.in_range

pub returns : goal.returns
returns c = record { in_range = subst (All NamesRevs) (take_all c.loop-document.document-index c.args.documents.now (omega arith)) c.loop-document.invariant }
