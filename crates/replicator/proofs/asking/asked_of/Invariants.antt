use Rattle.std.proofs.Common.{take}
use Rattle.std.specs.List.{fold}
use Rattle.model.specs.Command.{names}
use Rattle.model.specs.Map.{empty}
use Rattle.replicator.specs.Asked.{with_row}
use Rattle.replicator.specs.Gathered.{Holds}
use Rattle.replicator.proofs.asking.asked_of.Given as goal

abbrev pub invariant-loop-row : goal.invariant-loop-row
invariant-loop-row l = Holds l.asked (fold with_row (empty {O = names}) (take l.row-index l.rows))
