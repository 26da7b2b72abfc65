use Rattle.std.proofs.Common.{subst}
use Rattle.model.specs.Map.{get}
use Rattle.model.specs.History.{now}
use Rattle.model.specs.Compaction.{Agrees}
use Rattle.compactor.specs.Copy.{CopyView}
use Rattle.compactor.proofs.Copies.{Agrees-copied}
use Rattle.compactor.proofs.compaction.Compaction.left.Goals as goal

pub returns-clause-agrees : goal.returns-clause-agrees
returns-clause-agrees c =
    subst (λ (v : CopyView). Agrees (get v.docs) v.marks (now v.seen)) c.self.view_is
    (Agrees-copied c.self.inside.seen c.self.inside.last c.self.inside.left c.self.inside.records (record { update = c.self.inside.update_mark; purge = c.self.inside.purge_mark }) c.self.invariant)
