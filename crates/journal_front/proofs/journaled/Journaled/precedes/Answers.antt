use Rattle.journal_front.proofs.Progress.{when_true}
use Rattle.journal_front.proofs.journaled.Journaled.precedes.Goals as goal

pub returns : goal.returns
returns g c = λ is. rw (← c.self.view_is, ← c.other.view_is) (when_true c.precedes.result _ _ is c.precedes.ensures.histories)
