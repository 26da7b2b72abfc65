use Rattle.journal_front.proofs.journaled.JournaledProgress.again.Goals as goal

pub invariant_of-result : goal.invariant_of-result
invariant_of-result g c = rw c.again.ensures.same c.self.invariant

pub returns : goal.returns
returns g c = record { same = rw c.again.ensures.same c.self.view_is }
