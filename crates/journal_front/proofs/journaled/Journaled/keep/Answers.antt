use Rattle.version_log.specs.Histories.{newest}
use Rattle.journal_front.proofs.Progress.{kept_all}
use Rattle.journal_front.proofs.journaled.Journaled.keep.Goals as goal

pub invariant_of-self : goal.invariant_of-self
invariant_of-self g c =
    kept_all g.N.Keeping.is_appended g.N.Keeping.is_kept g.N.Keeping.is_limit c.self.inside.appended c.self.inside.kept c.self.inside.limit (newest c.self.inside.journaled) c.self.invariant
    c.args.limit (rw c.self.view_is c.requires.kept) (rw c.self.view_is c.requires.limit)
