use Rattle.version_log.specs.Histories.{newest}
use Rattle.journal_front.proofs.Progress.{all_or_more}
use Rattle.journal_front.proofs.journaled.Journaled.has_all.Goals as goal

pub returns : goal.returns
returns g c =
    rw (← c.self.view_is) (all_or_more (newest c.self.inside.journaled) c.args.version.now.entries c.self.inside.appended c.place.result c.self.invariant.count c.place.ensures.place (rw c.self.view_is c.requires.extends))
