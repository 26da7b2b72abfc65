use Rattle.std.proofs.Common.{ap}
use Rattle.version_log.specs.Histories.{newest}
use Rattle.journal_front.proofs.Progress.{none_yet}
use Rattle.journal_front.proofs.journaled.Journaled.new.Goals as goal

pub invariant_of-result : goal.invariant_of-result
invariant_of-result g c = none_yet g.N.Keeping.is_appended g.N.Keeping.is_kept g.N.Keeping.is_limit c.args.limit (newest c.args.journaled) (ap newest c.requires.none) c.requires.limit
