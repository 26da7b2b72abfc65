use Rattle.version_log.specs.Histories.{newest}
use Rattle.journal_front.proofs.Progress.{covered}
use Rattle.journal_front.proofs.journaled.JournaledProgress.covers.Goals as goal

pub returns : goal.returns
returns g c = record {
  shown = λ past.
      rw (← c.self.view_is) (covered g.N.Keeping.is_appended g.N.Keeping.is_kept g.N.Keeping.is_limit c.self.inside.appended c.self.inside.kept c.self.inside.limit (newest c.self.inside.journaled) c.self.invariant
      c.args.awaits c.args.place c.args.number (c.are_past.ensures.appended past) (c.are_past.ensures.limit past) (λ waits. c.are_past.ensures.kept past waits));
}
