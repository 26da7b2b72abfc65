use Rattle.std.proofs.Common.{length}
use mathlib.Core.List.{IsPrefix}
use Rattle.version_log.specs.Histories.{newest}
use Rattle.journal_front.proofs.Progress.{appended_more, when_false, when_true}
use Rattle.journal_front.proofs.journaled.Journaled.append.Goals as goal

pub returns-then-has_all : goal.returns-then-has_all
returns-then-has_all g c = when_true c.has_all.result _ _ c.if-has_all.true c.has_all.ensures

pub gone_on-requires : goal.gone_on-requires
gone_on-requires g c = record {
  base = c.requires.base;
  extends = rw c.self.view_is c.requires.extends;
  longer = rw c.self.view_is (when_false c.has_all.result _ _ c.if-has_all.false c.has_all.ensures);
}

pub invariant_of-self : goal.invariant_of-self
invariant_of-self g c =
    let more : IsPrefix (newest c.self.inside.journaled) c.args.version.now.entries = rw c.self.view_is c.requires.extends in
    rw c.in-Some.ensures (appended_more g.N.Keeping.is_appended g.N.Keeping.is_kept g.N.Keeping.is_limit c.self.inside.appended c.self.inside.kept c.self.inside.limit (newest c.self.inside.journaled) c.self.invariant
    c.args.version.now.entries c.place-self-inside.result more c.place-self-inside.ensures.place c.requires.appended)
