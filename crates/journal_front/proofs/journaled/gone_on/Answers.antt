use Rattle.journal_front.proofs.Progress.{newest_by}
use Rattle.journal_front.proofs.journaled.gone_on.Goals as goal

pub publish-requires : goal.publish-requires
publish-requires g c = record {
  base = c.requires.base;
  extends = rw c.again-front.ensures.same c.requires.extends;
  longer = rw c.again-front.ensures.same c.requires.longer;
}

pub returns : goal.returns
returns g c = newest_by c.publish.result c.again-front.result c.publish.new.self c.args.version.now.entries c.if-not-publish.false c.publish.ensures.published
