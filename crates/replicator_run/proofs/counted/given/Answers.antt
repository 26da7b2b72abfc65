use Rattle.std.proofs.Common.{arith}
use Rattle.replicator_run.proofs.Given.{given-more}
use Rattle.replicator_run.proofs.counted.given.Goals as goal

pub loop-revision-preserved : goal.loop-revision-preserved
loop-revision-preserved c =
    let inv = c.loop-revision.invariant in
    let more = given-more c.args.revisions.now c.loop-revision.revision-index c.revision-item.result (omega arith) c.revision-item.is in
    record {
      given = omega (arith, more, inv.given, c.documents_in-given.ensures.documents);
      within = omega (arith, inv.within, c.documents_in-given.ensures.one);
    }
