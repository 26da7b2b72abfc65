use Rattle.std.proofs.Common.{ap, arith}
use Rattle.model.specs.Database.{Database, calls_of}
use Rattle.snapshots.specs.Version.{chronicle_of}
use Rattle.snapshots.proofs.Calls.{calls_of-few}
use Rattle.snapshots.proofs.version.Version.next_call.Goals as goal

pub overflow_add-result : goal.overflow_add-result
overflow_add-result c =
    let history = c.self.invariant.history in
    omega (arith, c.calls_of.ensures, ap (λ (d : Database). calls_of d c.args.session) c.self.invariant.replayed, calls_of-few (chronicle_of c.self.inside.base c.self.inside.history.values) history.base.uncalled c.args.session, history.few)
