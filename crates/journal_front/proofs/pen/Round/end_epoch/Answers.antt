use Rattle.std.proofs.Common.{arith}
use Rattle.journal_front.proofs.Keeping.{all_accounted}
use Rattle.journal_front.proofs.pen.Round.end_epoch.Goals as goal

pub sync_all-requires-clause-account : goal.sync_all-requires-clause-account
sync_all-requires-clause-account g c =
    all_accounted g.N.Naming.base (g.K.Viewer.known c.self.inside.session) c.self.inside.account c.place-seen.result c.self.invariant.1 (omega (arith, c.places.ensures)) c.place-seen.ensures.place
