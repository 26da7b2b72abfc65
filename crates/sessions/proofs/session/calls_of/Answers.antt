use Rattle.std.proofs.Common.{arith, ap}
use Rattle.model.specs.Database.{Database, calls_of}
use Rattle.sessions.proofs.LastTold.{calls_told}
use Rattle.sessions.proofs.session.calls_of.Goals as goal

pub returns : goal.returns
returns c = omega (arith, c.calls_of.ensures, ap (λ (d : Database). calls_of d c.args.session) c.database.ensures, calls_told c.args.version.now c.args.session c.place-recalled.ensures.history.base.uncalled)
