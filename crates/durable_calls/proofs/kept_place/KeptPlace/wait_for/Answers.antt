use Rattle.durable_calls.proofs.Begins.{begins_itself}
use Rattle.durable_calls.proofs.kept_place.KeptPlace.wait_for.Goals as goal

pub returns-in_err-wait_by_passes-clause-learns : goal.returns-in_err-wait_by_passes-clause-learns
returns-in_err-wait_by_passes-clause-learns g c = begins_itself (g.G.Progress.journaled c.args.known.now)
