use Rattle.durable_calls.proofs.Begins.{begins_itself, begins_then}
use Rattle.durable_calls.proofs.kept_place.KeptPlace.wait_until_shown.Goals as goal

pub loop-init : goal.loop-init
loop-init g c = begins_itself (g.G.Progress.journaled c.args.known.now)

pub loop-preserved : goal.loop-preserved
loop-preserved g c =
    begins_then (g.G.Progress.journaled c.args.known.now) (g.G.Progress.journaled c.loop.known) (g.G.Progress.journaled c.wait_for.new.known) c.loop.invariant c.wait_for.ensures.learns

pub returns-in-Ok-clause-learns : goal.returns-in-Ok-clause-learns
returns-in-Ok-clause-learns g c =
    begins_then (g.G.Progress.journaled c.args.known.now) (g.G.Progress.journaled c.loop.known) (g.G.Progress.journaled c.wait_for.new.known) c.loop.invariant c.wait_for.ensures.learns

pub returns-in-Err-Failed-clause-learns : goal.returns-in-Err-Failed-clause-learns
returns-in-Err-Failed-clause-learns g c =
    begins_then (g.G.Progress.journaled c.args.known.now) (g.G.Progress.journaled c.loop.known) (g.G.Progress.journaled c.wait_for.new.known) c.loop.invariant c.wait_for.ensures.learns
