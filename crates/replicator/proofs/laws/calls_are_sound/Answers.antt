use Rattle.replicator.proofs.Logs.{sound-calls, sound-end}
use Rattle.replicator.proofs.laws.calls_are_sound.Goals as goal

pub returns-clause-calls : goal.returns-clause-calls
returns-clause-calls g c = sound-calls g.S.Peer.goes g.T.Peer.goes

pub returns-clause-done : goal.returns-clause-done
returns-clause-done g c = sound-end g.S.Peer.goes g.T.Peer.goes
