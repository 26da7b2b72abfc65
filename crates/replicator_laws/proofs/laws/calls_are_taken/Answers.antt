use Rattle.replicator_laws.proofs.Takes.{call_taken}
use Rattle.replicator_laws.proofs.laws.calls_are_taken.Goals as goal

pub returns : goal.returns
returns c = call_taken c.segment_bytes.ensures
