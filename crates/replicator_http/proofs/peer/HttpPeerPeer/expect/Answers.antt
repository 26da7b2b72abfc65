use Rattle.replicator_http.specs.Goes.{Exchanged}
use Rattle.replicator_http.proofs.Asking.{after_both}
use Rattle.replicator_http.proofs.peer.HttpPeerPeer.expect.Goals as goal

pub returns-then-is_low-clause-goes : goal.returns-then-is_low-clause-goes
returns-then-is_low-clause-goes g c = λ call after went.
    after_both (λ mid. Exchanged call mid after) c.args.self.now c.write_ahead.new.self c.write_ahead.ensures.happens went
