use Rattle.replicator_http.proofs.Asking.{dropped_read, dropped_unread}
use Rattle.replicator_http.proofs.peer.HttpPeer.drop_next.Goals as goal

pub returns-in-Ok-clause-happens : goal.returns-in-Ok-clause-happens
returns-in-Ok-clause-happens g c =
    dropped_read c.args.self.now c.pop.new.self c.read.new.self c.take.new.self c.in-Ok.spans c.requires.is_open c.requires.some c.pop.ensures
    c.in-Ok.ensures.reads c.take.ensures

pub returns-in-Err-clause-happens : goal.returns-in-Err-clause-happens
returns-in-Err-clause-happens g c =
    dropped_unread c.args.self.now c.pop.new.self c.read.new.self c.in-Err.field-0 c.requires.is_open c.requires.some c.pop.ensures c.in-Err.ensures.reads
