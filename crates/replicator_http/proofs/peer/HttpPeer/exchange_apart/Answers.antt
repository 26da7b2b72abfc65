use Rattle.replicator_http.proofs.Asking.{come_then, fails_cut, fails_unread, put_now}
use Rattle.replicator_http.proofs.peer.HttpPeer.exchange_apart.Goals as goal

pub returns-in_default-clause-fault : goal.returns-in_default-clause-fault
returns-in_default-clause-fault g c =
    fails_cut c.args.request.now c.args.self.now c.write_apart.new.self c.fail.new.self c.fail.result c.requires.none c.in_default.ensures.cut
    c.fail.ensures.rest c.fail.ensures.failed

pub returns-in-Ok-read-clause-come : goal.returns-in-Ok-read-clause-come
returns-in-Ok-read-clause-come g c =
    come_then c.args.request.now c.args.self.now c.write_apart.new.self c.read.new.self c.in-Ok-read.spans c.requires.is_open
    (put_now c.args.request.now c.args.self.now c.write_apart.new.self c.requires.none c.in-Ok.ensures.written) c.in-Ok-read.ensures.reads

pub returns-in-Err-clause-fault : goal.returns-in-Err-clause-fault
returns-in-Err-clause-fault g c =
    fails_unread c.args.request.now c.args.self.now c.write_apart.new.self c.read.new.self c.fault.new.self c.in-Err.fault c.fault.result c.requires.is_open
    (put_now c.args.request.now c.args.self.now c.write_apart.new.self c.requires.none c.in-Ok.ensures.written) c.in-Err.ensures.reads
    c.fault.ensures.rest c.fault.ensures.fault
