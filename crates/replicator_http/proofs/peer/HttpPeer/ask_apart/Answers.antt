use Rattle.replicator_http.specs.Asked.{Fails, HasCome}
use Rattle.replicator_http.proofs.Asking.{err_after, ok_after}
use Rattle.replicator_http.proofs.peer.HttpPeer.ask_apart.Goals as goal

pub returns-clause-come : goal.returns-clause-come
returns-clause-come g c =
    ok_after (λ m s. HasCome c.args.request.now m c.ask_apart_now.new.self s) c.args.self.now c.drop_ahead.new.self c.ask_apart_now.result c.drop_ahead.ensures.happens c.ask_apart_now.ensures.come

pub returns-clause-fault : goal.returns-clause-fault
returns-clause-fault g c =
    err_after (λ m f. Fails c.args.request.now m c.ask_apart_now.new.self f) c.args.self.now c.drop_ahead.new.self c.ask_apart_now.result c.drop_ahead.ensures.happens c.ask_apart_now.ensures.fault
