use Rattle.std.proofs.Common.{◌∙◌, sym}
use Rattle.replicator_http.proofs.Asking.{wrote_ahead}
use Rattle.replicator_http.proofs.peer.HttpPeer.write_ahead.Goals as goal

pub returns-clause-happens : goal.returns-clause-happens
returns-clause-happens g c =
    wrote_ahead c.args.self.now c.add_ahead-text.new.self c.write-written.new.self c.add_ahead-text.result.items c.as_slice.result.now
    c.write-written.result (sym c.state.ensures ∙ c.in-Open.is) c.add_ahead-text.ensures.adds c.add_ahead-text.ensures.within c.as_slice.ensures.value
    c.write-written.ensures.written c.write-written.ensures.cut
