use Rattle.replicator_http.proofs.Queues.{one_added}
use Rattle.replicator_http.proofs.ahead.Ahead.add.Goals as goal

pub loop-asked-preserved : goal.loop-asked-preserved
loop-asked-preserved c = record {
  adds = one_added c.args.host.now c.args.self.now c.loop-asked.self c.add_next.new.self c.args.text.now.items c.loop-asked.text.items c.add_next.new.text.items
      c.loop-asked.invariant.adds c.in-Ok.ensures.adds;
  within = c.in-Ok.ensures.within;
}
