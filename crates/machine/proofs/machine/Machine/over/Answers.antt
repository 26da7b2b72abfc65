use Rattle.std.proofs.Common.{ap}
use Rattle.model.specs.World.{Config}
use Rattle.machine.proofs.Starts.{start_of, start_machine}
use Rattle.machine.proofs.machine.Machine.over.Goals as goal

pub invariant_of-result : goal.invariant_of-result
invariant_of-result c =
    start_machine c.args.config c.args.version c.limits-limits.result.sessions c.new.result.items c.new-2.result.items c.in_ok-views.views.items c.new-3.result.items
    c.requires (ap (λ (l : Config). l.sessions) c.limits-limits.ensures.limits) c.in_ok-views.ensures c.new.ensures.items c.new-2.ensures.items c.new-3.ensures.items
    c.limits-limits.ensures.in_range

pub returns : goal.returns
returns c = record {
  start = start_of c.args.config c.args.version c.limits-limits.result.sessions c.new.result.items c.new-2.result.items c.in_ok-views.views.items c.new-3.result.items
      c.requires (ap (λ (l : Config). l.sessions) c.limits-limits.ensures.limits) c.in_ok-views.ensures c.new.ensures.items c.new-2.ensures.items c.new-3.ensures.items;
}
