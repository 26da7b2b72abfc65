use Rattle.std.proofs.Common.{◌≡◌, drop}
use Rattle.std.specs.Prelude.{map}
use Rattle.model.specs.History.{base_of}
use Rattle.model.specs.World as model
use Rattle.machine.specs.Events.{event_of}
use Rattle.machine.proofs.record.step_all.Given as goal

-- the rest of the events makes of the machine what all make of it as it was
abbrev pub invariant-loop-event : goal.invariant-loop-event
invariant-loop-event l = record {
  base : l.machine.base ≡ l.initial.machine.base;
  config : l.machine.config ≡ l.initial.machine.config;
  world : model.run (base_of l.initial.machine.base) l.initial.machine.config l.machine.world (map event_of (drop l.event-index l.events)) ≡ model.run (base_of l.initial.machine.base) l.initial.machine.config l.initial.machine.world (map event_of l.events);
}
