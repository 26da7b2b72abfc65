use Rattle.std.specs.Prelude.{Some, map}
use Rattle.model.specs.History.{now, successor}
use Rattle.machine.specs.Events.{event_of}
use Rattle.machine.proofs.Runs.{is_run}
use Rattle.machine.proofs.record.run_after.Goals as goal

pub returns : goal.returns
returns c = record {
  ran = is_run (Some (successor (now c.args.version.now))) c.args.config (map event_of c.args.events.now) c.in_ok-machine.machine c.step_all.new.machine c.into_record.result
      c.in_ok-machine.ensures.start c.in_ok-step_all.ensures.base c.in_ok-step_all.ensures.world c.into_record.ensures.version c.into_record.ensures.completed;
}
