use Rattle.std.specs.Prelude.{None}
use Rattle.machine.proofs.Starts.{start_over}
use Rattle.machine.proofs.machine.Machine.new.Goals as goal

pub returns : goal.returns
returns c = record { start = start_over c.over.result None c.args.config c.empty-begun.result c.empty-begun.ensures c.over.ensures.start }
