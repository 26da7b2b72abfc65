use Rattle.job_queue.proofs.Moves.{begins}
use Rattle.job_queue.proofs.rule.open.Goals as goal

pub ruled-requires-clause-rule : goal.ruled-requires-clause-rule
ruled-requires-clause-rule c = begins
