use Rattle.streams.proofs.Both.{writes_then}
use Rattle.origin_policy.proofs.answers.write_two.Goals as goal

pub returns-clause-written : goal.returns-clause-written
returns-clause-written g c = writes_then _ _ _ _ _ _ c.in_ok-write_all.ensures.written.0 c.write_all-2.ensures.written
