use Rattle.std.proofs.Common.{refl}
use Rattle.http_workers.proofs.noticing.serve_noticed.Goals as goal

pub returns-in-Some-clause-serves : goal.returns-in-Some-clause-serves
returns-in-Some-clause-serves g c = c.serve_decided-writer.ensures.serves

pub returns-in-Some-clause-decided : goal.returns-in-Some-clause-decided
returns-in-Some-clause-decided g c = rw c.in-Some.is (_, _, refl, refl, c.serve_decided-writer.ensures.decided)

pub returns-in-None-clause-serves : goal.returns-in-None-clause-serves
returns-in-None-clause-serves g c = (_, record { before = _; after = _; connection = c.serve_in_log.ensures.connection })

pub returns-in-None-clause-decided : goal.returns-in-None-clause-decided
returns-in-None-clause-decided g c = rw c.in-None.is (_, _, refl, refl, c.serve_in_log.ensures.connection)
