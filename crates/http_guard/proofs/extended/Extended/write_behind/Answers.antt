use Rattle.http_guard.proofs.Woven.{writes-behind}
use Rattle.http_guard.proofs.extended.Extended.write_behind.Goals as goal

pub returns-clause-bytes : goal.returns-clause-bytes
returns-clause-bytes g c = writes-behind g.K.Start.lines _ _ _ _ c.write.result c.args.buf.now c.requires.phase c.write.ensures.bytes
