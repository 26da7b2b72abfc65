use Rattle.http_guard.proofs.Woven.{keeps-after, writes-after}
use Rattle.http_guard.proofs.extended.ExtendedSink.write.Goals as goal

pub returns-in_default-clause-bytes : goal.returns-in_default-clause-bytes
returns-in_default-clause-bytes g c =
    let cut = c.in_default.ensures.cut in
    keeps-after g.K.Start.lines c.in-Lines.at cut.0 _ _ _ _ _ c.in-Lines.is (cut.3 c.in-Lines.is) cut.1 cut.2

pub returns-in-Ok-clause-bytes : goal.returns-in-Ok-clause-bytes
returns-in-Ok-clause-bytes g c =
    let written = c.in-Ok.ensures.written in
    writes-after g.K.Start.lines c.in-Lines.at _ _ _ _ _ _ c.write_behind.result c.args.buf.now c.in-Lines.is written.1 written.0 c.write_behind.ensures.bytes
