use Rattle.std.proofs.Common.{ap, sym, subst, List, ℕ}
use Rattle.std.specs.Io.KnownBytes.{Appends}
use Rattle.std.proofs.KnownBytes.{Appends-nil}
use Rattle.http_guard.specs.Weaving.{lines_left}
use Rattle.http_guard.proofs.Woven.{writes-rest}
use Rattle.http_guard.proofs.extended.Extended.finish.Goals as goal

pub returns-in-InLine-clause-written : goal.returns-in-InLine-clause-written
returns-in-InLine-clause-written g c =
    writes-rest g.K.Start.lines _ _ _ 0 _ _ c.write_lines.result (ap (lines_left g.K.Start.lines) c.in-InLine.is) c.write_lines.ensures.written c.write_lines.ensures.cut

pub returns-in-Lines-clause-written : goal.returns-in-Lines-clause-written
returns-in-Lines-clause-written g c =
    writes-rest g.K.Start.lines _ _ _ c.in-Lines.at _ _ c.write_lines-in-Lines.result (ap (lines_left g.K.Start.lines) c.in-Lines.is) c.write_lines-in-Lines.ensures.written c.write_lines-in-Lines.ensures.cut

pub returns-in-Behind-clause-written : goal.returns-in-Behind-clause-written
returns-in-Behind-clause-written g c =
    let t = g.W.Sink.taken c.args.self.now.writer in
    (subst (λ (xs : List ℕ). Appends t t xs) (sym (ap (lines_left g.K.Start.lines) c.in-Behind.is)) (Appends-nil t), tt)
