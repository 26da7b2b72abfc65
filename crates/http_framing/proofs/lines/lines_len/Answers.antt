use Rattle.std.proofs.Common.{arith, ◌∙◌}
use Rattle.http_framing.proofs.LineEnds.{one_more_end, no_more_end, ended_here}
use Rattle.http_framing.proofs.lines.lines_len.Goals.{then-b-eq10+else-lines-eq-LINE_LIMIT, else-b-eq10}
use Rattle.http_framing.proofs.lines.lines_len.Goals as goal

pub returns-then-lines-eq-LINE_LIMIT : goal.returns-then-lines-eq-LINE_LIMIT
returns-then-lines-eq-LINE_LIMIT c =
    let one = one_more_end c.args.bytes.now c.loop-at.at c.loop-at.lines (omega arith) c.if-b-eq10.true c.loop-at.invariant.0 in
    (omega arith, omega (arith, one), ended_here c.args.bytes.now c.loop-at.at (omega arith) c.if-b-eq10.true)

pub loop-at-preserved : goal.loop-at-preserved
loop-at-preserved c = elim c.if-b-eq10.branch [
  | then-b-eq10+else-lines-eq-LINE_LIMIT w ↦
      let one = one_more_end c.args.bytes.now c.loop-at.at c.loop-at.lines (omega arith) w.if-b-eq10.true c.loop-at.invariant.0 in
      (w.lines-is ∙ one, omega (arith, w.lines-is))
  | else-b-eq10 w ↦
      (w.lines-is ∙ no_more_end c.args.bytes.now c.loop-at.at c.loop-at.lines (omega arith) w.if-b-eq10.false c.loop-at.invariant.0, omega (arith, w.lines-is))
]
