use Rattle.std.proofs.Common.{◌∙◌, ap, length, arith, length-drop}
use Rattle.streams.proofs.Pieces.{Appends-more, take-rest}
use Rattle.streams.proofs.writes.write_all.Goals as goal

pub loop-at-preserved : goal.loop-at-preserved
loop-at-preserved g c = (
  omega (arith, c.in_ok-at.ensures.within, ap length (take-rest c.args.bytes.now c.loop-at.at), length-drop c.loop-at.at c.args.bytes.now),
  Appends-more _ _ _ c.args.bytes.now c.loop-at.at c.in_ok-at.field-0 c.loop-at.invariant.1 c.in_ok-at.ensures.bytes,
  c.in_ok-at.ensures.failures.0 ∙ c.loop-at.invariant.2,
)
