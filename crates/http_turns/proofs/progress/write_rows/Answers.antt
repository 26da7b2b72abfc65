use Rattle.std.proofs.Common.{◌≤◌, ◌∙◌, arith}
use Rattle.http_turns.proofs.RowTexts.{next_cut, next_written}
use Rattle.http_turns.proofs.progress.write_rows.Goals as goal

pub loop-at-preserved : goal.loop-at-preserved
loop-at-preserved g c =
    let rows = c.args.rows.now in
    let at = c.loop-at.at in
    let end = c.min-end.result in
    let inv = c.loop-at.invariant in
    let le : at ≤ end = omega arith in (
      omega arith,
      next_written rows at end le _ _ _ c.as_bytes.result.now inv.1 (c.as_bytes.ensures.value ∙ c.in-Ok.ensures) c.in-Ok-write_next.ensures.written.0,
      c.in-Ok-write_next.ensures.failures.0 ∙ inv.2,
    )

pub returns-in_default-write_next-clause-written : goal.returns-in_default-write_next-clause-written
returns-in_default-write_next-clause-written g c =
    let rows = c.args.rows.now in
    let at = c.loop-at.at in
    let end = c.min-end.result in
    let le : at ≤ end = omega arith in
    next_cut rows at end le _ _ _ c.as_bytes.result.now c.loop-at.invariant.1 (c.as_bytes.ensures.value ∙ c.in-Ok.ensures) c.in_default-write_next.ensures.written.1
