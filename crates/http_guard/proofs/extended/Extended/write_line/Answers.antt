use Rattle.std.proofs.Common.{ap, length, arith, subst, sym, List, ℕ, ◌<◌}
use Rattle.http_guard.proofs.FirstLines.{first_line-some, first_line-within}
use Rattle.http_guard.proofs.Woven.{known-keeps, writes-in_line, writes-line}
use Rattle.http_guard.proofs.extended.Extended.write_line.Goals as goal

pub write-requires : goal.write-requires
write-requires g c = subst (λ (xs : List ℕ). 0 < length xs) (sym c.up_to_line_feed-line.ensures) (first_line-some c.args.buf.now c.requires.some)

pub returns-in_default-clause-bytes : goal.returns-in_default-clause-bytes
returns-in_default-clause-bytes g c = known-keeps g.K.Start.lines _ _ _ _ c.in_default.ensures.bytes

pub returns-then-line-taken-eq10-clause-within : goal.returns-then-line-taken-eq10-clause-within
returns-then-line-taken-eq10-clause-within g c =
    omega (arith, c.in-Ok.ensures.within, ap length c.up_to_line_feed-line.ensures, first_line-within c.args.buf.now)

pub returns-then-line-taken-eq10-clause-bytes : goal.returns-then-line-taken-eq10-clause-bytes
returns-then-line-taken-eq10-clause-bytes g c =
    writes-line g.K.Start.lines _ _ _ _ c.args.buf.now _ c.in-Ok.taken c.requires.phase c.up_to_line_feed-line.ensures c.in-Ok.ensures.some c.in-Ok.ensures.within c.if-line-taken-eq10.true c.in-Ok.ensures.bytes

pub returns-else-line-taken-eq10-clause-within : goal.returns-else-line-taken-eq10-clause-within
returns-else-line-taken-eq10-clause-within g c =
    omega (arith, c.in-Ok.ensures.within, ap length c.up_to_line_feed-line.ensures, first_line-within c.args.buf.now)

pub returns-else-line-taken-eq10-clause-bytes : goal.returns-else-line-taken-eq10-clause-bytes
returns-else-line-taken-eq10-clause-bytes g c =
    writes-in_line g.K.Start.lines _ _ _ _ c.args.buf.now _ c.in-Ok.taken c.requires.phase c.up_to_line_feed-line.ensures c.in-Ok.ensures.some c.in-Ok.ensures.within c.if-line-taken-eq10.false c.in-Ok.ensures.bytes
