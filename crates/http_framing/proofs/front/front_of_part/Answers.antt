use Rattle.std.proofs.Common.{subst, arith}
use Rattle.httparse.specs.Grammar.{HasNoRequest, MayBecomeRequest}
use Rattle.http_framing.proofs.Heads.{head-part}
use Rattle.http_framing.proofs.FirstLines.{full_window, part_of_head, too_many_lines}
use Rattle.http_framing.proofs.front.front_of_part.Goals as goal

pub returns-then-bytes-ge-HEAD_LIMIT : goal.returns-then-bytes-ge-HEAD_LIMIT
returns-then-bytes-ge-HEAD_LIMIT c =
    full_window c.args.bytes.now c.if-bytes-ge-HEAD_LIMIT.true (subst HasNoRequest c.requires.window c.requires.none)
    (subst MayBecomeRequest c.requires.window c.requires.may)

pub returns-then-first_lines : goal.returns-then-first_lines
returns-then-first_lines c =
    let first = rw c.requires.window at c.first_lines.ensures in
    too_many_lines c.args.bytes.now first c.if-first_lines.true (subst HasNoRequest c.requires.window c.requires.none)
    (subst MayBecomeRequest c.requires.window c.requires.may)

pub returns : goal.returns
returns c =
    let first = rw c.requires.window at c.first_lines.ensures in
    head-part _ (part_of_head c.args.bytes.now first c.if-first_lines.false (omega (arith, c.if-bytes-ge-HEAD_LIMIT.false))
    (subst HasNoRequest c.requires.window c.requires.none) (subst MayBecomeRequest c.requires.window c.requires.may))
