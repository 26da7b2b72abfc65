use Rattle.std.proofs.Common.{◌≡◌, ◌<◌, take}
use Rattle.http_framing.specs.Lines.{line_ends, line_limit}
use Rattle.http_framing.proofs.lines.lines_len.Given as goal

abbrev pub invariant-loop-at : goal.invariant-loop-at
invariant-loop-at l = (l.lines ≡ line_ends (take l.at l.bytes)) × (l.lines < line_limit)
