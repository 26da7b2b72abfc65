use Rattle.std.proofs.Common.{take}
use Rattle.httparse.specs.Grammar.{AllPass}
use Rattle.httparse.specs.Pieces.{is_newline}
use Rattle.http_framing.proofs.lines.blank_len.Given as goal

abbrev pub invariant-loop-len : goal.invariant-loop-len
invariant-loop-len l = AllPass is_newline (take l.len l.bytes)
