use Rattle.std.proofs.Common.{take}
use Rattle.httparse.specs.Grammar.{AllPass}
use Rattle.http_framing.specs.Target.{is_other}
use Rattle.http_framing.proofs.target.len_before_space.Given as goal

abbrev pub invariant-loop-len : goal.invariant-loop-len
invariant-loop-len l = AllPass is_other (take l.len l.bytes)
