use Rattle.std.proofs.Common.{◌≡◌, false}
use Rattle.model.specs.History.{Extends}
use Rattle.updater_state.specs.Callers.{risen}
use Rattle.sessions.specs.Compactions.{OnlyLooks, chronicle_of}
use Rattle.sessions.proofs.compacting.Session+Core+R+J+J+G.compact_with.Given as goal

-- each try was behind
abbrev pub invariant-loop-try : goal.invariant-loop-try
invariant-loop-try g l = record {
  looked : OnlyLooks g.J.Naming.base l.fn.self l.self;
  known : l.self.lost ≡ false;
  tried : l.self.tried ≡ risen l.fn.self.tried l._try;
  sliced : l.copy.left ≡ 0;
  follows : Extends (chronicle_of g.J.Naming.base l.self) l.copy.seen;
}
