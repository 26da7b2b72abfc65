use Rattle.std.proofs.Common.{◌≡◌, false}
use Rattle.sessions.specs.Calls.{Looks}
use Rattle.sessions.proofs.session.Session.wait_more.Given as goal

-- it has looked as often as there were turns
abbrev pub invariant-loop-turn : goal.invariant-loop-turn
invariant-loop-turn g l = record {
  looked : Looks g.J.Naming.base l.fn.self l.self;
  known : l.self.lost ≡ false;
  counted : l.self.waited ≡ l.turn;
}
