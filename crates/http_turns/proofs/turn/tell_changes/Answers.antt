use Rattle.std.proofs.Common.{refl}
use Rattle.http_turns.proofs.turn.tell_changes.Goals as goal

pub returns-in-Continuous : goal.returns-in-Continuous
returns-in-Continuous g c = λ request asks closes_is. (asks, c.in-Continuous.is, refl)
