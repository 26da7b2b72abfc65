use Rattle.std.proofs.Common.{nat_lt, ap}
use Rattle.http_turns.proofs.waiting.has_changes.Goals as goal

pub returns : goal.returns
returns g c = ap (nat_lt 0) c.count_changes.ensures.count
