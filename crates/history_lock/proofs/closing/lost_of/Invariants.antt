use Rattle.std.proofs.Common.{◌≡◌, ◌≤◌, map, filter, take, length, vec_capacity}
use Rattle.std.specs.List.{All}
use Rattle.version_log.specs.Histories.{newest}
use Rattle.sessions.specs.Known.{Known}
use Rattle.sessions.specs.Ends.{is_lost, IsExact}
use Rattle.history_lock.proofs.closing.lost_of.Given as goal

abbrev pub invariant-loop-end : goal.invariant-loop-end
invariant-loop-end g l = (l.lost.items ≡ map (λ (k : Known). k.number) (filter (is_lost (newest l.last)) (take l.end-index l.ended))) × All (IsExact (newest l.last)) (take l.end-index l.ended)
    × (length l.lost.items ≤ l.end-index) × (vec_capacity l.lost ≡ vec_capacity l.fn.lost)
