use Rattle.std.proofs.Common.{◌≡◌, ◌+◌, ◌*◌, ◌≤◌, ◌++◌, length, take}
use Rattle.std.specs.List.{flat_map}
use Rattle.http_response.specs.Response.{next_listed}
use Rattle.http_response.proofs.head.push_more.Given as goal

-- the names so far are written, in no more room than each may take
abbrev pub invariant-loop-method : goal.invariant-loop-method
invariant-loop-method g l =
    (l.head.bytes ≡ l.fn.head.bytes ++ flat_map next_listed (take l.method-index l.methods))
    × (length l.head.bytes ≤ length l.fn.head.bytes + 8 * l.method-index)
