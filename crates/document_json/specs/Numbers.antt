-- Numbers from 1.
use Rattle.std.specs.Prelude.{ℕ, ◌&&◌, Option, Some, None, nat_lt, nat_le, if◌then◌else◌}

-- the number, from 1 to the last
abbrev pub from_one : ℕ → ℕ → Option ℕ
from_one last n = if nat_lt 0 n && nat_le n last then Some n else None
