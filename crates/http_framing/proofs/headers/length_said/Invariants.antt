use Rattle.std.proofs.Common.{◌≡◌, ◌≤◌, take}
use Rattle.std.specs.Str.Parse.{digits_value}
use Rattle.http_framing.specs.Body.{body_limit}
use Rattle.http_framing.proofs.headers.length_said.Given as goal

abbrev pub invariant-loop-b : goal.invariant-loop-b
invariant-loop-b l = (l.len ≡ digits_value 10 (take l.b-index l.value)) × (l.len ≤ body_limit)
