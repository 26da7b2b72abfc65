use Rattle.std.proofs.Common.{◌≡◌, take}
use Rattle.http_routing.specs.Rows.{rows_of}
use Rattle.http_routing.proofs.routes.router_of.Given as goal

abbrev pub invariant-loop-path : goal.invariant-loop-path
invariant-loop-path l = l.router ≡ rows_of (take l.path-index l.paths)
