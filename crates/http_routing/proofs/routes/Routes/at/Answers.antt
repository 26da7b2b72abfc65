use Rattle.std.proofs.Common.{arith}
use Rattle.http_routing.proofs.Table.{route_of-found}
use Rattle.http_routing.proofs.routes.Routes.at.Goals as goal

pub returns-in-Ok : goal.returns-in-Ok
returns-in-Ok c =
    route_of-found c.self.inside.router c.args.path.now _ c.self.invariant (λ i. omega (arith, c.type_inv.path i)) c.in-Ok.ensures.found

pub returns-in-Err : goal.returns-in-Err
returns-in-Err c =
    route_of-found c.self.inside.router c.args.path.now _ c.self.invariant (λ i. omega (arith, c.type_inv.path i)) c.in-Err.ensures.missing
