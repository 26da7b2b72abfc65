use Rattle.http_routing.proofs.EmptySegments.{route_of-empty}
use Rattle.http_routing.proofs.routes.empty_segments.Goals as goal

pub returns : goal.returns
returns c = route_of-empty
