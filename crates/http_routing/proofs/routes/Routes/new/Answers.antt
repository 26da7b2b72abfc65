use Rattle.matchit.proofs.OnLiterals.{matchit_on_literals}
use Rattle.http_routing.proofs.routes.Routes.new.Goals as goal

pub invariant_of-result : goal.invariant_of-result
unfolding matchit_on_literals
invariant_of-result c = c.in_ok-router.ensures
