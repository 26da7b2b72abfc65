use Rattle.std.proofs.Common.{◌∙◌, ap, subst}
use Rattle.model.specs.Map.{from_list, get}
use Rattle.revision_runs.specs.Runs.{RunMap, IsDeepest}
use Rattle.revision_runs.proofs.Orders.{deep_none, deep_some}
use Rattle.revision_runs.proofs.runs.Runs.deepest.Goals as goal

pub returns-in_default-clause-none : goal.returns-in_default-clause-none
returns-in_default-clause-none c = λ none top run is.
    deep_none (from_list c.self.inside.by_top.entries) c.self.inside.deep.entries c.self.invariant.deep (c.first.ensures.none c.in_default.is) top run (ap (λ (m : RunMap). get m top) c.self.view_is ∙ is)

pub returns-clause-some : goal.returns-clause-some
returns-clause-some c =
    subst (λ (m : RunMap). IsDeepest m c.in-Some.deep.top) c.self.view_is
    (deep_some (from_list c.self.inside.by_top.entries) c.self.inside.deep.entries c.self.invariant.deep c.in-Some.deep c.in-Some.ensures.some)
