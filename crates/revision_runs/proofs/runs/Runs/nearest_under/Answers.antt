use Rattle.std.proofs.Common.{◌∙◌, sym, subst}
use Rattle.std.specs.Prelude.{IfSome}
use Rattle.model.specs.Map.{from_list, same_key-equal}
use Rattle.model.specs.Revision.{revs}
use Rattle.revision_runs.specs.Runs.{RunMap, HangsUnder, IsNearestUnder}
use Rattle.revision_runs.proofs.Moving.{not_same}
use Rattle.revision_runs.proofs.Orders.{hung_none, hung_other, hung_found, hung_top}
use Rattle.revision_runs.proofs.runs.Runs.nearest_under.Goals as goal

pub returns-in_default-clause-none : goal.returns-in_default-clause-none
returns-in_default-clause-none c = λ none top e.
    hung_none (from_list c.self.inside.by_top.entries) c.self.inside.hung.entries c.self.invariant.hung c.args.fork (c.first_from.ensures.none c.in_default.is) top (subst (λ (m : RunMap). HangsUnder m c.args.fork top) (sym c.self.view_is) e)

pub returns-then-not-is_same-clause-none : goal.returns-then-not-is_same-clause-none
returns-then-not-is_same-clause-none c = λ none top e.
    hung_other (from_list c.self.inside.by_top.entries) c.self.inside.hung.entries c.self.invariant.hung c.args.fork c.in-Some.hung c.in-Some.ensures.some
    (not_same c.in-Some.hung.fork c.args.fork (sym c.is_same.ensures ∙ c.if-not-is_same.true)) top (subst (λ (m : RunMap). HangsUnder m c.args.fork top) (sym c.self.view_is) e)

pub returns-clause-some : goal.returns-clause-some
returns-clause-some c =
    subst (λ (m : RunMap). IfSome c.in-Some.hung.top (λ top. IsNearestUnder m c.args.fork top)) c.self.view_is
    (hung_found (from_list c.self.inside.by_top.entries) c.self.inside.hung.entries c.self.invariant.hung c.args.fork c.in-Some.hung c.in-Some.ensures.some
    (same_key-equal revs c.in-Some.hung.fork c.args.fork (sym c.is_same.ensures ∙ c.if-not-is_same.false)))

pub returns-clause-none : goal.returns-clause-none
returns-clause-none c = λ none top e. hung_top (from_list c.self.inside.by_top.entries) c.self.inside.hung.entries c.self.invariant.hung c.args.fork c.in-Some.hung c.in-Some.ensures.some none
