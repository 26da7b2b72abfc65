use Rattle.std.proofs.Common.{◌∙◌, sym, subst}
use Rattle.std.specs.Prelude.{IfSome}
use Rattle.model.specs.Map.{from_list, same_key-equal}
use Rattle.model.specs.Revision.{revs}
use Rattle.revision_runs.specs.Runs.{RunMap, EndsAt}
use Rattle.revision_runs.proofs.Moving.{not_same}
use Rattle.revision_runs.proofs.Orders.{foot_none, foot_other, foot_found, foot_top}
use Rattle.revision_runs.proofs.runs.Runs.ending_at.Goals as goal

pub returns-in_default-clause-none : goal.returns-in_default-clause-none
returns-in_default-clause-none c = λ none top e.
    foot_none (from_list c.self.inside.by_top.entries) c.self.inside.feet.entries c.self.invariant.feet c.args.bottom (c.first_from.ensures.none c.in_default.is) top (subst (λ (m : RunMap). EndsAt m c.args.bottom top) (sym c.self.view_is) e)

pub returns-then-not-is_same-clause-none : goal.returns-then-not-is_same-clause-none
returns-then-not-is_same-clause-none c = λ none top e.
    foot_other (from_list c.self.inside.by_top.entries) c.self.inside.feet.entries c.self.invariant.feet c.args.bottom c.in-Some.foot c.in-Some.ensures.some
    (not_same c.in-Some.foot.bottom c.args.bottom (sym c.is_same.ensures ∙ c.if-not-is_same.true)) top (subst (λ (m : RunMap). EndsAt m c.args.bottom top) (sym c.self.view_is) e)

pub returns-clause-some : goal.returns-clause-some
returns-clause-some c =
    subst (λ (m : RunMap). IfSome c.in-Some.foot.top (λ top. EndsAt m c.args.bottom top)) c.self.view_is
    (foot_found (from_list c.self.inside.by_top.entries) c.self.inside.feet.entries c.self.invariant.feet c.args.bottom c.in-Some.foot c.in-Some.ensures.some
    (same_key-equal revs c.in-Some.foot.bottom c.args.bottom (sym c.is_same.ensures ∙ c.if-not-is_same.false)))

pub returns-clause-none : goal.returns-clause-none
returns-clause-none c = λ none top e. foot_top (from_list c.self.inside.by_top.entries) c.self.inside.feet.entries c.self.invariant.feet c.args.bottom c.in-Some.foot c.in-Some.ensures.some none
