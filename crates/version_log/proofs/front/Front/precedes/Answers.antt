use Rattle.std.proofs.Common.{ap, subst, List}
use mathlib.Core.List.{IsPrefix}
use Rattle.model.specs.Command.{Entry}
use Rattle.version_log.proofs.Growing.{precedes_by, newest_as}
use Rattle.version_log.proofs.front.Front.precedes.Goals as goal

pub returns-clause-published : goal.returns-clause-published
returns-clause-published g c =
    let both = c.learn.new.self.log in
    let this = subst (λ (l : List (List Entry)). IsPrefix l both) (ap (λ s. s.log) c.again-both.ensures) c.learn.ensures.2 in
    rw (← c.self.view_is, ← c.other.view_is) (precedes_by c.self.inside.seen.log c.other.inside.seen.log both _ _ c.self.invariant.0 c.other.invariant.0 this c.learn.ensures.3)

pub returns-clause-histories : goal.returns-clause-histories
returns-clause-histories g c =
    let both = c.learn.new.self.log in
    let this = subst (λ (l : List (List Entry)). IsPrefix l both) (ap (λ s. s.log) c.again-both.ensures) c.learn.ensures.2 in
    rw (← c.self.view_is, ← c.other.view_is) (newest_as g.J.Naming.base c.self.inside.seen.log c.other.inside.seen.log _ c.self.invariant.2 c.other.invariant.2
    (precedes_by c.self.inside.seen.log c.other.inside.seen.log both _ _ c.self.invariant.0 c.other.invariant.0 this c.learn.ensures.3))
