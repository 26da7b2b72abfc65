use Rattle.std.proofs.Common.{◌∷◌, [], take, get_or, sym, subst, arith}
use Rattle.std.specs.Prelude.{All}
use Rattle.std.proofs.lemmas.List.{take_more, take_all}
use Rattle.std.proofs.lemmas.List.Elements.{All-append, All-cons, All-nil}
use Rattle.model.specs.Revision.{IsRev}
use Rattle.tree_merge.proofs.grafts.recall_revisions.Goals as goal

pub loop-rev-preserved : goal.loop-rev-preserved
loop-rev-preserved c =
    let path = c.args.path.now in
    let i = c.loop-rev.rev-index in
    let r = c.rev-item.result in
    let is : IsRev (get_or path i r) = subst IsRev c.rev-item.is c.generation-recalled.ensures.in_range in
    subst (All IsRev) (sym (take_more path i r c.loop-rev-test.true)) (All-append IsRev (take i path) (get_or path i r ∷ []) c.loop-rev.invariant (All-cons IsRev (get_or path i r) [] is (All-nil IsRev)))

pub returns : goal.returns
returns c = subst (All IsRev) (take_all c.loop-rev.rev-index c.args.path.now (omega (arith, c.loop-rev-test.false))) c.loop-rev.invariant
