use Rattle.std.proofs.Common.{◌≡◌, ◌∷◌, [], ◌++◌, true, Some, sym, ap, ◌∙◌, subst, append_assoc}
use Rattle.std.specs.Prelude.{IfSome}
use Rattle.model.specs.Tree.{ancestors, knows}
use Rattle.model.proofs.AncestorLaws.{ancestors-Some}
use Rattle.revision_tree.specs.Nodes.{tree_of}
use Rattle.revision_tree.specs.Rows.{nodes_of}
use Rattle.revision_tree.proofs.Places.{climbs, knows_parent}
use Rattle.revision_tree.proofs.search.path_from.Goals as goal

pub loop-next-smaller : goal.loop-next-smaller
loop-next-smaller c =
    let t = tree_of (nodes_of c.args.rows.now) in
    let known : knows t c.in-Some.rev ≡ true = subst (λ o. IfSome o (λ r. knows t r ≡ true)) c.in-Some.is c.loop-next.invariant.known in
    rw c.in-Some.is (climbs t c.in-Some.rev c.parent_in-next.result c.requires.rows.nodes.tree known (sym c.parent_in-next.ensures))

pub loop-next-preserved : goal.loop-next-preserved
loop-next-preserved c =
    let t = tree_of (nodes_of c.args.rows.now) in
    let r = c.in-Some.rev in
    let known : knows t r ≡ true = subst (λ o. IfSome o (λ r. knows t r ≡ true)) c.in-Some.is c.loop-next.invariant.known in
    let next = c.parent_in-next.result in
    let step : ancestors t (Some r) ≡ r ∷ ancestors t next = ancestors-Some t c.requires.rows.nodes.tree.forest r known ∙ ap (λ o. r ∷ ancestors t o) (sym c.parent_in-next.ensures) in
    let before : c.loop-next.path.items ++ ancestors t (Some r) ≡ ancestors t (Some c.args.rev) = subst (λ o. c.loop-next.path.items ++ ancestors t o ≡ ancestors t (Some c.args.rev)) c.in-Some.is c.loop-next.invariant.walked in
    record {
      walked = ap (λ p. p ++ ancestors t next) c.in_ok-push.ensures.items ∙ append_assoc c.loop-next.path.items (r ∷ []) (ancestors t next) ∙ ap (λ p. c.loop-next.path.items ++ p) (sym step) ∙ before;
      known = knows_parent t r next c.requires.rows.nodes.tree (sym c.parent_in-next.ensures);
    }
