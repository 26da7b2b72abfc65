use Rattle.std.proofs.Common.{◌≡◌, [], ◌∷◌, ◌++◌, sym, subst}
use Rattle.std.specs.FinMap.Entries.{put}
use Rattle.std.proofs.lemmas.Result.{IfOk-weaker}
use Rattle.revision_tree.specs.Ranks.{AreOuter, rank_cmp}
use Rattle.revision_tree.proofs.Outer.{outer_inner, outer_leaf}
use Rattle.revision_tree.proofs.noted.with_leaf.Goals as goal

pub returns-then-node : goal.returns-then-node
returns-then-node c = λ ns h. outer_inner ns c.args.node.now c.args.leaves.entries h c.if-node.true

pub returns : goal.returns
returns c = λ ns h.
    let n = c.args.node.now in
    let es = c.args.leaves.entries in
    IfOk-weaker c.into_with.result (λ m. m.entries ≡ put rank_cmp (record { deleted = n.deleted; rev = n.rev }) tt es) (λ m. AreOuter (ns ++ n ∷ []) m.entries)
    (λ m e. subst (AreOuter (ns ++ n ∷ [])) (sym e) (outer_leaf ns n es h c.if-node.false)) c.into_with.ensures.entries
