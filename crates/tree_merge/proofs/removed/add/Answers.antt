use Rattle.std.proofs.Common.{◌∙◌, sym, subst}
use Rattle.tree_merge.specs.Seen.{AreSeen}
use Rattle.tree_merge.proofs.Writes.{is_added, AreSeen-push, untaken_of}
use Rattle.tree_merge.proofs.removed.add.Goals as goal

pub returns : goal.returns
returns c =
    let rs = c.args.leaves.now.items in
    let r = c.args.rev in
    let s = c.args.seen.now in
    let items = c.in_ok-push.ensures.items in
    record {
      leaves = items ∙ is_added c.args.tree.now rs r (sym c.is_leaf.ensures ∙ c.if-not-is_leaf.false) (untaken_of s rs r c.in_ok-added.added c.requires c.in_ok-added.ensures.added c.if-not-added.false);
      seen = subst (AreSeen c.insert.new.self) (sym items) (AreSeen-push s c.insert.new.self rs r c.in_ok-added.ensures.updates c.requires);
    }
