-- The nodes are those of the tree, and its leaves are known.
use Rattle.std.specs.Prelude.{◌≡◌, true, All, map}
use Rattle.std.proofs.Common.{sym, ap, subst, ◌∙◌}
use Rattle.model.specs.Revision.{Rev}
use Rattle.model.specs.Tree.{knows, leaves, revs_of}
use Rattle.revision_tree.specs.Nodes.{IsListOf, tree_of}
use Rattle.revision_tree.proofs.Listed.{tree_of-list}
use Rattle.changes_feed.specs.Latest.{first_above}
use Rattle.changes_feed.proofs.FirstPlaces.{list_itself}
use Rattle.changes_feed.proofs.Claimed.{all_known}
use Rattle.changes_feed.proofs.claims.claimed_leaves.Goals as goal

pub firsts-requires : goal.firsts-requires
firsts-requires c = subst (λ ns. IsListOf ns (tree_of ns)) (sym c.deref.ensures.value) (list_itself c.in_ok-nodes.nodes.items c.args.tree.now c.in_ok-nodes.ensures)

pub with_places-requires-clause-listed : goal.with_places-requires-clause-listed
with_places-requires-clause-listed c = subst (λ ns. IsListOf ns (tree_of ns)) (sym c.deref-2.ensures.value) (list_itself c.in_ok-nodes.nodes.items c.args.tree.now c.in_ok-nodes.ensures)

pub with_places-requires-clause-known : goal.with_places-requires-clause-known
with_places-requires-clause-known c =
    let t = c.args.tree.now in
    let h = c.in_ok-nodes.ensures in
    let same : tree_of c.deref-2.result.now ≡ t = ap tree_of c.deref-2.ensures.value ∙ tree_of-list c.in_ok-nodes.nodes.items t h.entries in
    subst (λ ls. All (λ l. knows (tree_of c.deref-2.result.now) l ≡ true) ls) (sym (c.deref-4.ensures.value ∙ c.in_ok-leaves.ensures))
    (subst (λ s. All (λ l. knows s l ≡ true) (revs_of (leaves t))) (sym same) (all_known t h.tree.forest))

pub returns : goal.returns
returns c =
    let t = c.args.tree.now in
    let revs = c.args.revs.now in
    let same : tree_of c.deref.result.now ≡ t = ap tree_of c.deref.ensures.value ∙ tree_of-list c.in_ok-nodes.nodes.items t c.in_ok-nodes.ensures.entries in
    let nodes = c.deref.ensures.value ∙ sym c.deref-2.ensures.value in
    c.in_ok-placed.ensures (first_above revs t) (c.deref-3.ensures.value ∙ c.in_ok-firsts.ensures ∙ (λ i. map (λ n. first_above revs (same i) n.rev) (nodes i)))
    ∙ ap (map (λ (l : Rev). (l, first_above revs t l))) (c.deref-4.ensures.value ∙ c.in_ok-leaves.ensures)
