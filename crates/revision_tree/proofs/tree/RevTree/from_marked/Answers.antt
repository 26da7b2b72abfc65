use Rattle.std.proofs.Common.{sym, ap, subst}
use Rattle.std.specs.Prelude.{All}
use Rattle.revision_tree.specs.Notes.{HasOneLeaf}
use Rattle.revision_tree.specs.Nodes.{IsNodes, tree_of}
use Rattle.revision_tree.proofs.Kept.{IsOnly, one_listed}
use Rattle.revision_tree.proofs.tree.RevTree.from_marked.Goals as goal

pub notes_of-requires-clause-rows : goal.notes_of-requires-clause-rows
notes_of-requires-clause-rows c = record { nodes = subst IsNodes (sym c.in_ok-rows.ensures.nodes) c.requires; filled = c.in_ok-rows.ensures.filled }

pub notes_of-requires-clause-one : goal.notes_of-requires-clause-one
notes_of-requires-clause-one c = λ e.
    let nodes = c.args.nodes.items in
    let one = c.has_one_leaf-one_leaf.ensures e in
    subst (λ ns. HasOneLeaf (tree_of ns)) (sym c.in_ok-rows.ensures.nodes) (one_listed nodes c.requires one.0 (subst (All (IsOnly one.0)) c.deref.ensures.value one.1))

pub invariant_of-result : goal.invariant_of-result
invariant_of-result c = record {
  rows = record { nodes = subst IsNodes (sym c.in_ok-rows.ensures.nodes) c.requires; filled = c.in_ok-rows.ensures.filled };
  notes = c.in_ok-notes.ensures;
}

pub returns : goal.returns
returns c = ap tree_of c.in_ok-rows.ensures.nodes
