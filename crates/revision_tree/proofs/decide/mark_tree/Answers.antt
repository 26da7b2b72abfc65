use Rattle.std.specs.Prelude.{◌≡◌, Contains, List, refl}
use Rattle.std.proofs.Common.{◌∙◌, ap, subst, sym}
use Rattle.std.proofs.lemmas.Bool.{true≢false}
use Rattle.model.specs.Tree.{IsTree, has_child}
use Rattle.revision_tree.specs.declared.node.Node.{Node}
use Rattle.revision_tree.specs.Nodes.{IsSorted, entries_of, tree_of}
use Rattle.revision_tree.proofs.Listed.{sorted_list, tree_of-list}
use Rattle.revision_tree.proofs.Marked.{IsSorted-marked, entries-marked_by, inner-marked}
use Rattle.revision_tree.proofs.Deciding.{range_of}
use Rattle.revision_tree.proofs.decide.mark_tree.Goals as goal

pub returns-then-not-ascend : goal.returns-then-not-ascend
returns-then-not-ascend c = record {
  entries = refl;
  nodes = λ e. absurd (true≢false (sym e));
  tree = λ t h. absurd (true≢false (sym (c.ascend.ensures.1 (sorted_list c.args.nodes.now t h.entries)) ∙ c.if-not-ascend.true));
}

pub mark-requires : goal.mark-requires
mark-requires c = c.ascend.ensures.0 c.if-not-ascend.false

pub are_rooted-requires : goal.are_rooted-requires
are_rooted-requires c =
    let nodes : List Node = c.args.nodes.now in
    let sorted : IsSorted nodes = c.ascend.ensures.0 c.if-not-ascend.false in
    record {
      sorted = subst IsSorted (sym c.mark.ensures) (IsSorted-marked (entries_of nodes) nodes sorted);
      inner = subst (λ (ns : List Node). (n : Node) → Contains ns n → n.inner ≡ has_child (tree_of ns) n.rev) (sym c.mark.ensures) (inner-marked nodes sorted);
      ranges = c.recall_all.ensures;
    }

pub returns : goal.returns
returns c =
    let nodes : List Node = c.args.nodes.now in
    let marked : List Node = c.mark.new.nodes in
    let sorted : IsSorted nodes = c.ascend.ensures.0 c.if-not-ascend.false in
    let rising : IsSorted marked = subst IsSorted (sym c.mark.ensures) (IsSorted-marked (entries_of nodes) nodes sorted) in
    let inner = subst (λ (ns : List Node). (n : Node) → Contains ns n → n.inner ≡ has_child (tree_of ns) n.rev) (sym c.mark.ensures) (inner-marked nodes sorted) in
    let same : entries_of marked ≡ entries_of nodes = ap entries_of c.mark.ensures ∙ entries-marked_by (entries_of nodes) nodes in
    record {
      entries = same;
      nodes = λ e. record { sorted = rising; inner = inner; tree = c.are_rooted.ensures.0 e; range = range_of marked rising c.recall_all.ensures };
      tree = λ t h. c.are_rooted.ensures.1 (subst IsTree (sym (tree_of-list marked t (h.entries ∙ sym same))) h.tree);
    }
