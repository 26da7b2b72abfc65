use Rattle.std.specs.Prelude.{◌≡◌, List, Some, length}
use Rattle.std.proofs.Common.{◌∙◌, ap, arith, subst, sym}
use Rattle.std.proofs.Math.ListN.{length-map}
use Rattle.std.proofs.lemmas.Bool.{true≢false}
use Rattle.std.proofs.lemmas.List.{with_items_is}
use Rattle.std.proofs.lemmas.Option.{none-some, same_Some}
use Rattle.revision_tree.specs.declared.node.Node.{Node}
use Rattle.revision_tree.specs.Nodes.{IsListOf, IsNodes, entry_of, entries_of, tree_of}
use Rattle.revision_tree.proofs.Listed.{tree_of-list}
use Rattle.revision_tree.proofs.Deciding.{list_of_marked}
use Rattle.revision_tree.proofs.tree.RevTree.from_list.Goals as goal

pub returns-then-not-mark_tree : goal.returns-then-not-mark_tree
returns-then-not-mark_tree c = record {
  listed = λ t. (
    λ e. absurd (none-some t e),
    λ h. absurd (true≢false (sym (c.mark_tree.ensures.tree t (subst (λ (ns : List Node). IsListOf ns t) (sym c.deref_mut.ensures.value) h)) ∙ c.if-not-mark_tree.true)),
  );
}

pub from_marked-requires : goal.from_marked-requires
from_marked-requires c =
    let same : entries_of c.mark_tree.new.nodes ≡ entries_of c.args.nodes.items = c.mark_tree.ensures.entries ∙ ap entries_of c.deref_mut.ensures.value in
    let long : length c.mark_tree.new.nodes ≡ c.args.nodes.len = omega (arith, ap length same, length-map c.mark_tree.new.nodes entry_of, length-map c.args.nodes.items entry_of, c.args.nodes.ok.0) in
    subst IsNodes (sym (with_items_is c.args.nodes c.mark_tree.new.nodes long)) (c.mark_tree.ensures.nodes c.if-not-mark_tree.false)

pub returns : goal.returns
returns c =
    let marked : List Node = c.mark_tree.new.nodes in
    let same : entries_of marked ≡ entries_of c.args.nodes.items = c.mark_tree.ensures.entries ∙ ap entries_of c.deref_mut.ensures.value in
    let long : length marked ≡ c.args.nodes.len = omega (arith, ap length same, length-map marked entry_of, length-map c.args.nodes.items entry_of, c.args.nodes.ok.0) in
    let made = c.in_ok-from_marked.ensures ∙ ap tree_of (with_items_is c.args.nodes marked long) in
    record {
      listed = λ t. (
        λ e. subst (IsListOf c.args.nodes.items) (sym made ∙ same_Some _ t e) (list_of_marked marked c.args.nodes.items (c.mark_tree.ensures.nodes c.if-not-mark_tree.false) same),
        λ h. ap Some (made ∙ tree_of-list marked t (h.entries ∙ sym same)),
      );
    }
