use Rattle.std.proofs.Common.{◌≡◌, ◌==◌, ◌∙◌, ℕ, false, sym, ap, Some, eqb-true, eq-eqb, arith}
use Rattle.std.proofs.lemmas.Bool.{true≢false}
use Rattle.model.proofs.CutLaws.{cut_whole}
use Rattle.tree_merge.proofs.Restricted.{cut_empty, cut_list, left}
use Rattle.tree_merge.proofs.stems.cut_leaves.Goals as goal

filled : (n : ℕ) → (n == 0) ≡ false → n ≡ 0 → ⊥
filled n more e = true≢false (sym (eq-eqb n 0 e) ∙ more)

pub returns-then-not-has_leaf : goal.returns-then-not-has_leaf
returns-then-not-has_leaf c = ap Some c.in_ok-same.ensures ∙ sym (cut_whole c.args.named.now c.args.tree.now c.has_leaf.ensures.tree (c.has_leaf.ensures.none c.if-not-has_leaf.true))

pub returns-then-is_empty : goal.returns-then-is_empty
returns-then-is_empty c =
    let nodes = c.in_ok-nodes.nodes in
    let none : nodes.len ≡ 0 = eqb-true nodes.len 0 (sym c.is_empty.ensures ∙ c.if-is_empty.true) in
    sym (cut_empty c.args.tree.now c.in_ok-nodes.ensures.tree.forest c.args.named.now c.in_ok-nodes.ensures.range nodes.items (omega (arith, nodes.ok.0, none)) c.in_ok-nodes.ensures.kept)

pub from_nodes-requires : goal.from_nodes-requires
from_nodes-requires c =
    let t = c.args.tree.now in
    let nodes = c.in_ok-nodes.nodes in
    let cuts = cut_list t c.in_ok-nodes.ensures.tree.forest c.args.named.now c.in_ok-nodes.ensures.range nodes.items (λ e. filled nodes.len (sym c.is_empty.ensures ∙ c.if-is_empty.false) (omega (arith, nodes.ok.0, e))) c.in_ok-nodes.ensures.kept in
    (left t c.in_ok-nodes.ensures.tree.forest c.args.named.now c.in_ok-nodes.ensures.range, cuts.1)

pub returns : goal.returns
returns c =
    let t = c.args.tree.now in
    let nodes = c.in_ok-nodes.nodes in
    let cuts = cut_list t c.in_ok-nodes.ensures.tree.forest c.args.named.now c.in_ok-nodes.ensures.range nodes.items (λ e. filled nodes.len (sym c.is_empty.ensures ∙ c.if-is_empty.false) (omega (arith, nodes.ok.0, e))) c.in_ok-nodes.ensures.kept in
    ap Some (c.in_ok-left.ensures (left t c.in_ok-nodes.ensures.tree.forest c.args.named.now c.in_ok-nodes.ensures.range) cuts.1.entries) ∙ sym cuts.0
