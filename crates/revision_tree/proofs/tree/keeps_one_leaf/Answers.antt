use Rattle.std.proofs.Common.{◌≡◌, ◌∙◌, ◌-◌, ap, sym, subst, true, length, take, drop}
use Rattle.std.specs.Prelude.{option_copied, unwrap_or}
use Rattle.model.specs.Map.{empty}
use Rattle.model.specs.Tree.{Tree, IsForest}
use Rattle.model.specs.TreeChange.{agrees}
use Rattle.revision_tree.specs.Nodes.{tree_of}
use Rattle.revision_tree.specs.Notes.{AreNotes, HasOneLeaf}
use Rattle.revision_tree.specs.Rows.{nodes_of}
use Rattle.revision_tree.proofs.Grafts.{uncons}
use Rattle.revision_tree.proofs.Single.{LeavesOne, single_first, single_known, single_leaf}
use Rattle.revision_tree.proofs.tree.keeps_one_leaf.Goals as goal

pub returns-in_default : goal.returns-in_default
returns-in_default c = λ _.
    let path = c.args.path.now in
    let none : unwrap_or (option_copied c.args.tree) empty ≡ empty = ap (λ o. unwrap_or (option_copied o) empty) c.in_default.is in
    subst (λ (t : Tree). LeavesOne t path) (sym none) (single_first path c.requires.path (subst (λ (t : Tree). agrees t path ≡ true) none c.requires.agrees))

pub returns-then-knows : goal.returns-then-knows
returns-then-knows c = λ _.
    let path = c.args.path.now in
    let some : unwrap_or (option_copied c.args.tree) empty ≡ c.in-Some.tree.now = ap (λ o. unwrap_or (option_copied o) empty) c.in-Some.is in
    let t = tree_of (nodes_of c.tree.inside.rows) in
    let noted : HasOneLeaf t = subst (AreNotes t) c.in-OneLeaf.is c.tree.invariant.notes in
    let one = subst HasOneLeaf c.tree.view_is noted in
    let f = subst IsForest c.tree.view_is c.tree.invariant.rows.nodes.tree.forest in
    let newest = c.newest-item.result in
    subst (λ (u : Tree). LeavesOne u path) (sym some) (single_known c.in-Some.tree.now f path newest (take (length path - 1) (drop 1 path)) (uncons path newest c.in-len1-up.len_at_least c.newest-item.is) c.requires.path
    (subst (λ (u : Tree). agrees u path ≡ true) some c.requires.agrees) (sym c.knows.ensures ∙ c.if-knows.true) one)

pub returns : goal.returns
returns c = λ e.
    let path = c.args.path.now in
    let some : unwrap_or (option_copied c.args.tree) empty ≡ c.in-Some.tree.now = ap (λ o. unwrap_or (option_copied o) empty) c.in-Some.is in
    let t = tree_of (nodes_of c.tree.inside.rows) in
    let noted : HasOneLeaf t = subst (AreNotes t) c.in-OneLeaf.is c.tree.invariant.notes in
    let one = subst HasOneLeaf c.tree.view_is noted in
    let f = subst IsForest c.tree.view_is c.tree.invariant.rows.nodes.tree.forest in
    subst (λ (u : Tree). LeavesOne u path) (sym some) (single_leaf c.in-Some.tree.now f path c.requires.path (subst (λ (u : Tree). agrees u path ≡ true) some c.requires.agrees) (c.has_leaf.ensures e) one)
