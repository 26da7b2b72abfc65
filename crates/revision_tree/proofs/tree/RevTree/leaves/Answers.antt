use Rattle.std.proofs.Common.{◌≡◌, ◌∙◌, ap, map, sym, subst}
use Rattle.std.proofs.lemmas.Result.{IfOk-weaker}
use Rattle.model.specs.Tree.{Tree, leaves, revs_of}
use Rattle.revision_tree.specs.Nodes.{tree_of}
use Rattle.revision_tree.specs.Notes.{AreNotes, IsNoted}
use Rattle.revision_tree.specs.Rows.{nodes_of}
use Rattle.revision_tree.proofs.Winning.{noted_revs}
use Rattle.revision_tree.proofs.tree.RevTree.leaves.Goals as goal

pub returns-in-Many : goal.returns-in-Many
returns-in-Many c =
    let t = tree_of (nodes_of c.self.inside.rows) in
    let es = c.deref.result.now.leaves.entries in
    let noted : IsNoted t c.deref.result.now = subst (IsNoted t) (sym c.deref.ensures) (subst (AreNotes t) c.in-Many.is c.self.invariant.notes) in
    IfOk-weaker c.all_of.result (λ v. v.items ≡ map (λ e. e.0.rev) es) (λ v. v.items ≡ revs_of (leaves c.args.self.now))
    (λ v e. e ∙ noted_revs t es c.all_of.ensures.ordered noted.leaves ∙ ap (λ (u : Tree). revs_of (leaves u)) c.self.view_is) c.all_of.ensures.revs
