use Rattle.std.proofs.Common.{◌≡◌, ◌∙◌, Option, Some, None, false, is_some, ap, sym, subst, arith, refl}
use Rattle.std.specs.Prelude.{not}
use Rattle.std.proofs.lemmas.Bool.{true≢false}
use Rattle.model.specs.Revision.{Rev}
use Rattle.model.specs.Tree.{Tree}
use Rattle.model.specs.TreeChange.{stem}
use Rattle.revision_tree.specs.Nodes.{tree_of}
use Rattle.revision_tree.specs.Notes.{AreNotes, IsNoted}
use Rattle.revision_tree.specs.Rows.{nodes_of}
use Rattle.revision_tree.proofs.Depth.{stem_all}
use Rattle.revision_tree.proofs.Noting.{none_due}
use Rattle.revision_tree.proofs.tree.RevTree.is_stem.Goals as goal

none_of : (o : Option Rev) → is_some o ≡ false → o ≡ None
none_of None h = refl
none_of (Some x) h = absurd (true≢false h)

pub returns-then-saturating_sub-limit : goal.returns-then-saturating_sub-limit
returns-then-saturating_sub-limit c = λ _.
    subst (λ (u : Tree). stem c.args.limit u ≡ u) c.self.view_is
    (stem_all (tree_of (nodes_of c.self.inside.rows)) c.self.invariant.rows.nodes.tree c.args.limit c.first-oldest.result c.last-newest.result c.first-oldest.ensures.oldest c.last-newest.ensures.newest
    (omega (arith, c.if-saturating_sub-limit.true, c.saturating_sub.ensures, c.generation.ensures.value, c.generation-2.ensures.value)))

pub returns : goal.returns
returns c = λ e.
    let t = tree_of (nodes_of c.self.inside.rows) in
    let h = c.self.invariant.rows.nodes in
    let noted : IsNoted t c.deref.result.now = subst (IsNoted t) (sym c.deref.ensures) (subst (AreNotes t) c.in-Many.is c.self.invariant.notes) in
    subst (λ (u : Tree). stem c.args.limit u ≡ u) c.self.view_is
    (none_due t h.tree.forest h.range c.deref.result.now.runs noted.runs c.args.limit (c.due_top.ensures.none (none_of c.due_top.result (c.is_none.ensures ∙ ap not e))))
