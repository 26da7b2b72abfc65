use Rattle.std.proofs.Common.{◌∙◌, ap, sym, subst, length, arith}
use Rattle.std.proofs.Math.ListN.{length-map}
use Rattle.std.specs.Prelude.{nat_lt}
use Rattle.model.specs.Map.{entries}
use Rattle.model.specs.Revision.{Rev}
use Rattle.model.specs.Tree.{Tree, Revision}
use Rattle.model.specs.TreeChange.{restrict}
use Rattle.revision_tree.specs.Nodes.{IsListOf}
use Rattle.revision_tree.proofs.Listed.{tree_of-list}
use Rattle.tree_merge.specs.Reach.{first_mark, reach}
use Rattle.tree_merge.proofs.Raised.{list_itself, list_long, marks_by}
use Rattle.tree_merge.proofs.restrict.restricted.Goals as goal

pub marks-requires : goal.marks-requires
marks-requires c = subst (λ ns. IsListOf ns c.args.tree.now) (sym c.deref.ensures.value) c.in_ok-nodes.ensures

pub kept-requires-clause-listed : goal.kept-requires-clause-listed
kept-requires-clause-listed c = list_itself c.deref-2.result.now c.args.tree.now (subst (λ ns. IsListOf ns c.args.tree.now) (sym c.deref-2.ensures.value) c.in_ok-nodes.ensures)

pub kept-requires-clause-long : goal.kept-requires-clause-long
kept-requires-clause-long c =
    let t = c.args.tree.now in
    let g = reach (first_mark c.args.limit c.args.named.now t) (entries t) in
    let same = c.deref-3.ensures.value ∙ c.in_ok-marks.ensures in
    omega (arith, ap length same, length-map (entries t) (λ (e : Rev × Revision). g e.0), list_long c.in_ok-nodes.nodes.items t c.in_ok-nodes.ensures, ap length c.deref-2.ensures.value)

pub returns-clause-kept : goal.returns-clause-kept
returns-clause-kept c =
    let t = c.args.tree.now in
    let g = reach (first_mark c.args.limit c.args.named.now t) (entries t) in
    let listed = subst (λ ns. IsListOf ns c.args.tree.now) (sym c.deref-2.ensures.value) c.in_ok-nodes.ensures in
    c.in_ok-kept.ensures g (c.deref-3.ensures.value ∙ c.in_ok-marks.ensures ∙ ap (marks_by g) listed.entries)
    ∙ ap (λ (u : Tree). entries (restrict (λ r. nat_lt 0 (g r)) u)) (tree_of-list c.deref-2.result.now t listed.entries)
