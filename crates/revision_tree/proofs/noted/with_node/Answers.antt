use Rattle.model.specs.Tree.{Tree}
use Rattle.revision_runs.specs.Changes.{AreBefore}
use Rattle.revision_runs.specs.Runs.{RunMap}
use Rattle.revision_runs.specs.TreeRuns.{AreRuns}
use Rattle.revision_tree.specs.declared.node.Node.{Node}
use Rattle.revision_tree.specs.Stems.{IsNodeStep}
use Rattle.revision_tree.proofs.noted.with_node.Goals as goal

module _ (whole t u : Tree) (n : Node) (s : IsNodeStep whole t u n) where
  rooting : (runs : RunMap) → AreRuns t runs → AreBefore t s.middle runs
  rooting runs h = record { before = s.before; after = s.between; runs = h }

  linking : (runs : RunMap) → AreRuns s.middle runs → AreBefore s.middle u runs
  linking runs h = record { before = s.between; after = s.after; runs = h }

pub returns-in_default : goal.returns-in_default
returns-in_default c = λ t u h s.
    s.alone c.in_default.is c.in_ok-grown.grown (c.in_ok-grown.ensures t s.middle (rooting _ t u c.args.node.now s c.args.runs h) s.rooted)

pub linked-requires-clause-linked : goal.linked-requires-clause-linked
linked-requires-clause-linked c =
    let t = c.requires.step.0 in
    let u = c.requires.step.1 in
    let h = c.requires.step.2 in
    let s = c.requires.step.3 in
    let l = s.linked c.in-Some.parent c.in-Some.is in
    let grown = c.in_ok-grown.ensures t s.middle (rooting _ t u c.args.node.now s c.args.runs h) s.rooted in
    (s.middle, u, linking _ t u c.args.node.now s c.in_ok-grown.grown grown, l.0, l.1, l.2)
