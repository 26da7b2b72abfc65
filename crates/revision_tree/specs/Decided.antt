-- Which lists of nodes are those of a tree.
use Rattle.std.specs.Prelude.{◌≡◌, ◌+◌, true, ◌||◌, IfSome, is_some, option_map}
use Rattle.std.specs.Arc.{arc_value}
use Rattle.model.specs.Body.{IsBody}
use Rattle.model.specs.Revision.{IsRev}
use Rattle.model.specs.Tree.{Tree, knows}
use Rattle.revision_tree.specs.declared.node.Node.{Node}

-- its identity and its body keep their ranges
pub record IsNode (n : Node) : Type 0 where
  pub rev : IsRev n.rev
  pub body : IfSome (option_map arc_value n.body) IsBody

-- its parent, where it has one, is known and one generation older
abbrev pub HasItsParent : Tree → Node → Type 0
HasItsParent t n = IfSome n.parent (λ p. (knows t p ≡ true) × (n.rev.generation ≡ p.generation + 1))

-- and it has a body, where it is not marked as the parent of another
pub record IsRooted (t : Tree) (n : Node) : Type 0 where
  pub parent : HasItsParent t n
  pub body : (n.inner || is_some n.body) ≡ true
