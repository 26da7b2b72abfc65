-- Small changes of a tree, as far as its runs go: which revisions are known, and the parent of each.
use Rattle.std.specs.Prelude.{◌≡◌, ℕ, ◌+◌, ◌↔◌, ◌||◌, ◌&&◌, not, true, false, Some, None, if◌then◌else◌}
use Rattle.model.specs.Map.{get, put, refine}
use Rattle.model.specs.Revision.{Rev, same_rev}
use Rattle.model.specs.TreeChange.{restrict}
use Rattle.model.specs.Tree.{Tree, Revision, IsForest, among, is_at, is_leaf, knows, parent_of, path_of}
use Rattle.revision_runs.specs.declared.run.Run.{Run}
use Rattle.revision_runs.specs.Runs.{RunMap, EndsAt}
use Rattle.revision_runs.specs.TreeRuns.{AreRuns, AreRunsBut, IsOnlyChild, IsWay}

-- u has r besides, with no parent
pub record IsRooted (t u : Tree) (r : Rev) : Type 0 where
  pub unknown : knows t r ≡ false
  pub known : (q : Rev) → knows u q ≡ (knows t q || same_rev q r)
  pub parents : (q : Rev) → parent_of u q ≡ parent_of t q

-- u has p besides, as the parent of the root c
pub record IsExtended (t u : Tree) (c p : Rev) : Type 0 where
  pub unknown : knows t p ≡ false
  pub root : knows t c ≡ true
  pub none : parent_of t c ≡ None
  pub known : (q : Rev) → knows u q ≡ (knows t q || same_rev q p)
  pub parent : parent_of u c ≡ Some p
  pub others : (q : Rev) → same_rev q c ≡ false → parent_of u q ≡ parent_of t q

-- in u the root c is a child of p
pub record IsLinked (t u : Tree) (c p : Rev) : Type 0 where
  pub root : knows t c ≡ true
  pub none : parent_of t c ≡ None
  pub known : (q : Rev) → knows u q ≡ knows t q
  pub parent : parent_of u c ≡ Some p
  pub others : (q : Rev) → same_rev q c ≡ false → parent_of u q ≡ parent_of t q

-- the trees before and after a change, and the runs of the first
pub record AreBefore (t u : Tree) (m : RunMap) : Type 0 where
  pub before : IsForest t
  pub after : IsForest u
  pub runs : AreRuns t m

-- x is the one child of p, both in the run of this top
pub record IsInside (t : Tree) (m : RunMap) (p x top : Rev) : Type 0 where
  pub only : IsOnlyChild t p x
  pub run : Run
  pub is : get m top ≡ Some run
  pub below : ℕ
  pub down : IsWay t below run.bottom x
  pub above : ℕ
  pub up : IsWay t above p top

-- in u the child c of p has no parent
pub record IsUnlinked (t u : Tree) (c p : Rev) : Type 0 where
  pub parent : parent_of t c ≡ Some p
  pub known : (q : Rev) → knows u q ≡ knows t q
  pub none : parent_of u c ≡ None
  pub others : (q : Rev) → same_rev q c ≡ false → parent_of u q ≡ parent_of t q

-- u has all but the root r, whose children have no parent
pub record IsDropped (t u : Tree) (r : Rev) : Type 0 where
  pub root : knows t r ≡ true
  pub top : parent_of t r ≡ None
  pub known : (q : Rev) → knows u q ≡ (knows t q && not (same_rev q r))
  pub parents : (q p : Rev) → (parent_of u q ≡ Some p) ↔ ((parent_of t q ≡ Some p) × (same_rev p r ≡ false))

-- in u the revisions on the path of a leaf are gone
pub record IsCleared (t u : Tree) (leaf : Rev) : Type 0 where
  pub at_leaf : is_leaf t leaf ≡ true
  pub known : (q : Rev) → knows u q ≡ (knows t q && not (among (path_of t leaf) q))
  pub parents : (q p : Rev) → (parent_of u q ≡ Some p) ↔ ((parent_of t q ≡ Some p) × (among (path_of t leaf) p ≡ false))

-- without the path of a leaf
unfoldable pub cleared_of : Rev → Tree → Tree
cleared_of leaf t = restrict (λ r. not (among (path_of t leaf) r)) t

-- the run of a root ends at the leaf
pub record IsLoneRun (runs : RunMap) (leaf top : Rev) : Type 0 where
  pub run : Run
  pub is : get runs top ≡ Some run
  pub root : run.fork ≡ None
  pub bottom : run.bottom ≡ leaf

-- a run ends at the fork f, and where it goes on to the end of another, all are runs of u but for what is above it
pub record IsJoin (u : Tree) (m : RunMap) (f : Rev) (left : Run) : Type 0 where
  pub ends : (top : Rev) × EndsAt m f top
  pub each : (top : Rev) (run whole : Run) → get m top ≡ Some run → run.bottom ≡ f → whole.fork ≡ run.fork → whole.bottom ≡ left.bottom → whole.low ≡ left.low → AreRunsBut u run.fork (put m top whole)

-- with no parent for c
unfoldable pub orphaned : Rev → Tree → Tree
orphaned c t = refine {X = Revision} {Y = Revision} (λ q v. Some (if same_rev q c then record v { parent = None } else v)) t

-- each parent in t is one in the other
pub record IsPartOf (t whole : Tree) : Type 0 where
  pub parents : (q p : Rev) → parent_of t q ≡ Some p → parent_of whole q ≡ Some p

-- u is t with p as the parent of c, and of these two t has as much as the tree that a path is brought to
pub record IsNext (tree t u : Tree) (c p : Rev) : Type 0 where
  pub younger : c.generation ≡ p.generation + 1
  pub child : knows t c ≡ true
  pub known : (q : Rev) → knows u q ≡ (knows t q || same_rev q p)
  pub parents : (a b : Rev) → is_at (parent_of u a) b ≡ (is_at (parent_of t a) b || (same_rev c a && same_rev p b))
  pub there : knows t p ≡ knows tree p
  pub above : parent_of t c ≡ parent_of tree c
  pub fits : (q : Rev) → parent_of tree c ≡ Some q → q ≡ p
