-- What the runs of a tree are.
use Rattle.std.specs.Prelude.{◌≡◌, ◌≢◌, ◌↔◌, ◌⊎◌, ℕ, zero, suc, ◌+◌, ◌<◌, ◌≤◌, true, Option, Some, None}
use Rattle.model.specs.Map.{get}
use Rattle.model.specs.Revision.{Rev}
use Rattle.model.specs.Tree.{Tree, IsNear, is_leaf, knows, parent_of}
use Rattle.revision_runs.specs.declared.run.Run.{Run}
use Rattle.revision_runs.specs.Runs.{RunMap, HangsUnder}

-- n is the least generation of a leaf at or below r: one is fewer than `limit` steps below just where n is fewer than `limit` generations below
abbrev pub IsLow : Tree → Rev → ℕ → Type 0
IsLow t r n = (limit : ℕ) → IsNear limit t r ↔ (n < r.generation + limit)

-- c is a child of p, and no other is
pub record IsOnlyChild (t : Tree) (p c : Rev) : Type 0 where
  pub child : parent_of t c ≡ Some p
  pub only : (d : Rev) → parent_of t d ≡ Some p → d ≡ c

-- c is a child of p, and another is too
pub record IsOneChild (t : Tree) (p c : Rev) : Type 0 where
  pub child : parent_of t c ≡ Some p
  pub other : Rev
  pub sibling : parent_of t other ≡ Some p
  pub apart : other ≢ c

-- r is n steps above b, and each before it on the way is an only child
abbrev pub IsWay : Tree → ℕ → Rev → Rev → Type 0
IsWay t zero b r = b ≡ r
IsWay t (suc n) b r = (p : Rev) × IsOnlyChild t p b × IsWay t n p r

-- a known revision with no known parent, or with a parent that has other children
abbrev pub IsTop : Tree → Rev → Type 0
IsTop t r = (knows t r ≡ true) × ((parent_of t r ≡ None) ⊎ ((p : Rev) × IsOneChild t p r))

-- n is the least of what the runs under a fork have
pub record IsLeastUnder (runs : RunMap) (f : Rev) (n : ℕ) : Type 0 where
  pub top : Rev
  pub run : Run
  pub is : get runs top ≡ Some run
  pub fork : run.fork ≡ Some f
  pub low : run.low ≡ n
  pub least : (u : Rev) (r : Run) → get runs u ≡ Some r → r.fork ≡ Some f → n ≤ r.low

-- b is a leaf of generation n, or a fork with n as the least under it
abbrev pub IsBottom : Tree → RunMap → Rev → ℕ → Type 0
IsBottom t runs b n = ((is_leaf t b ≡ true) × (n ≡ b.generation)) ⊎ IsLeastUnder runs b n

pub record IsRunOf (t : Tree) (runs : RunMap) (top : Rev) (run : Run) : Type 0 where
  pub at_top : IsTop t top
  pub fork : run.fork ≡ parent_of t top
  pub steps : ℕ
  pub way : IsWay t steps run.bottom top
  pub low : IsBottom t runs run.bottom run.low

-- each is a run of t, and each top of t has one
pub record AreRuns (t : Tree) (runs : RunMap) : Type 0 where
  pub each : (top : Rev) (run : Run) → get runs top ≡ Some run → IsRunOf t runs top run
  pub all : (r : Rev) → IsTop t r → (run : Run) × (get runs r ≡ Some run)

-- ---- while the least generations are put right

-- b is a leaf, or a run hangs under it
abbrev pub IsEnd : Tree → RunMap → Rev → Type 0
IsEnd t runs b = (is_leaf t b ≡ true) ⊎ ((c : Rev) × HangsUnder runs b c)

-- as `IsRunOf`, but for the least generation of a leaf where the run ends at the hole
pub record IsRunBut (t : Tree) (hole : Option Rev) (runs : RunMap) (top : Rev) (run : Run) : Type 0 where
  pub at_top : IsTop t top
  pub fork : run.fork ≡ parent_of t top
  pub steps : ℕ
  pub way : IsWay t steps run.bottom top
  pub ends : IsEnd t runs run.bottom
  pub low : (hole ≡ Some run.bottom → ⊥) → IsBottom t runs run.bottom run.low

-- as `AreRuns`, but for the least generation of a leaf of the run that ends at the hole, a fork
pub record AreRunsBut (t : Tree) (hole : Option Rev) (runs : RunMap) : Type 0 where
  pub each : (top : Rev) (run : Run) → get runs top ≡ Some run → IsRunBut t hole runs top run
  pub all : (r : Rev) → IsTop t r → (run : Run) × (get runs r ≡ Some run)
  pub fork : (b : Rev) → hole ≡ Some b → (c : Rev) × HangsUnder runs b c

-- no fork above the hole is in this step's way: the next hole is an older fork
abbrev pub IsOlder : Rev → Option Rev → Type 0
IsOlder b None = Unit {0}
IsOlder b (Some p) = p.generation < b.generation

-- a measure of how far a climb has yet to go
abbrev pub height : Option Rev → ℕ
height None = 0
height (Some p) = p.generation + 1
