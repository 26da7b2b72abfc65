-- The runs of a tree by their tops, and the keys under which they are found.
use Rattle.std.specs.Prelude.{◌≡◌, ◌≢◌, ◌↔◌, ◌<◌, ◌≤◌, ◌-◌, ℕ, true, List, Option, Some, None, is_some, nat_lt, option_map, if◌then◌else◌}
use Rattle.std.specs.declared.cmp.Ordering.{Ordering}
use Rattle.std.specs.FinMap.Entries.{find}
use Rattle.model.specs.Map.{Map, get}
use Rattle.model.specs.Revision.{Rev, revs}
use Rattle.revision_runs.specs.declared.run.Run.{Run}
use Rattle.revision_runs.specs.declared.foot.Foot.{Foot}
use Rattle.revision_runs.specs.declared.hung.Hung.{Hung}
use Rattle.revision_runs.specs.declared.deep.Deep.{Deep}
use Rattle.revision_runs.specs.Keys.{foot_cmp, hung_cmp, deep_cmp}

-- each run at its top
abbrev pub RunMap : Type 0
RunMap = Map revs Run

-- ---- what is said of them

-- the run of a top
pub record IsRunAt (runs : RunMap) (top : Rev) (run : Run) : Type 0 where
  pub is : get runs top ≡ Some run

-- this top's run ends there
pub record EndsAt (runs : RunMap) (b top : Rev) : Type 0 where
  pub run : Run
  pub is : get runs top ≡ Some run
  pub bottom : run.bottom ≡ b

-- this top is a child of the fork
pub record HangsUnder (runs : RunMap) (f top : Rev) : Type 0 where
  pub run : Run
  pub is : get runs top ≡ Some run
  pub fork : run.fork ≡ Some f

-- and of those no other has a leaf that is nearer
pub record IsNearestUnder (runs : RunMap) (f top : Rev) : Type 0 where
  pub run : Run
  pub is : get runs top ≡ Some run
  pub fork : run.fork ≡ Some f
  pub least : (t : Rev) (r : Run) → get runs t ≡ Some r → r.fork ≡ Some f → run.low ≤ r.low

-- how far a top is above the nearest leaf
abbrev pub steps_of : Rev → Run → ℕ
steps_of top run = run.low - top.generation

-- this top is above the nearest leaf, and no other is farther above one
pub record IsDeepest (runs : RunMap) (top : Rev) : Type 0 where
  pub run : Run
  pub is : get runs top ≡ Some run
  pub above : top.generation < run.low
  pub most : (t : Rev) (r : Run) → get runs t ≡ Some r → steps_of t r ≤ steps_of top run

-- ---- keys

abbrev pub foot_of : Rev → Run → Option Foot
foot_of top run = Some (record { bottom = run.bottom; top = Some top })

abbrev pub hung_of : Rev → Run → Option Hung
hung_of top run = option_map (λ f. record { fork = f; low = run.low; top = Some top }) run.fork

abbrev pub deep_of : Rev → Run → Option Deep
deep_of top run = if nat_lt top.generation run.low then Some (record { steps = steps_of top run; top = top }) else None

-- k is the key of a run
pub record IsKeyOf {K : Type 0} (key_of : Rev → Run → Option K) (runs : RunMap) (k : K) : Type 0 where
  pub top : Rev
  pub run : Run
  pub is : get runs top ≡ Some run
  pub key : key_of top run ≡ Some k

-- just the keys of the runs are there
pub record IsIndex {K : Type 0} (cmp : K → K → Ordering) (key : Rev → Run → Option K) (runs : RunMap) (es : List (K × Unit {0})) : Type 0 where
  pub has : (k : K) → (is_some (find cmp k es) ≡ true) ↔ IsKeyOf key runs k

-- the runs are found by each of these
pub record AreFound (runs : RunMap) (fs : List (Foot × Unit {0})) (hs : List (Hung × Unit {0})) (ds : List (Deep × Unit {0})) : Type 0 where
  pub feet : IsIndex foot_cmp foot_of runs fs
  pub hung : IsIndex hung_cmp hung_of runs hs
  pub deep : IsIndex deep_cmp deep_of runs ds
