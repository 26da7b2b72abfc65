-- Which store what is shown belongs to.
use Rattle.std.specs.Prelude.{◌≡◌, ℕ, List, Option, Some}
use mathlib.Core.Option.{some}
use lib.ListN.{get_elem?}
use Rattle.version_log.specs.Stores.{Store}
use Rattle.version_log.specs.declared.published.Shown.{Shown}

-- the view knows this store
pub record Knows (store : Store) (known : Option Shown) : Type 0 where
  pub shown : Shown
  pub some : known ≡ Some shown
  pub of : shown.0 ≡ store

-- whoever knows a store knows that of what is shown
abbrev pub OneStoreOf : Shown → List (Option Shown) → Type 0
OneStoreOf x views = (seat : ℕ) (w : Shown) → get_elem? views seat ≡ some (Some w) → w.0 ≡ x.0

-- a step that finds the store which its view knows, and keeps store and view
abbrev pub FindsStore : Option Shown → Shown → Shown → Option Shown → Type 0
FindsStore v x y w = ((u : Shown) → v ≡ Some u → u.0 ≡ x.0) × (w ≡ v) × (y.0 ≡ x.0)
