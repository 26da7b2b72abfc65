-- What is noted of a tree: its runs and its leaves where the tree changes, and what they say of stems.
use Rattle.std.specs.Prelude.{◌≡◌, ◌↔◌, ℕ, ◌+◌, ◌<◌, ◌≤◌, true, List, Option, Some, None, IfSome}
use Rattle.std.proofs.Common.{sym, subst, ◌∙◌, ⊎_elim}
use Rattle.std.proofs.lemmas.Option.{none-some, same_Some}
use Rattle.model.specs.Map.{get}
use Rattle.model.specs.Revision.{Rev, last_generation}
use Rattle.model.specs.Tree.{Tree, IsForest, IsInRange, IsLeafOf, Leaf, knows, parent_of}
use Rattle.model.specs.TreeChange.{stem, strip}
use Rattle.model.proofs.StripLaws.{is_deleted-strip, is_leaf-strip, knows-strip, parent_of-strip}
use Rattle.revision_runs.specs.declared.run.Run.{Run}
use Rattle.revision_runs.specs.Runs.{RunMap}
use Rattle.revision_runs.specs.TreeRuns.{AreRuns, IsOneChild}
use Rattle.revision_runs.proofs.Dues.{due_far, none_due_stem}
use Rattle.revision_runs.proofs.Nexts.{same_runs}
use Rattle.revision_tree.specs.declared.notes.Notes.{Notes}
use Rattle.revision_tree.specs.declared.notes.Notes.TheVariants.{OneLeaf, Few, Many}
use Rattle.revision_tree.specs.declared.rank.Rank.{Rank}
use Rattle.revision_tree.specs.Notes.{AreNotes}
use Rattle.revision_tree.specs.Ranks.{AreLeaves, leaf_of}
use Rattle.revision_tree.specs.Stems.{IsDue, IsDueAt}
use Rattle.revision_tree.proofs.Kept.{one_stripped}

-- ---- changes

pub leaves_same : (t u : Tree) → ((l : Leaf) → IsLeafOf u l ↔ IsLeafOf t l) → (es : List (Rank × Unit {0})) → AreLeaves t es → AreLeaves u es
leaves_same t u same es h = record { has = λ k. (λ e. (same (leaf_of k)).1 ((h.has k).0 e), λ l. (h.has k).1 ((same (leaf_of k)).0 l)) }

pub leaf_of_strip : (t : Tree) (l : Leaf) → IsLeafOf (strip t) l ↔ IsLeafOf t l
leaf_of_strip t l = (
  λ h. record { leaf = sym (is_leaf-strip t l.rev) ∙ h.leaf; flag = sym (is_deleted-strip t l.rev) ∙ h.flag },
  λ h. record { leaf = is_leaf-strip t l.rev ∙ h.leaf; flag = is_deleted-strip t l.rev ∙ h.flag },
)

pub notes_stripped : (t : Tree) (n : Notes) → AreNotes t n → AreNotes (strip t) n
notes_stripped t OneLeaf h = one_stripped t h
notes_stripped t Few h = tt
notes_stripped t (Many n) h = record {
  runs = same_runs t (strip t) (knows-strip t) (parent_of-strip t) n.value.runs h.runs;
  leaves = leaves_same t (strip t) (leaf_of_strip t) n.value.leaves.entries h.leaves;
}

-- ---- stems

-- no generation is above the last
pub within : (t : Tree) → IsInRange t → (r : Rev) → knows t r ≡ true → r.generation ≤ last_generation
within t range r k = (range.known r k).in_range

module _ (t : Tree) (f : IsForest t) (range : IsInRange t) (runs : RunMap) (h : AreRuns t runs) (limit : ℕ) where
  pub none_due : ((top : Rev) (run : Run) → get runs top ≡ Some run → run.low < top.generation + limit) → stem limit t ≡ t
  none_due none = none_due_stem t f last_generation (within t range) runs h limit none

  pub due_is : (top : Rev) → IsDueAt limit runs top → IsDue limit t top
  due_is top d = record {
    at_top = (h.each top d.run d.is).at_top;
    far = due_far t f last_generation (within t range) runs h limit top d.run d.is d.due;
  }

  -- a top with a parent has a sibling
  pub sibling_of : (top fork : Rev) (run : Run) → get runs top ≡ Some run → run.fork ≡ Some fork → IsOneChild t fork top
  sibling_of top fork run is up =
      let e = h.each top run is in
      let parent : parent_of t top ≡ Some fork = sym e.fork ∙ up in
      ⊎_elim
      (λ none. absurd (none-some fork (sym none ∙ parent)))
      (λ o. let same : o.0 ≡ fork = same_Some o.0 fork (sym o.1.child ∙ parent) in subst (λ q. IsOneChild t q top) same o.1)
      e.at_top.1

  pub due_some : (o : Option Rev) → IfSome o (λ top. IsDueAt limit runs top) → IfSome o (λ top. IsDue limit t top)
  due_some None d = tt
  due_some (Some top) d = due_is top d
