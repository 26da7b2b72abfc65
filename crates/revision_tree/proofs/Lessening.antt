-- What a stem takes of a top that is too far above the leaves.
use Rattle.std.specs.Prelude.{◌≡◌, ℕ, zero, suc, ◌<◌, true, not, Some, None, refl}
use Rattle.std.proofs.Common.{sym, ap, subst, ◌∙◌, ⊎_elim}
use Rattle.model.specs.Map.{get}
use Rattle.model.specs.Revision.{Rev}
use Rattle.model.specs.Tree.{Tree, IsForest, IsInRange, is_leaf, parent_of}
use Rattle.model.specs.TreeChange.{restrict, stem}
use Rattle.model.proofs.PathLaws.{same_rev-symm}
use Rattle.revision_runs.specs.declared.run.Run.{Run}
use Rattle.revision_runs.specs.Changes.{orphaned}
use Rattle.revision_runs.specs.Runs.{RunMap, HangsUnder}
use Rattle.revision_runs.specs.TreeRuns.{AreRuns, IsOneChild, IsOnlyChild, IsWay}
use Rattle.revision_runs.proofs.Climbing.{way_last}
use Rattle.revision_runs.proofs.Dues.{stem_without_top}
use Rattle.revision_runs.proofs.Loosening.{stem_orphaned}
use Rattle.revision_tree.specs.Stems.{IsDue, weight}
use Rattle.revision_tree.specs.Trimmed.{is_other}
use Rattle.revision_tree.proofs.Noting.{sibling_of}
use Rattle.revision_tree.proofs.Weights.{dropped_less, orphaned_less}

module _ (t : Tree) (f : IsForest t) (range : IsInRange t) (runs : RunMap) (h : AreRuns t runs) (limit : ℕ) (some : 0 < limit) (top : Rev) (due : IsDue limit t top) where
  -- below a fork
  module _ (fork : Rev) (run : Run) (is : get runs top ≡ Some run) (up : run.fork ≡ Some fork) where
    pub link_two : IsOneChild t fork top
    link_two = sibling_of t f range runs h limit top fork run is up

    pub link_stem : stem limit (orphaned top t) ≡ stem limit t
    link_stem = stem_orphaned t f top fork link_two limit (λ near above. due.far near)

    pub link_less : weight (orphaned top t) < weight t
    link_less = orphaned_less t top fork link_two.child

  -- a fork itself
  module _ (child : Rev) (hung : HangsUnder runs top child) where
    pub hung_two : IsOneChild t top child
    hung_two = sibling_of t f range runs h limit child top hung.run hung.is hung.fork

    pub hung_stem : stem limit (orphaned child t) ≡ stem limit t
    hung_stem = stem_orphaned t f child top hung_two limit (λ near above. due.far above)

    pub hung_less : weight (orphaned child t) < weight t
    hung_less = orphaned_less t child top hung_two.child

  -- a root with one child
  module _ (run : Run) (is : get runs top ≡ Some run) (root : run.fork ≡ None) where
    pub root_none : parent_of t top ≡ None
    root_none = sym (h.each top run is).fork ∙ root

    inner : is_leaf t top ≡ true → ⊥
    inner leaf = due.far (record { leaf = top; at_leaf = leaf; steps = 0; few = some; leads = refl })

    pub root_child : ((d : Rev) → HangsUnder runs top d → ⊥) → (child : Rev) × (n : ℕ) × IsOnlyChild t top child × IsWay t n run.bottom child
    root_child none = at (h.each top run is).steps (h.each top run is).way
      where
        at : (n : ℕ) → IsWay t n run.bottom top → (child : Rev) × (n : ℕ) × IsOnlyChild t top child × IsWay t n run.bottom child
        at zero way = absurd (⊎_elim
            (λ l. inner (subst (λ q. is_leaf t q ≡ true) way l.0))
            (λ l. none l.top (record { run = l.run; is = l.is; fork = l.fork ∙ ap (λ q. Some q) way }))
            (h.each top run is).low)
        at (suc n) way = let x = way_last t n run.bottom top way in (x.child, n, x.only, x.way)

  pub drop_stem : stem limit (restrict (is_other top) t) ≡ stem limit t
  drop_stem = ap (stem limit) (λ i. restrict (λ q. not (same_rev-symm top q i)) t) ∙ stem_without_top t f top limit due.at_top due.far

  pub drop_less : weight (restrict (is_other top) t) < weight t
  drop_less = dropped_less t top due.at_top.0
