-- Whether a path is grafted, and the faults.
use Rattle.std.specs.Prelude.{◌≡◌, Bool, true, false, List, Some, None, Result, Ok, Err, IsErrAnd}
use Rattle.std.proofs.Common.{sym, ◌∙◌}
use Rattle.std.proofs.lemmas.Bool.{cond-false}
use Rattle.std.proofs.lemmas.Option.{none-some}
use Rattle.model.specs.Body.{Body}
use Rattle.model.specs.Revision.{Rev}
use Rattle.model.specs.Tree.{Tree}
use Rattle.model.specs.TreeChange.{agrees, grafted, graft}
use Rattle.revision_tree.proofs.Grafts.{graft_agreed}
use Rattle.tree_merge.specs.declared.fault.MergeFault.{MergeFault}
use Rattle.tree_merge.specs.declared.fault.MergeFault.TheVariants.{Contradiction, Memory}

module _ (path : List Rev) (body : Body) (deleted : Bool) (t : Tree) where
  pub graft_refused : agrees t path ≡ false → graft path body deleted t ≡ None
  unfolding graft
  graft_refused h = cond-false (agrees t path) (Some (grafted path body deleted t)) None h

  pub not_refused : agrees t path ≡ true → graft path body deleted t ≡ None → ⊥
  not_refused h e = none-some (grafted path body deleted t) (sym e ∙ graft_agreed path body deleted t h)

-- ---- faults

pub memory_only : {X : Type 0} (r : Result X MergeFault) → IsErrAnd r (λ e. e ≡ Memory) → r ≡ Err Contradiction → ⊥
memory_only (Ok x) h e = absurd h
memory_only (Err m) h e = cc

pub ok_only : {X : Type 0} (r : Result X MergeFault) (x : X) → r ≡ Ok x → r ≡ Err Contradiction → ⊥
ok_only r x h e = cc
