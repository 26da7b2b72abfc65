-- A merge of what a document has.
use Rattle.std.specs.Prelude.{◌≡◌, Bool, false, ◌∷◌, Some, Ok, option_map, unwrap_or, if◌then◌else◌, refl}
use Rattle.std.proofs.Common.{ap, ◌∙◌}
use Rattle.std.proofs.lemmas.Bool.{cond-true}
use Rattle.model.specs.Body.{Body}
use Rattle.model.specs.Command.{Merge}
use Rattle.model.specs.Edit.{merged, with_path, written, revision_written}
use Rattle.model.specs.Tree.{Tree}
use Rattle.model.specs.Database.{Database, tree_at, same_tree, with_tree, store, store_written, merge_in, after_merge}
use Rattle.model.proofs.SameLaws.{same_tree-equal}

module _ (d : Database) (m : Merge) (t : Tree) (at : tree_at d m.id ≡ Some t)
    (h : (body : Body) (deleted : Bool) → with_path d.revs_limit (Some t) (m.newest ∷ m.older) body deleted ≡ Ok t) where
  merged_again : merge_in d m ≡ Ok (record { rev = m.newest; tree = t })
  unfolding merged
  merged_again = ap (λ o. merged d.revs_limit o m) at ∙ ap (written m.newest) (h m.body m.deleted)

  stored_again : store d m.id t ≡ d
  unfolding store
  stored_again = ap (λ o. if unwrap_or (option_map (same_tree t) o) false then d else with_tree d m.id t) at ∙ cond-true (same_tree t t) d (with_tree d m.id t) ((same_tree-equal t t).1 refl)

  pub reply_again : revision_written (merge_in d m) ≡ Ok m.newest
  reply_again = ap revision_written merged_again

  pub after_again : after_merge d m ≡ d
  after_again = ap (store_written d m.id) merged_again ∙ stored_again
