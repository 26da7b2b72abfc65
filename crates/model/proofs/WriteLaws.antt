-- What becomes of a database with the answer to one edit or merge.
use Rattle.std.specs.Prelude.{◌≡◌, ◌≢◌, ◌+◌, false, cond, Option, Some, None, option_map, unwrap_or, Result, Ok, refl}
use Rattle.std.proofs.Common.{sym, ap, ◌∙◌}
use Rattle.std.proofs.lemmas.Bool.{false_from_ne_true}
use Rattle.model.specs.Map.{get, same_key_itself}
use Rattle.model.specs.Tree.{Tree}
use Rattle.model.specs.Command.{Id, names, Refusal}
use Rattle.model.specs.Edit.{Written}
use Rattle.model.specs.Database.{Database, tree_at, same_tree, with_tree, store, store_written}
use Rattle.model.proofs.LookupLaws.{apart, get-put_same, get-put_other}
use Rattle.model.proofs.SameLaws.{same_tree-equal}

module _ (d : Database) (id : Id) where
  store-same : (t : Tree) → tree_at d id ≡ Some t → store d id t ≡ d
  unfolding store
  store-same t is = ap (λ b. cond b d (with_tree d id t)) (ap (λ o. unwrap_or (option_map (same_tree t) o) false) is ∙ (same_tree-equal t t).1 refl)

  store-other : (t : Tree) → tree_at d id ≢ Some t → store d id t ≡ with_tree d id t
  unfolding store
  store-other t other = ap (λ b. cond b d (with_tree d id t)) (at (tree_at d id) refl)
    where
      at : (o : Option Tree) → tree_at d id ≡ o → unwrap_or (option_map (same_tree t) o) false ≡ false
      at None e = refl
      at (Some s) e = false_from_ne_true _ (λ same. other (e ∙ ap Some (sym ((same_tree-equal t s).0 same))))

  pub written-same : (w : Result Written Refusal) (v : Written) → w ≡ Ok v → tree_at d id ≡ Some v.tree → store_written d id w ≡ d
  written-same w v e is = ap (store_written d id) e ∙ store-same v.tree is

  pub written-other : (w : Result Written Refusal) (v : Written) → w ≡ Ok v → tree_at d id ≢ Some v.tree → store_written d id w ≡ with_tree d id v.tree
  written-other w v e other = ap (store_written d id) e ∙ store-other v.tree other

  -- ---- a new tree

  pub with_tree-there : (t : Tree) → get (with_tree d id t).docs id ≡ Some (record { tree = t; seq = d.update_seq + 1 })
  with_tree-there t = get-put_same d.docs id (record { tree = t; seq = d.update_seq + 1 }) id (same_key_itself names id)

  pub with_tree-others : (t : Tree) (other : Id) → other ≢ id → get (with_tree d id t).docs other ≡ get d.docs other
  with_tree-others t other ne = get-put_other d.docs id (record { tree = t; seq = d.update_seq + 1 }) other (apart d.docs id other ne)
