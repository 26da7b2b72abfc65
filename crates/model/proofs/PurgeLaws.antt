-- What becomes of a database with the purge of one document.
use Rattle.std.specs.Prelude.{◌≡◌, ◌≢◌, ◌+◌, ◌<◌, List, [], ◌∷◌, length, All, Option, Some, None, option_map, option_and_then, unwrap_or, refl}
use Rattle.std.proofs.Common.{ap, ◌∙◌, arith}
use Rattle.std.proofs.lemmas.List.Elements.{All-head, All-tail}
use Rattle.model.specs.Map.{get, same_key_itself}
use Rattle.model.specs.Revision.{Rev}
use Rattle.model.specs.Tree.{Tree}
use Rattle.model.specs.TreeChange.{cut, removed_leaves}
use Rattle.model.specs.Command.{Id, names}
use Rattle.model.specs.Database.{Database, tree_at, removed_of, purge_removed, after_purge, after_purges}
use Rattle.model.proofs.LookupLaws.{apart, get-without_same, get-without_other}
use Rattle.model.proofs.StepLaws.{purged}
use Rattle.model.proofs.WriteLaws.{with_tree-there, with_tree-others}

module _ (d : Database) (id : Id) (named : List Rev) where
  abbrev after : Database
  after = after_purge d (id, named)

  module _ (some : 0 < length (removed_of d id named)) where
    purge-some : after ≡ purged d id (removed_of d id named) (option_and_then (cut named) (tree_at d id))
    purge-some = at (removed_of d id named) some
      where
        at : (rs : List Rev) → 0 < length rs → purge_removed d id named rs ≡ purged d id rs (option_and_then (cut named) (tree_at d id))
        at [] less = absurd (omega arith)
        at (r ∷ rs) less = refl

    purge-is : (left : Option Tree) → option_and_then (cut named) (tree_at d id) ≡ left → after ≡ purged d id (removed_of d id named) left
    purge-is left e = purge-some ∙ ap (purged d id (removed_of d id named)) e

    pub purge-left : (t : Tree) → option_and_then (cut named) (tree_at d id) ≡ Some t → (get after.docs id ≡ Some (record { tree = t; seq = d.update_seq + 1 })) × (after.update_seq ≡ d.update_seq + 1)
    purge-left t e = (ap (λ (e : Database). get e.docs id) (purge-is (Some t) e) ∙ with_tree-there d id t, ap (λ (e : Database). e.update_seq) (purge-is (Some t) e))

    pub purge-gone : option_and_then (cut named) (tree_at d id) ≡ None → (get after.docs id ≡ None) × (after.update_seq ≡ d.update_seq)
    purge-gone e = (ap (λ (e : Database). get e.docs id) (purge-is None e) ∙ get-without_same d.docs id id (same_key_itself names id), ap (λ (e : Database). e.update_seq) (purge-is None e))

  pub purge-others : (other : Id) → other ≢ id → get after.docs other ≡ get d.docs other
  purge-others other ne = at (removed_of d id named)
    where
      left : (rs : List Rev) (o : Option Tree) → get (purged d id rs o).docs other ≡ get d.docs other
      left rs (Some t) = with_tree-others d id t other ne
      left rs None = get-without_other d.docs id other (apart d.docs id other ne)

      at : (rs : List Rev) → get (purge_removed d id named rs).docs other ≡ get d.docs other
      at [] = refl
      at (r ∷ rs) = left (r ∷ rs) (option_and_then (cut named) (tree_at d id))

  purge-removed_others : (other : Id) (others : List Rev) → other ≢ id → removed_of after other others ≡ removed_of d other others
  purge-removed_others other others ne = ap (λ o. unwrap_or (option_map (removed_leaves others) (option_map (λ r. r.tree) o)) []) (purge-others other ne)

pub removed_before : (d : Database) (front : List (Id × List Rev)) (id : Id) (named : List Rev) → All (λ e. id ≢ e.0) front → removed_of (after_purges d front) id named ≡ removed_of d id named
removed_before d [] id named apart = refl
removed_before d (e ∷ es) id named apart = removed_before (after_purge d e) es id named (All-tail (λ e. id ≢ e.0) e es apart) ∙ purge-removed_others d e.0 e.1 id named (All-head (λ e. id ≢ e.0) e es apart)
