-- A relation of databases that each step keeps is kept by the commands: the steps are a document's new tree, a purge, and a compaction.
use Rattle.std.specs.Prelude.{◌≡◌, ℕ, true, false, cond, List, [], ◌∷◌, Option, Result, Ok, Err, option_map, option_and_then, unwrap_or, refl}
use Rattle.model.specs.Map.{entries}
use Rattle.model.specs.Revision.{Rev}
use Rattle.model.specs.Tree.{Tree}
use Rattle.model.specs.TreeChange.{cut}
use Rattle.model.specs.Command.{Id, Edit, Merge, Command, Edits, Merges, PutLocal, Purge, SetLimit, SetPurgedLimit, Compact, Refusal, Seat, Entry}
use Rattle.model.specs.PurgeLog.{logged, limited}
use Rattle.model.specs.Edit.{Written}
use Rattle.model.specs.Database.{Database, tree_at, same_tree, with_tree, store, store_written, edit_in, merge_in, after_edit, after_merge, after_edits, after_merges, removed_of, leave, purge_removed, after_purge, after_purges, compacted, changed_by, act}
use Rattle.model.specs.History.{replay}

-- what edits and merges do, one after another
pub record KeptByWrites (R : Database → Database → Type 0) : Type 0 where
  pub none : (d : Database) → R d d
  pub more : (d e f : Database) → R d e → R e f → R d f
  pub tree : (d : Database) (id : Id) (t : Tree) → R d (with_tree d id t)

module _ (R : Database → Database → Type 0) (k : KeptByWrites R) where
  of_store : (d : Database) (id : Id) (t : Tree) → R d (store d id t)
  unfolding store
  of_store d id t = elim (unwrap_or (option_map (same_tree t) (tree_at d id)) false) as (λ b. R d (cond b d (with_tree d id t))) [ true ↦ k.none d | false ↦ k.tree d id t ]

  of_written : (d : Database) (id : Id) (w : Result Written Refusal) → R d (store_written d id w)
  of_written d id (Ok w) = of_store d id w.tree
  of_written d id (Err e) = k.none d

  pub of_edits : (d : Database) (es : List Edit) → R d (after_edits d es)
  of_edits d [] = k.none d
  of_edits d (e ∷ es) = k.more d (after_edit d e) _ (of_written d e.id (edit_in d e)) (of_edits (after_edit d e) es)

  pub of_merges : (d : Database) (ms : List Merge) → R d (after_merges d ms)
  of_merges d [] = k.none d
  of_merges d (m ∷ ms) = k.more d (after_merge d m) _ (of_written d m.id (merge_in d m)) (of_merges (after_merge d m) ms)

-- a document that lost leaves is logged, and then it has the tree that is left, or goes
abbrev pub purged : Database → Id → List Rev → Option Tree → Database
purged d id leaves left = leave (record d { purges = logged d.purges id leaves }) id left

-- and purges
pub record KeptByPurges (R : Database → Database → Type 0) : Type 0 where
  pub writes : KeptByWrites R
  pub purge : (d : Database) (id : Id) (leaves : List Rev) (left : Option Tree) → R d (purged d id leaves left)

module _ (R : Database → Database → Type 0) (k : KeptByPurges R) where
  of_removed : (d : Database) (id : Id) (named leaves : List Rev) → R d (purge_removed d id named leaves)
  of_removed d id named [] = k.writes.none d
  of_removed d id named (r ∷ rs) = k.purge d id (r ∷ rs) (option_and_then (cut named) (tree_at d id))

  pub of_purges : (d : Database) (es : List (Id × List Rev)) → R d (after_purges d es)
  of_purges d [] = k.writes.none d
  of_purges d (e ∷ es) = k.writes.more d (after_purge d e) _ (of_removed d e.0 e.1 (removed_of d e.0 e.1)) (of_purges (after_purge d e) es)

-- and all that entries do
pub record KeptByEntries (R : Database → Database → Type 0) : Type 0 where
  pub purges : KeptByPurges R
  -- local documents, the limit of revisions and the counts of calls may change
  pub aside : (d e : Database) → e.docs ≡ d.docs → e.purges ≡ d.purges → e.update_seq ≡ d.update_seq → R d e
  pub limit : (d : Database) (n : ℕ) → R d (record d { purges = limited d.purges n })
  pub compact : (d : Database) → R d (compacted d)

module _ (R : Database → Database → Type 0) (k : KeptByEntries R) where
  of_command : (d : Database) (c : Command) → R d (changed_by d c)
  unfolding changed_by
  of_command d (Edits es) = of_edits R k.purges.writes d es
  of_command d (Merges ms) = of_merges R k.purges.writes d ms
  of_command d (PutLocal id named body) = k.aside d _ refl refl refl
  of_command d (Purge named) = of_purges R k.purges d (entries named)
  of_command d (SetLimit n) = k.aside d _ refl refl refl
  of_command d (SetPurgedLimit n) = k.limit d n
  of_command d Compact = k.compact d

  pub of_act : (d : Database) (seat : Seat) (c : Command) → R d (act d seat c)
  unfolding act
  of_act d seat c = k.purges.writes.more d (changed_by d c) _ (of_command d c) (k.aside (changed_by d c) _ refl refl refl)

  pub of_replay : (d : Database) (es : List Entry) → R d (replay d es)
  of_replay d [] = k.purges.writes.none d
  of_replay d (e ∷ es) = k.purges.writes.more d (act d e.seat e.command) _ (of_act d e.seat e.command) (of_replay (act d e.seat e.command) es)
