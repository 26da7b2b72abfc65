-- The sequential database: what it has, and what each command answers and leaves.
use Rattle.std.specs.Prelude.{◌≡◌, ◌<◌, ◌≤◌, ℕ, ◌+◌, Bool, false, ◌&&◌, List, [], ◌∷◌, Option, Some, None, option_map, option_and_then, unwrap_or, Result, Ok, Err, if◌then◌else◌}
use Rattle.std.specs.Option.{option_eq}
use Rattle.std.specs.Bool.{beq}
use Rattle.std.specs.Cmp.Lexicographic.{pointwise}
use Rattle.model.specs.Map.{Map, entries, empty, get, put, refine, without}
use Rattle.model.specs.Body.{Body, IsBody, same_body}
use Rattle.model.specs.Revision.{Rev, same_rev}
use Rattle.model.specs.Tree.{Tree, Revision, IsTree, IsInRange}
use Rattle.model.specs.TreeChange.{strip, cut, removed_leaves}
use Rattle.model.specs.Command.{Id, IsId, names, numbers, Edit, Merge, Command, Edits, Merges, PutLocal, Purge, SetLimit, SetPurgedLimit, Compact, Refusal, Reply, Wrote, WroteLocal, Purged, Done, Seat, IsCounter, IsLimit}
use Rattle.model.specs.PurgeLog.{PurgeLog, IsLog, empty_log, logged, limited}
use Rattle.model.specs.Edit.{Written, edited, merged, revision_written}
use Rattle.model.specs.Local.{Local, local_written, store_local}

-- a document: its tree, and the number of its last update
-- CouchDB: "Technical Overview", "ACID Properties"
pub record Record : Type 0 where
  pub tree : Tree
  pub seq : ℕ

-- CouchDB: "Technical Overview", "Document Storage"
pub record Database : Type 0 where
  pub docs : Map names Record
  pub locals : Map names Local
  pub update_seq : ℕ
  pub purges : PurgeLog
  -- how many revisions are kept above a leaf, itself among them
  pub revs_limit : ℕ
  -- of each session, how many commands it has made
  pub calls : Map numbers ℕ

-- CouchDB: GET /{db}/_revs_limit
abbrev pub empty_database : Database
empty_database = record { docs = empty; locals = empty; update_seq = 0; purges = empty_log; revs_limit = 1000; calls = empty }

abbrev pub tree_at : Database → Id → Option Tree
tree_at d id = option_map (λ r. r.tree) (get d.docs id)

-- ---- equality of trees, as a test

abbrev pub same_revision : Revision → Revision → Bool
same_revision v w = option_eq same_rev v.parent w.parent && beq v.deleted w.deleted && option_eq same_body v.body w.body

abbrev pub same_entry : Rev × Revision → Rev × Revision → Bool
same_entry a b = same_rev a.0 b.0 && same_revision a.1 b.1

unfoldable pub same_tree : Tree → Tree → Bool
same_tree s t = pointwise same_entry (entries s) (entries t)

-- ---- edits and merges

-- the document with that tree, at the next update number
-- CouchDB: "Technical Overview", "ACID Properties"
abbrev pub with_tree : Database → Id → Tree → Database
with_tree d id t = record d { docs = put d.docs id (record { tree = t; seq = d.update_seq + 1 }); update_seq = d.update_seq + 1 }

abbrev pub without_document : Database → Id → Database
without_document d id = record d { docs = without d.docs id }

-- a tree other than the current one takes the next update number
-- CouchDB: GET /{db}, "update_seq"
unfoldable pub store : Database → Id → Tree → Database
store d id t = if unwrap_or (option_map (same_tree t) (tree_at d id)) false then d else with_tree d id t

-- a refused write changes nothing
abbrev pub store_written : Database → Id → Result Written Refusal → Database
store_written d id (Ok w) = store d id w.tree
store_written d id (Err e) = d

abbrev pub edit_in : Database → Edit → Result Written Refusal
edit_in d e = edited d.revs_limit (tree_at d e.id) e

abbrev pub merge_in : Database → Merge → Result Written Refusal
merge_in d m = merged d.revs_limit (tree_at d m.id) m

abbrev pub after_edit : Database → Edit → Database
after_edit d e = store_written d e.id (edit_in d e)

abbrev pub after_merge : Database → Merge → Database
after_merge d m = store_written d m.id (merge_in d m)

-- one after another, in the order listed
-- CouchDB: POST /{db}/_bulk_docs, "Bulk Documents Transaction Semantics"
abbrev pub edit_replies : Database → List Edit → List (Result Rev Refusal)
edit_replies d [] = []
edit_replies d (e ∷ es) = revision_written (edit_in d e) ∷ edit_replies (after_edit d e) es

-- CouchDB: POST /{db}/_bulk_docs, "Bulk Documents Transaction Semantics"
abbrev pub after_edits : Database → List Edit → Database
after_edits d [] = d
after_edits d (e ∷ es) = after_edits (after_edit d e) es

-- CouchDB: POST /{db}/_bulk_docs, "new_edits"
abbrev pub merge_replies : Database → List Merge → List (Result Rev Refusal)
merge_replies d [] = []
merge_replies d (m ∷ ms) = revision_written (merge_in d m) ∷ merge_replies (after_merge d m) ms

-- CouchDB: POST /{db}/_bulk_docs, "new_edits"
abbrev pub after_merges : Database → List Merge → Database
after_merges d [] = d
after_merges d (m ∷ ms) = after_merges (after_merge d m) ms

-- ---- local documents

-- CouchDB: PUT /{db}/_local/{docid}, DELETE /{db}/_local/{docid}
abbrev pub put_local_reply : Database → Id → Option ℕ → Option Body → Result ℕ Refusal
put_local_reply d id named body = local_written (get d.locals id) named body

-- CouchDB: PUT /{db}/_local/{docid}, DELETE /{db}/_local/{docid}
abbrev pub after_put_local : Database → Id → Option ℕ → Option Body → Database
after_put_local d id named body = record d { locals = store_local d.locals id body (put_local_reply d id named body) }

-- ---- purges

-- CouchDB: POST /{db}/_purge, "purged"
abbrev pub removed_of : Database → Id → List Rev → List Rev
removed_of d id named = unwrap_or (option_map (removed_leaves named) (tree_at d id)) []

-- a document that keeps a leaf takes the next update number, and another one goes
-- CouchDB: POST /{db}/_purge
abbrev pub leave : Database → Id → Option Tree → Database
leave d id (Some t) = with_tree d id t
leave d id None = without_document d id

-- each document that loses a leaf takes the next purge number
-- CouchDB: POST /{db}/_purge
abbrev pub purge_removed : Database → Id → List Rev → List Rev → Database
purge_removed d id named [] = d
purge_removed d id named (r ∷ rs) = leave (record d { purges = logged d.purges id (r ∷ rs) }) id (option_and_then (cut named) (tree_at d id))

-- CouchDB: POST /{db}/_purge
abbrev pub after_purge : Database → Id × List Rev → Database
after_purge d e = purge_removed d e.0 e.1 (removed_of d e.0 e.1)

-- in the byte order of the ids
-- CouchDB: POST /{db}/_purge
abbrev pub after_purges : Database → List (Id × List Rev) → Database
after_purges d [] = d
after_purges d (e ∷ es) = after_purges (after_purge d e) es

-- a document is named once, so what stood before the purge decides
-- CouchDB: POST /{db}/_purge, "purged"
abbrev pub purge_reply : Database → Map names (List Rev) → Map names (List Rev)
purge_reply d named = refine (λ id revs. Some (removed_of d id revs)) named

-- ---- commands

-- CouchDB: POST /{db}/_compact
abbrev pub stripped : Record → Record
stripped r = record r { tree = strip r.tree }

-- each record stripped, and nothing else
-- CouchDB: POST /{db}/_compact
abbrev pub compacted : Database → Database
compacted d = record d { docs = refine (λ id r. Some (stripped r)) d.docs }

unfoldable pub reply_to : Database → Command → Reply
reply_to d (Edits es) = Wrote (edit_replies d es)
reply_to d (Merges ms) = Wrote (merge_replies d ms)
reply_to d (PutLocal id named body) = WroteLocal (put_local_reply d id named body)
reply_to d (Purge named) = Purged (after_purges d (entries named)).purges.purge_seq (purge_reply d named)
reply_to d (SetLimit n) = Done
reply_to d (SetPurgedLimit n) = Done
reply_to d Compact = Done

unfoldable pub changed_by : Database → Command → Database
changed_by d (Edits es) = after_edits d es
changed_by d (Merges ms) = after_merges d ms
changed_by d (PutLocal id named body) = after_put_local d id named body
changed_by d (Purge named) = after_purges d (entries named)
changed_by d (SetLimit n) = record d { revs_limit = n }
changed_by d (SetPurgedLimit n) = record d { purges = limited d.purges n }
changed_by d Compact = compacted d

abbrev pub calls_of : Database → ℕ → ℕ
calls_of d session = unwrap_or (get d.calls session) 0

-- with one more call of the session
abbrev pub counted : Database → ℕ → Database
counted d session = record d { calls = put d.calls session (calls_of d session + 1) }

-- CouchDB: "Technical Overview", "ACID Properties"
unfoldable pub act : Database → Seat → Command → Database
act d seat command = counted (changed_by d command) seat.session

-- ---- what a database keeps

-- update numbers of records: from 1 to the database's, and no two alike
-- CouchDB: "Technical Overview", "ACID Properties"
pub record IsNumbered (d : Database) : Type 0 where
  pub within : (id : Id) (r : Record) → get d.docs id ≡ Some r → (0 < r.seq) × (r.seq ≤ d.update_seq)
  pub distinct : (a b : Id) (r s : Record) → get d.docs a ≡ Some r → get d.docs b ≡ Some s → r.seq ≡ s.seq → a ≡ b

pub record IsRecord (id : Id) (r : Record) : Type 0 where
  pub identity : IsId id
  pub tree : IsTree r.tree
  pub in_range : IsInRange r.tree

pub record IsLocal (id : Id) (l : Local) : Type 0 where
  pub identity : IsId id
  pub counter : IsCounter l.counter
  pub body : IsBody l.body

pub record IsDatabase (d : Database) : Type 0 where
  pub docs : (id : Id) (r : Record) → get d.docs id ≡ Some r → IsRecord id r
  pub numbered : IsNumbered d
  pub locals : (id : Id) (l : Local) → get d.locals id ≡ Some l → IsLocal id l
  pub log : IsLog d.purges
  pub revs_limit : IsLimit d.revs_limit
