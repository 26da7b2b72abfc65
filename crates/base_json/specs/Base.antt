-- The text of a base, which the first line of a later epoch's dump names.
use Rattle.std.specs.Prelude.{◌≡◌, ◌≤◌, ℕ, List, map, Option, Some, None, IfSome, codes}
use Rattle.serde_json.specs.Data.{Data, unsigned, number, string, boolean, array, object, Members, no_members, member}
use Rattle.serde_json.specs.View.{items_of}
use Rattle.serde_json.specs.Written.{compact_text}
use Rattle.model.specs.Map.{entries}
use Rattle.model.specs.Body.{IsBody}
use Rattle.model.specs.Command.{Id}
use Rattle.model.specs.Database.{Database, Record, IsRecord}
use Rattle.model.specs.History.{largest_base}
use Rattle.model.specs.Local.{Local}
use Rattle.model.specs.PurgeLog.{PurgeInfo, PurgeLog, IsPurgeInfo}
use Rattle.model.specs.Revision.{Rev, IsRev}
use Rattle.model.specs.Tree.{Tree, Revision}
use Rattle.document_json.specs.Written.{rev_data, revs_data}
use Rattle.purge.specs.Log.{log_of}
use Rattle.snapshots.specs.Parts.{AreParts}
use Rattle.base_json.specs.declared.base.Log.{Log}
use Rattle.snapshots.specs.declared.database.parts.DatabaseParts.{DatabaseParts}
use Rattle.history_json.specs.Commands.{body_first}

-- ---- documents

-- `parent`, only where one is known
abbrev pub parent_first : Option Rev → Members → Members
parent_first None members = members
parent_first (Some parent) members = member (codes "parent") (rev_data parent) members

-- `{"body":{..},"deleted":b,"parent":r,"rev":r}`
abbrev pub revision_data : Rev × Revision → Data
revision_data known =
    object (body_first known.1.body (member (codes "deleted") (boolean known.1.deleted) (parent_first known.1.parent (member (codes "rev") (rev_data known.0) no_members))))

-- all that are known, rising
abbrev pub tree_data : Tree → Data
tree_data t = array (items_of (map revision_data (entries t)))

-- `{"id":i,"revs":[..],"seq":n}`
abbrev pub record_data : Id × Record → Data
record_data document =
    object (member (codes "id") (string document.0) (member (codes "revs") (tree_data document.1.tree) (member (codes "seq") (number (unsigned document.1.seq)) no_members)))

-- ---- local documents

-- `{"body":{..},"id":i,"k":n}`
abbrev pub kept_local_data : Id × Local → Data
kept_local_data document =
    object (member (codes "body") (object document.1.body) (member (codes "id") (string document.0) (member (codes "k") (number (unsigned document.1.counter)) no_members)))

-- ---- purges

-- `{"id":i,"leaves":[r,..],"seq":n}`
abbrev pub purge_info_data : PurgeInfo → Data
purge_info_data p =
    object (member (codes "id") (string p.id) (member (codes "leaves") (revs_data p.leaves) (member (codes "seq") (number (unsigned p.seq)) no_members)))

-- ---- a base

-- what a base ends with: the log of purges, and the last update number
abbrev pub log_members : PurgeLog → ℕ → Members
log_members log update_seq =
    member (codes "purge_seq") (number (unsigned log.purge_seq)) (member (codes "purged_limit") (number (unsigned log.limit))
    (member (codes "purges") (array (items_of (map purge_info_data log.infos))) (member (codes "update_seq") (number (unsigned update_seq)) no_members)))

-- `{"docs":[..],"limit":n,"locals":[..],"purge_seq":n,"purged_limit":n,"purges":[..],"update_seq":n}`
abbrev pub base_data : Database → Data
base_data d =
    object (member (codes "docs") (array (items_of (map record_data (entries d.docs)))) (member (codes "limit") (number (unsigned d.revs_limit))
    (member (codes "locals") (array (items_of (map kept_local_data (entries d.locals)))) (log_members d.purges d.update_seq))))

-- `{"base":B,"couch_history":2}`
abbrev pub begin_data : Database → Data
begin_data d = object (member (codes "base") (base_data d) (member (codes "couch_history") (number (unsigned 2)) no_members))

-- the text of the line, with no space and without the line feed at its end
-- RFC 8259, 2 "JSON Grammar"
abbrev pub base_text : Database → List ℕ
base_text d = compact_text (begin_data d)

-- ---- what is read of one

-- a revision that a tree can have
pub record IsKnown (known : Rev × Revision) : Type 0 where
  pub rev : IsRev known.0
  pub parent : IfSome known.1.parent IsRev
  pub body : IfSome known.1.body IsBody

-- a document that a base can have
pub record IsStored (document : Id × Record) : Type 0 where
  pub stored : IsRecord document.0 document.1
  pub seq : document.1.seq ≤ largest_base

-- a purge that a base can have
pub record IsLogged (p : PurgeInfo) : Type 0 where
  pub purge : IsPurgeInfo p
  pub seq : p.seq ≤ largest_base

-- what was found are the parts of the database
abbrev pub AreFound : Option DatabaseParts → Database → Type 0
AreFound None d = ⊥
AreFound (Some parts) d = AreParts parts d

-- what was found are the purges and the numbers that the database ends with
abbrev pub IsLogOf : Option Log → Database → Type 0
IsLogOf None d = ⊥
IsLogOf (Some log) d = (d.purges ≡ log_of log.purge_seq log.purges.items log.purged_limit) × (d.update_seq ≡ log.update_seq)
