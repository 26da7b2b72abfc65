-- Which call a worker makes next, and of which end.
use Rattle.std.specs.Prelude.{◌≡◌, ℕ, ◌<◌, ◌≤◌, Bool, true, false, List, length, take, drop, Option}
use Rattle.model.specs.Map.{entries}
use Rattle.model.specs.Command.{Id, Merge}
use Rattle.model.specs.Revision.{Rev}
use Rattle.replicator.specs.declared.ends.Ends.{Ends}
use Rattle.replicator.specs.declared.job.Job.{Job}
use Rattle.replicator.specs.Asked.{asked_in}
use Rattle.replicator.specs.Bulk.{IsBulkLen}
use Rattle.replicator.specs.Call.{Call, Changes, Diff, OpenRevs, Bulk, LocalGet, LocalPut}
use Rattle.replicator.specs.Stage.{Stage, Unread, SourceRead, Ready, Paged, Passing, Known, Pass, IsCovered}
use Rattle.replicator.specs.Wanted.{max_revs, next_revs, wanted_in}

pub data Side : Type 0 where
  Source : Side
  Target : Side

-- revisions of one document are asked for: the next that the target lacks, from one to a hundred
pub record AsksNext (p : Pass) (id : Id) (revs : List Rev) : Type 0 where
  pub some : 0 < length revs
  pub few : length revs ≤ max_revs
  pub next : revs ≡ next_revs id (drop p.asked (wanted_in (entries p.differences)))

-- all were asked for, and the next of the documents that the source gave are sent
pub record SendsNext (p : Pass) (documents : List Merge) : Type 0 where
  pub asked : p.asked ≡ length (wanted_in (entries p.differences))
  pub next : documents ≡ take (length documents) (drop (length p.taken) p.given)
  pub size : IsBulkLen (drop (length p.taken) p.given) (length documents)

-- the checkpoint of the target is written first, and then the source's
abbrev pub IsMark : Bool → Ends → Side → Option ℕ → Type 0
IsMark false ends side named = (side ≡ Target) × (named ≡ ends.target)
IsMark true ends side named = (side ≡ Source) × (named ≡ ends.source)

-- all that the source gave was taken, all is covered up to the page's end, and this end's checkpoint is written
pub record MarksNext (p : Pass) (side : Side) (named : Option ℕ) (last_seq : ℕ) : Type 0 where
  pub taken : p.taken ≡ p.given
  pub covered : IsCovered p
  pub end : last_seq ≡ p.page.last_seq
  pub mark : IsMark p.marked p.ends side named

-- the call is due of this end
-- CouchDB: "CouchDB Replication Protocol", "Replication Protocol Algorithm"
abbrev pub IsDueAt : Job → Stage → Side → Call → Type 0
IsDueAt job Unread side (LocalGet read answer) = (side ≡ Source) × (read ≡ job.id)
IsDueAt job (SourceRead source) side (LocalGet read answer) = (side ≡ Target) × (read ≡ job.id)
IsDueAt job (Ready ends) side (Changes ids since limit answer) = (side ≡ Source) × (ids ≡ job.ids) × (since ≡ ends.since) × (limit ≡ job.batch)
IsDueAt job (Paged ends page) side (Diff asked answer) = (side ≡ Target) × (asked ≡ asked_in page.rows)
IsDueAt job (Passing p) side (OpenRevs of revs answer) = (side ≡ Source) × AsksNext p of revs
IsDueAt job (Passing p) side (Bulk documents answer) = (side ≡ Target) × SendsNext p documents
IsDueAt job (Passing p) side (LocalPut written named last_seq answer) = (written ≡ job.id) × MarksNext p side named last_seq
IsDueAt job stage side call = ⊥

abbrev pub IsDue : Known → Side → Call → Type 0
IsDue k side call = IsDueAt k.job k.stage side call
