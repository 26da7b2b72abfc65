-- How far a replication has come.
use Rattle.std.specs.Prelude.{◌≡◌, ◌⊎◌, ℕ, ◌<◌, ◌≤◌, min, Bool, false, List, [], All, Contains, Option, Some, None, option_map}
use Rattle.std.specs.List.{Any}
use Rattle.model.specs.Map.{Map, entries}
use Rattle.model.specs.Command.{Id, Merge, names}
use Rattle.model.specs.Query.{ChangesPage, Difference}
use Rattle.model.specs.Revision.{Rev}
use Rattle.replicator.specs.declared.checkpoint.Checkpoint.{Checkpoint}
use Rattle.replicator.specs.declared.ends.Ends.{Ends}
use Rattle.replicator.specs.declared.job.Job.{Job}
use Rattle.replicator.specs.Wanted.{IsIn}

-- What a worker knows of the changes after a number: the page of the source, what the target lacks of it, how many of
-- those revisions were asked for, the documents that the source gave and the revisions that it calls missing, the
-- documents that the target took, and whether its checkpoint is written.
pub record Pass : Type 0 where
  pub ends : Ends
  pub page : ChangesPage
  pub differences : Map names Difference
  pub asked : ℕ
  pub given : List Merge
  pub absent : List (Id × Rev)
  pub taken : List Merge
  pub marked : Bool

-- the pass that a page and what the target lacks of it begin
abbrev pub first_pass : Ends → ChangesPage → Map names Difference → Pass
first_pass ends page differences = record {
  ends = ends;
  page = page;
  differences = differences;
  asked = 0;
  given = [];
  absent = [];
  taken = [];
  marked = false;
}

pub data Stage : Type 0 where
  -- nothing is read yet
  Unread : Stage
  -- the source's checkpoint is read
  SourceRead : Option Checkpoint → Stage
  -- both ends' checkpoints are known
  Ready : Ends → Stage
  -- the source gave changes
  Paged : Ends → ChangesPage → Stage
  -- the target reported what it lacks of them
  Passing : Pass → Stage

-- a worker: what it is to do, which stays, and how far it has come
pub record Known : Type 0 where
  pub job : Job
  pub stage : Stage

-- where a replication starts: at the smaller checkpoint, or at 0 where one is lacking
-- CouchDB: "CouchDB Replication Protocol", "Find Common Ancestry"
abbrev pub start_of : Option Checkpoint → Option Checkpoint → ℕ
start_of (Some source) (Some target) = min source.last_seq target.last_seq
start_of (Some source) None = 0
start_of None target = 0

abbrev pub counter_of : Option Checkpoint → Option ℕ
counter_of checkpoint = option_map (λ c. c.counter) checkpoint

abbrev pub ends_of : Option Checkpoint → Option Checkpoint → Ends
ends_of source target = record { since = start_of source target; source = counter_of source; target = counter_of target }

-- ---- what is covered

-- a revision of a document is missing at the target
abbrev pub IsLacking : List (Id × Difference) → Id → Rev → Type 0
IsLacking differences id rev = Any (λ d. (d.0 ≡ id) × Contains d.1.missing rev) differences

-- a revision came to the target in the path of one of these documents, or is missing at the source
abbrev pub IsBrought : List Merge → List (Id × Rev) → Id → Rev → Type 0
IsBrought taken absent id rev = IsIn taken id rev ⊎ Contains absent (id, rev)

-- Of each row above the number up to the page's end, each revision was not missing at the target, or it came there, or
-- is missing at the source.
abbrev pub Covers : ℕ → ChangesPage → List (Id × Difference) → List Merge → List (Id × Rev) → Type 0
Covers since page differences taken absent =
    All (λ row. since < row.seq → row.seq ≤ page.last_seq
    → All (λ rev. IsLacking differences row.id rev → IsBrought taken absent row.id rev) row.changes) page.rows

-- the pass covers all from its start up to the page's end
pub record IsCovered (p : Pass) : Type 0 where
  pub rows : Covers p.ends.since p.page (entries p.differences) p.taken p.absent
