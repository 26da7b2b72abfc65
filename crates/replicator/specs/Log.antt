-- What the calls of a replication show by themselves, without what a worker knows.
use Rattle.std.specs.Prelude.{◌≡◌, ◌⊎◌, ℕ, true, List, [], ◌∷◌, ◌++◌, All, Contains, Option, Some, option_to_list, Ok, ⊤}
use Rattle.std.specs.List.{flat_map}
use Rattle.model.specs.Map.{Map, entries}
use Rattle.model.specs.Changes.{wanted_by}
use Rattle.model.specs.Command.{Id, Merge, names}
use Rattle.model.specs.Query.{ChangesPage, Difference}
use Rattle.model.specs.Revision.{Rev}
use Rattle.replicator.specs.declared.checkpoint.Checkpoint.{Checkpoint}
use Rattle.replicator.specs.declared.job.Job.{Job}
use Rattle.replicator.specs.Asked.{asked_in}
use Rattle.replicator.specs.Call.{Call, Changes, Diff, OpenRevs, Bulk, LocalGet, LocalPut}
use Rattle.replicator.specs.Due.{Side, Source, Target}
use Rattle.replicator.specs.Run.{Exchange, Step}
use Rattle.replicator.specs.Stage.{Covers, start_of}
use Rattle.replicator.specs.Wanted.{absent_in, given_in}

abbrev pub called : Side → Call → Exchange
called side call = record { side = side; call = call }

-- the calls that steps made, in their order
abbrev pub log_of : List Step → List Exchange
log_of steps = flat_map (λ step. option_to_list step.exchange) steps

-- ---- what calls brought

abbrev pub given_by : Call → List Merge
given_by (OpenRevs id revs (Ok opened)) = given_in opened
given_by call = []

abbrev pub absent_by : Call → List (Id × Rev)
absent_by (OpenRevs id revs (Ok opened)) = absent_in id opened
absent_by call = []

abbrev pub taken_by : Call → List Merge
taken_by (Bulk documents (Ok done)) = documents
taken_by call = []

-- the documents that the source gave
abbrev pub given_in_log : List Exchange → List Merge
given_in_log log = flat_map (λ e. given_by e.call) log

-- the revisions that the source called missing
abbrev pub absent_in_log : List Exchange → List (Id × Rev)
absent_in_log log = flat_map (λ e. absent_by e.call) log

-- the documents of the bulks of which the target refused none
abbrev pub taken_in_log : List Exchange → List Merge
taken_in_log log = flat_map (λ e. taken_by e.call) log

-- ---- where a pass begins, and what it covers

-- the source's checkpoint was read, and then the target's, last of all
pub record IsRead (id : Id) (log : List Exchange) (since : ℕ) : Type 0 where
  pub before : List Exchange
  pub source : Option Checkpoint
  pub target : Option Checkpoint
  pub log_is : log ≡ before ++ called Source (LocalGet id (Ok source)) ∷ called Target (LocalGet id (Ok target)) ∷ []
  pub since_is : since ≡ start_of source target

-- the source took a checkpoint at this number, last of all
pub record IsMarked (id : Id) (log : List Exchange) (since : ℕ) : Type 0 where
  pub before : List Exchange
  pub named : Option ℕ
  pub counter : ℕ
  pub log_is : log ≡ before ++ called Source (LocalPut id named since (Ok counter)) ∷ []

-- where changes are asked from: 0, the smaller of both checkpoints, or the checkpoint before
-- CouchDB: "CouchDB Replication Protocol", "Find Common Ancestry"
abbrev pub IsStart : Id → List Exchange → ℕ → Type 0
IsStart id log since = IsRead id log since ⊎ IsMarked id log since

-- after some calls the source gave changes, and the target reported what it lacks of them; these calls followed
pub record IsPass (job : Job) (log : List Exchange) (since : ℕ) (page : ChangesPage) (differences : Map names Difference) (calls : List Exchange) : Type 0 where
  pub before : List Exchange
  pub start : IsStart job.id before since
  pub log_is : log ≡ before ++ called Source (Changes job.ids since job.batch (Ok page)) ∷ called Target (Diff (asked_in page.rows) (Ok differences)) ∷ calls

-- each of the documents was in an answer of the source in the pass, and is one of those that are wanted
pub record SendsGiven (job : Job) (log : List Exchange) (documents : List Merge) : Type 0 where
  pub since : ℕ
  pub page : ChangesPage
  pub differences : Map names Difference
  pub calls : List Exchange
  pub pass : IsPass job log since page differences calls
  pub given : All (Contains (given_in_log calls)) documents
  pub wanted : All (λ document. wanted_by job.ids document.id ≡ true) documents

-- the target took the checkpoint at this number
abbrev pub IsMarkedAtTarget : Id → List Exchange → ℕ → Type 0
IsMarkedAtTarget id calls last_seq =
    (named : Option ℕ) × (counter : ℕ) × Contains calls (called Target (LocalPut id named last_seq (Ok counter)))

-- the source's checkpoint comes after the target's
abbrev pub IsMarkedBefore : Side → Id → List Exchange → ℕ → Type 0
IsMarkedBefore Source id calls last_seq = IsMarkedAtTarget id calls last_seq
IsMarkedBefore Target id calls last_seq = ⊤

-- a checkpoint is written at the end of a page, and all from its start up to there is covered by the calls of the pass
pub record MarksCovered (side : Side) (job : Job) (log : List Exchange) (last_seq : ℕ) : Type 0 where
  pub since : ℕ
  pub page : ChangesPage
  pub differences : Map names Difference
  pub calls : List Exchange
  pub pass : IsPass job log since page differences calls
  pub covers : Covers since page (entries differences) (taken_in_log calls) (absent_in_log calls)
  pub end : last_seq ≡ page.last_seq
  pub marked : IsMarkedBefore side job.id calls last_seq

-- ---- what holds of each call, after those before it

-- CouchDB: "CouchDB Replication Protocol", "Replication Protocol Algorithm"
abbrev pub IsSound : Job → List Exchange → Side → Call → Type 0
IsSound job log side (LocalGet read answer) = read ≡ job.id
IsSound job log side (Changes ids since limit answer) = (side ≡ Source) × IsStart job.id log since × (ids ≡ job.ids) × (limit ≡ job.batch)
IsSound job log side (Diff asked answer) = side ≡ Target
IsSound job log side (OpenRevs of revs answer) = side ≡ Source
IsSound job log side (Bulk documents answer) = (side ≡ Target) × SendsGiven job log documents
IsSound job log side (LocalPut written named last_seq answer) = (written ≡ job.id) × MarksCovered side job log last_seq

-- the source gave no changes from where the replication starts or goes on
pub record EndsWithoutChanges (job : Job) (log : List Exchange) (step : Step) : Type 0 where
  pub since : ℕ
  pub page : ChangesPage
  pub start : IsStart job.id log since
  pub none : page.rows ≡ []
  pub asks : step.exchange ≡ Some (called Source (Changes job.ids since job.batch (Ok page)))
