-- The steps of a worker between two ends.
use Rattle.std.specs.Prelude.{◌≡◌, ◌⊎◌, ℕ, ◌<◌, true, List, ◌++◌, length, All, Option, None, Some, option_to_list, Result, Ok, Err, ⊤}
use Rattle.std.specs.List.{FoldsTo, fold}
use Rattle.streams.specs.Counts.{CountRose}
use Rattle.replicator.specs.declared.due.Due.TheVariants as due
use Rattle.replicator.specs.declared.fault.PeerFault.{PeerFault}
use Rattle.replicator.specs.declared.fault.PeerFault.TheVariants as fault
use Rattle.replicator.specs.declared.job.Job.{Job}
use Rattle.replicator.specs.declared.progress.Progress.{Progress}
use Rattle.replicator.specs.declared.progress.Progress.TheVariants as progress
use Rattle.replicator.specs.Call.{Call, Diff, OpenRevs, OnlyWritesRefused}
use Rattle.replicator.specs.Due.{Side, Source, Target, IsDueAt}
use Rattle.replicator.specs.Learned.{Learned, learnt}
use Rattle.replicator.specs.Passing.{IsDuePart}
use Rattle.replicator.specs.Readable.{is_readable_difference, is_readable_opened}
use Rattle.replicator.specs.Stage.{Known, Stage, Unread, SourceRead, Ready, Paged, Passing}

-- a call of one end, with its answer
pub record Exchange : Type 0 where
  pub side : Side
  pub call : Call

-- ---- where a worker takes memory of its own

-- before the call: for what is asked of a page, for the next revisions, and to measure a bulk
abbrev pub TakesMemoryBefore : Stage → Type 0
TakesMemoryBefore Unread = ⊥
TakesMemoryBefore (SourceRead source) = ⊥
TakesMemoryBefore (Ready ends) = ⊥
TakesMemoryBefore (Paged ends page) = ⊤
TakesMemoryBefore (Passing p) = IsDuePart due.Open p ⊎ IsDuePart due.Send p

-- after it: for a difference or for revisions that can be read
abbrev pub TakesMemoryAfter : Stage → Call → Type 0
TakesMemoryAfter (Paged ends page) (Diff asked (Ok differences)) = is_readable_difference asked differences ≡ true
TakesMemoryAfter (Passing p) (OpenRevs id revs (Ok opened)) = is_readable_opened id revs opened ≡ true
TakesMemoryAfter stage call = ⊥

-- ---- a step

-- the call is due, and its answer is learnt, unless memory is refused to the worker after it
pub record IsTurn (job : Job) (stage : Stage) (side : Side) (call : Call) (learned : Learned) : Type 0 where
  pub due : IsDueAt job stage side call
  pub refused : OnlyWritesRefused call
  pub told : (learned ≡ learnt stage call) ⊎ (TakesMemoryAfter stage call × (learned ≡ Err fault.Memory))

-- no end was called, since memory was refused to the worker before
abbrev pub LacksMemory : Stage → Learned → Type 0
LacksMemory stage learned = TakesMemoryBefore stage × (learned ≡ Err fault.Memory)

-- an end was called, unless memory was refused before
abbrev pub Called : {S : Type 0} → (S → Call → S → Type 0) → S → S → Job → Stage → Side → Learned → Type 0
Called goes old new job stage side learned =
    ((call : Call) × goes old call new × IsTurn job stage side call learned) ⊎ ((new ≡ old) × LacksMemory stage learned)

-- what a step called, which is nothing only where memory was refused, and what it reported
pub record Step : Type 0 where
  pub exchange : Option Exchange
  pub result : Result Progress PeerFault

module _ {S T : Type 0} (source_goes : S → Call → S → Type 0) (target_goes : T → Call → T → Type 0) where
  -- the exchange moves one of the two ends
  abbrev pub Moves : Exchange → S → T → S → T → Type 0
  Moves e s t s' t' = elim e.side [ Source ↦ source_goes s e.call s' × (t' ≡ t) | Target ↦ target_goes t e.call t' × (s' ≡ s) ]

  -- one of the ends was called, unless memory was refused before
  abbrev pub Exchanges : Job → Stage → S → T → S → T → Option Exchange → Learned → Type 0
  Exchanges job stage s t s' t' None learned = (s' ≡ s) × (t' ≡ t) × LacksMemory stage learned
  Exchanges job stage s t s' t' (Some e) learned = Moves e s t s' t' × IsTurn job stage e.side e.call learned

-- what a step reports of what was learnt
abbrev pub told_of : Learned → Result Progress PeerFault
told_of (Ok next) = Ok next.1
told_of (Err f) = Err f

-- how far the worker has come then: after a fault it begins anew
abbrev pub stage_after : Learned → Stage
stage_after (Ok next) = next.0
stage_after (Err f) = Unread

-- a worker and its two ends
pub record Party (S T : Type 0) : Type 0 where
  pub worker : Known
  pub source : S
  pub target : T

-- By a step the worker makes at most one call, which is due, of one end; it learns the answer and reports so. It makes
-- none only where memory was refused.
pub record IsStep {S T : Type 0} (source_goes : S → Call → S → Type 0) (target_goes : T → Call → T → Type 0) (old : Party S T) (step : Step) (new : Party S T) : Type 0 where
  pub learned : Learned
  pub exchanges : Exchanges source_goes target_goes old.worker.job old.worker.stage old.source old.target new.source new.target step.exchange learned
  pub told : step.result ≡ told_of learned
  pub knows : new.worker ≡ record old.worker { stage = stage_after learned }

-- the replication goes on after such a step, or ends with it
abbrev pub GoesOn : Result Progress PeerFault → Type 0
GoesOn (Ok progress.Going) = ⊤
GoesOn (Ok (progress.Checkpoint last_seq)) = ⊤
GoesOn (Ok progress.Done) = ⊥
GoesOn (Err f) = ⊥

abbrev pub Ends : Result Progress PeerFault → Type 0
Ends (Ok progress.Going) = ⊥
Ends (Ok (progress.Checkpoint last_seq)) = ⊥
Ends (Ok progress.Done) = ⊤
Ends (Err f) = ⊤

-- what the last step reported
abbrev pub last_told : List Step → Result Progress PeerFault
last_told steps = fold (λ _ step. step.result) (Ok progress.Going) steps

-- either all steps were made, or one ended the replication
abbrev pub IsAnswer : ℕ → List Step → Option Step → Result Progress PeerFault → Type 0
IsAnswer most steps None result = (length steps ≡ most) × (result ≡ last_told steps)
IsAnswer most steps (Some last) result = (length steps < most) × Ends last.result × (result ≡ last.result)

-- the steps of a worker between its two ends: those after which it went on, and the one that ended it, if there is one
pub record IsRun {S T : Type 0} (source_goes : S → Call → S → Type 0) (target_goes : T → Call → T → Type 0) (old : Party S T) (most : ℕ) (result : Result Progress PeerFault) (new : Party S T) : Type 0 where
  pub steps : List Step
  pub last : Option Step
  pub folds : FoldsTo (IsStep source_goes target_goes) old (steps ++ option_to_list last) new
  pub goes_on : All (λ step. GoesOn step.result) steps
  pub answer : IsAnswer most steps last result

-- the counts of failures of both ends: one rose where a failure is reported, and else they stayed
abbrev pub CountsEither : {A : Type 0} → Result A PeerFault → ℕ → ℕ → ℕ → ℕ → Type 0
CountsEither (Err fault.Failed) source target source' target' =
    (CountRose source source' × (target' ≡ target)) ⊎ (CountRose target target' × (source' ≡ source))
CountsEither (Ok x) source target source' target' = (source' ≡ source) × (target' ≡ target)
CountsEither (Err fault.Unreadable) source target source' target' = (source' ≡ source) × (target' ≡ target)
CountsEither (Err fault.Memory) source target source' target' = (source' ≡ source) × (target' ≡ target)
CountsEither (Err fault.Refused) source target source' target' = (source' ≡ source) × (target' ≡ target)
