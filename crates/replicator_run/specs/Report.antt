-- What is said of a whole replication.
use Rattle.std.specs.Prelude.{◌≡◌, ℕ, ◌^◌, ◌-◌, Bool, List, Option, nat_lt, if◌then◌else◌, Result, Ok, Err, codes}
use Rattle.model.specs.Command.{Id}
use Rattle.replicator.specs.declared.fault.PeerFault.{PeerFault}
use Rattle.replicator.specs.declared.fault.PeerFault.TheVariants as fault
use Rattle.replicator.specs.declared.progress.Progress.{Progress}
use Rattle.replicator.specs.declared.progress.Progress.TheVariants as progress
use Rattle.replicator.specs.Call.{Call}
use Rattle.replicator.specs.Run.{IsRun}
use Rattle.replicator.specs.Stage.{Known, Unread}
use Rattle.replicator_run.specs.Counted.{and_more, Counted, Counts, uncounted}
use Rattle.replicator_run.specs.Skipped.{GoesSkipping}
use Rattle.replicator_run.specs.declared.report.Report.{Report}

-- the most changes that are asked for at once
abbrev pub batch : ℕ
batch = 100

-- a run has so many steps at the most
abbrev pub most_steps : ℕ
most_steps = 2 ^ 64 - 1

-- a worker that has asked nothing, with checkpoints of this id, for these documents or for all
abbrev pub fresh : Id → Option (List Id) → Known
fresh id ids = record { job = record { id = id; batch = batch; ids = ids }; stage = Unread }

-- the report of a run that ended so, between ends that come to this
abbrev pub report_of : {S T : Type 0} → (S → ℕ) → (T → ℕ) → Result Progress PeerFault → Counted S → Counted T → Report
report_of source_failures target_failures ended source target = record {
  documents_read = source.passed;
  documents_written = target.passed;
  ended = ended;
  source_failures = source_failures source.end;
  target_failures = target_failures target.end;
}

-- The run of one worker between two ends, of which documents are counted and may be skipped, from the beginning on: the
-- documents that the source gave and those of the bulks that the target took are counted, how it ended is said, and the
-- calls of each end that failed.
pub record RunsBetween {S T : Type 0} (skips : Bool) (source_goes : S → Call → S → Type 0) (target_goes : T → Call → T → Type 0) (source_failures : S → ℕ) (target_failures : T → ℕ) (id : Id) (ids : Option (List Id)) (source : Counted S) (target : Counted T) (report : Report) : Type 0 where
  pub worker : Known
  pub source_after : S
  pub target_after : T
  pub run : IsRun (GoesSkipping (Counts source_goes) skips) (GoesSkipping (Counts target_goes) skips)
      (record { worker = fresh id ids; source = source; target = target })
      most_steps report.ended
      (record {
        worker = worker;
        source = record { end = source_after; passed = report.documents_read };
        target = record { end = target_after; passed = report.documents_written };
      })
  pub source_failed : report.source_failures ≡ source_failures source_after
  pub target_failed : report.target_failures ≡ target_failures target_after

-- the run of one worker between two ends that no document has passed
abbrev pub Replicates : {S T : Type 0} → Bool → (S → Call → S → Type 0) → (T → Call → T → Type 0) → (S → ℕ) → (T → ℕ) → Id → Option (List Id) → S → T → Report → Type 0
Replicates skips source_goes target_goes source_failures target_failures id ids source target report =
    RunsBetween skips source_goes target_goes source_failures target_failures id ids (uncounted source) (uncounted target) report

-- 0 where all changes came to the target, 3 where an answer can't be read or a write was refused, else 1
abbrev pub exit_status : Result Progress PeerFault → ℕ
exit_status (Ok progress.Done) = 0
exit_status (Ok progress.Going) = 1
exit_status (Ok (progress.Checkpoint last_seq)) = 1
exit_status (Err fault.Failed) = 1
exit_status (Err fault.Memory) = 1
exit_status (Err fault.Unreadable) = 3
exit_status (Err fault.Refused) = 3

-- how it ended, in words: where an end failed, the source did if calls of it failed, and else the target
abbrev pub ending : ℕ → Result Progress PeerFault → List ℕ
ending source_failures (Ok progress.Done) = codes "done"
ending source_failures (Ok progress.Going) = codes "not done"
ending source_failures (Ok (progress.Checkpoint last_seq)) = codes "not done"
ending source_failures (Err fault.Failed) = if nat_lt 0 source_failures then codes "the source failed" else codes "the target failed"
ending source_failures (Err fault.Memory) = codes "out of memory"
ending source_failures (Err fault.Unreadable) = codes "an answer can't be read"
ending source_failures (Err fault.Refused) = codes "a write was refused"

-- what two runs did, one behind the other, up to the last count: it ended as the second
abbrev pub both : Report → Report → Report
both first second = record {
  documents_read = and_more first.documents_read second.documents_read;
  documents_written = and_more first.documents_written second.documents_written;
  ended = second.ended;
  source_failures = second.source_failures;
  target_failures = second.target_failures;
}
