-- What a worker learns from the answer to a call.
use Rattle.std.specs.Prelude.{ℕ, ◌+◌, true, List, [], ◌∷◌, ◌++◌, length, Some, Result, Ok, Err, if◌then◌else◌}
use Rattle.model.specs.Command.{Id, Merge}
use Rattle.model.specs.Query.{ChangesPage}
use Rattle.model.specs.Revision.{Rev}
use Rattle.replicator.specs.declared.ends.Ends.{Ends}
use Rattle.replicator.specs.declared.fault.PeerFault.{PeerFault}
use Rattle.replicator.specs.declared.fault.PeerFault.TheVariants as fault
use Rattle.replicator.specs.declared.progress.Progress.{Progress}
use Rattle.replicator.specs.declared.progress.Progress.TheVariants as progress
use Rattle.replicator.specs.Call.{Call, Changes, Diff, OpenRevs, Bulk, LocalGet, LocalPut}
use Rattle.replicator.specs.Readable.{is_readable_page, is_readable_difference, is_readable_opened}
use Rattle.replicator.specs.Stage.{Stage, Unread, SourceRead, Ready, Paged, Passing, Pass, ends_of, first_pass}
use Rattle.replicator.specs.Wanted.{absent_in, given_in}

-- what the worker knows next, and what it reports
abbrev pub Learned : Type 0
Learned = Result (Stage × Progress) PeerFault

abbrev pub goes_on : Stage → Learned
goes_on stage = Ok (stage, progress.Going)

-- a page without rows ends the replication
abbrev pub learnt_of_page : Ends → ChangesPage → Learned
learnt_of_page ends page = elim page.rows [ [] ↦ Ok (Unread, progress.Done) | row ∷ rows ↦ goes_on (Paged ends page) ]

-- with what the source said of the revisions that were asked for
abbrev pub with_opened : Pass → Id → List Rev → List (Result Merge Rev) → Pass
with_opened p id revs opened = record p {
  asked = p.asked + length revs;
  given = p.given ++ given_in opened;
  absent = p.absent ++ absent_in id opened;
}

-- with documents that the target took
abbrev pub with_taken : Pass → List Merge → Pass
with_taken p documents = record p { taken = p.taken ++ documents }

-- the target's checkpoint is there, under this revision number
abbrev pub with_mark : Pass → ℕ → Pass
with_mark p counter = record p { ends = record p.ends { target = Some counter }; marked = true }

-- the source's checkpoint is there too, and changes are asked for from there
abbrev pub ends_after : Ends → ℕ → ℕ → Ends
ends_after ends last_seq counter = record ends { since = last_seq; source = Some counter }

abbrev pub learnt_of_mark : Pass → ℕ → ℕ → Learned
learnt_of_mark p last_seq counter =
    if p.marked then Ok (Ready (ends_after p.ends last_seq counter), progress.Checkpoint last_seq) else goes_on (Passing (with_mark p counter))

abbrev pub fault_in : {A : Type 0} → Result A PeerFault → PeerFault
fault_in (Ok x) = fault.Unreadable
fault_in (Err f) = f

-- the fault that was answered
abbrev pub fault_of : Call → PeerFault
fault_of (Changes ids since limit answer) = fault_in answer
fault_of (Diff asked answer) = fault_in answer
fault_of (OpenRevs id revs answer) = fault_in answer
fault_of (Bulk documents answer) = fault_in answer
fault_of (LocalGet id answer) = fault_in answer
fault_of (LocalPut id named last_seq answer) = fault_in answer

abbrev pub learnt : Stage → Call → Learned
learnt Unread (LocalGet id (Ok source)) = goes_on (SourceRead source)
learnt (SourceRead source) (LocalGet id (Ok target)) = goes_on (Ready (ends_of source target))
learnt (Ready ends) (Changes ids since limit (Ok page)) =
    if is_readable_page ids since limit page then learnt_of_page ends page else Err fault.Unreadable
learnt (Paged ends page) (Diff asked (Ok differences)) =
    if is_readable_difference asked differences then goes_on (Passing (first_pass ends page differences)) else Err fault.Unreadable
learnt (Passing p) (OpenRevs id revs (Ok opened)) =
    if is_readable_opened id revs opened then goes_on (Passing (with_opened p id revs opened)) else Err fault.Unreadable
learnt (Passing p) (Bulk documents (Ok taken)) = goes_on (Passing (with_taken p documents))
learnt (Passing p) (LocalPut id named last_seq (Ok counter)) = learnt_of_mark p last_seq counter
learnt stage call = Err (fault_of call)
