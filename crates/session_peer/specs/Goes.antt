-- What the calls of an end answer, and what they ask of its session.
use Rattle.std.specs.Prelude.{◌≡◌, ◌⊎◌, ℕ, ◌<◌, ◌≤◌, true, false, List, length, Option, Some, None, Result, Ok, Err, ⊤}
use Rattle.model.specs.Map.{Map}
use Rattle.model.specs.Body.{Body}
use Rattle.model.specs.Command.{Id, Merge, names, Command, Merges, Reply, max_edits}
use Rattle.model.specs.Query.{Query, OpenRevs, RevsDiff, Changes, GetLocal, Answer, Opened, Differences, Changed, FoundLocal, ChangesPage, Difference, Document}
use Rattle.model.specs.declared.style.Style.TheVariants.{AllDocs}
use Rattle.model.specs.Revision.{Rev}
use Rattle.model.specs.Answers.{answer_to}
use Rattle.model.specs.History.{now}
use Rattle.replicator.specs.Call as call
use Rattle.replicator.specs.declared.checkpoint.Checkpoint.{Checkpoint}
use Rattle.replicator.specs.declared.fault.PeerFault.{PeerFault}
use Rattle.replicator.specs.declared.fault.PeerFault.TheVariants as fault
use Rattle.session_api.specs.declared.fault.CallFault.{CallFault}
use Rattle.session_api.specs.declared.fault.CallFault.TheVariants as refused
use Rattle.session_api.specs.SessionCall.{SessionCall, Refreshed, Wrote}
use Rattle.session_api.specs.Learns.{Makes}
use Rattle.session_api.specs.Known.{Known, history_of}
use Rattle.session_peer.specs.Checkpoints.{checkpoint_in, past_numbers}
use Rattle.session_peer.specs.Commands.{are_taken, counter_in, put_checkpoint}
use Rattle.session_peer.specs.Shown.{all_brought, with_paths}

-- why a call of an end has no answer, where that of its session has none: out of memory is out of memory, and all else is
-- a failure
abbrev pub fault_of : CallFault → PeerFault
fault_of refused.Memory = fault.Memory
fault_of (refused.Unavailable reason) = fault.Failed

-- by what a session does, and what it knows
module _ {S : Type 0} (goes : S → SessionCall → S → Type 0) (known : S → Known) where
  -- the session looks, and the query has this answer over all that it has then seen
  pub record Reads (old : S) (query : Query) (answer : Answer) (new : S) : Type 0 where
    pub looked : Makes goes known old (Refreshed (Ok tt)) new
    pub answers : answer ≡ answer_to (now (history_of (known new))) query

  -- the session writes the command, whose entry has this reply
  pub record Writes (old : S) (command : Command) (reply : Reply) (new : S) : Type 0 where
    pub place : ℕ
    pub wrote : Makes goes known old (Wrote command (Ok place)) new
    pub replied : wrote.learns.0.entry.reply ≡ reply

  -- the look has no answer, and so the call has none
  abbrev pub LookFails : S → PeerFault → S → Type 0
  LookFails old f new = (why : CallFault) × Makes goes known old (Refreshed (Err why)) new × (f ≡ fault_of why)

  -- the write has no answer, and so the call has none
  abbrev pub WriteFails : S → Command → PeerFault → S → Type 0
  WriteFails old command f new = (why : CallFault) × Makes goes known old (Wrote command (Err why)) new × (f ≡ fault_of why)

  -- a call that reads has no answer: its look has none, or memory was refused after it
  abbrev pub FailsToRead : S → PeerFault → S → Type 0
  FailsToRead old f new = LookFails old f new ⊎ (Makes goes known old (Refreshed (Ok tt)) new × (f ≡ fault.Memory))

  -- a call that writes has no answer: its write has none, or memory for the command was refused before it
  abbrev pub FailsToWrite : S → Command → PeerFault → S → Type 0
  FailsToWrite old command f new = WriteFails old command f new ⊎ ((new ≡ old) × (f ≡ fault.Memory))

  -- ---- the calls

  abbrev pub GivesChanges : S → Option (List Id) → ℕ → ℕ → Result ChangesPage PeerFault → S → Type 0
  GivesChanges old ids since limit (Ok page) new = Reads old (Changes since (Some limit) AllDocs ids) (Changed page) new
  GivesChanges old ids since limit (Err f) new = FailsToRead old f new

  abbrev pub GivesDifferences : S → Map names (List Rev) → Result (Map names Difference) PeerFault → S → Type 0
  GivesDifferences old asked (Ok differences) new = Reads old (RevsDiff asked) (Differences differences) new
  GivesDifferences old asked (Err f) new = FailsToRead old f new

  -- each revision as a document with its path, or as missing
  abbrev pub GivesRevisions : S → Id → List Rev → Result (List (Result Merge Rev)) PeerFault → S → Type 0
  GivesRevisions old id revs (Ok given) new =
      (opened : List (Result Document Rev)) × Reads old (OpenRevs id (Some revs) with_paths) (Opened opened) new × (given ≡ all_brought opened)
  GivesRevisions old id revs (Err f) new = FailsToRead old f new

  -- a local document whose body has no number of the source can't be read
  abbrev pub GivesCheckpoint : S → Id → Result (Option Checkpoint) PeerFault → S → Type 0
  GivesCheckpoint old id (Ok None) new = Reads old (GetLocal id) (FoundLocal None) new
  GivesCheckpoint old id (Ok (Some checkpoint)) new =
      (local : ℕ × Body) × Reads old (GetLocal id) (FoundLocal (Some local)) new × (checkpoint_in local ≡ Some checkpoint)
  GivesCheckpoint old id (Err fault.Unreadable) new =
      (local : ℕ × Body) × Reads old (GetLocal id) (FoundLocal (Some local)) new × (checkpoint_in local ≡ None)
  GivesCheckpoint old id (Err fault.Failed) new = FailsToRead old fault.Failed new
  GivesCheckpoint old id (Err fault.Memory) new = FailsToRead old fault.Memory new
  GivesCheckpoint old id (Err fault.Refused) new = ⊥

  -- a bulk is refused where a merge is, or where it has more merges than a command may have
  abbrev pub TakesBulk : S → List Merge → Result ⊤ PeerFault → S → Type 0
  TakesBulk old documents (Ok taken) new = (reply : Reply) × Writes old (Merges documents) reply new × (are_taken reply ≡ true)
  TakesBulk old documents (Err fault.Refused) new =
      ((reply : Reply) × Writes old (Merges documents) reply new × (are_taken reply ≡ false))
      ⊎ ((max_edits < length documents) × (new ≡ old))
  TakesBulk old documents (Err fault.Failed) new = FailsToWrite old (Merges documents) fault.Failed new
  TakesBulk old documents (Err fault.Memory) new = FailsToWrite old (Merges documents) fault.Memory new
  TakesBulk old documents (Err fault.Unreadable) new = ⊥

  -- a checkpoint is refused where its write is, or where it names no revision that can be or a number that no body has
  abbrev pub TakesCheckpoint : S → Id → Option ℕ → ℕ → Result ℕ PeerFault → S → Type 0
  TakesCheckpoint old id named last_seq (Ok counter) new =
      (reply : Reply) × Writes old (put_checkpoint id named last_seq) reply new × (counter_in reply ≡ Some counter)
  TakesCheckpoint old id named last_seq (Err fault.Refused) new =
      ((reply : Reply) × Writes old (put_checkpoint id named last_seq) reply new × (counter_in reply ≡ None))
      ⊎ (((named ≡ Some 0) ⊎ (past_numbers ≤ last_seq)) × (new ≡ old))
  TakesCheckpoint old id named last_seq (Err fault.Failed) new = FailsToWrite old (put_checkpoint id named last_seq) fault.Failed new
  TakesCheckpoint old id named last_seq (Err fault.Memory) new = FailsToWrite old (put_checkpoint id named last_seq) fault.Memory new
  TakesCheckpoint old id named last_seq (Err fault.Unreadable) new = ⊥

  -- A call of an end is one look, or one write, of its session, and none where the command can't be made. The answer is the
  -- database's at what the session has then seen, or the fault that the session answers.
  abbrev pub Goes : S → call.Call → S → Type 0
  Goes old (call.Changes ids since limit result) new = GivesChanges old ids since limit result new
  Goes old (call.Diff asked result) new = GivesDifferences old asked result new
  Goes old (call.OpenRevs id revs result) new = GivesRevisions old id revs result new
  Goes old (call.Bulk documents result) new = TakesBulk old documents result new
  Goes old (call.LocalGet id result) new = GivesCheckpoint old id result new
  Goes old (call.LocalPut id named last_seq result) new = TakesCheckpoint old id named last_seq result new
