-- What a replication asks of its two ends, with their answers.
use Rattle.std.specs.Prelude.{◌≡◌, ◌≢◌, ℕ, List, Option, Result, Ok, Err, ⊤}
use Rattle.model.specs.Map.{Map}
use Rattle.model.specs.Command.{Id, Merge, names}
use Rattle.model.specs.Query.{ChangesPage, Difference}
use Rattle.model.specs.Revision.{Rev}
use Rattle.streams.specs.Counts.{CountRose}
use Rattle.replicator.specs.declared.checkpoint.Checkpoint.{Checkpoint}
use Rattle.replicator.specs.declared.fault.PeerFault.{PeerFault}
use Rattle.replicator.specs.declared.fault.PeerFault.TheVariants as fault

-- a call of one end, with its answer
-- CouchDB: "CouchDB Replication Protocol", "Replication Protocol Algorithm"
pub data Call : Type 0 where
  -- the changes of all leaves after a number, at most so many rows, of these documents where it is not of all
  Changes : Option (List Id) → ℕ → ℕ → Result ChangesPage PeerFault → Call
  -- which of these revisions are not known
  Diff : Map names (List Rev) → Result (Map names Difference) PeerFault → Call
  -- these revisions, or newer ones in their place, each with its path, or as missing
  OpenRevs : Id → List Rev → Result (List (Result Merge Rev)) PeerFault → Call
  -- documents to be grafted, of which none was refused
  Bulk : List Merge → Result ⊤ PeerFault → Call
  -- the checkpoint of this id, if there is one
  LocalGet : Id → Result (Option Checkpoint) PeerFault → Call
  -- a checkpoint over the revision number that is named, and its own revision number
  LocalPut : Id → Option ℕ → ℕ → Result ℕ PeerFault → Call

-- the count rose where the call answers a failure, and else stayed
abbrev pub CountsFailed : {A : Type 0} → ℕ → ℕ → Result A PeerFault → Type 0
CountsFailed old new (Ok x) = new ≡ old
CountsFailed old new (Err fault.Failed) = CountRose old new
CountsFailed old new (Err fault.Unreadable) = new ≡ old
CountsFailed old new (Err fault.Memory) = new ≡ old
CountsFailed old new (Err fault.Refused) = new ≡ old

-- nothing can be refused by an end that is only read
abbrev pub OnlyReads : {A : Type 0} → Result A PeerFault → Type 0
OnlyReads result = result ≢ Err fault.Refused

-- an end refuses nothing but what is written to it
abbrev pub OnlyWritesRefused : Call → Type 0
OnlyWritesRefused (Changes ids since limit answer) = OnlyReads answer
OnlyWritesRefused (Diff asked answer) = OnlyReads answer
OnlyWritesRefused (OpenRevs id revs answer) = OnlyReads answer
OnlyWritesRefused (LocalGet id answer) = OnlyReads answer
OnlyWritesRefused (Bulk documents answer) = ⊤
OnlyWritesRefused (LocalPut id named last_seq answer) = ⊤
