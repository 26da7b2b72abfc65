-- A database that is reached over one connection after another.
use Rattle.std.specs.Prelude.{◌≡◌, ◌⊎◌, ℕ, List, Option, Err, ⊤}
use Rattle.replicator.specs.Call.{Call, Changes, Diff, OpenRevs, Bulk, LocalGet, LocalPut}
use Rattle.replicator.specs.declared.fault.PeerFault.TheVariants as fault
use Rattle.replicator_http.specs.Connection.{Connection, Terms, fresh_connection}
use Rattle.replicator_http.specs.Goes.{Goes}

-- the connection that is open now, and how many calls have failed
pub record Reopened : Type 0 where
  pub connection : Connection
  pub failed_calls : ℕ

-- a database on terms of which no call has failed, over a connection on which nothing has been asked
abbrev pub fresh_end : Terms → Option (List ℕ) → ℕ → Option (List ℕ) → ℕ → Reopened
fresh_end terms left failed_reads taken failed_writes =
    record { connection = fresh_connection terms left failed_reads taken failed_writes; failed_calls = 0 }

-- nothing has been asked on the connection on these terms
abbrev pub IsNew : Terms → Connection → Type 0
IsNew terms c =
    (left : Option (List ℕ)) × (failed_reads : ℕ) × (taken : Option (List ℕ)) × (failed_writes : ℕ)
    × (c ≡ fresh_connection terms left failed_reads taken failed_writes)

-- the same call, which failed
abbrev pub failed : Call → Call
failed (Changes ids since limit answer) = Changes ids since limit (Err fault.Failed)
failed (Diff asked answer) = Diff asked (Err fault.Failed)
failed (OpenRevs id revs answer) = OpenRevs id revs (Err fault.Failed)
failed (Bulk documents answer) = Bulk documents (Err fault.Failed)
failed (LocalGet id answer) = LocalGet id (Err fault.Failed)
failed (LocalPut id named last_seq answer) = LocalPut id named last_seq (Err fault.Failed)

-- a call comes to the same if it is asked twice; not so the write of a checkpoint, which would find the first
abbrev pub CanBeAskedTwice : Call → Type 0
CanBeAskedTwice (LocalPut id named last_seq answer) = ⊥
CanBeAskedTwice call = ⊤

-- the call failed over one connection, and has its answer from the next
pub record IsAskedAgain (call : Call) (old new : Connection) : Type 0 where
  pub twice : CanBeAskedTwice call
  pub gone : Connection
  pub next : Connection
  pub failed_first : Goes old (failed call) gone
  pub opened : IsNew gone.terms next
  pub goes : Goes next call new

-- By a call an end goes from one state to the next: over the connection that is open, or where it failed, over a new one.
abbrev pub GoesOver : Reopened → Call → Reopened → Type 0
GoesOver old call new = Goes old.connection call new.connection ⊎ IsAskedAgain call old.connection new.connection
