-- An end of a replication, with the documents that have passed it.
use Rattle.std.specs.Prelude.{◌≡◌, ℕ, ◌+◌, length, min, Ok}
use Rattle.streams.specs.Counts.{last_count}
use Rattle.replicator.specs.Call.{Call, OpenRevs, Bulk}
use Rattle.replicator.specs.Wanted.{given_in}

-- an end, and how many documents it gave or took, up to the last count
pub record Counted (S : Type 0) : Type 0 where
  pub end : S
  pub passed : ℕ

-- an end that no document has passed
abbrev pub uncounted : {S : Type 0} → S → Counted S
uncounted end = record { end = end; passed = 0 }

-- so many more, up to the last count
abbrev pub and_more : ℕ → ℕ → ℕ
and_more passed more = min (passed + more) last_count

-- the count with the documents that the end gave or took by a call
abbrev pub passed_after : ℕ → Call → ℕ
passed_after passed (OpenRevs id revs (Ok opened)) = and_more passed (length (given_in opened))
passed_after passed (Bulk documents (Ok taken)) = and_more passed (length documents)
passed_after passed call = passed

-- the call moves the end, and the documents that pass are counted
pub record Counts {S : Type 0} (end_goes : S → Call → S → Type 0) (old : Counted S) (call : Call) (new : Counted S) : Type 0 where
  pub goes : end_goes old.end call new.end
  pub counted : new.passed ≡ passed_after old.passed call
