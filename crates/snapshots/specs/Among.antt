-- The changes of some documents, looked up one document after the other.
use Rattle.std.specs.Prelude.{ℕ, Bool, false, List, nat_lt, Option, Some, None, if◌then◌else◌}
use Rattle.std.specs.Ordering.{nat_cmp}
use Rattle.std.specs.FinMap.Entries.{put}
use Rattle.model.specs.Command.{Id}
use Rattle.model.specs.Database.{Record}

-- whether there is a record with a number above `since`
abbrev pub is_above : ℕ → Option Record → Bool
is_above since None = false
is_above since (Some r) = nat_lt since r.seq

-- with the record that a document has, if it has one, where its number is above `since`
abbrev pub with_change : ℕ → Id → Option Record → List (ℕ × (Id × Record)) → List (ℕ × (Id × Record))
with_change since id None es = es
with_change since id (Some r) es = if nat_lt since r.seq then put nat_cmp r.seq (id, r) es else es
