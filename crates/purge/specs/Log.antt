-- The log of purges as a list of entries by their numbers.
use Rattle.std.specs.Prelude.{◌<◌, ◌≤◌, ℕ, List, length, map}
use Rattle.model.specs.Revision.{Rev}
use Rattle.model.specs.Command.{Id}
use Rattle.model.specs.PurgeLog.{PurgeInfo, PurgeLog, AreNumbered}

-- a document that was purged, and the leaves that it lost
abbrev pub PurgedEntry : Type 0
PurgedEntry = Id × List Rev

abbrev pub info_of : ℕ × PurgedEntry → PurgeInfo
info_of e = record { seq = e.0; id = e.1.0; leaves = e.1.1 }

abbrev pub infos_of : List (ℕ × PurgedEntry) → List PurgeInfo
infos_of es = map info_of es

abbrev pub log_of : ℕ → List (ℕ × PurgedEntry) → ℕ → PurgeLog
log_of n es limit = record { purge_seq = n; infos = infos_of es; limit = limit }

-- the numbers rise by one up to the last, and no more are kept than the limit
pub record IsKept (n : ℕ) (es : List (ℕ × PurgedEntry)) (limit : ℕ) : Type 0 where
  pub numbered : AreNumbered n (infos_of es)
  pub room : length es ≤ limit
  pub not_zero : 0 < limit
