-- What goes on after a database was closed.
use Rattle.std.specs.Prelude.{◌<◌, ◌⊎◌, Option}
use Rattle.model.specs.Database.{Database}
use Rattle.model.specs.History.{replay, largest_base, base_of}
use Rattle.history_lock.specs.Ending.{Ending}

-- the last database, of a history over this base
abbrev pub last_database : Option Database → Ending → Database
last_database base end = replay (base_of base) end.history

-- its update number or its purge number is too large for a next epoch
abbrev pub HasTooLargeNumbers : Database → Type 0
HasTooLargeNumbers d = (largest_base < d.update_seq) ⊎ (largest_base < d.purges.purge_seq)
