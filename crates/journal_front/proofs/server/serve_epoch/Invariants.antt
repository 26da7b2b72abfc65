use Rattle.std.specs.Prelude.{◌⊎◌}
use Rattle.journal_front.specs.Keeping.{IsKeptIn, IsLimitIn}
use Rattle.journal_front.proofs.server.serve_epoch.Given as goal

-- the database that was just opened, over the base of the epoch
abbrev pub ghosts-serve_running-J-Naming : goal.ghosts-serve_running-J-Naming
ghosts-serve_running-J-Naming g a = record { book = a.opened.book; base = a.opened.base }

abbrev pub ghosts-serve_running-J-Queued : goal.ghosts-serve_running-J-Queued
ghosts-serve_running-J-Queued g a = record { table = a.opened.table; capacity = a.opened.config.queue; sessions = a.opened.config.sessions }

abbrev pub ghosts-serve_running-J-Opening : goal.ghosts-serve_running-J-Opening
ghosts-serve_running-J-Opening g a = record { config = a.opened.config }

-- the log of what the journal has, which was just opened
abbrev pub ghosts-serve_running-N-Naming : goal.ghosts-serve_running-N-Naming
ghosts-serve_running-N-Naming g a = record { book = a.log; base = a.opened.base }

-- what the journal's appends have said and its syncs have told of it, and what was reported
abbrev pub ghosts-serve_running-N-Keeping : goal.ghosts-serve_running-N-Keeping
ghosts-serve_running-N-Keeping g a = record {
  is_appended = IsKeptIn g.F.Appended.said a.opened.base;
  is_kept = IsKeptIn g.F.Appended.told a.opened.base;
  is_limit = IsLimitIn g.F.Appended.told a.opened.base;
  has_failed = g.L.Notices.reported ⊎ g.E.Epochs.reported;
}
