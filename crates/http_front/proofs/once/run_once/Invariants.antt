use Rattle.std.specs.Prelude.{None}
use Rattle.http_front.proofs.once.run_once.Given as goal

-- the database that was just opened, in its first epoch
abbrev pub ghosts-once_opened-J-Naming : goal.ghosts-once_opened-J-Naming
ghosts-once_opened-J-Naming g a = record { book = a.opened.book; base = None }

abbrev pub ghosts-once_opened-J-Queued : goal.ghosts-once_opened-J-Queued
ghosts-once_opened-J-Queued g a = record { table = a.opened.table; capacity = a.opened.config.queue; sessions = a.opened.config.sessions }

abbrev pub ghosts-once_opened-J-Opening : goal.ghosts-once_opened-J-Opening
ghosts-once_opened-J-Opening g a = record { config = a.opened.config }
