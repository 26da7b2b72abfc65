use Rattle.std.specs.Prelude.{None}
use Rattle.http_front.proofs.server.serve_empty.Given as goal

-- the database that was just opened, in its first epoch
abbrev pub ghosts-serve_all-J-Naming : goal.ghosts-serve_all-J-Naming
ghosts-serve_all-J-Naming g a = record { book = a.opened.book; base = None }

abbrev pub ghosts-serve_all-J-Queued : goal.ghosts-serve_all-J-Queued
ghosts-serve_all-J-Queued g a = record { table = a.opened.table; capacity = a.opened.config.queue; sessions = a.opened.config.sessions }

abbrev pub ghosts-serve_all-J-Opening : goal.ghosts-serve_all-J-Opening
ghosts-serve_all-J-Opening g a = record { config = a.opened.config }
