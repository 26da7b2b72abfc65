use Rattle.test_threads.proofs.tests.held.outcome.Given as goal

-- the database that was just opened
abbrev pub ghosts-run-J-Naming : goal.ghosts-run-J-Naming
ghosts-run-J-Naming g a = record { book = a.opened.book; base = a.opened.base }

abbrev pub ghosts-run-J-Queued : goal.ghosts-run-J-Queued
ghosts-run-J-Queued g a = record { table = a.opened.table; capacity = a.opened.config.queue; sessions = a.opened.config.sessions }

abbrev pub ghosts-run-J-Opening : goal.ghosts-run-J-Opening
ghosts-run-J-Opening g a = record { config = a.opened.config }
