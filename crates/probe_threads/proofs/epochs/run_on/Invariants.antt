use Rattle.probe_threads.proofs.epochs.run_on.Given as goal

-- the database that was just opened
abbrev pub ghosts-ended-J-Naming : goal.ghosts-ended-J-Naming
ghosts-ended-J-Naming g a = record { book = a.opened.book; base = a.opened.base }

abbrev pub ghosts-ended-J-Queued : goal.ghosts-ended-J-Queued
ghosts-ended-J-Queued g a = record { table = a.opened.table; capacity = a.opened.config.queue; sessions = a.opened.config.sessions }

abbrev pub ghosts-ended-J-Opening : goal.ghosts-ended-J-Opening
ghosts-ended-J-Opening g a = record { config = a.opened.config }
