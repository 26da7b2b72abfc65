use Rattle.probe_threads.proofs.epochs.successor.Given as goal

-- the database that was just opened
abbrev pub ghosts-begun-J-Naming : goal.ghosts-begun-J-Naming
ghosts-begun-J-Naming g a = record { book = a.opened.book; base = a.opened.base }

abbrev pub ghosts-begun-J-Queued : goal.ghosts-begun-J-Queued
ghosts-begun-J-Queued g a = record { table = a.opened.table; capacity = a.opened.config.queue; sessions = a.opened.config.sessions }

abbrev pub ghosts-begun-J-Opening : goal.ghosts-begun-J-Opening
ghosts-begun-J-Opening g a = record { config = a.opened.config }
