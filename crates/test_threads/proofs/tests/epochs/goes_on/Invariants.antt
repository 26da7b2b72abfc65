use Rattle.test_threads.proofs.tests.epochs.goes_on.Given as goal

-- the database that was just opened
abbrev pub ghosts-last_epoch-J-Naming : goal.ghosts-last_epoch-J-Naming
ghosts-last_epoch-J-Naming g a = record { book = a.opened.book; base = a.opened.base }

abbrev pub ghosts-last_epoch-J-Queued : goal.ghosts-last_epoch-J-Queued
ghosts-last_epoch-J-Queued g a = record { table = a.opened.table; capacity = a.opened.config.queue; sessions = a.opened.config.sessions }

abbrev pub ghosts-last_epoch-J-Opening : goal.ghosts-last_epoch-J-Opening
ghosts-last_epoch-J-Opening g a = record { config = a.opened.config }
