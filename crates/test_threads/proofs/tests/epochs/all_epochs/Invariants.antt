use Rattle.test_threads.proofs.tests.epochs.all_epochs.Given as goal

-- the database that was just opened
abbrev pub ghosts-first_epoch-J-Naming : goal.ghosts-first_epoch-J-Naming
ghosts-first_epoch-J-Naming g a = record { book = a.opened.book; base = a.opened.base }

abbrev pub ghosts-first_epoch-J-Queued : goal.ghosts-first_epoch-J-Queued
ghosts-first_epoch-J-Queued g a = record { table = a.opened.table; capacity = a.opened.config.queue; sessions = a.opened.config.sessions }

abbrev pub ghosts-first_epoch-J-Opening : goal.ghosts-first_epoch-J-Opening
ghosts-first_epoch-J-Opening g a = record { config = a.opened.config }
