use Rattle.test_threads.proofs.tests.soak.each_receipt_is_told_once.Given as goal

-- the database that was just opened
abbrev pub ghosts-soaked-J-Naming : goal.ghosts-soaked-J-Naming
ghosts-soaked-J-Naming g a = record { book = a.opened.book; base = a.opened.base }

abbrev pub ghosts-soaked-J-Queued : goal.ghosts-soaked-J-Queued
ghosts-soaked-J-Queued g a = record { table = a.opened.table; capacity = a.opened.config.queue; sessions = a.opened.config.sessions }

abbrev pub ghosts-soaked-J-Opening : goal.ghosts-soaked-J-Opening
ghosts-soaked-J-Opening g a = record { config = a.opened.config }
