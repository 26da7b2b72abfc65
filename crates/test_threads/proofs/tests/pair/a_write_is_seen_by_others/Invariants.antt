use Rattle.test_threads.proofs.tests.pair.a_write_is_seen_by_others.Given as goal

-- the database that was just opened
abbrev pub ghosts-writes_and_meets-J-Naming : goal.ghosts-writes_and_meets-J-Naming
ghosts-writes_and_meets-J-Naming g a = record { book = a.opened.book; base = a.opened.base }

abbrev pub ghosts-writes_and_meets-J-Queued : goal.ghosts-writes_and_meets-J-Queued
ghosts-writes_and_meets-J-Queued g a = record { table = a.opened.table; capacity = a.opened.config.queue; sessions = a.opened.config.sessions }

abbrev pub ghosts-writes_and_meets-J-Opening : goal.ghosts-writes_and_meets-J-Opening
ghosts-writes_and_meets-J-Opening g a = record { config = a.opened.config }
