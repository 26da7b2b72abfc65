use Rattle.test_threads.proofs.tests.wait.a_wait_lasts_as_long_turn_by_turn.Given as goal

-- the database that was just opened
abbrev pub ghosts-waits_in_vain-J-Naming : goal.ghosts-waits_in_vain-J-Naming
ghosts-waits_in_vain-J-Naming g a = record { book = a.opened.book; base = a.opened.base }

abbrev pub ghosts-waits_in_vain-J-Queued : goal.ghosts-waits_in_vain-J-Queued
ghosts-waits_in_vain-J-Queued g a = record { table = a.opened.table; capacity = a.opened.config.queue; sessions = a.opened.config.sessions }

abbrev pub ghosts-waits_in_vain-J-Opening : goal.ghosts-waits_in_vain-J-Opening
ghosts-waits_in_vain-J-Opening g a = record { config = a.opened.config }
