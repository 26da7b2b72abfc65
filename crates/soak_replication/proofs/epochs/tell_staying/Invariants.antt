use Rattle.soak_replication.proofs.epochs.tell_staying.Given as goal

-- the database that was just opened, as the end that is closed
abbrev pub ghosts-tell_first-J-Naming : goal.ghosts-tell_first-J-Naming
ghosts-tell_first-J-Naming g a = record { book = a.opened.book; base = a.opened.base }

abbrev pub ghosts-tell_first-J-Queued : goal.ghosts-tell_first-J-Queued
ghosts-tell_first-J-Queued g a = record { table = a.opened.table; capacity = a.opened.config.queue; sessions = a.opened.config.sessions }

abbrev pub ghosts-tell_first-J-Opening : goal.ghosts-tell_first-J-Opening
ghosts-tell_first-J-Opening g a = record { config = a.opened.config }
