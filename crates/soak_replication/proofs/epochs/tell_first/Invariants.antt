use Rattle.soak_replication.proofs.epochs.tell_first.Given as goal

-- the successor that was just opened
abbrev pub ghosts-tell_next-J-Naming : goal.ghosts-tell_next-J-Naming
ghosts-tell_next-J-Naming g a = record { book = a.opened.book; base = a.opened.base }

abbrev pub ghosts-tell_next-J-Queued : goal.ghosts-tell_next-J-Queued
ghosts-tell_next-J-Queued g a = record { table = a.opened.table; capacity = a.opened.config.queue; sessions = a.opened.config.sessions }

abbrev pub ghosts-tell_next-J-Opening : goal.ghosts-tell_next-J-Opening
ghosts-tell_next-J-Opening g a = record { config = a.opened.config }
