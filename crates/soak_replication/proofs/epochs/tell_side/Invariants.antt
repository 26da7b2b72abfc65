use Rattle.soak_replication.proofs.epochs.tell_side.Given as goal

-- the database that was just opened, as the end that stays open
abbrev pub ghosts-tell_beside-J-Naming : goal.ghosts-tell_beside-J-Naming
ghosts-tell_beside-J-Naming g a = record { book = a.opened.book; base = a.opened.base }

abbrev pub ghosts-tell_beside-J-Queued : goal.ghosts-tell_beside-J-Queued
ghosts-tell_beside-J-Queued g a = record { table = a.opened.table; capacity = a.opened.config.queue; sessions = a.opened.config.sessions }

abbrev pub ghosts-tell_beside-J-Opening : goal.ghosts-tell_beside-J-Opening
ghosts-tell_beside-J-Opening g a = record { config = a.opened.config }
