use Rattle.soak_replication.proofs.databases.tell_case.Given as goal

-- the database that was just opened, as the source
abbrev pub ghosts-tell_from-J-Naming : goal.ghosts-tell_from-J-Naming
ghosts-tell_from-J-Naming g a = record { book = a.source.book; base = a.source.base }

abbrev pub ghosts-tell_from-J-Queued : goal.ghosts-tell_from-J-Queued
ghosts-tell_from-J-Queued g a = record { table = a.source.table; capacity = a.source.config.queue; sessions = a.source.config.sessions }

abbrev pub ghosts-tell_from-J-Opening : goal.ghosts-tell_from-J-Opening
ghosts-tell_from-J-Opening g a = record { config = a.source.config }
