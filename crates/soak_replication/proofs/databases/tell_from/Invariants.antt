use Rattle.soak_replication.proofs.databases.tell_from.Given as goal

-- the database that was just opened, as the target
abbrev pub ghosts-tell_between-J-Naming : goal.ghosts-tell_between-J-Naming
ghosts-tell_between-J-Naming g a = record { book = a.target.book; base = a.target.base }

abbrev pub ghosts-tell_between-J-Queued : goal.ghosts-tell_between-J-Queued
ghosts-tell_between-J-Queued g a = record { table = a.target.table; capacity = a.target.config.queue; sessions = a.target.config.sessions }

abbrev pub ghosts-tell_between-J-Opening : goal.ghosts-tell_between-J-Opening
ghosts-tell_between-J-Opening g a = record { config = a.target.config }
