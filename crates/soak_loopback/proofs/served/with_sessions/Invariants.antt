use Rattle.soak_loopback.proofs.served.with_sessions.Given as goal

-- the database that was just opened
abbrev pub ghosts-worked-J-Naming : goal.ghosts-worked-J-Naming
ghosts-worked-J-Naming g a = record { book = a.opened.book; base = a.opened.base }

abbrev pub ghosts-worked-J-Queued : goal.ghosts-worked-J-Queued
ghosts-worked-J-Queued g a = record { table = a.opened.table; capacity = a.opened.config.queue; sessions = a.opened.config.sessions }

abbrev pub ghosts-worked-J-Opening : goal.ghosts-worked-J-Opening
ghosts-worked-J-Opening g a = record { config = a.opened.config }
