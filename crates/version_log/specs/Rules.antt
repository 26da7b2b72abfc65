-- The rule of the log of publications, and what its one step reports.
use Rattle.std.specs.Prelude.{ℕ, ◌≡◌, ◌==◌, true, List, [], ◌∷◌, ◌++◌, length, MatchBool}
use Rattle.logbook.specs.Pages.{Cell, Step, View, Book, Named}
use Rattle.model.specs.Command.{Entry}
use Rattle.version_log.specs.Histories.{LengthensAfter}

-- The first word is the number of publications, the second is not used. Each published history lengthens the one before.
-- That each is legal is known by who holds a beginning of the log: it names the base, and the log doesn't.
pub record IsKept (cells : List Cell) (log : List (List Entry)) : Type 0 where
  pub words : cells ≡ (length log, true) ∷ (0, true) ∷ []
  pub lengthens : LengthensAfter [] log

-- the first word of a book
abbrev pub head_of : Book → Named
head_of b = record { tracked = true; key = 0; book = b }

-- the history was published after all that had been seen; or more had been published
abbrev pub Adds : Step (List Entry) → View (List Entry) ℕ → ℕ → View (List Entry) ℕ → Type 0
Adds s v found w = MatchBool (found == s.old) (w.0 ≡ v.0 ++ s.ask ∷ []) (length w.0 ≡ found)
