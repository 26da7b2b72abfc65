-- The places of entries that aren't those of a legal history.
use Rattle.std.specs.Prelude.{◌≡◌, ℕ, suc, List, ◌∷◌, ◌++◌, length}
use Rattle.model.specs.Command.{Entry}
use Rattle.model.specs.Database.{Database}
use Rattle.model.specs.History.{IsLegal, IsNext, replay}

-- the last place of a history
abbrev pub last_place : ℕ
last_place = 4294967295

-- The entry at this place is the first whose seat isn't its session's next call, or whose reply isn't that of the
-- sequential database: those before it are a legal history over the base, and it isn't the next one.
pub record IsFirstWrong (base : Database) (entries : List Entry) (place : ℕ) : Type 0 where
  pub before : List Entry
  pub entry : Entry
  pub after : List Entry
  pub entries_are : entries ≡ before ++ entry ∷ after
  pub legal : IsLegal base before
  pub wrong : IsNext (replay base before) entry → ⊥
  pub place_is : place ≡ suc (length before)
