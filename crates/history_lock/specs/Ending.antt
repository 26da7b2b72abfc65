-- What a master leaves at its end.
use Rattle.std.specs.Prelude.{◌≡◌, ℕ, List, map, filter, All, Option}
use mathlib.Core.List.{IsPrefix}
use Rattle.model.specs.Command.{Entry}
use Rattle.model.specs.Database.{Database}
use Rattle.model.specs.History.{IsLegal, base_of}
use Rattle.sessions.specs.Known.{Known, seen}
use Rattle.sessions.specs.Ends.{is_lost, IsExact}

-- the last history, and the numbers of lost sessions
pub record Ending : Type 0 where
  pub history : List Entry
  pub lost : List ℕ

-- The history is legal over the base and extends what each session had seen. Of each session that is not named lost it
-- has exactly the entries with a receipt.
pub record Ends (base : Option Database) (sessions : List Known) (end : Ending) : Type 0 where
  pub legal : IsLegal (base_of base) end.history
  pub extends : All (λ k. IsPrefix (seen k) end.history) sessions
  pub exact : All (IsExact end.history) sessions
  pub lost : end.lost ≡ map (λ (k : Known). k.number) (filter (is_lost end.history) sessions)
