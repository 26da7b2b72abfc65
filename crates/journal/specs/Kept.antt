-- What is known of a journal.
use Rattle.std.specs.Prelude.{ℕ, Bool, List, Option}

-- The bytes that its file has taken, and those of them that the last good sync covered, where they are known; how many of
-- its writes and syncs failed; how many entries it has appended, and how many of them are covered; and whether it is broken.
pub record Kept : Type 0 where
  pub taken : Option (List ℕ)
  pub covered : Option (List ℕ)
  pub failed : ℕ
  pub place : ℕ
  pub synced : ℕ
  pub broken : Bool
