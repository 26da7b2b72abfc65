-- What an append leaves of a file.
use Rattle.std.specs.Prelude.{◌≡◌, ℕ, ◌<◌, List, length, take, Option, Result, MatchResult}
use Rattle.std.specs.Io.KnownBytes.{append_known}

-- known bytes grow by all of these, and unknown ones stay unknown
abbrev pub TakesAll : Option (List ℕ) → Option (List ℕ) → List ℕ → Type 0
TakesAll old new bytes = new ≡ append_known old bytes

-- the same by a beginning of these, not all
pub record TakesSome (old new : Option (List ℕ)) (bytes : List ℕ) : Type 0 where
  pub count : ℕ
  pub not_all : count < length bytes
  pub taken : TakesAll old new (take count bytes)

-- all of them where the append succeeds, and not all where it fails
abbrev pub Takes : {A E : Type 0} → Option (List ℕ) → Option (List ℕ) → Result A E → List ℕ → Type 0
Takes old new result bytes = MatchResult result (λ _. TakesAll old new bytes) (λ _. TakesSome old new bytes)
