-- What was read of a text.
use Rattle.std.specs.Prelude.{ℕ, List, Option}
use Rattle.std.specs.Io.KnownBytes.{Consumes}

-- this holds of what a reader gave
pub record IsRead (old new : Option (List ℕ)) (P : List ℕ → Type 0) : Type 0 where
  pub text : List ℕ
  pub consumed : Consumes old new text
  pub holds : P text
