-- What a pass holds, and keeps.
use Rattle.std.specs.Prelude.{◌≡◌, ◌⊎◌, ℕ, ◌<◌, ◌≤◌, Bool, true, false, List, length, take, All, Contains}
use Rattle.model.specs.Map.{Map, entries}
use Rattle.model.specs.Command.{Id, Merge, names}
use Rattle.model.specs.Query.{ChangesPage, Difference}
use Rattle.model.specs.Revision.{Rev}
use Rattle.replicator.specs.declared.due.Due.{Due}
use Rattle.replicator.specs.declared.due.Due.TheVariants as due
use Rattle.replicator.specs.declared.ends.Ends.{Ends}
use Rattle.replicator.specs.Stage.{Pass, IsCovered}
use Rattle.replicator.specs.Wanted.{IsIn, wanted_in}

-- of the given documents the target took so many, from the first on
abbrev pub pass_of : Ends → ChangesPage → Map names Difference → ℕ → List Merge → List (Id × Rev) → ℕ → Bool → Pass
pass_of ends page differences asked given absent taken marked = record {
  ends = ends;
  page = page;
  differences = differences;
  asked = asked;
  given = given;
  absent = absent;
  taken = take taken given;
  marked = marked;
}

-- a revision is in the path of a document that is given, or is missing at the source
abbrev pub IsAnswered : List Merge → List (Id × Rev) → Id × Rev → Type 0
IsAnswered given absent wanted = IsIn given wanted.0 wanted.1 ⊎ Contains absent wanted

-- what was asked for is answered
pub record IsPassing (differences : Map names Difference) (wanted : List (Id × Rev)) (asked : ℕ) (given : List Merge) (absent : List (Id × Rev)) (taken : ℕ) : Type 0 where
  pub wanted_is : wanted ≡ wanted_in (entries differences)
  pub asked_within : asked ≤ length wanted
  pub taken_within : taken ≤ length given
  pub answered : All (IsAnswered given absent) (take asked wanted)

-- all that the target lacks was asked for
abbrev pub IsAsked : Pass → Type 0
IsAsked p = p.asked ≡ length (wanted_in (entries p.differences))

-- what is due says how far the pass has come
abbrev pub IsDuePart : Due → Pass → Type 0
IsDuePart due.Open p = p.asked < length (wanted_in (entries p.differences))
IsDuePart due.Send p = IsAsked p × (length p.taken < length p.given)
IsDuePart due.MarkTarget p = (p.taken ≡ p.given) × IsCovered p × (p.marked ≡ false)
IsDuePart due.MarkSource p = (p.taken ≡ p.given) × IsCovered p × (p.marked ≡ true)
