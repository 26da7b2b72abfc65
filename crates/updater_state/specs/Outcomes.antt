-- What became of the last popped job of each session.
use Rattle.std.specs.Prelude.{◌≡◌, ◌⊎◌, refl, Bool, true, false, ℕ, ◌+◌, List, [], ◌∷◌, length, Option, Some, option_and_then, slice_get, slice_set}
use Rattle.std.specs.Coded.{Coded, code_by, coded⊎, coded_bool}
use mathlib.Core.Logic.{inl, inr}
use Rattle.model.specs.Command.{Entry, Job}
use Rattle.version_log.specs.Histories.{newest}
use Rattle.updater_state.specs.Answers.{Stands}

-- what became of a job
pub data Fate : Type 0 where
  StoodAt : Stands → Fate
  -- these histories were published, and the last has no place left
  NoPlaceLeft : List (List Entry) → Fate
  NoMemory : Fate
  LeftOut : Fate

-- the job has an entry
abbrev pub has_entry : Fate → Bool
has_entry (StoodAt s) = true
has_entry (NoPlaceLeft found) = false
has_entry NoMemory = false
has_entry LeftOut = false

-- a fate as a choice of these, by which a model's value may hold it
abbrev parts : Fate → Stands ⊎ (List (List Entry) ⊎ Bool)
parts (StoodAt s) = inl s
parts (NoPlaceLeft found) = inr (inl found)
parts NoMemory = inr (inr true)
parts LeftOut = inr (inr false)

abbrev whole : Stands ⊎ (List (List Entry) ⊎ Bool) → Fate
whole (inl s) = StoodAt s
whole (inr (inl found)) = NoPlaceLeft found
whole (inr (inr true)) = NoMemory
whole (inr (inr false)) = LeftOut

pub whole-parts : (f : Fate) → whole (parts f) ≡ f
whole-parts (StoodAt s) = refl
whole-parts (NoPlaceLeft found) = refl
whole-parts NoMemory = refl
whole-parts LeftOut = refl

abbrev pub coded_fate : Coded Stands → Coded (List (List Entry)) → Coded Fate
coded_fate stands published = code_by (Stands ⊎ (List (List Entry) ⊎ Bool)) (coded⊎ stands (coded⊎ published coded_bool)) parts whole whole-parts

-- ---- the outcomes by session

-- a session's outcome is this one
abbrev pub told : List (Option Fate) → ℕ → Fate → List (Option Fate)
told outcomes session fate = slice_set outcomes session (Some fate)

-- the outcome of a session, if there is one
abbrev pub outcome_of : List (Option Fate) → ℕ → Option Fate
outcome_of outcomes session = option_and_then (λ o. o) (slice_get outcomes session)

-- each entry is there, at the places behind this one
abbrev pub all_stand : List (List Entry) → ℕ → List (Option Fate) → List Entry → List (Option Fate)
all_stand published place outcomes [] = outcomes
all_stand published place outcomes (e ∷ es) = all_stand published (place + 1) (told outcomes e.seat.session (StoodAt (record { published = published; place = place + 1; reply = e.reply }))) es

-- what a job that is given up is answered: that no place is left, or that memory was refused
abbrev pub IsGivenUp : ℕ → List (List Entry) → Fate → Type 0
IsGivenUp max_places published (NoPlaceLeft found) = (found ≡ published) × (length (newest published) ≡ max_places)
IsGivenUp max_places published NoMemory = Unit {0}
IsGivenUp max_places published (StoodAt s) = ⊥
IsGivenUp max_places published LeftOut = ⊥

-- each job is given up
pub data GivesUp (max_places : ℕ) (published : List (List Entry)) : List Job → List (Option Fate) → List (Option Fate) → Type 0 where
  none_left : (outcomes : List (Option Fate)) → GivesUp max_places published [] outcomes outcomes
  next : (job : Job) (jobs : List Job) (fate : Fate) (old new : List (Option Fate)) → IsGivenUp max_places published fate → GivesUp max_places published jobs (told old job.seat.session fate) new → GivesUp max_places published (job ∷ jobs) old new
