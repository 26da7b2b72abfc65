-- Entries of a version that is not yet published.
use Rattle.std.specs.Prelude.{◌≡◌, ℕ, ◌+◌, ◌≤◌, List, [], ◌∷◌, length, Option, Some, option_map}
use Rattle.model.specs.Command.{Entry, Reply}
use Rattle.model.specs.Database.{Database}
use Rattle.model.specs.History.{Chronicle}
use Rattle.snapshots.specs.Version.{entry_at}
use Rattle.version_log.specs.Histories.{IsNewest}
use Rattle.updater_state.specs.Answers.{Stands}
use Rattle.updater_state.specs.Outcomes.{Fate, StoodAt, told}

pub record Drafted : Type 0 where
  pub version : Chronicle
  pub session : ℕ
  pub place : ℕ
  pub reply : Reply

-- the version has an entry with that reply at that place
pub record IsDraft (d : Drafted) : Type 0 where
  pub stands : option_map (λ (e : Entry). e.reply) (entry_at d.version.entries d.place) ≡ Some d.reply

-- the version was published last, with at most as many publications as the draft's place
pub record IsPublished (base : Option Database) (published : List (List Entry)) (d : Drafted) : Type 0 where
  pub newest : IsNewest base d.version published
  pub counted : length published ≤ d.place

abbrev pub draft_of : Chronicle → ℕ → Entry → Drafted
draft_of version place e = record { version = version; session = e.seat.session; place = place; reply = e.reply }

-- the drafts of entries behind a place
abbrev pub drafts_from : Chronicle → ℕ → List Entry → List Drafted
drafts_from version place [] = []
drafts_from version place (e ∷ es) = draft_of version (place + 1) e ∷ drafts_from version (place + 1) es

-- what is said of a draft's entry, once its version is published
abbrev pub stands_of : List (List Entry) → Drafted → Stands
stands_of published d = record { published = published; place = d.place; reply = d.reply }

abbrev pub all_drafts_stand : List (List Entry) → List (Option Fate) → List Drafted → List (Option Fate)
all_drafts_stand published outcomes [] = outcomes
all_drafts_stand published outcomes (d ∷ ds) = all_drafts_stand published (told outcomes d.session (StoodAt (stands_of published d))) ds
