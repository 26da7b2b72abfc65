-- Which changes are asked for, by a database.
use Rattle.std.specs.Prelude.{◌≡◌, ℕ, ◌⊎◌, max, Bool, false, length, nat_lt, List, Option, None, Some}
use Rattle.model.specs.Command.{Id}
use Rattle.model.specs.Query.{Query, Changes}
use Rattle.model.specs.Changes.{changed_since, wanted_by}
use Rattle.model.specs.Database.{Database}
use Rattle.http_request.specs.declared.changes.ChangesAsked.{ChangesAsked}
use Rattle.http_request.specs.declared.changes.Feed.{Feed}
use Rattle.http_request.specs.declared.changes.Feed.TheVariants as feed
use Rattle.http_request.specs.declared.changes.Since.{Since}
use Rattle.http_request.specs.declared.changes.Since.TheVariants as since

-- the update number after which changes are asked for, where a database has its own
abbrev pub since_at : Database → Since → ℕ
since_at d (since.Number number) = number
since_at d since.Now = d.update_seq

-- the query for the changes that are asked for
abbrev pub changes_query : Database → ChangesAsked → Query
changes_query d changes = Changes (since_at d changes.since) changes.limit changes.style changes.ids

-- whether a document has an update number above this one, of all documents or of some
abbrev pub has_changes : Database → ℕ → Option (List Id) → Bool
has_changes d since ids = nat_lt 0 (length (changed_since (wanted_by ids) d since))

-- A feed that is asked at the first place may be answered at the other one: at a later one only by a long poll, where
-- the database of the first place has no changes after the number, of the documents that are wanted.
abbrev pub MayWait : Feed → Database → ChangesAsked → ℕ → ℕ → Type 0
MayWait feed.Normal d changes first place = first ≡ place
MayWait feed.LongPoll d changes first place = (first ≡ place) ⊎ (has_changes d (since_at d changes.since) changes.ids ≡ false)
MayWait feed.Continuous d changes first place = ⊥

-- the most rows of a feed that has no limit
unfoldable pub no_limit : ℕ
no_limit = 999999999999999999

-- the most rows of a feed
abbrev pub most_rows : Option ℕ → ℕ
most_rows None = no_limit
most_rows (Some limit) = max limit 1
