-- Pages of the changes feed, and what a follower makes of them.
use Rattle.std.specs.Prelude.{◌≤◌, ℕ, max, List, Option, Some, None}
use Rattle.model.specs.Map.{Map}
use Rattle.model.specs.Command.{Id, names}
use Rattle.model.specs.Query.{Row}
use Rattle.model.specs.declared.style.Style.{Style}
use Rattle.model.specs.Database.{IsNumbered}
use Rattle.model.specs.History.{Chronicle, Follows, base_of, now}
use Rattle.model.specs.Changes.{fed, wanted_by, IsRightFeed}

-- at most how many of `count` rows a page has
-- CouchDB: GET /{db}/_changes, "limit"
abbrev pub most_of : Option ℕ → ℕ → ℕ
most_of None count = count
most_of (Some limit) count = max 1 limit

-- the last number that a follower has seen, the style of its rows, and the documents that it follows, where it is not all
pub record Following : Type 0 where
  pub cursor : ℕ
  pub style : Style
  pub ids : Option (List Id)

-- a map that is right up to the cursor at any version before, of this epoch or an older one, is right up to the next cursor,
-- with the rows
-- CouchDB: "CouchDB Replication Protocol", "Locate Changed Documents"
abbrev pub KeepsRight : Following → List Row → ℕ → Chronicle → Type 0
KeepsRight f rows next later = (m : Map names Row) (s : ℕ) (earlier : Chronicle) → IsNumbered (base_of earlier.base) → Follows later earlier
    → f.cursor ≤ (now earlier).update_seq → IsRightFeed (wanted_by f.ids) f.style m s f.cursor (now earlier)
    → IsRightFeed (wanted_by f.ids) f.style (fed m rows) s next (now later)
