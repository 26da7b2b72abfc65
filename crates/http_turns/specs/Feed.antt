-- A feed that goes on as changes come, determined by the history that its session has seen at the end.
use Rattle.std.specs.Prelude.{◌≡◌, ◌⊎◌, ℕ, ◌+◌, ◌≤◌, Bool, IsFalse, List, [], ◌∷◌, ◌++◌, length, map, take, ⊤}
use Rattle.std.specs.List.{flat_map}
use Rattle.model.specs.Query.{Row}
use Rattle.model.specs.Database.{Database}
use Rattle.model.specs.Changes.{last_seq_of, rows_since, wanted_by}
use Rattle.session_api.specs.declared.following.Following.{Following}
use Rattle.http_request.specs.declared.changes.ChangesAsked.{ChangesAsked}
use Rattle.api_json.specs.Changes.{feed_line}
use Rattle.http_response.specs.Feed.{feed_last_text}
use Rattle.session_api.specs.Known.{Known, database_at}
use Rattle.http_turns.specs.ChangesWanted.{since_at, most_rows}
use Rattle.session_api.specs.declared.fault.CallFault.{CallFault}
use Rattle.http_turns.specs.declared.progress.Progress.{Progress}

-- rows that are given at a place
pub record Piece : Type 0 where
  pub place : ℕ
  pub rows : List Row

-- a line each
abbrev pub piece_text : Piece → List ℕ
piece_text piece = flat_map feed_line piece.rows

abbrev pub pieces_text : List Piece → List ℕ
pieces_text pieces = flat_map piece_text pieces

-- why a feed ended
pub data Ending : Type 0 where
  -- with its last line, at this place, where so many rows are left
  LastLine : ℕ → ℕ → Ending
  -- a look of a wait was refused for this reason
  LookRefused : CallFault → Ending
  -- memory for rows was refused, or 2^64 - 1 pieces were given
  RowsRefused : Ending
  -- a write failed
  WriteFailed : Ending

-- the last line, which is left out after a fault
abbrev pub ending_text : ℕ → Ending → List ℕ
ending_text cursor (LastLine place pending) = feed_last_text cursor pending
ending_text cursor (LookRefused why) = []
ending_text cursor RowsRefused = []
ending_text cursor WriteFailed = []

abbrev pub ending_places : Ending → List ℕ
ending_places (LastLine place pending) = place ∷ []
ending_places (LookRefused why) = []
ending_places RowsRefused = []
ending_places WriteFailed = []

-- a feed of which no write failed may be whole, and one of which a write failed is not
abbrev pub MayBeWhole : Ending → Bool → Type 0
MayBeWhole (LastLine place pending) whole = ⊤
MayBeWhole (LookRefused why) whole = ⊤
MayBeWhole RowsRefused whole = ⊤
MayBeWhole WriteFailed whole = IsFalse whole

-- all places behind the one that the head names
abbrev pub feed_places : List Piece → Ending → List ℕ
feed_places pieces ending = map (λ piece. piece.place) pieces ++ ending_places ending

-- it begins after the number that is asked for, with the documents and as many rows to give as are asked for
abbrev pub feed_start : Database → ChangesAsked → Progress
feed_start d changes = record { following = record { cursor = since_at d changes.since; style = changes.style; ids = changes.ids }; left = most_rows changes.limit }

-- by what a session knows
module _ (k : Known) where
  -- the rows above the cursor at a place
  abbrev pub rows_at : ℕ → Following → List Row
  rows_at place following = rows_since (wanted_by following.ids) (database_at k place) following.cursor following.style

  -- A piece has the first rows above the cursor, some or all, and no more than are still to give.
  pub record GivesPiece (before : Progress) (piece : Piece) (after : Progress) : Type 0 where
    pub within : piece.place ≤ length k.seen
    pub count : ℕ
    pub rows : piece.rows ≡ take count (rows_at piece.place before.following)
    pub following : after.following ≡ record before.following { cursor = last_seq_of before.following.cursor piece.rows }
    pub left : after.left + length piece.rows ≡ before.left

  -- The last line counts the rows above the cursor at its place: none, unless as many were given as were asked for.
  pub record EndsFeed (after : Progress) (place pending : ℕ) : Type 0 where
    pub within : place ≤ length k.seen
    pub counted : pending ≡ length (rows_at place after.following)
    pub all : (after.left ≡ 0) ⊎ (pending ≡ 0)

  abbrev pub EndsBy : Progress → Ending → Type 0
  EndsBy after (LastLine place pending) = EndsFeed after place pending
  EndsBy after (LookRefused why) = ⊤
  EndsBy after RowsRefused = ⊤
  EndsBy after WriteFailed = ⊤
