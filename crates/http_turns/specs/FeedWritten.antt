-- How a feed goes on.
use Rattle.std.specs.Prelude.{◌≡◌, ◌⊎◌, ℕ, ◌<◌, Bool, true, false, IsTrue, List, ◌∷◌, ◌++◌, [], length, take, is_ok, Option, None, Some, Result, Ok, Err, IfOk}
use Rattle.std.specs.List.{FoldsTo, flat_map}
use Rattle.std.specs.Io.KnownBytes.{Appends}
use Rattle.model.specs.Query.{Row}
use Rattle.model.specs.Told.{NoneFalls}
use Rattle.api_json.specs.Changes.{feed_line}
use Rattle.http_framing.specs.Request.{Request}
use Rattle.http_framing.specs.Input.{Requested}
use Rattle.http_connection.specs.Turn.{Turn}
use Rattle.streams.specs.Writes.{Writes}
use Rattle.streams.specs.declared.traits.Failed.{Failed}
use Rattle.session_api.specs.Known.{Known}
use Rattle.session_api.specs.Learns.{Looks}
use Rattle.http_turns.specs.SessionTurn.{Answers}
use Rattle.session_api.specs.SessionCall.{SessionCall}
use Rattle.http_turns.specs.Feed.{Piece, Ending, GivesPiece, EndsBy, MayBeWhole, ending_text, feed_places, pieces_text, piece_text, rows_at}
use Rattle.http_turns.specs.FeedCalls.{GivesFeed}
use Rattle.http_turns.specs.declared.progress.Progress.{Progress}

-- a piece of what had been seen was written, with this text behind what was written before, or a part of it
pub record GivesOne (k : Known) (before after : Progress) (result : Result (Option ℕ) Failed) (taken taken' : Option (List ℕ)) : Type 0 where
  pub piece : Piece
  pub gives : GivesPiece k before piece after
  pub here : piece.place ≡ length k.seen
  pub writes : Writes taken taken' result (piece_text piece)

-- the rows were written, a line each; or the first of them alone, out of memory for the others; or a part of their text, where a
-- write failed
abbrev pub WritesRows : Option (List ℕ) → Option (List ℕ) → Result Bool Failed → List Row → Type 0
WritesRows taken taken' (Ok true) rows = Appends taken taken' (flat_map feed_line rows)
WritesRows taken taken' (Ok false) rows = (n : ℕ) × (n < length rows) × Appends taken taken' (flat_map feed_line (take n rows))
WritesRows taken taken' (Err failed) rows =
    let text : List ℕ = flat_map feed_line rows in
    (n : ℕ) × (n < length text) × Appends taken taken' (take n text)

-- a piece of what had been seen was written, and memory was refused for more of the rows that are to be given
pub record GivesPart (k : Known) (before : Progress) (taken taken' : Option (List ℕ)) : Type 0 where
  pub piece : Piece
  pub after : Progress
  pub gives : GivesPiece k before piece after
  pub here : piece.place ≡ length k.seen
  pub writes : Appends taken taken' (piece_text piece)
  pub to_give : 0 < after.left
  pub more : 0 < length (rows_at k (length k.seen) after.following)

-- The next piece was written, after which so many rows are left; or a part of it, where a write failed; or a piece with fewer rows
-- than are to be given, or nothing, where memory was refused.
abbrev pub GivesNext : Known → Progress → Progress → Result (Option ℕ) Failed → Option (List ℕ) → Option (List ℕ) → Type 0
GivesNext k before after (Ok None) taken taken' = (taken' ≡ taken) ⊎ GivesPart k before taken taken'
GivesNext k before after (Ok (Some pending)) taken taken' =
    GivesOne k before after (Ok (Some pending)) taken taken' × (pending ≡ length (rows_at k (length k.seen) after.following))
GivesNext k before after (Err failed) taken taken' = GivesOne k before after (Err failed) taken taken'

module _ {S : Type 0} (goes : S → SessionCall → S → Type 0) (known : S → Known) (turns : ℕ) where
  -- A feed was given from its start on, with this text behind its head, whole or not.
  pub record GoesOn (old new : S) (start : Progress) (whole : Bool) (text : List ℕ) : Type 0 where
    pub looks : Looks (known old) (known new)
    pub pieces : List Piece
    pub calls : List SessionCall
    pub ending : Ending
    pub after : Progress
    pub gives : GivesFeed goes known turns (record { progress = start; session = old }) pieces calls ending new
    pub runs : FoldsTo (GivesPiece (known new)) start pieces after
    pub ends : EndsBy (known new) after ending
    pub places : NoneFalls (length (known old).seen) (feed_places pieces ending ++ length (known new).seen ∷ [])
    pub said : text ≡ pieces_text pieces ++ ending_text after.following.cursor ending
    pub may_be_whole : MayBeWhole ending whole

  -- The turn of a request: its text was written, or a part of it.
  pub record WritesTurn (old new : S) (request : Request) (result : Result Bool Failed) (taken taken' : Option (List ℕ)) : Type 0 where
    pub turn : Turn
    pub of_request : turn.item ≡ Requested request
    pub answers : Answers goes known turns old turn new
    pub closes : IsTrue request.closes → IsTrue turn.closes
    pub writes : Writes taken taken' result turn.text
    pub whole : turn.whole ≡ is_ok result
    pub tells : IfOk result (λ c. c ≡ turn.closes)
