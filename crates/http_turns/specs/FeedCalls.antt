-- How a feed goes on, by the calls of its session.
use Rattle.std.specs.Prelude.{◌≡◌, ◌⊎◌, ℕ, ◌<◌, Bool, true, false, List, [], ◌∷◌, ◌++◌, length, map, Result, Ok, Err}
use Rattle.std.specs.List.{FoldsTo, flat_map}
use Rattle.model.specs.History.{now}
use Rattle.http_request.specs.declared.changes.ChangesAsked.{ChangesAsked}
use Rattle.session_api.specs.SessionCall.{SessionCall, Refreshed}
use Rattle.http_turns.specs.CallsOfRequest.{MakesNone, WaitsFor}
use Rattle.session_api.specs.Learns.{Makes}
use Rattle.http_turns.specs.Feed.{Piece, Ending, LastLine, LookRefused, RowsRefused, WriteFailed, GivesPiece, feed_start, rows_at}
use Rattle.session_api.specs.Known.{Known, history_of, update_seq_of}
use Rattle.session_api.specs.declared.fault.CallFault.{CallFault}
use Rattle.http_turns.specs.declared.progress.Progress.{Progress}

-- a piece, and the calls of the wait behind it
pub record Round : Type 0 where
  pub piece : Piece
  pub waits : List SessionCall

abbrev pub pieces_of : List Round → List Piece
pieces_of rounds = map (λ round. round.piece) rounds

abbrev pub waits_of : List Round → List SessionCall
waits_of rounds = flat_map (λ round. round.waits) rounds

-- how far a feed has come, and its session
pub record Feeding (S : Type 0) : Type 0 where
  pub progress : Progress
  pub session : S

-- by what a session does, what it knows, and how often a wait looks
module _ {S : Type 0} (goes : S → SessionCall → S → Type 0) (known : S → Known) (turns : ℕ) where
  -- Whether there is more to give behind a piece: no, where as many rows were given as were asked for; yes, where rows are
  -- left of what was seen; and else what a wait for more reports.
  abbrev pub HasMore : Progress → S → List SessionCall → S → Result Bool CallFault → Type 0
  HasMore after old waits new more =
      let k = known old in
      let pending = length (rows_at k (length k.seen) after.following) in
      ((after.left ≡ 0) × MakesNone old waits new × (more ≡ Ok false))
      ⊎ ((0 < after.left) × (0 < pending) × MakesNone old waits new × (more ≡ Ok true))
      ⊎ ((0 < after.left) × (pending ≡ 0) × WaitsFor goes known turns (update_seq_of k) after.following.cursor after.following.ids old waits new more)

  -- a piece was given of what had been seen, and then there was more to give, or not, or a look was refused
  pub record GivesRound (old : Feeding S) (round : Round) (new : Feeding S) (more : Result Bool CallFault) : Type 0 where
    pub gives : GivesPiece (known old.session) old.progress round.piece new.progress
    pub here : round.piece.place ≡ length (known old.session).seen
    pub has_more : HasMore new.progress old.session round.waits new.session more

  abbrev pub GoesRound : Feeding S → Round → Feeding S → Type 0
  GoesRound old round new = GivesRound old round new (Ok true)

  -- the last round, after which there is no more to give, or a look was refused
  abbrev pub StopsAfter : Feeding S → List Round → S → Result Bool CallFault → Type 0
  StopsAfter here last new more =
      (round : Round) × (after : Progress) × (last ≡ round ∷ []) × GivesRound here round (record { progress = after; session = new }) more

  -- why a feed stopped, where there was more to give: with a last round, before the next one, or in it
  abbrev pub Stops : Ending → Feeding S → List Round → S → Type 0
  Stops (LastLine place pending) here last new = StopsAfter here last new (Ok false)
  Stops (LookRefused why) here last new = StopsAfter here last new (Err why)
  Stops RowsRefused here last new = (last ≡ []) × (new ≡ here.session)
  Stops WriteFailed here last new = (waits_of last ≡ []) × (new ≡ here.session)

  -- a feed was given from its start on by these pieces and calls, as long as there was more to give, and ended so
  pub record GivesFeed (start : Feeding S) (pieces : List Piece) (calls : List SessionCall) (ending : Ending) (new : S) : Type 0 where
    pub rounds : List Round
    pub last : List Round
    pub here : Feeding S
    pub runs : FoldsTo GoesRound start rounds here
    pub stops : Stops ending here last new
    pub pieces_are : pieces ≡ pieces_of (rounds ++ last)
    pub calls_are : calls ≡ waits_of (rounds ++ last)

  -- the session looked, and gave a feed of these changes from there on, whose head names this place
  pub record Feeds (changes : ChangesAsked) (old : S) (place : ℕ) (pieces : List Piece) (calls : List SessionCall) (ending : Ending) (new : S) : Type 0 where
    pub here : S
    pub waits : List SessionCall
    pub looks : Makes goes known old (Refreshed (Ok tt)) here
    pub place_is : place ≡ length (known here).seen
    pub gives : GivesFeed (record { progress = feed_start (now (history_of (known here))) changes; session = here }) pieces waits ending new
    pub calls_are : calls ≡ Refreshed (Ok tt) ∷ waits
