-- The text of a turn, by what became of its item.
use Rattle.std.specs.Prelude.{◌≡◌, ℕ, ◌⊎◌, ◌<◌, ◌≤◌, Bool, true, List, ◌++◌, length, take, Some, Result, Ok, Err, if◌then◌else◌}
use Rattle.std.specs.List.{FoldsTo}
use Rattle.model.specs.Command.{Entry}
use Rattle.model.specs.Query.{Query, Answer}
use Rattle.model.specs.World.{Asked as AskedAt}
use Rattle.model.specs.Told.{Tells}
use Rattle.model.specs.History.{base_of}
use Rattle.http_framing.specs.Input.{Item, Requested, Refused, closes_connection}
use Rattle.http_request.specs.Decide.{decide}
use Rattle.http_request.specs.declared.asked.Asked.{Asked as Asking}
use Rattle.http_request.specs.declared.asked.Asked.TheVariants as asked
use Rattle.http_request.specs.declared.asked.Form.{Form}
use Rattle.http_request.specs.Extent.{extent_of}
use Rattle.http_request.specs.declared.extent.Extent.{Extent}
use Rattle.http_request.specs.declared.extent.Extent.TheVariants as extent
use Rattle.http_request.specs.declared.changes.ChangesAsked.{ChangesAsked}
use Rattle.http_request.specs.declared.changes.Feed.TheVariants as feed
use Rattle.http_request.specs.declared.rejection.Rejection.{Rejection}
use Rattle.http_response.specs.Feed.{feed_head_text}
use Rattle.http_response.specs.Measured.{IsLong}
use Rattle.http_response.specs.Texts.{closing_text, refusal_text, welcome_text, reply_text, answer_text, unavailable_text, no_memory_text}
use Rattle.http_response.specs.declared.connection.Connection.{Connection as After}
use Rattle.http_response.specs.declared.connection.Connection.TheVariants as after
use Rattle.http_response.specs.declared.memory.MemoryFor.TheVariants as memory_for
use Rattle.session_api.specs.declared.fault.Unavailable.TheVariants as unavailable
use Rattle.http_connection.specs.Turn.{Turn}
use Rattle.session_api.specs.Known.{Known, HasEntryAt, database_at}
use Rattle.http_turns.specs.ChangesWanted.{MayWait, changes_query}
use Rattle.http_turns.specs.Feed.{Piece, Ending, GivesPiece, EndsBy, MayBeWhole, ending_text, feed_start, pieces_text}
use Rattle.http_turns.specs.declared.progress.Progress.{Progress}
use Rattle.http_turns.specs.Outcome.{Outcome, Placed, Fixed, Wrote, WroteUntold, WroteUnsynced, Read, Fed, Memory, Failed, Asks}

-- what a response says of the connection
abbrev pub after_closing : Bool → After
after_closing closes = if closes then after.Close else after.Open

-- the text is that of a refusal, as far as the request takes it, or of `/`
abbrev pub IsFixedText : ℕ → Bool → Extent → Result Asking Rejection → List ℕ → Type 0
IsFixedText place closes extent (Err refusal) text = text ≡ refusal_text place (after_closing closes) extent refusal
IsFixedText place closes extent (Ok asked.Welcome) text = text ≡ welcome_text place (after_closing closes)
IsFixedText place closes extent (Ok (asked.Command form command)) text = ⊥
IsFixedText place closes extent (Ok (asked.Query query)) text = ⊥
IsFixedText place closes extent (Ok (asked.Changes changes)) text = ⊥

-- the text is the one that is fixed for the item at this place
abbrev pub HasFixedText : ℕ → Item → List ℕ → Type 0
HasFixedText place (Requested request) text = IsFixedText place request.closes (extent_of request) (decide request) text
HasFixedText place (Refused fault) text = text ≡ closing_text place fault

-- the item is a request, and the text says that memory for it was refused, as far as the request takes that
abbrev pub SaysNoMemory : ℕ → Item → List ℕ → Type 0
SaysNoMemory place (Requested request) text = text ≡ no_memory_text place (extent_of request) memory_for.Call
SaysNoMemory place (Refused fault) text = ⊥

-- a text and whether the connection closes after it are those of the response with this answer
abbrev pub SaysWhole : Item → List ℕ → Bool → ℕ → Query → Answer → Type 0
SaysWhole item text closes place query answer = (Some text ≡ answer_text place (after_closing closes) query answer) × (closes ≡ closes_connection item)

-- A long response with the revisions that were asked for was cut, out of memory for the rest: the text is a part of it, of any
-- length, and the connection closes.
pub record IsCutShort (item : Item) (text : List ℕ) (closes : Bool) (place : ℕ) (query : Query) (answer : Answer) : Type 0 where
  pub long : IsLong query answer
  pub whole : List ℕ
  pub due : Some whole ≡ answer_text place (after_closing (closes_connection item)) query answer
  pub len : ℕ
  pub short : len < length whole
  pub is_part : text ≡ take len whole
  pub closes_then : closes ≡ true

-- the text gives the answer, whole or cut
abbrev pub SaysAnswer : Item → List ℕ → Bool → ℕ → Query → Answer → Type 0
SaysAnswer item text closes place query answer = SaysWhole item text closes place query answer ⊎ IsCutShort item text closes place query answer

-- by what a session knows
module _ (k : Known) where
  -- the item asks for a command, of which what was seen has this entry of the session at the place
  pub record IsWritten (item : Item) (place : ℕ) (form : Form) (entry : Entry) : Type 0 where
    pub asked : Asks item (asked.Command form entry.command)
    pub own : entry.seat.session ≡ k.number
    pub told : HasEntryAt k place entry

  -- the item is a request that asks for changes, which at the first place are this query
  pub record AsksChanges (item : Item) (first place : ℕ) (query : Query) : Type 0 where
    pub changes : ChangesAsked
    pub asked : Asks item (asked.Changes changes)
    pub waits : MayWait changes.feed (database_at k first) changes first place
    pub query_is : query ≡ changes_query (database_at k first) changes

  -- the item is a request that asks this query at the first place, to be answered at the other one
  abbrev pub AsksQuery : Item → ℕ → ℕ → Query → Type 0
  AsksQuery item first place query = ((first ≡ place) × Asks item (asked.Query query)) ⊎ AsksChanges item first place query

  -- the item asks for a query of the first entries, as many as the place says, which they answer so
  pub record IsRead (item : Item) (first place : ℕ) (query : Query) (answer : Answer) : Type 0 where
    pub asked : AsksQuery item first place query
    pub told : Tells (base_of k.base) k.seen (AskedAt k.number query place answer)

  -- The item is a request for a feed that goes on: its head names the place where it begins, and then come its pieces.
  pub record IsFed (item : Item) (place : ℕ) (pieces : List Piece) (ending : Ending) (text : List ℕ) : Type 0 where
    pub changes : ChangesAsked
    pub asked : Asks item (asked.Changes changes)
    pub goes_on : changes.feed ≡ feed.Continuous
    pub within : place ≤ length k.seen
    pub after : Progress
    pub runs : FoldsTo (GivesPiece k) (feed_start (database_at k place) changes) pieces after
    pub ends : EndsBy k after ending
    pub said : text ≡ feed_head_text place ++ (pieces_text pieces ++ ending_text after.following.cursor ending)

  -- the text of the turn reports what became of its item, by what the session knows
  abbrev pub TellsAt : Turn → ℕ → Outcome → Type 0
  TellsAt turn place Fixed = HasFixedText place turn.item turn.text × (turn.closes ≡ closes_connection turn.item)
  TellsAt turn place (Wrote form entry) =
      IsWritten turn.item place form entry
      × (Some turn.text ≡ reply_text place (after_closing turn.closes) form entry.command entry.reply)
      × (turn.closes ≡ closes_connection turn.item)
  TellsAt turn place (WroteUntold form entry) =
      IsWritten turn.item place form entry
      × (turn.text ≡ no_memory_text place extent.Whole memory_for.Reply)
      × (turn.closes ≡ true)
  TellsAt turn place (WroteUnsynced at form entry) =
      IsWritten turn.item at form entry
      × (turn.text ≡ unavailable_text place (after_closing turn.closes) unavailable.Journal)
      × (turn.closes ≡ closes_connection turn.item)
  TellsAt turn place (Read first query answer) =
      IsRead turn.item first place query answer × SaysAnswer turn.item turn.text turn.closes place query answer
  TellsAt turn place (Fed pieces ending) = IsFed turn.item place pieces ending turn.text × (turn.closes ≡ true) × MayBeWhole ending turn.whole
  TellsAt turn place Memory = SaysNoMemory place turn.item turn.text × (turn.closes ≡ true)
  TellsAt turn place (Failed why) =
      (turn.text ≡ unavailable_text place (after_closing turn.closes) why)
      × (turn.closes ≡ closes_connection turn.item)

  abbrev pub IsToldAt : Turn → Placed → Type 0
  IsToldAt turn placed = TellsAt turn placed.place placed.outcome
