-- What becomes of what is on a connection.
use Rattle.std.specs.Prelude.{◌≡◌, ℕ, List, [], ◌∷◌, length, Ok, ⊤}
use Rattle.model.specs.Command.{Entry}
use Rattle.model.specs.Query.{Query, Answer}
use Rattle.http_framing.specs.Input.{Item, Requested, Refused}
use Rattle.http_request.specs.Decide.{decide}
use Rattle.http_request.specs.declared.asked.Asked.{Asked as Asking}
use Rattle.http_request.specs.declared.asked.Form.{Form}
use Rattle.session_api.specs.declared.fault.Unavailable.{Unavailable}
use Rattle.session_api.specs.SessionCall.{SessionCall}
use Rattle.http_turns.specs.Feed.{Piece, Ending, feed_places}

-- what becomes of what is on a connection
pub data Outcome : Type 0 where
  -- it is refused, or it asks for `/`
  Fixed : Outcome
  -- the command has this entry
  Wrote : Form → Entry → Outcome
  -- the command has this entry, and memory for the text of its reply was refused
  WroteUntold : Form → Entry → Outcome
  -- the command has this entry, at this place, and the journal failed before it was known to be kept
  WroteUnsynced : ℕ → Form → Entry → Outcome
  -- the query, which was asked at this place or at the one that the response names, has this answer
  Read : ℕ → Query → Answer → Outcome
  -- the rows of a feed were given, piece by piece, until it ended so
  Fed : List Piece → Ending → Outcome
  -- memory was refused for a request, and no entry was written
  Memory : Outcome
  -- its call has no answer for this reason, and what was seen has no entry of it
  Failed : Unavailable → Outcome

-- what became of an item, the place that the response names, and the calls that the session made for it
pub record Placed : Type 0 where
  pub place : ℕ
  pub outcome : Outcome
  pub calls : List SessionCall

-- all places that an outcome speaks of, with the one that its response names
abbrev pub places_spoken : ℕ → Outcome → List ℕ
places_spoken place Fixed = place ∷ []
places_spoken place (Wrote form entry) = place ∷ []
places_spoken place (WroteUntold form entry) = place ∷ []
places_spoken place (WroteUnsynced at form entry) = at ∷ place ∷ []
places_spoken place (Read first query answer) = first ∷ place ∷ []
places_spoken place (Fed pieces ending) = place ∷ feed_places pieces ending
places_spoken place Memory = place ∷ []
places_spoken place (Failed why) = place ∷ []

-- the entries that were written
abbrev pub written : Outcome → List Entry
written Fixed = []
written (Wrote form entry) = entry ∷ []
written (WroteUntold form entry) = entry ∷ []
written (WroteUnsynced at form entry) = entry ∷ []
written (Read first query answer) = []
written (Fed pieces ending) = []
written Memory = []
written (Failed why) = []

-- a response that speaks of no entry and of no database names the place of what the session had seen
abbrev pub NamesSeen : Outcome → ℕ → List Entry → Type 0
NamesSeen Fixed place seen = place ≡ length seen
NamesSeen (Wrote form entry) place seen = ⊤
NamesSeen (WroteUntold form entry) place seen = ⊤
NamesSeen (WroteUnsynced at form entry) place seen = place ≡ length seen
NamesSeen (Read first query answer) place seen = ⊤
NamesSeen (Fed pieces ending) place seen = ⊤
NamesSeen Memory place seen = place ≡ length seen
NamesSeen (Failed why) place seen = place ≡ length seen

-- the item is a request that asks this
abbrev pub Asks : Item → Asking → Type 0
Asks (Requested request) asking = decide request ≡ Ok asking
Asks (Refused fault) asking = ⊥
