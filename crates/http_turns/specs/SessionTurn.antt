-- The turns of a session.
use Rattle.std.specs.Prelude.{◌≡◌, ◌⊎◌, ℕ, List, [], ◌∷◌, ◌++◌, length, Ok, Err}
use Rattle.std.specs.List.{FoldsTo}
use Rattle.model.specs.Command.{Entry}
use Rattle.model.specs.History.{of_session}
use Rattle.model.specs.Told.{NoneFalls}
use Rattle.http_framing.specs.Input.{Item}
use Rattle.http_request.specs.declared.asked.Asked.{Asked as Asking}
use Rattle.http_request.specs.declared.asked.Asked.TheVariants as asked
use Rattle.http_request.specs.declared.changes.ChangesAsked.{ChangesAsked}
use Rattle.session_api.specs.declared.fault.Unavailable.TheVariants as unavailable
use Rattle.http_connection.specs.Turn.{Turn}
use Rattle.session_api.specs.SessionCall.{SessionCall}
use Rattle.http_turns.specs.CallsOfRequest.{CarriesOut, IsReading, MakesNone}
use Rattle.session_api.specs.Learns.{Makes}
use Rattle.http_turns.specs.FeedCalls.{Feeds}
use Rattle.session_api.specs.Known.{Known, sees_more, with_calls}
use Rattle.http_turns.specs.Outcome.{Outcome, Fixed, Wrote, WroteUntold, WroteUnsynced, Read, Fed, Memory, Failed, Placed, Asks, NamesSeen, places_spoken, written}
use Rattle.http_turns.specs.ResponseText.{IsToldAt}
use Rattle.session_api.specs.declared.fault.CallFault.TheVariants as fault

-- What a session had seen before a turn and after it: its new entries of its own are those that were written, and the
-- places that the response speaks of never fall, from the end of what it had seen before to the end of what it had
-- seen after.
pub record Sees (old : Known) (placed : Placed) (new : Known) : Type 0 where
  pub more : List Entry
  pub extends : new ≡ with_calls (sees_more old more) new.pushes new.lost
  pub entries : of_session old.number more ≡ written placed.outcome
  pub places : NoneFalls (length old.seen) (places_spoken placed.place placed.outcome ++ length new.seen ∷ [])
  pub names : NamesSeen placed.outcome placed.place new.seen

-- by what a session does, what it knows, and how often a wait looks
module _ {S : Type 0} (goes : S → SessionCall → S → Type 0) (known : S → Known) (turns : ℕ) where
  -- a call for the item was refused memory, or it was read, and memory for the answer was refused
  abbrev pub LacksMemory : Item → S → List SessionCall → S → Type 0
  LacksMemory item old calls new =
      (asking : Asking) × Asks item asking
      × (CarriesOut goes known turns asking old calls new (Err fault.Memory)
      ⊎ (IsReading asking × ((first : ℕ) × CarriesOut goes known turns asking old calls new (Ok first))))

  -- The outcome follows from the calls that were made for the item, and from their answers: nothing is reported to have failed but
  -- what a call answered.
  abbrev pub FollowsFrom : Item → ℕ → Outcome → S → List SessionCall → S → Type 0
  FollowsFrom item place Fixed old calls new = MakesNone old calls new
  FollowsFrom item place (Wrote form entry) old calls new = CarriesOut goes known turns (asked.Command form entry.command) old calls new (Ok place)
  FollowsFrom item place (WroteUntold form entry) old calls new = CarriesOut goes known turns (asked.Command form entry.command) old calls new (Ok place)
  FollowsFrom item place (WroteUnsynced at form entry) old calls new =
      CarriesOut goes known turns (asked.Command form entry.command) old calls new (Err (fault.Unavailable unavailable.Journal))
  FollowsFrom item place (Read first query answer) old calls new =
      (asking : Asking) × Asks item asking × CarriesOut goes known turns asking old calls new (Ok first)
  FollowsFrom item place (Fed pieces ending) old calls new =
      (changes : ChangesAsked) × Asks item (asked.Changes changes) × Feeds goes known turns changes old place pieces calls ending new
  FollowsFrom item place Memory old calls new = MakesNone old calls new ⊎ LacksMemory item old calls new
  FollowsFrom item place (Failed why) old calls new =
      (asking : Asking) × Asks item asking × CarriesOut goes known turns asking old calls new (Err (fault.Unavailable why))

  -- By a turn a session went from one state to another: by these calls and no other, from which the outcome follows.
  pub record GoesBy (old : S) (item : Item) (placed : Placed) (new : S) : Type 0 where
    pub runs : FoldsTo (Makes goes known) old placed.calls new
    pub follows : FollowsFrom item placed.place placed.outcome old placed.calls new
    pub sees : Sees (known old) placed (known new)

  -- by this turn, which is determined by what it knows then
  pub record Answers (old : S) (turn : Turn) (new : S) : Type 0 where
    pub placed : Placed
    pub told : IsToldAt (known new) turn placed
    pub goes_by : GoesBy old turn.item placed new
