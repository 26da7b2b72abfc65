-- The turns of a connection.
use Rattle.std.specs.Prelude.{◌≡◌, ℕ, Bool, IsTrue, IsFalse, List, [], ◌∷◌, ◌++◌, map, All, Option, None, Some}
use Rattle.std.specs.List.{flat_map}
use Rattle.http_framing.specs.Input.{Item, closes_connection}

-- an item that was on the connection, the response to it, whether the connection closes after that, and whether the
-- whole response was written
pub record Turn : Type 0 where
  pub item : Item
  pub text : List ℕ
  pub closes : Bool
  pub whole : Bool

-- the items that were on the connection, in order
abbrev pub items_of : List Turn → List Item
items_of turns = map (λ turn. turn.item) turns

-- the responses, one after another
abbrev pub responses_of : List Turn → List ℕ
responses_of turns = flat_map (λ turn. turn.text) turns

-- the turns, and the one whose response was cut, if there is one
abbrev pub all_turns : List Turn → Option Turn → List Turn
all_turns turns None = turns
all_turns turns (Some cut) = turns ++ cut ∷ []

-- all were answered by a whole response
abbrev pub AreWhole : List Turn → Type 0
AreWhole turns = All (λ turn. IsTrue turn.whole) turns

-- the connection goes on after each
abbrev pub GoesOn : List Turn → Type 0
GoesOn turns = All (λ turn. IsFalse turn.closes) turns

-- the connection closes after the last, and goes on after each other
abbrev pub ClosesAtLast : List Turn → Type 0
ClosesAtLast turns = (front : List Turn) × (last : Turn) × (turns ≡ front ++ last ∷ []) × GoesOn front × IsTrue last.closes

-- the turn of an item, by which a service went from one state to the next; where the item closes the connection, so does the turn
pub record TakesTurn {T : Type 0} (answers : T → Turn → T → Type 0) (old new : T) (item : Item) (turn : Turn) : Type 0 where
  pub of_item : turn.item ≡ item
  pub answered : answers old turn new
  pub closes : IsTrue (closes_connection item) → IsTrue turn.closes
