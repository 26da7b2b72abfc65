-- What becomes of what is on a connection.
use Rattle.std.specs.Prelude.{◌≡◌, ◌<◌, ℕ, Bool, IsFalse, IsTrue, List, length, [], ◌∷◌, ◌++◌, Option, None, Some, ⊤}
use Rattle.std.specs.List.{filter_map, FoldsTo}
use Rattle.httparse.specs.Grammar.{RequestHead}
use Rattle.http_framing.specs.Headers.{headers_of}
use Rattle.http_framing.specs.Request.{Request, BeginsWithHead, IsAskedBy}
use Rattle.http_framing.specs.Refusal.{IsRefused}
use Rattle.http_framing.specs.Input.{Item, Requested, Refused, closes_connection}
use Rattle.http_connection.specs.Turn.{Turn}
use Rattle.origin_policy.specs.Answers.{allowing, forbidden_text, preflight_text}
use Rattle.origin_policy.specs.Verdict.{Decision, Passes, PassesTo, Preflight, IsForbidden, decide}
use Rattle.origin_policy.specs.declared.judging.Forbidden.{Forbidden}
use Rattle.origin_policy.specs.declared.policy.Policy.{Policy}
use Rattle.http_guard.specs.Extended.{extended}

-- what became of an item; where it is no turn of a service, or more than that, it was written whole or not
pub data Passage : Type 0 where
  -- a service took this turn
  Passed : Turn → Passage
  -- a service took this turn, and a page of this origin may read the response
  PassedTo : List ℕ → Turn → Bool → Passage
  -- it was the question of a browser for a page of this origin
  Questioned : Request → List ℕ → Bool → Passage
  -- it was refused
  Forbade : Request → Forbidden → Bool → Passage

-- the turn of the connection
abbrev pub turn_of : Passage → Turn
turn_of (Passed turn) = turn
turn_of (PassedTo origin turn whole) = record turn { text = extended (allowing origin) turn.text; whole = whole }
turn_of (Questioned request origin whole) =
    record { item = Requested request; text = preflight_text origin request.closes; closes = request.closes; whole = whole }
turn_of (Forbade request reason whole) =
    record { item = Requested request; text = forbidden_text reason request.method request.closes; closes = request.closes; whole = whole }

-- the decision by which it became of it
abbrev pub decision_by : Passage → Decision
decision_by (Passed turn) = Passes
decision_by (PassedTo origin turn whole) = PassesTo origin
decision_by (Questioned request origin whole) = Preflight origin
decision_by (Forbade request reason whole) = IsForbidden reason

-- the turn that a service took
abbrev pub taken_of : Passage → Option Turn
taken_of (Passed turn) = Some turn
taken_of (PassedTo origin turn whole) = Some turn
taken_of (Questioned request origin whole) = None
taken_of (Forbade request reason whole) = None

-- the turns that a service took, in order
abbrev pub turns_taken : List Passage → List Turn
turns_taken passages = filter_map taken_of passages

-- a response that was cut is not empty
abbrev pub IsCutOfSome : Turn → Type 0
IsCutOfSome turn = IsFalse turn.whole → 0 < length turn.text

-- where the page's response is whole, the service wrote its own whole
abbrev pub KeepsWhole : Passage → Type 0
KeepsWhole (Passed turn) = IsCutOfSome turn
KeepsWhole (PassedTo origin turn whole) = (IsTrue whole → IsTrue turn.whole) × IsCutOfSome turn
KeepsWhole (Questioned request origin whole) = ⊤
KeepsWhole (Forbade request reason whole) = ⊤

-- a service went from one state to the next, or none was asked and it stayed
abbrev pub Goes : {T : Type 0} → (T → Turn → T → Type 0) → T → Passage → T → Type 0
Goes answers old passage new = FoldsTo answers old (turns_taken (passage ∷ [])) new

-- the bytes go on with what is after an item, and by its head it was decided so; what is no request isn't decided
abbrev pub IsDecided : Policy → List ℕ → Item → Decision → List ℕ → Type 0
IsDecided policy bytes (Requested request) decision after =
    (head : RequestHead) × BeginsWithHead bytes head (request.body ++ after) × IsAskedBy head request
    × (decision ≡ decide policy head.method (headers_of head))
IsDecided policy bytes (Refused fault) decision after = IsRefused bytes fault × (after ≡ []) × (decision ≡ Passes)

-- by its head it was decided what became of the item that the bytes begin with, and a service went from one state to another; where
-- the item closes the connection, so does its turn
pub record Becomes {T : Type 0} (policy : Policy) (answers : T → Turn → T → Type 0) (bytes after : List ℕ) (old new : T) (passage : Passage) : Type 0 where
  pub decided : IsDecided policy bytes (turn_of passage).item (decision_by passage) after
  pub goes : Goes answers old passage new
  pub closes : IsTrue (closes_connection (turn_of passage).item) → IsTrue (turn_of passage).closes
  pub keeps_whole : KeepsWhole passage

-- the bytes are items of which this became, one after another, and then a rest; nothing is read after an item that closes
abbrev pub SplitsDecided : Policy → List ℕ → List Passage → List ℕ → Type 0
SplitsDecided policy bytes [] rest = bytes ≡ rest
SplitsDecided policy bytes (passage ∷ passages) rest =
    (after : List ℕ) × IsDecided policy bytes (turn_of passage).item (decision_by passage) after
    × (IsTrue (closes_connection (turn_of passage).item) → passages ≡ []) × SplitsDecided policy after passages rest
