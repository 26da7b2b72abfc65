-- Which calls of its session a request takes, one after another, and with which answers.
use Rattle.std.specs.Prelude.{◌≡◌, ◌≢◌, ℕ, ◌<◌, ◌⊎◌, max, Bool, true, false, List, [], ◌∷◌, ◌++◌, length, Option, None, Some, Result, Ok, Err, ⊤}
use Rattle.std.specs.List.{FoldsTo}
use Rattle.model.specs.Command.{Id}
use Rattle.model.specs.History.{now}
use Rattle.http_request.specs.declared.asked.Asked.{Asked as Asking}
use Rattle.http_request.specs.declared.asked.Asked.TheVariants as asked
use Rattle.http_request.specs.declared.changes.ChangesAsked.{ChangesAsked}
use Rattle.http_request.specs.declared.changes.Feed.{Feed}
use Rattle.http_request.specs.declared.changes.Feed.TheVariants as feed
use Rattle.session_api.specs.Learns.{Makes}
use Rattle.http_turns.specs.ChangesWanted.{has_changes, since_at}
use Rattle.session_api.specs.SessionCall.{SessionCall, Refreshed, Wrote, Waited}
use Rattle.session_api.specs.Known.{Known, history_of, update_seq_of}
use Rattle.session_api.specs.declared.fault.CallFault.{CallFault}

-- no call was made
abbrev pub MakesNone : {S : Type 0} → S → List SessionCall → S → Type 0
MakesNone old calls new = (calls ≡ []) × (new ≡ old)

-- this place, or why a call has no answer
abbrev pub at_place : {A : Type 0} → ℕ → Result A CallFault → Result ℕ CallFault
at_place place (Ok x) = Ok place
at_place place (Err why) = Err why

-- What a turn of a wait for some documents reports by the answer of its one look: whether one of them has a number above the
-- cursor among the updates that came with it. What was known before and after the look are given.
abbrev pub found_by : ℕ → Option (List Id) → Known → Known → Result Bool CallFault → Result Bool CallFault
found_by cursor ids old new (Ok true) = Ok (has_changes (now (history_of new)) (max cursor (update_seq_of old)) ids)
found_by cursor ids old new (Ok false) = Ok false
found_by cursor ids old new (Err why) = Err why

-- by what a session does, what it knows, and how often a wait looks
module _ {S : Type 0} (goes : S → SessionCall → S → Type 0) (known : S → Known) where
  -- the session made this call and no other
  abbrev pub MakesOnly : S → SessionCall → List SessionCall → S → Type 0
  MakesOnly old call calls new = (calls ≡ call ∷ []) × Makes goes known old call new

  -- ---- waits

  -- a turn of a wait for some documents, in which it looks once for any update past what was seen
  pub record WaitsTurn (cursor : ℕ) (ids : Option (List Id)) (old : S) (call : SessionCall) (new : S) (answer : Result Bool CallFault) : Type 0 where
    pub looked : Result Bool CallFault
    pub call_is : call ≡ Waited (update_seq_of (known old)) 1 looked
    pub makes : Makes goes known old call new
    pub answer_is : answer ≡ found_by cursor ids (known old) (known new) looked

  -- a turn with which none of them came
  abbrev pub FindsNone : ℕ → Option (List Id) → S → SessionCall → S → Type 0
  FindsNone cursor ids old call new = WaitsTurn cursor ids old call new (Ok false)

  -- after some turns there were enough of them, or one more found a document or was refused
  abbrev pub EndsTurns : ℕ → ℕ → Option (List Id) → List SessionCall → S → List SessionCall → S → Result Bool CallFault → Type 0
  EndsTurns most cursor ids passed here calls new answer =
      ((length passed ≡ most) × (calls ≡ passed) × (new ≡ here) × (answer ≡ Ok false))
      ⊎ ((length passed < most) × ((call : SessionCall) × (calls ≡ passed ++ call ∷ []) × WaitsTurn cursor ids here call new answer) × (answer ≢ Ok false))

  -- a wait for some documents, turn by turn until one of them comes, at most so many turns
  pub record WaitsTurns (most cursor : ℕ) (ids : Option (List Id)) (old : S) (calls : List SessionCall) (new : S) (answer : Result Bool CallFault) : Type 0 where
    pub passed : List SessionCall
    pub here : S
    pub runs : FoldsTo (FindsNone cursor ids) old passed here
    pub ends : EndsTurns most cursor ids passed here calls new answer

  -- A wait of so many turns: one wait for an update number above `past`; or where some documents alone are wanted, turn by
  -- turn until one of them has a number above the cursor.
  abbrev pub WaitsFor : ℕ → ℕ → ℕ → Option (List Id) → S → List SessionCall → S → Result Bool CallFault → Type 0
  WaitsFor turns past cursor None old calls new answer = MakesOnly old (Waited past turns answer) calls new
  WaitsFor turns past cursor (Some ids) old calls new answer = WaitsTurns (max turns 1) cursor (Some ids) old calls new answer

  -- ---- reads

  -- one look, with the place up to which it saw
  abbrev pub LooksOnce : S → List SessionCall → S → Result ℕ CallFault → Type 0
  LooksOnce old calls new answer =
      (looked : Result ⊤ CallFault) × MakesOnly old (Refreshed looked) calls new × (answer ≡ at_place (length (known new).seen) looked)

  -- A long poll that has looked: where it saw no changes that are asked for, it waits for some. The answer is the place up
  -- to which it had looked.
  abbrev pub WaitsWhereNone : ℕ → ChangesAsked → S → List SessionCall → S → Result ℕ CallFault → Type 0
  WaitsWhereNone turns changes here waits new answer =
      let d = now (history_of (known here)) in
      let since = since_at d changes.since in
      let place = length (known here).seen in
      ((has_changes d since changes.ids ≡ true) × MakesNone here waits new × (answer ≡ Ok place))
      ⊎ ((has_changes d since changes.ids ≡ false)
      × ((waited : Result Bool CallFault) × WaitsFor turns since since changes.ids here waits new waited × (answer ≡ at_place place waited)))

  -- a long poll looks, and goes on unless that is refused
  abbrev pub Polls : ℕ → ChangesAsked → S → List SessionCall → S → Result ℕ CallFault → Type 0
  Polls turns changes old calls new answer =
      ((why : CallFault) × MakesOnly old (Refreshed (Err why)) calls new × (answer ≡ Err why))
      ⊎ ((here : S) × (waits : List SessionCall) × (calls ≡ Refreshed (Ok tt) ∷ waits) × Makes goes known old (Refreshed (Ok tt)) here × WaitsWhereNone turns changes here waits new answer)

  abbrev pub LooksForChanges : ℕ → ChangesAsked → Feed → S → List SessionCall → S → Result ℕ CallFault → Type 0
  LooksForChanges turns changes feed.Normal old calls new answer = LooksOnce old calls new answer
  LooksForChanges turns changes feed.LongPoll old calls new answer = Polls turns changes old calls new answer
  LooksForChanges turns changes feed.Continuous old calls new answer = LooksOnce old calls new answer

  -- What is asked was done by these calls: the answer is the place of a command's entry, or that at which a query was asked,
  -- or why a call has no answer.
  abbrev pub CarriesOut : ℕ → Asking → S → List SessionCall → S → Result ℕ CallFault → Type 0
  CarriesOut turns asked.Welcome old calls new answer = ⊥
  CarriesOut turns (asked.Command form command) old calls new answer = MakesOnly old (Wrote command answer) calls new
  CarriesOut turns (asked.Query query) old calls new answer = LooksOnce old calls new answer
  CarriesOut turns (asked.Changes changes) old calls new answer = LooksForChanges turns changes changes.feed old calls new answer

-- it is a query, which is answered at once or after a wait
abbrev pub IsNotContinuous : Feed → Type 0
IsNotContinuous feed.Normal = ⊤
IsNotContinuous feed.LongPoll = ⊤
IsNotContinuous feed.Continuous = ⊥

abbrev pub IsReading : Asking → Type 0
IsReading asked.Welcome = ⊥
IsReading (asked.Command form command) = ⊥
IsReading (asked.Query query) = ⊤
IsReading (asked.Changes changes) = IsNotContinuous changes.feed

-- the same, by how often a wait looks
module _ {S : Type 0} (goes : S → SessionCall → S → Type 0) (known : S → Known) (turns : ℕ) where
  -- it has looked, and where it saw no changes has waited; it answers the number above which they are asked for
  abbrev pub HasWaited : ChangesAsked → S → List SessionCall → S → Result ℕ CallFault → Type 0
  HasWaited changes here waits new (Ok since) =
      (since ≡ since_at (now (history_of (known here))) changes.since) × WaitsWhereNone goes known turns changes here waits new (Ok (length (known here).seen))
  HasWaited changes here waits new (Err why) = WaitsWhereNone goes known turns changes here waits new (Err why)

  -- the same with the look
  abbrev pub HasPolled : ChangesAsked → S → List SessionCall → S → Result ℕ CallFault → Type 0
  HasPolled changes old calls new answer =
      ((why : CallFault) × MakesOnly goes known old (Refreshed (Err why)) calls new × (answer ≡ Err why))
      ⊎ ((here : S) × (waits : List SessionCall) × (calls ≡ Refreshed (Ok tt) ∷ waits) × Makes goes known old (Refreshed (Ok tt)) here × HasWaited changes here waits new answer)
