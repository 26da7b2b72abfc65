-- What is known of a session.
use Rattle.std.specs.Prelude.{◌≡◌, ℕ, ◌<◌, Bool, false, List, [], length, Option, IfSome}
use Rattle.model.specs.Command.{Entry}
use Rattle.model.specs.Database.{Database}
use Rattle.model.specs.History.{Chronicle, of_session}
use Rattle.version_log.specs.Histories.{newest, Grows, IsNewest}
use Rattle.updater_state.specs.Callers.{CallerView}

-- A session's number, the published histories that it has seen, the entries for which it has a receipt, how many jobs it
-- pushed, how often its last wait looked, how often its compactions were behind, how many entries of its calls it has
-- learned of, and whether it is lost.
pub record Known : Type 0 where
  pub number : ℕ
  pub published : List (List Entry)
  pub receipts : List Entry
  pub pushes : ℕ
  pub waited : ℕ
  pub tried : ℕ
  pub entered : ℕ
  pub lost : Bool

-- the history that a session has seen
abbrev pub seen : Known → List Entry
seen k = newest k.published

-- a session that has seen the empty history
abbrev pub fresh : ℕ → Known
fresh number = record { number = number; published = []; receipts = []; pushes = 0; waited = 0; tried = 0; entered = 0; lost = false }

-- the session's entries in the history that it has seen are those with a receipt
abbrev pub SeesOwn : Known → Type 0
SeesOwn k = of_session k.number (seen k) ≡ k.receipts

-- where it is not lost, it has a receipt for each entry of its calls that it has learned of
abbrev pub HasReceipts : Known → Type 0
HasReceipts k = k.lost ≡ false → k.entered ≡ length k.receipts

-- the session as it is with a receipt for each of them
abbrev pub settled : Known → Known
settled k = record k { entered = length k.receipts; lost = false }

-- What a session keeps: with its last receipt came the last of the histories `receipted`. Its entries there are those with a
-- receipt, as many as its calls, and it has the same ones in the history that it has seen.
pub record Holds (base : Option Database) (number calls : ℕ) (lost : Bool) (latest receipted : List (List Entry)) (looked : Option Chronicle) (caller : CallerView) : Type 0 where
  pub counted : calls ≡ length (of_session number (newest receipted))
  pub own : of_session number (newest latest) ≡ of_session number (newest receipted)
  pub grows : Grows base latest
  pub session : number < 64
  pub ticket_is : caller.turn.number ≡ number
  -- no job waits of a session that is not lost, or that has learned of an entry without a receipt
  pub gone : lost ≡ false → caller.turn.gone ≡ caller.turn.pushed
  pub heard : calls < caller.entered → caller.turn.gone ≡ caller.turn.pushed
  -- where it is not lost, it has a receipt for each entry that it has learned of
  pub entered : lost ≡ false → caller.entered ≡ calls
  -- what a look took is what was seen
  pub looked_is : IfSome looked (λ version. IsNewest base version latest)
