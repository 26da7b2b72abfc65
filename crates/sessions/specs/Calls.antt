-- What the calls of a session do.
use Rattle.std.specs.Prelude.{◌≡◌, ℕ, ◌+◌, ◌<◌, ◌≤◌, List, [], ◌∷◌, ◌++◌, length, Some, Option}
use mathlib.Core.List.{IsPrefix}
use Rattle.model.specs.Command.{Command, Entry, Reply, Seat}
use Rattle.model.specs.Database.{Database}
use Rattle.model.specs.History.{IsLegal, of_session, base_of}
use Rattle.model.specs.World.{WroteAt}
use Rattle.model.specs.Told.{Tells}
use Rattle.snapshots.specs.Version.{entry_at}
use Rattle.sessions.specs.Known.{Known, seen, SeesOwn}

-- After looks, one or those of a wait: a legal history over the base is seen, which extends what was seen and has of the
-- session exactly its entries with a receipt, and nothing else changed.
pub record Looks (base : Option Database) (old new : Known) : Type 0 where
  pub legal : IsLegal (base_of base) (seen new)
  pub extends : IsPrefix (seen old) (seen new)
  pub own : SeesOwn new
  pub same : new ≡ record old { published = new.published; waited = new.waited }

-- the seat of the session's next call
abbrev pub next_seat : Known → Seat
next_seat k = record { session = k.number; call = length k.receipts + 1 }

-- what a receipt reports
pub record Told : Type 0 where
  pub place : ℕ
  pub seat : Seat
  pub reply : Reply
  pub publication : ℕ

-- After a receipt: a legal history over the base is seen, which extends what was seen, records the call, and has of this
-- session exactly its earlier entries with a receipt and this one. The publication is the last that is seen, one of those
-- up to the place. It learned of no entry but those with a receipt.
pub record Writes (base : Option Database) (old : Known) (command : Command) (receipt : Told) (new : Known) : Type 0 where
  pub legal : IsLegal (base_of base) (seen new)
  pub extends : IsPrefix (seen old) (seen new)
  pub seat : receipt.seat ≡ next_seat old
  pub told : Tells (base_of base) (seen new) (WroteAt receipt.seat command receipt.place receipt.reply)
  pub receipts : new.receipts ≡ old.receipts ++ record { seat = receipt.seat; command = command; reply = receipt.reply } ∷ []
  pub only : SeesOwn new
  pub first : 0 < receipt.publication
  pub bound : receipt.publication ≤ receipt.place
  pub counted : receipt.publication ≡ length new.published
  pub same : new ≡ record old { published = new.published; receipts = new.receipts; pushes = new.pushes; waited = new.waited; tried = new.tried; entered = length new.receipts }

-- the entry at the place has this seat and command, and is its session's last
pub record IsTold (h : List Entry) (place : ℕ) (seat : Seat) (command : Command) : Type 0 where
  pub entry : Entry
  pub at : entry_at h place ≡ Some entry
  pub seat_is : entry.seat ≡ seat
  pub command_is : entry.command ≡ command
  pub last : length (of_session seat.session h) ≡ seat.call
