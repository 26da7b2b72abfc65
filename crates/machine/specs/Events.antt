-- Events and completed calls in the model's terms.
use Rattle.std.specs.Prelude.{ℕ, ◌+◌, List, [], ◌∷◌}
use Rattle.model.specs.Command.{Entry}
use Rattle.model.specs.World as model
use Rattle.machine.specs.declared.event.Event.{Event}
use Rattle.machine.specs.declared.event.Event.TheVariants.{Ask, Take, Put, GiveUp, Look, Read, Start, Slice, CatchUp, Swap, Abort}
use Rattle.machine.specs.declared.completed.Completed.{Completed}
use Rattle.machine.specs.declared.completed.Completed.TheVariants.{Wrote, Asked}

abbrev pub event_of : Event → model.Event
event_of (Ask session command) = model.Ask session command
event_of (Take n) = model.Take n
event_of Put = model.Put
event_of GiveUp = model.GiveUp
event_of (Look session) = model.Look session
event_of (Read session query) = model.Read session query
event_of (Start session) = model.Start session
event_of (Slice n) = model.Slice n
event_of (CatchUp n) = model.CatchUp n
event_of Swap = model.Swap
event_of Abort = model.Abort

abbrev pub completed_of : Completed → model.Completed
completed_of (Wrote seat command place reply) = model.WroteAt seat command place reply
completed_of (Asked session query place answer) = model.Asked session query place answer

-- the completed call of an entry at a place
abbrev pub wrote_at : ℕ → Entry → model.Completed
wrote_at place e = model.WroteAt e.seat e.command place e.reply

-- the completed calls of the entries behind a place
abbrev pub wrote_from : ℕ → List Entry → List model.Completed
wrote_from place [] = []
wrote_from place (e ∷ es) = wrote_at (place + 1) e ∷ wrote_from (place + 1) es
