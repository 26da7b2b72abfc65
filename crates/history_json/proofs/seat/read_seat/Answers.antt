use Rattle.std.proofs.Common.{[], ◌∷◌, ◌∙◌}
use Rattle.serde_json.specs.Data.{number, unsigned}
use Rattle.history_json.proofs.Lists.{listed}
use Rattle.history_json.proofs.seat.read_seat.Goals as goal

pub returns-clause-found : goal.returns-clause-found
returns-clause-found c =
    let array = rw c.in-Some.is at c.in_ok-items.ensures in
    λ seat is le e. c.seat_of.ensures.found seat is le
    (c.as_slice.ensures.value ∙ listed c.args.value c.in-Some.items.items (number (unsigned seat.session) ∷ number (unsigned seat.call) ∷ []) array e)
