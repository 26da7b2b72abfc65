-- Why requests are rejected.
use Rattle.std.specs.Prelude.{◌≡◌, Result, Ok, Err, ⊤}
use Rattle.document_json.specs.Steps.{Checked}
use Rattle.http_request.specs.declared.rejection.Rejection.{Rejection}
use Rattle.http_request.specs.declared.rejection.Rejection.TheVariants.{BadRequest}
use Rattle.http_request.specs.declared.rejection.Undecided.{Undecided}
use Rattle.http_request.specs.declared.rejection.Undecided.TheVariants.{Rejected, Memory}

-- what a request is decided to ask, or why it is rejected
abbrev pub Decided : Type 0 → Type 0
Decided X = Result X Rejection

-- a request that is not as its route asks is rejected
abbrev pub decided : {X : Type 0} → Checked X → Decided X
decided (Ok x) = Ok x
decided (Err reason) = Err (BadRequest reason)

-- the code decides so, unless memory is refused
abbrev pub DecidesSo : {X : Type 0} → Result X Undecided → Decided X → Type 0
DecidesSo (Ok x) decision = decision ≡ Ok x
DecidesSo (Err (Rejected rejection)) decision = decision ≡ Err rejection
DecidesSo (Err Memory) decision = ⊤
