use Rattle.std.proofs.Common.{[], refl}
use Rattle.std.specs.Prelude.{Some}
use Rattle.std.proofs.lemmas.Result.{IfOk-weaker}
use Rattle.history_dump.proofs.Begun.{made_within}
use Rattle.history_dump.proofs.first.begun_over.Goals as goal

pub returns-in_default-clause-found : goal.returns-in_default-clause-found
returns-in_default-clause-found c = λ d is text. absurd (rw c.in_default.is at (c.in_ok-parts.ensures.found d is text))

pub returns-clause-within : goal.returns-clause-within
returns-clause-within c = made_within c.in-Some.parts c.from_parts.result c.from_parts.ensures.begun

pub returns-clause-found : goal.returns-clause-found
returns-clause-found c = λ d is text.
    IfOk-weaker c.from_parts.result _ _
    (λ made h. h.1 (record { database = d; base = refl; entries = refl; made_of = rw c.in-Some.is at (c.in_ok-parts.ensures.found d is text); is_base = is }))
    (c.from_parts.ensures.begun (record { base = Some d; entries = [] }))
