use Rattle.std.proofs.Common.{subst}
use Rattle.model.specs.Database.{IsDatabase}
use Rattle.model.specs.History.{Chronicle, now}
use Rattle.session_calls.proofs.session.SharedSessionViewer.place.Goals as goal

pub returns-clause-database : goal.returns-clause-database
returns-clause-database g c = subst (λ (h : Chronicle). IsDatabase (now h)) c.seen.ensures.seen c.place-recalled.ensures.history.database
