use Rattle.std.proofs.Common.{ℕ}
use Rattle.http_connection.proofs.Going.{served-nothing}
use Rattle.http_turns.proofs.Told.{served_by}
use Rattle.http_turns.proofs.connection.serve.Goals as goal

pub returns-in_default : goal.returns-in_default
returns-in_default g c = record {
  connection = served_by g.S.Viewer.goes g.S.Viewer.known _ {N = ℕ} (λ s. s) (λ s. 0) (λ old turn new answers. answers) _ _ c.args.session.now c.args.session.now _ served-nothing c.place-recalled.ensures.legal;
}
