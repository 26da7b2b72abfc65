use Rattle.std.proofs.Common.{◌≡◌, option_map}
use Rattle.model.specs.Database.{Database}
use Rattle.model.specs.Documents.{opened_at}
use Rattle.model.specs.Query.{Opened as Shown}
use Rattle.session_api.specs.Revisions.{known_opened, opened_by}
use Rattle.session_calls.proofs.Seen.{over_seen}
use Rattle.session_calls.proofs.session.SharedSessionViewer.open_revs.Goals as goal

pub returns : goal.returns
returns g c = record {
  opened =
      over_seen c.of.result
      (λ (d : Database) found. option_map (λ o. Shown (opened_by (opened_at o.opening.id o.opening.tree o.opening.options) o.opening.revs)) found ≡ known_opened d c.args.query.now)
      c.seen.result.now _ c.seen.ensures.seen c.of.ensures.opened;
}
