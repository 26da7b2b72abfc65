use Rattle.std.proofs.Common.{ap, length}
use Rattle.std.specs.Prelude.{codes, string_bytes}
use Rattle.replicator_http.proofs.Heads.{whole}
use Rattle.replicator_http.proofs.requests.bulk.bulk_request.Goals as goal

pub returns : goal.returns
returns c = record {
  request = whole c.args.host.now (codes "POST") (codes "/db/_bulk_docs") _ (string_bytes c.in_ok-body.body) _ _ c.in_ok-head.ensures.head
      (ap length c.as_str.ensures.value) c.in_ok-body.ensures;
}
