use Rattle.std.proofs.Common.{◌∙◌, ap}
use Rattle.replicator_http.specs.Connection.{Terms, fresh_connection}
use Rattle.replicator_run.specs.Reopened.{Reopened}
use Rattle.replicator_run.proofs.Again.{same_terms}
use Rattle.replicator_run.proofs.reopened.Reopened.reopen.Goals as goal

pub returns-clause-opened : goal.returns-clause-opened
returns-clause-opened g c = λ _.
    let left = g.R.Source.left c.in-Some.reader in
    let failed_reads = g.R.Source.failed_reads c.in-Some.reader in
    let taken = g.W.Sink.taken c.in-Some.writer in
    let failed_writes = g.W.Sink.failed_writes c.in-Some.writer in (
      left,
      failed_reads,
      taken,
      failed_writes,
      c.new.ensures ∙ ap (λ (terms : Terms). fresh_connection terms left failed_reads taken failed_writes)
          (same_terms _ _ _ (c.in-Ok.ensures.ok ∙ c.host.ensures) c.skips-skips.ensures ∙ ap (λ (r : Reopened). r.connection.terms) c.self.view_is),
    )
