use Rattle.replicator_run.proofs.run.report.Goals as goal

pub returns : goal.returns
returns g c = λ i. record {
  documents_read = c.passed.ensures i;
  documents_written = c.passed-2.ensures i;
  ended = c.args.ended;
  source_failures = c.failures.ensures i;
  target_failures = c.failures-2.ensures i;
}
