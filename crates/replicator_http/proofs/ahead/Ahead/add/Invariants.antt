-- So far requests were added, with their text.
use Rattle.replicator_http.specs.Ahead.{IsWithin}
use Rattle.replicator_http.proofs.Queues.{Added}
use Rattle.replicator_http.proofs.ahead.Ahead.add.Given as goal

abbrev pub invariant-loop-asked : goal.invariant-loop-asked
invariant-loop-asked l = record {
  adds : Added l.fn.host l.fn.self l.self l.fn.text.items l.text.items;
  within : IsWithin l.self;
}
