-- What the ends of a replication are called, and what is asked of them.
use Rattle.std.specs.Prelude.{ℕ, List, codes}
use Rattle.replicator_run.specs.declared.asked.End.{End}
use Rattle.replicator_run.specs.declared.asked.End.TheVariants as end
use Rattle.replicator_run.specs.declared.asked.Asked.{Asked}
use Rattle.replicator_run.specs.declared.asked.Asked.TheVariants as asked

-- an end
abbrev pub name_of_end : End → List ℕ
name_of_end end.Source = codes "source"
name_of_end end.Target = codes "target"

-- a request
abbrev pub name_of_asked : Asked → List ℕ
name_of_asked asked.Checkpoint = codes "GET _local"
name_of_asked asked.Changes = codes "_changes"
name_of_asked asked.Differences = codes "_revs_diff"
name_of_asked asked.Revisions = codes "open_revs"
name_of_asked asked.Bulk = codes "_bulk_docs"
name_of_asked asked.NewCheckpoint = codes "PUT _local"
