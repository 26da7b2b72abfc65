-- How far a replication had come, as a local document reports.
use Rattle.std.specs.Prelude.{ℕ, List, Ok, codes, option_and_then}
use Rattle.serde_json.specs.Data.{Data}
use Rattle.serde_json.specs.Find.{as_str, get}
use Rattle.document_json.specs.Local.{counter_named}
use Rattle.document_json.specs.Steps.{Checked, and_then, or_refused}
use Rattle.document_json.specs.Text.{json_of}
use Rattle.document_json.specs.declared.fault.Reason.TheVariants as reason
use Rattle.replicator_http.specs.Members.{number_under}

-- the number of a local revision
abbrev pub counter_under : List ℕ → Data → Checked ℕ
counter_under name value = or_refused (option_and_then counter_named (option_and_then as_str (get name value))) reason.Revision

-- the number of its revision, and the update number of the source
-- CouchDB: "CouchDB Replication Protocol", "Retrieve Replication Logs from Source and Target"
abbrev pub checkpoint_in : Data → Checked (ℕ × ℕ)
checkpoint_in value =
    and_then (counter_under (codes "_rev") value) (λ counter.
    and_then (number_under (codes "last_seq") value) (λ last_seq.
    Ok (counter, last_seq)))

-- the checkpoint that an answer reports
-- CouchDB: "CouchDB Replication Protocol", "Retrieve Replication Logs from Source and Target"
abbrev pub checkpoint_of : List ℕ → Checked (ℕ × ℕ)
checkpoint_of body = and_then (json_of body) checkpoint_in

-- the number of the revision that was written
-- CouchDB: PUT /{db}/_local/{docid}, "rev"
abbrev pub written_counter_of : List ℕ → Checked ℕ
written_counter_of body = and_then (json_of body) (counter_under (codes "rev"))
