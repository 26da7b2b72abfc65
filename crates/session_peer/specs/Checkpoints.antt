-- Checkpoints, as local documents.
use Rattle.std.specs.Prelude.{ℕ, ◌^◌, Option, option_and_then, option_map, codes}
use Rattle.serde_json.specs.Data.{unsigned, number, no_members, member, object}
use Rattle.serde_json.specs.Find.{as_number, as_u64, get}
use Rattle.model.specs.Body.{Body}
use Rattle.replicator.specs.declared.checkpoint.Checkpoint.{Checkpoint}

-- `{"last_seq":n}`
-- CouchDB: "CouchDB Replication Protocol", "Record Replication Checkpoint"
abbrev pub checkpoint_body : ℕ → Body
checkpoint_body last_seq = member (codes "last_seq") (number (unsigned last_seq)) no_members

-- the least number that is no number of a body
-- RFC 8259, 6 "Numbers"
abbrev pub past_numbers : ℕ
past_numbers = 2 ^ 63

-- the number under `last_seq`, where there is one from 0
-- CouchDB: "CouchDB Replication Protocol", "Retrieve Replication Logs from Source and Target"
abbrev pub last_seq_in : Body → Option ℕ
last_seq_in body = option_and_then as_u64 (option_and_then as_number (get (codes "last_seq") (object body)))

-- the checkpoint that a local document is, by the number of its revision and its body
-- CouchDB: "CouchDB Replication Protocol", "Retrieve Replication Logs from Source and Target"
abbrev pub checkpoint_in : ℕ × Body → Option Checkpoint
checkpoint_in local = option_map (λ n. record { counter = local.0; last_seq = n }) (last_seq_in local.1)
