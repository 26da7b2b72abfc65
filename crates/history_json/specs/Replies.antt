-- A reply, as a line of a dump has it.
use Rattle.std.specs.Prelude.{ℕ, true, List, map, Result, Ok, Err, codes}
use Rattle.serde_json.specs.Data.{Data, unsigned, number, string, boolean, array}
use Rattle.serde_json.specs.View.{items_of}
use Rattle.model.specs.Command.{Reply, Wrote, WroteLocal, Purged, Done}
use Rattle.model.specs.declared.refusal.Refusal.{Refusal}
use Rattle.model.specs.declared.refusal.Refusal.TheVariants.{Conflict, BadHistory, Missing, Deleted, GenerationLimit}
use Rattle.model.specs.Revision.{Rev}
use Rattle.document_json.specs.Written.{rev_data}
use Rattle.api_json.specs.Purge.{purged_data}

abbrev pub refusal_name : Refusal → List ℕ
refusal_name Conflict = codes "E1"
refusal_name BadHistory = codes "E2"
refusal_name Missing = codes "E3"
refusal_name Deleted = codes "E4"
refusal_name GenerationLimit = codes "E5"

-- the revision, or why there is none
-- CouchDB: POST /{db}/_bulk_docs
abbrev pub outcome_data : Result Rev Refusal → Data
outcome_data (Ok rev) = rev_data rev
outcome_data (Err refusal) = string (refusal_name refusal)

-- the counter, or why there is none
-- CouchDB: PUT /{db}/_local/{docid}
abbrev pub local_outcome_data : Result ℕ Refusal → Data
local_outcome_data (Ok counter) = number (unsigned counter)
local_outcome_data (Err refusal) = string (refusal_name refusal)

abbrev pub reply_data : Reply → Data
reply_data (Wrote outcomes) = array (items_of (map outcome_data outcomes))
reply_data (WroteLocal outcome) = local_outcome_data outcome
reply_data (Purged purge_seq removed) = purged_data purge_seq removed
reply_data Done = boolean true
