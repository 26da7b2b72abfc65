-- What became of the writes of a bulk, as a list reports it.
use Rattle.std.specs.Prelude.{ℕ, List, [], ◌∷◌, map, Result, Ok, Err, codes}
use Rattle.std.specs.List.{flat_map, zip}
use Rattle.serde_json.specs.Data.{Data, string, object, no_members, member}
use Rattle.model.specs.Command.{Id, Edit, Merge}
use Rattle.model.specs.declared.refusal.Refusal.{Refusal}
use Rattle.model.specs.Revision.{Rev}
use Rattle.api_json.specs.Replies.{written_data}
use Rattle.api_json.specs.Refusals.{write_error, write_reason}

abbrev pub Outcome : Type 0
Outcome = Result Rev Refusal

-- `{"error":e,"id":i,"reason":r}`
-- CouchDB: POST /{db}/_bulk_docs, "Bulk Document Validation and Conflict Errors"
abbrev pub problem_data : List ℕ → Id → List ℕ → Data
problem_data error id why =
    object (member (codes "error") (string error) (member (codes "id") (string id) (member (codes "reason") (string why) no_members)))

-- CouchDB: POST /{db}/_bulk_docs, "Bulk Document Validation and Conflict Errors"
abbrev pub refused_data : Id → Refusal → Data
refused_data id refusal = problem_data (write_error refusal) id (write_reason refusal)

-- one write that was taken or refused
-- CouchDB: POST /{db}/_bulk_docs, "Bulk Document Validation and Conflict Errors"
abbrev pub outcome_data : Id → Outcome → Data
outcome_data id (Ok rev) = written_data id rev
outcome_data id (Err refusal) = refused_data id refusal

-- one write, where it was refused
abbrev pub refusals_of : Id → Outcome → List Data
refusals_of id (Ok rev) = []
refusals_of id (Err refusal) = refused_data id refusal ∷ []

-- of each edit what became of it, in listed order
-- CouchDB: POST /{db}/_bulk_docs
abbrev pub edits_data : List Edit → List Outcome → List Data
edits_data edits outcomes = map (λ w. outcome_data w.0.id w.1) (zip edits outcomes)

-- the merges that were refused, in listed order
-- CouchDB: POST /{db}/_bulk_docs, "new_edits"
abbrev pub merges_data : List Merge → List Outcome → List Data
merges_data merges outcomes = flat_map (λ w. refusals_of w.0.id w.1) (zip merges outcomes)
