-- The parameters of a query string, as routes read them.
use Rattle.std.specs.Prelude.{ℕ, ◌||◌, Bool, false, List, Option, Some, None, Ok, codes, is_some, not, ⊤}
use Rattle.std.specs.Option.{option_map_or}
use Rattle.std.specs.Str.{bytes_eq}
use Rattle.http_routing.specs.Query.{Parameters, parameter}
use Rattle.http_routing.specs.Value.{flag}
use Rattle.decimals.specs.Number.{number}
use Rattle.model.specs.Revision.{Rev}
use Rattle.model.specs.Query.{Options}
use Rattle.document_json.specs.Steps.{Checked, and_then, or_refused, check}
use Rattle.document_json.specs.Revisions.{rev_of}
use Rattle.document_json.specs.declared.fault.Reason.TheVariants as reason

-- a truth value, false where it is not given
abbrev pub flag_of : Option (List ℕ) → Checked Bool
flag_of None = Ok false
flag_of (Some value) = or_refused (flag value) reason.Parameter

-- a truth value
abbrev pub flag_parameter : List ℕ → Parameters → Checked Bool
flag_parameter name parameters = flag_of (parameter name parameters)

-- a number, if it is given
abbrev pub number_of : Option (List ℕ) → Checked (Option ℕ)
number_of None = Ok None
number_of (Some value) = and_then (or_refused (number value) reason.Parameter) (λ n. Ok (Some n))

abbrev pub number_parameter : List ℕ → Parameters → Checked (Option ℕ)
number_parameter name parameters = number_of (parameter name parameters)

-- the revision that the request names
-- CouchDB: GET /{db}/{docid}, "rev"
abbrev pub rev_parameter : Parameters → Checked (Option Rev)
rev_parameter parameters = rev_of (parameter (codes "rev") parameters)

-- the parameter has this value
abbrev pub is_given : List ℕ → List ℕ → Parameters → Bool
is_given name value parameters = option_map_or (bytes_eq value) (parameter name parameters) false

-- the parameter is there
abbrev pub is_there : List ℕ → Parameters → Bool
is_there name parameters = is_some (parameter name parameters)

-- a write of one document is no replication
-- CouchDB: PUT /{db}/{docid}, "new_edits"
abbrev pub no_replication : Parameters → Checked ⊤
no_replication parameters = check (not (is_given (codes "new_edits") (codes "false") parameters)) reason.Parameter

-- documents in the rows, or rows in another order
-- CouchDB: GET /{db}/_changes, "include_docs", "descending"
abbrev pub asks_for_documents : Parameters → Bool
asks_for_documents parameters =
    is_given (codes "include_docs") (codes "true") parameters || is_given (codes "descending") (codes "true") parameters

-- what is asked of a document beside its body
-- CouchDB: GET /{db}/{docid}, "latest", "revs", "revs_info", "conflicts", "deleted_conflicts"
abbrev pub options_of : Parameters → Checked Options
options_of parameters =
    and_then (flag_parameter (codes "latest") parameters) (λ latest.
    and_then (flag_parameter (codes "revs") parameters) (λ revs.
    and_then (flag_parameter (codes "revs_info") parameters) (λ revs_info.
    and_then (flag_parameter (codes "conflicts") parameters) (λ conflicts.
    and_then (flag_parameter (codes "deleted_conflicts") parameters) (λ deleted_conflicts.
    Ok (record {
      latest = latest;
      revs = revs;
      revs_info = revs_info;
      conflicts = conflicts;
      deleted_conflicts = deleted_conflicts;
    }))))))
