-- Revisions of a document, as an answer gives them.
use Rattle.std.specs.Prelude.{ℕ, List, Option, Some, None, Result, Ok, Err, codes, option_map}
use Rattle.serde_json.specs.Data.{Data, Members}
use Rattle.serde_json.specs.Find.{as_array, as_object, get_member}
use Rattle.model.specs.Command.{Merge}
use Rattle.model.specs.Revision.{Rev}
use Rattle.document_json.specs.Bulk.{merge_told}
use Rattle.document_json.specs.Each.{each}
use Rattle.document_json.specs.Lists.{values_of}
use Rattle.document_json.specs.Steps.{Checked, and_then, or_refused, refused}
use Rattle.document_json.specs.Text.{json_of}
use Rattle.document_json.specs.declared.fault.Reason.TheVariants as reason
use Rattle.api_json.specs.TextLists.{rev_in}

-- a document where one is given, and else the name of the revision that is missing
-- CouchDB: GET /{db}/{docid}, "open_revs"
abbrev pub opened_by : Option Data → Option Data → Checked (Result Merge Rev)
opened_by (Some document) missing = and_then (merge_told document) (λ merge. Ok (Ok merge))
opened_by None (Some missing) = and_then (rev_in missing) (λ rev. Ok (Err rev))
opened_by None None = refused reason.Shape

abbrev pub opened_member : Members → Checked (Result Merge Rev)
opened_member members = opened_by (get_member (codes "ok") members) (get_member (codes "missing") members)

-- a revision as a document, or its name where it is missing
-- CouchDB: GET /{db}/{docid}, "open_revs"
abbrev pub opened_in : Data → Checked (Result Merge Rev)
opened_in value = and_then (or_refused (as_object value) reason.Shape) opened_member

-- CouchDB: GET /{db}/{docid}, "open_revs"
abbrev pub all_opened_in : Data → Checked (List (Result Merge Rev))
all_opened_in value = and_then (or_refused (option_map values_of (as_array value)) reason.Shape) (each opened_in)

-- the revisions that an answer gives
-- CouchDB: GET /{db}/{docid}, "open_revs"
abbrev pub all_opened_of : List ℕ → Checked (List (Result Merge Rev))
all_opened_of body = and_then (json_of body) all_opened_in
