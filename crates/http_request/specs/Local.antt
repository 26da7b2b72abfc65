-- Local documents, as requests name them.
use Rattle.std.specs.Prelude.{ℕ, List, Option, None, Ok, codes}
use Rattle.http_routing.specs.Query.{parameter, parameters_of}
use Rattle.model.specs.Command.{PutLocal}
use Rattle.model.specs.Query.{GetLocal}
use Rattle.document_json.specs.Local.{counter_in, local_edit_of}
use Rattle.document_json.specs.Steps.{Checked, and_then}
use Rattle.http_request.specs.Identity.{path_id}
use Rattle.http_request.specs.declared.asked.Asked.{Asked}
use Rattle.http_request.specs.declared.asked.Asked.TheVariants as asked
use Rattle.http_request.specs.declared.asked.Form.TheVariants as form

-- the revision that the request names
-- CouchDB: PUT /{db}/_local/{docid}, "rev"
abbrev pub rev_text : List ℕ → Option (List ℕ)
rev_text query = parameter (codes "rev") (parameters_of query)

-- GET of a local document
-- CouchDB: GET /{db}/_local/{docid}
abbrev pub get_local : List ℕ → Checked Asked
get_local path = and_then (path_id path) (λ id. Ok (asked.Query (GetLocal id)))

-- PUT of a local document
-- CouchDB: PUT /{db}/_local/{docid}
abbrev pub put_local : List ℕ → List ℕ → List ℕ → Checked Asked
put_local path query body =
    and_then (path_id path) (λ id.
    and_then (local_edit_of id (rev_text query) body) (λ command.
    Ok (asked.Command form.Put command)))

-- DELETE of a local document
-- CouchDB: DELETE /{db}/_local/{docid}
abbrev pub delete_local : List ℕ → List ℕ → Checked Asked
delete_local path query =
    and_then (path_id path) (λ id.
    and_then (counter_in (rev_text query)) (λ counter.
    Ok (asked.Command form.Delete (PutLocal id counter None))))
