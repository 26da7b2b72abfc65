-- Which revisions of a document are asked for by `open_revs`.
use Rattle.std.specs.Prelude.{ℕ, List, Some, None, Ok, codes, if◌then◌else◌}
use Rattle.std.specs.Str.{bytes_eq}
use Rattle.http_routing.specs.Query.{Parameters}
use Rattle.model.specs.Command.{Id}
use Rattle.model.specs.Query.{OpenRevs, Options}
use Rattle.document_json.specs.Steps.{Checked, and_then, or_refused}
use Rattle.document_json.specs.Each.{each}
use Rattle.api_json.specs.TextLists.{rev_in, text_list_of}
use Rattle.document_json.specs.declared.fault.Reason.TheVariants as reason
use Rattle.http_request.specs.Parameters.{rev_parameter}
use Rattle.http_request.specs.declared.asked.Asked.{Asked}
use Rattle.http_request.specs.declared.asked.Asked.TheVariants as asked

-- all leaves; what `rev` names is not asked for
-- CouchDB: GET /{db}/{docid}, "open_revs"
abbrev pub open_leaves : Id → Options → Parameters → Checked Asked
open_leaves id options parameters = and_then (rev_parameter parameters) (λ _. Ok (asked.Query (OpenRevs id None options)))

-- the revisions of a list of texts
-- CouchDB: GET /{db}/{docid}, "open_revs"
abbrev pub open_listed : Id → Options → List ℕ → Parameters → Checked Asked
open_listed id options text parameters =
    and_then (or_refused (text_list_of text) reason.Parameter) (λ values.
    and_then (rev_parameter parameters) (λ _.
    and_then (each rev_in values) (λ revs.
    Ok (asked.Query (OpenRevs id (Some revs) options)))))

-- all leaves, or the revisions listed
-- CouchDB: GET /{db}/{docid}, "open_revs"
abbrev pub open_revs_of : Id → Options → List ℕ → Parameters → Checked Asked
open_revs_of id options text parameters =
    if bytes_eq text (codes "all") then open_leaves id options parameters else open_listed id options text parameters
