-- What a request asks, or why it is rejected.
use Rattle.std.specs.Prelude.{ℕ, true, List, [], ◌∷◌, Option, Ok, Err, Some, None, codes}
use Rattle.std.specs.List.{find}
use Rattle.std.specs.Str.{bytes_eq}
use Rattle.http_framing.specs.Request.{Request}
use Rattle.http_routing.specs.Target.{path_of, query_of}
use Rattle.http_routing.specs.Query.{Parameters, parameter, parameters_of}
use Rattle.http_routing.specs.Routes.{route_of, methods_of, name_of}
use Rattle.http_routing.specs.declared.routes.Route.{Route}
use Rattle.http_routing.specs.declared.routes.Route.TheVariants as route
use Rattle.http_routing.specs.declared.routes.Method.{Method}
use Rattle.http_routing.specs.declared.routes.Method.TheVariants as method
use Rattle.serde_json.specs.Data.{no_members}
use Rattle.model.specs.Command.{Id, Compact, Edits, SetLimit, SetPurgedLimit}
use Rattle.model.specs.Query.{Get, Info, Options, PurgedInfosLimit, RevsLimit, RevsDiff}
use Rattle.document_json.specs.Steps.{Checked, and_then}
use Rattle.http_request.specs.Identity.{path_id}
use Rattle.http_request.specs.Parameters.{options_of, rev_parameter, no_replication}
use Rattle.document_json.specs.Document.{edit_of}
use Rattle.api_json.specs.Limit.{limit_of}
use Rattle.document_json.specs.Bulk.{bulk_of}
use Rattle.http_request.specs.Feeds.{all_docs_of, changes_of}
use Rattle.http_request.specs.Opened.{open_revs_of}
use Rattle.http_request.specs.Local.{delete_local, get_local, put_local}
use Rattle.api_json.specs.NamedRevisions.{named_revisions_of}
use Rattle.api_json.specs.Purge.{purge_of}
use Rattle.http_request.specs.declared.asked.Asked.{Asked}
use Rattle.http_request.specs.declared.asked.Asked.TheVariants as asked
use Rattle.http_request.specs.declared.asked.Form.TheVariants as form
use Rattle.http_request.specs.Rejections.{Decided, decided}
use Rattle.http_request.specs.declared.rejection.Rejection.TheVariants as rejection

-- RFC 9110, 15.5.5 "404 Not Found"
abbrev pub route_found : Option Route → Decided Route
route_found None = Err rejection.Missing
route_found (Some route) = Ok route

-- the route of the path
abbrev pub route_in : List ℕ → Decided Route
route_in path = route_found (route_of path)

-- the method of the route that has this name
abbrev pub method_of : Route → List ℕ → Option Method
method_of route name = find (λ method. bytes_eq (name_of method) name) (methods_of route)

-- RFC 9110, 15.5.6 "405 Method Not Allowed"
abbrev pub method_found : Route → Option Method → Decided Method
method_found route None = Err (rejection.MethodNotAllowed route)
method_found route (Some method) = Ok method

abbrev pub method_in : Route → List ℕ → Decided Method
method_in route name = method_found route (method_of route name)

-- the revisions of `open_revs` where it is given, else one
-- CouchDB: GET /{db}/{docid}, "open_revs"
abbrev pub opened_or_got : Id → Options → Parameters → Option (List ℕ) → Checked Asked
opened_or_got id options parameters (Some text) = open_revs_of id options text parameters
opened_or_got id options parameters None = and_then (rev_parameter parameters) (λ rev. Ok (asked.Query (Get id rev options)))

-- GET of a document
-- CouchDB: GET /{db}/{docid}
abbrev pub get_document : List ℕ → List ℕ → Checked Asked
get_document path query =
    and_then (path_id path) (λ id.
    and_then (options_of (parameters_of query)) (λ options.
    opened_or_got id options (parameters_of query) (parameter (codes "open_revs") (parameters_of query))))

-- PUT of a document
-- CouchDB: PUT /{db}/{docid}
abbrev pub put_document : List ℕ → List ℕ → List ℕ → Checked Asked
put_document path query body =
    and_then (path_id path) (λ id.
    and_then (no_replication (parameters_of query)) (λ _.
    and_then (rev_parameter (parameters_of query)) (λ rev.
    and_then (edit_of id rev body) (λ edit.
    Ok (asked.Command form.Put (Edits (edit ∷ [])))))))

-- DELETE of a document, which leaves an empty body
-- CouchDB: DELETE /{db}/{docid}
abbrev pub delete_document : List ℕ → List ℕ → Checked Asked
delete_document path query =
    and_then (path_id path) (λ id.
    and_then (rev_parameter (parameters_of query)) (λ rev.
    Ok (asked.Command form.Delete (Edits (record { id = id; named = rev; deleted = true; body = no_members } ∷ [])))))

-- PUT of the limit of revisions
-- CouchDB: PUT /{db}/_revs_limit
abbrev pub put_revs_limit : List ℕ → Checked Asked
put_revs_limit body = and_then (limit_of body) (λ limit. Ok (asked.Command form.Whole (SetLimit limit)))

-- PUT of the limit of the purge log
-- CouchDB: PUT /{db}/_purged_infos_limit
abbrev pub put_purged_infos_limit : List ℕ → Checked Asked
put_purged_infos_limit body = and_then (limit_of body) (λ limit. Ok (asked.Command form.Whole (SetPurgedLimit limit)))

-- POST of a bulk of documents
-- CouchDB: POST /{db}/_bulk_docs
abbrev pub post_bulk : List ℕ → Checked Asked
post_bulk body = and_then (bulk_of body) (λ command. Ok (asked.Command form.Whole command))

-- POST of revisions of which some may be missing
-- CouchDB: POST /{db}/_revs_diff
abbrev pub post_revs_diff : List ℕ → Checked Asked
post_revs_diff body = and_then (named_revisions_of body) (λ named. Ok (asked.Query (RevsDiff named)))

-- POST of revisions that are removed for good
-- CouchDB: POST /{db}/_purge
abbrev pub post_purge : List ℕ → Checked Asked
post_purge body = and_then (purge_of body) (λ command. Ok (asked.Command form.Whole command))

-- what is asked of a route
abbrev pub asked_of : Route → Method → List ℕ → List ℕ → List ℕ → Decided Asked
asked_of route.Root method.Get path query body = Ok asked.Welcome
asked_of route.Database method.Get path query body = Ok (asked.Query Info)
asked_of route.DatabaseSlash method.Get path query body = Ok (asked.Query Info)
asked_of route.BulkDocs method.Post path query body = decided (post_bulk body)
asked_of route.AllDocs method.Get path query body = decided (all_docs_of (parameters_of query))
asked_of route.Changes method.Get path query body = decided (changes_of method.Get (parameters_of query) body)
asked_of route.Changes method.Post path query body = decided (changes_of method.Post (parameters_of query) body)
asked_of route.Compact method.Post path query body = Ok (asked.Command form.Whole Compact)
asked_of route.Local method.Get path query body = decided (get_local path)
asked_of route.Local method.Put path query body = decided (put_local path query body)
asked_of route.Local method.Delete path query body = decided (delete_local path query)
asked_of route.Purge method.Post path query body = decided (post_purge body)
asked_of route.PurgedInfosLimit method.Get path query body = Ok (asked.Query PurgedInfosLimit)
asked_of route.PurgedInfosLimit method.Put path query body = decided (put_purged_infos_limit body)
asked_of route.RevsDiff method.Post path query body = decided (post_revs_diff body)
asked_of route.RevsLimit method.Get path query body = Ok (asked.Query RevsLimit)
asked_of route.RevsLimit method.Put path query body = decided (put_revs_limit body)
asked_of route.Document method.Get path query body = decided (get_document path query)
asked_of route.Document method.Put path query body = decided (put_document path query body)
asked_of route.Document method.Delete path query body = decided (delete_document path query)
asked_of route method path query body = Err (rejection.MethodNotAllowed route)

-- what a request asks, or why it is rejected; each check is made before the next
unfoldable pub decide : Request → Decided Asked
decide request =
    and_then (route_in (path_of request.target)) (λ route.
    and_then (method_in route request.method) (λ method.
    asked_of route method (path_of request.target) (query_of request.target) request.body))
