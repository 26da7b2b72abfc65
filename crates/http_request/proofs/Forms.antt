-- Each request asks for a command in a form in which it is answered.
use Rattle.std.proofs.Common.{◌≡◌, ℕ, Bool, true, false, List, Option, None, Some, Result, Ok, Err, subst}
use Rattle.std.specs.Prelude.{IfOk, if◌then◌else◌, codes, length, nat_le, not, ◌||◌}
use Rattle.std.specs.Str.{bytes_eq}
use Rattle.http_framing.specs.Request.{Request}
use Rattle.http_routing.specs.Target.{path_of, query_of}
use Rattle.http_routing.specs.Query.{Parameters, parameter, parameters_of}
use Rattle.http_routing.specs.declared.routes.Route.{Route}
use Rattle.http_routing.specs.declared.routes.Route.TheVariants as route
use Rattle.http_routing.specs.declared.routes.Method.{Method}
use Rattle.http_routing.specs.declared.routes.Method.TheVariants as method
use Rattle.model.specs.Command.{Command, Id, Purge, max_edits, names}
use Rattle.model.specs.Map.{Map, entries}
use Rattle.model.specs.Revision.{Rev}
use Rattle.model.specs.Query.{Options}
use Rattle.document_json.specs.Steps.{Checked, and_then, or_refused, check}
use Rattle.document_json.specs.Each.{each}
use Rattle.document_json.specs.Text.{json_of}
use Rattle.api_json.specs.TextLists.{text_list_of, rev_in}
use Rattle.document_json.specs.declared.fault.Reason.TheVariants as reason
use Rattle.document_json.specs.Bulk.{bulk_of, command_in, documents_in, edit_in, listed_in, merge_in, new_edits_in}
use Rattle.document_json.specs.Document.{edit_of, parts_in}
use Rattle.api_json.specs.Limit.{limit_of}
use Rattle.document_json.specs.Local.{counter_in, counter_over, local_document_of, local_edit_of}
use Rattle.api_json.specs.NamedRevisions.{named_revisions_of}
use Rattle.api_json.specs.Purge.{purge_of}
use Rattle.http_request.specs.Decide.{decide, route_in, method_in, asked_of, get_document, opened_or_got, put_document, post_bulk, post_purge}
use Rattle.http_request.specs.Feeds.{all_docs_of, asks_for_keys, asks_for_other_changes, asks_for_range, asks_for_some, changes_of, feed_in, wanted_ids, since_in, style_in}
use Rattle.http_request.specs.Forms.{IsFormOf, HasForm}
use Rattle.http_request.specs.Identity.{path_id}
use Rattle.http_request.specs.Local.{rev_text, put_local}
use Rattle.http_request.specs.Opened.{open_leaves, open_listed, open_revs_of}
use Rattle.http_request.specs.Rejections.{decided}
use Rattle.http_request.specs.Parameters.{asks_for_documents, number_parameter, options_of, rev_parameter, no_replication}
use Rattle.http_request.specs.declared.asked.Asked.TheVariants as asked
use Rattle.http_request.specs.declared.asked.Form.{Form}
use Rattle.http_request.specs.declared.asked.Form.TheVariants as form

-- what holds of whatever the last check finds
after : {X Y E : Type 0} (checked : Result X E) (next : X → Result Y E) (P : Y → Type 0) → ((x : X) → IfOk (next x) P) → IfOk (and_then checked next) P
after (Ok x) next P all = all x
after (Err why) next P all = tt

-- the same, where something holds of what the check before finds
after_such : {X Y : Type 0} (checked : Checked X) (next : X → Checked Y) (Q : X → Type 0) (P : Y → Type 0) → IfOk checked Q → ((x : X) → Q x → IfOk (next x) P)
    → IfOk (and_then checked next) P
after_such (Ok x) next Q P such all = all x such
after_such (Err why) next Q P such all = tt

-- where it holds of what is checked, it holds of what is decided
decided-fits-so : {Y : Type 0} (checked : Checked Y) (P : Y → Type 0) → IfOk checked P → IfOk (decided checked) P
decided-fits-so (Ok y) P holds = holds
decided-fits-so (Err reason) P holds = tt

either_way : {Y : Type 0} (test : Bool) (x y : Checked Y) (P : Y → Type 0) → IfOk x P → IfOk y P → IfOk (if test then x else y) P
either_way true x y P p q = p
either_way false x y P p q = q

open_revs-fits : (id : Id) (options : Options) (text : List ℕ) (parameters : Parameters) → IfOk (open_revs_of id options text parameters) HasForm
open_revs-fits id options text parameters =
    either_way (bytes_eq text (codes "all")) (open_leaves id options parameters) (open_listed id options text parameters) HasForm
    (after (rev_parameter parameters) _ HasForm (λ _. tt))
    (after (or_refused (text_list_of text) reason.Parameter) _ HasForm (λ values.
    after (rev_parameter parameters) _ HasForm (λ _.
    after (each rev_in values) _ HasForm (λ revs. tt))))

opened-fits : (id : Id) (options : Options) (parameters : Parameters) (asked : Option (List ℕ)) → IfOk (opened_or_got id options parameters asked) HasForm
opened-fits id options parameters (Some text) = open_revs-fits id options text parameters
opened-fits id options parameters None = after (rev_parameter parameters) _ HasForm (λ rev. tt)

get_document-fits : (path query : List ℕ) → IfOk (get_document path query) HasForm
get_document-fits path query =
    after (path_id path) _ HasForm (λ id.
    after (options_of (parameters_of query)) _ HasForm (λ options.
    opened-fits id options (parameters_of query) (parameter (codes "open_revs") (parameters_of query))))

put_document-fits : (path query body : List ℕ) → IfOk (put_document path query body) HasForm
put_document-fits path query body =
    after (path_id path) _ HasForm (λ id.
    after (no_replication (parameters_of query)) _ HasForm (λ _.
    after (rev_parameter (parameters_of query)) _ HasForm (λ rev.
    after (edit_of id rev body) _ HasForm (λ edit. tt))))

local_edit-fits : (id : Id) (rev : Option (List ℕ)) (body : List ℕ) → IfOk (local_edit_of id rev body) (IsFormOf form.Put)
local_edit-fits id rev body =
    after (counter_in rev) _ (IsFormOf form.Put) (λ counter.
    after (local_document_of body) _ (IsFormOf form.Put) (λ parts.
    after (counter_over id counter parts) _ (IsFormOf form.Put) (λ named. tt)))

put_local-fits : (path query body : List ℕ) → IfOk (put_local path query body) HasForm
put_local-fits path query body =
    after (path_id path) _ HasForm (λ id.
    after_such (local_edit_of id (rev_text query) body) _ (IsFormOf form.Put) HasForm (local_edit-fits id (rev_text query) body) (λ command fits. fits))

writes-fit : (new_edits : Bool) (documents : _) → IfOk (command_in new_edits documents) (IsFormOf form.Whole)
writes-fit true documents = after (each edit_in documents) _ (IsFormOf form.Whole) (λ edits. tt)
writes-fit false documents = after (each merge_in documents) _ (IsFormOf form.Whole) (λ merges. tt)

bulk-fits : (body : List ℕ) → IfOk (post_bulk body) HasForm
bulk-fits body = after_such (bulk_of body) _ (IsFormOf form.Whole) HasForm whole (λ command fits. fits)
  where
    whole : IfOk (bulk_of body) (IsFormOf form.Whole)
    whole =
        after (json_of body) _ (IsFormOf form.Whole) (λ value.
        after (or_refused (listed_in value) reason.Shape) _ (IsFormOf form.Whole) (λ values.
        after (each parts_in values) _ (IsFormOf form.Whole) (λ found.
        after (or_refused (new_edits_in value) reason.Shape) _ (IsFormOf form.Whole) (λ new_edits.
        after (documents_in new_edits found) _ (IsFormOf form.Whole) (λ documents. writes-fit new_edits documents)))))

purge-fits : (body : List ℕ) → IfOk (post_purge body) HasForm
purge-fits body = after_such (purge_of body) _ (IsFormOf form.Whole) HasForm whole (λ command fits. fits)
  where
    few_or_not : (few : Bool) (named : Map names (List Rev))
        → IfOk (or_refused (if few then Some (Purge named) else None) reason.Shape) (IsFormOf form.Whole)
    few_or_not true named = tt
    few_or_not false named = tt

    whole : IfOk (purge_of body) (IsFormOf form.Whole)
    whole = after (named_revisions_of body) _ (IsFormOf form.Whole) (λ named. few_or_not (nat_le (length (entries named)) max_edits) named)

changes-fits : (method : Method) (parameters : Parameters) (body : List ℕ) → IfOk (changes_of method parameters body) HasForm
changes-fits method parameters body =
    after (check (not (asks_for_other_changes method parameters)) reason.Parameter) _ HasForm (λ _.
    after (feed_in (parameter (codes "feed") parameters)) _ HasForm (λ feed.
    after (style_in (parameter (codes "style") parameters)) _ HasForm (λ style.
    after (number_parameter (codes "limit") parameters) _ HasForm (λ limit.
    after (since_in parameters) _ HasForm (λ since.
    after (wanted_ids (asks_for_some method parameters) body) _ HasForm (λ ids. tt))))))

all_docs-fits : (parameters : Parameters) → IfOk (all_docs_of parameters) HasForm
all_docs-fits parameters =
    after (check (not (asks_for_documents parameters || asks_for_keys parameters || asks_for_range parameters)) reason.Parameter) _ HasForm (λ _. tt)

asked-fits : (route : Route) (method : Method) (path query body : List ℕ) → IfOk (asked_of route method path query body) HasForm
asked-fits route.Root method.Get path query body = tt
asked-fits route.Root method.Put path query body = tt
asked-fits route.Root method.Post path query body = tt
asked-fits route.Root method.Delete path query body = tt
asked-fits route.Database method.Get path query body = tt
asked-fits route.Database method.Put path query body = tt
asked-fits route.Database method.Post path query body = tt
asked-fits route.Database method.Delete path query body = tt
asked-fits route.DatabaseSlash method.Get path query body = tt
asked-fits route.DatabaseSlash method.Put path query body = tt
asked-fits route.DatabaseSlash method.Post path query body = tt
asked-fits route.DatabaseSlash method.Delete path query body = tt
asked-fits route.AllDocs method.Get path query body = decided-fits-so _ HasForm (all_docs-fits (parameters_of query))
asked-fits route.AllDocs method.Put path query body = tt
asked-fits route.AllDocs method.Post path query body = tt
asked-fits route.AllDocs method.Delete path query body = tt
asked-fits route.BulkDocs method.Get path query body = tt
asked-fits route.BulkDocs method.Put path query body = tt
asked-fits route.BulkDocs method.Post path query body = decided-fits-so _ HasForm (bulk-fits body)
asked-fits route.BulkDocs method.Delete path query body = tt
asked-fits route.Changes method.Get path query body = decided-fits-so _ HasForm (changes-fits method.Get (parameters_of query) body)
asked-fits route.Changes method.Put path query body = tt
asked-fits route.Changes method.Post path query body = decided-fits-so _ HasForm (changes-fits method.Post (parameters_of query) body)
asked-fits route.Changes method.Delete path query body = tt
asked-fits route.Compact method.Get path query body = tt
asked-fits route.Compact method.Put path query body = tt
asked-fits route.Compact method.Post path query body = tt
asked-fits route.Compact method.Delete path query body = tt
asked-fits route.Local method.Get path query body = decided-fits-so _ HasForm (after (path_id path) _ HasForm (λ id. tt))
asked-fits route.Local method.Put path query body = decided-fits-so _ HasForm (put_local-fits path query body)
asked-fits route.Local method.Post path query body = tt
asked-fits route.Local method.Delete path query body = decided-fits-so _ HasForm (after (path_id path) _ HasForm (λ id. after (counter_in (rev_text query)) _ HasForm (λ counter. tt)))
asked-fits route.Purge method.Get path query body = tt
asked-fits route.Purge method.Put path query body = tt
asked-fits route.Purge method.Post path query body = decided-fits-so _ HasForm (purge-fits body)
asked-fits route.Purge method.Delete path query body = tt
asked-fits route.PurgedInfosLimit method.Get path query body = tt
asked-fits route.PurgedInfosLimit method.Put path query body = decided-fits-so _ HasForm (after (limit_of body) _ HasForm (λ limit. tt))
asked-fits route.PurgedInfosLimit method.Post path query body = tt
asked-fits route.PurgedInfosLimit method.Delete path query body = tt
asked-fits route.RevsDiff method.Get path query body = tt
asked-fits route.RevsDiff method.Put path query body = tt
asked-fits route.RevsDiff method.Post path query body = decided-fits-so _ HasForm (after (named_revisions_of body) _ HasForm (λ named. tt))
asked-fits route.RevsDiff method.Delete path query body = tt
asked-fits route.RevsLimit method.Get path query body = tt
asked-fits route.RevsLimit method.Put path query body = decided-fits-so _ HasForm (after (limit_of body) _ HasForm (λ limit. tt))
asked-fits route.RevsLimit method.Post path query body = tt
asked-fits route.RevsLimit method.Delete path query body = tt
asked-fits route.Document method.Get path query body = decided-fits-so _ HasForm (get_document-fits path query)
asked-fits route.Document method.Put path query body = decided-fits-so _ HasForm (put_document-fits path query body)
asked-fits route.Document method.Post path query body = tt
asked-fits route.Document method.Delete path query body = decided-fits-so _ HasForm (after (path_id path) _ HasForm (λ id. after (rev_parameter (parameters_of query)) _ HasForm (λ rev. tt)))

pub decided-fits : (request : Request) → IfOk (decide request) HasForm
unfolding decide
decided-fits request =
    after (route_in (path_of request.target)) _ HasForm (λ route.
    after (method_in route request.method) _ HasForm (λ method.
    asked-fits route method (path_of request.target) (query_of request.target) request.body))

pub form_fits : (request : Request) (form : Form) (command : Command) → decide request ≡ Ok (asked.Command form command) → IsFormOf form command
form_fits request form command is = subst (λ d. IfOk d HasForm) is (decided-fits request)
