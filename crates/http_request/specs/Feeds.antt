-- What is asked of documents: their changes, and their list.
use Rattle.std.specs.Prelude.{ℕ, ◌&&◌, ◌||◌, Bool, true, false, List, Option, Some, None, Ok, codes, not, unwrap_or, if◌then◌else◌}
use Rattle.std.specs.Str.{bytes_eq}
use Rattle.http_routing.specs.declared.routes.Method.{Method}
use Rattle.http_routing.specs.declared.routes.Method.TheVariants as method
use Rattle.http_routing.specs.Query.{Parameters, parameter}
use Rattle.model.specs.Command.{Id}
use Rattle.model.specs.Query.{AllDocuments}
use Rattle.model.specs.declared.style.Style.{Style}
use Rattle.model.specs.declared.style.Style.TheVariants.{MainOnly, AllDocs}
use Rattle.api_json.specs.DocIds.{doc_ids_of}
use Rattle.document_json.specs.Steps.{Checked, and_then, or_refused, check}
use Rattle.http_request.specs.Parameters.{asks_for_documents, is_given, is_there, number_parameter}
use Rattle.http_request.specs.declared.asked.Asked.{Asked}
use Rattle.http_request.specs.declared.asked.Asked.TheVariants as asked
use Rattle.http_request.specs.declared.changes.Feed.{Feed}
use Rattle.http_request.specs.declared.changes.Feed.TheVariants.{Normal, LongPoll, Continuous}
use Rattle.http_request.specs.declared.changes.Since.{Since}
use Rattle.http_request.specs.declared.changes.Since.TheVariants.{Number, Now}
use Rattle.document_json.specs.declared.fault.Reason.TheVariants as reason

-- ---- the changes

-- the changes of some documents alone, which the body of a POST lists
-- CouchDB: POST /{db}/_changes, "filter"
abbrev pub asks_for_some : Method → Parameters → Bool
asks_for_some method.Post parameters = is_given (codes "filter") (codes "_doc_ids") parameters
asks_for_some method parameters = false

-- a filter that no feed has
-- CouchDB: GET /{db}/_changes, POST /{db}/_changes, "filter"
abbrev pub asks_for_other_filter : Method → Parameters → Bool
asks_for_other_filter method parameters = is_there (codes "filter") parameters && not (asks_for_some method parameters)

-- changes that no feed gives
-- CouchDB: GET /{db}/_changes, "filter", "view"
abbrev pub asks_for_other_changes : Method → Parameters → Bool
asks_for_other_changes method parameters =
    asks_for_documents parameters || asks_for_other_filter method parameters || is_there (codes "view") parameters

-- CouchDB: GET /{db}/_changes, "feed"
abbrev pub feed_named : List ℕ → Option Feed
feed_named text =
    if bytes_eq text (codes "normal") then Some Normal
    else (if bytes_eq text (codes "longpoll") then Some LongPoll
    else (if bytes_eq text (codes "continuous") then Some Continuous else None))

-- those that there are, where no feed is given
-- CouchDB: GET /{db}/_changes, "feed"
abbrev pub feed_in : Option (List ℕ) → Checked Feed
feed_in None = Ok Normal
feed_in (Some text) = or_refused (feed_named text) reason.Parameter

-- CouchDB: GET /{db}/_changes, "style"
abbrev pub style_named : List ℕ → Option Style
style_named text =
    if bytes_eq text (codes "main_only") then Some MainOnly
    else (if bytes_eq text (codes "all_docs") then Some AllDocs else None)

-- the winner alone, where no style is given
-- CouchDB: GET /{db}/_changes, "style"
abbrev pub style_in : Option (List ℕ) → Checked Style
style_in None = Ok MainOnly
style_in (Some text) = or_refused (style_named text) reason.Parameter

-- a number, or the one that the database has; all changes, where it is not given
-- CouchDB: GET /{db}/_changes, "since"
abbrev pub since_in : Parameters → Checked Since
since_in parameters =
    if is_given (codes "since") (codes "now") parameters then Ok Now
    else and_then (number_parameter (codes "since") parameters) (λ since. Ok (Number (unwrap_or since 0)))

-- the documents of which changes are asked for, where it is not all of them: the body of another request is not read
-- CouchDB: POST /{db}/_changes, "doc_ids"
abbrev pub wanted_ids : Bool → List ℕ → Checked (Option (List Id))
wanted_ids true body = and_then (doc_ids_of body) (λ ids. Ok (Some ids))
wanted_ids false body = Ok None

-- the changes; the parameters are checked before the body
-- CouchDB: GET /{db}/_changes, POST /{db}/_changes
abbrev pub changes_of : Method → Parameters → List ℕ → Checked Asked
changes_of method parameters body =
    and_then (check (not (asks_for_other_changes method parameters)) reason.Parameter) (λ _.
    and_then (feed_in (parameter (codes "feed") parameters)) (λ feed.
    and_then (style_in (parameter (codes "style") parameters)) (λ style.
    and_then (number_parameter (codes "limit") parameters) (λ limit.
    and_then (since_in parameters) (λ since.
    and_then (wanted_ids (asks_for_some method parameters) body) (λ ids.
    Ok (asked.Changes (record { since = since; limit = limit; style = style; feed = feed; ids = ids }))))))))

-- ---- the list of all documents

-- some rows by their keys
-- CouchDB: GET /{db}/_all_docs
abbrev pub asks_for_keys : Parameters → Bool
asks_for_keys parameters =
    is_there (codes "key") parameters || is_there (codes "keys") parameters || is_there (codes "skip") parameters
    || is_there (codes "limit") parameters

-- rows from one key to another
-- CouchDB: GET /{db}/_all_docs
abbrev pub asks_for_range : Parameters → Bool
asks_for_range parameters =
    is_there (codes "startkey") parameters || is_there (codes "endkey") parameters || is_there (codes "start_key") parameters
    || is_there (codes "end_key") parameters

-- all documents, and no part of them
-- CouchDB: GET /{db}/_all_docs
abbrev pub all_docs_of : Parameters → Checked Asked
all_docs_of parameters =
    and_then (check (not (asks_for_documents parameters || asks_for_keys parameters || asks_for_range parameters)) reason.Parameter) (λ _.
    Ok (asked.Query AllDocuments))
