-- How a replication waits for changes.
use Rattle.std.specs.Prelude.{ℕ, List, [], ◌++◌, Option, None, Some, codes, decimal}
use Rattle.std.specs.Io.KnownBytes.{Appends, Consumes}
use Rattle.serde_json.specs.Written.{compact_text}
use Rattle.model.specs.Command.{Id}
use Rattle.http_client.specs.Request.{request_text}
use Rattle.http_client.specs.Response.{BeginsWithResponse, Response}
use Rattle.replicator_http.specs.Requests.{doc_ids_data}

-- the next change after a number
-- CouchDB: GET /{db}/_changes, "feed", "limit", "since"
abbrev pub poll_target : ℕ → List ℕ
poll_target since = codes "/db/_changes?feed=longpoll&limit=1&since=" ++ decimal since

-- the same of the documents that the body lists
-- CouchDB: POST /{db}/_changes, "filter"
abbrev pub filtered_poll_target : ℕ → List ℕ
filtered_poll_target since = codes "/db/_changes?feed=longpoll&filter=_doc_ids&limit=1&since=" ++ decimal since

-- asks a host for the next change after a number, of these documents or of all
-- CouchDB: GET and POST /{db}/_changes
abbrev pub poll_request : List ℕ → Option (List Id) → ℕ → List ℕ
poll_request host None since = request_text host (codes "GET") (poll_target since) []
poll_request host (Some ids) since = request_text host (codes "POST") (filtered_poll_target since) (compact_text (doc_ids_data ids))

-- the request was written, and what was read begins with a response
pub record HasWaited (host : List ℕ) (ids : Option (List Id)) (since : ℕ) (left left' taken taken' : Option (List ℕ)) : Type 0 where
  pub asked : Appends taken taken' (poll_request host ids since)
  pub piece : List ℕ
  pub read : Consumes left left' piece
  pub answered : (response : Response) × (behind : List ℕ) × BeginsWithResponse piece response behind
