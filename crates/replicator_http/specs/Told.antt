-- What a response means as the answer to a call.
use Rattle.std.specs.Prelude.{◌≡◌, ◌||◌, ◌==◌, ℕ, Bool, true, false, List, Option, None, Some, Result, Ok, Err, ⊤, if◌then◌else◌}
use Rattle.document_json.specs.Steps.{Checked, and_then}
use Rattle.model.specs.Command.{Merge, names}
use Rattle.model.specs.Map.{Map}
use Rattle.model.specs.Query.{ChangesPage, Difference}
use Rattle.model.specs.Revision.{Rev}
use Rattle.http_client.specs.Response.{Response}
use Rattle.replicator_http.specs.Bulk.{all_taken_of}
use Rattle.replicator_http.specs.Changes.{page_of}
use Rattle.replicator_http.specs.Checkpoint.{checkpoint_of, written_counter_of}
use Rattle.replicator_http.specs.Differences.{differences_of}
use Rattle.replicator_http.specs.Opened.{all_opened_of}
use Rattle.replicator.specs.declared.checkpoint.Checkpoint.{Checkpoint}
use Rattle.replicator.specs.declared.fault.PeerFault.{PeerFault}
use Rattle.replicator.specs.declared.fault.PeerFault.TheVariants as fault

abbrev pub Told : Type 0 → Type 0
Told A = Result A PeerFault

-- whether a status says that the call was carried out
-- RFC 9110, 15.3.1 "200 OK", 15.3.2 "201 Created"
abbrev pub is_taken : ℕ → Bool
is_taken status = status == 200 || status == 201

-- RFC 9110, 15.5.5 "404 Not Found"
abbrev pub is_missing : ℕ → Bool
is_missing status = status == 404

-- RFC 9110, 15.5.10 "409 Conflict"
abbrev pub is_conflict : ℕ → Bool
is_conflict status = status == 409

-- RFC 9110, 15.6.4 "503 Service Unavailable"
abbrev pub is_unavailable : ℕ → Bool
is_unavailable status = status == 503

-- why a status that says of no call that it was carried out leaves it without an answer: the end can't serve it now, which
-- is a failure, or the answer is none
abbrev pub fault_by : ℕ → PeerFault
fault_by status = if is_unavailable status then fault.Failed else fault.Unreadable

-- what the checks of an answer find, where they refuse nothing
abbrev pub readable : {A : Type 0} → Checked A → Told A
readable (Ok x) = Ok x
readable (Err reason) = Err fault.Unreadable

-- what a body reports under a status that is taken
abbrev pub told : {A : Type 0} → (List ℕ → Checked A) → Response → Told A
told read response = if is_taken response.status then readable (read response.body) else Err (fault_by response.status)

-- the changes
-- CouchDB: GET /{db}/_changes
abbrev pub page_told : Response → Told ChangesPage
page_told response = told page_of response

-- what is not known
-- CouchDB: POST /{db}/_revs_diff
abbrev pub differences_told : Response → Told (Map names Difference)
differences_told response = told differences_of response

-- revisions of a document
-- CouchDB: GET /{db}/{docid}, "open_revs"
abbrev pub opened_told : Response → Told (List (Result Merge Rev))
opened_told response = told all_opened_of response

abbrev pub none_refused : Bool → Told ⊤
none_refused true = Ok tt
none_refused false = Err fault.Refused

-- whether all documents of a bulk were taken
-- CouchDB: POST /{db}/_bulk_docs, "new_edits"
abbrev pub bulk_told : Response → Told ⊤
bulk_told response = and_then (told all_taken_of response) none_refused

abbrev pub found : ℕ × ℕ → Told (Option Checkpoint)
found read = Ok (Some (record { counter = read.0; last_seq = read.1 }))

-- a checkpoint, or that there is none
-- CouchDB: GET /{db}/_local/{docid}
abbrev pub checkpoint_told : Response → Told (Option Checkpoint)
checkpoint_told response = if is_missing response.status then Ok None else and_then (told checkpoint_of response) found

-- the number of the checkpoint's revision, or that there is another one
-- CouchDB: PUT /{db}/_local/{docid}
abbrev pub counter_told : Response → Told ℕ
counter_told response = if is_conflict response.status then Err fault.Refused else told written_counter_of response

-- the code answers what is reported, unless memory is refused
abbrev pub Answers : {A : Type 0} → Told A → Told A → Type 0
Answers (Ok x) told = told ≡ Ok x
Answers (Err fault.Memory) told = ⊤
Answers (Err fault.Failed) told = told ≡ Err fault.Failed
Answers (Err fault.Unreadable) told = told ≡ Err fault.Unreadable
Answers (Err fault.Refused) told = told ≡ Err fault.Refused
