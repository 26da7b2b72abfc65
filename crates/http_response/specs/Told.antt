-- The status and the body that report what became of a command, or what a query is answered.
use Rattle.std.specs.Prelude.{ℕ, List, [], ◌∷◌, Result, Ok, Err, codes, Option, Some, None}
use Rattle.serde_json.specs.Data.{Data, number, unsigned, array}
use Rattle.serde_json.specs.View.{items_of}
use Rattle.serde_json.specs.Written.{compact_text}
use Rattle.model.specs.Command.{Id, Edit, Merge, Command, Compact, Edits, Merges, Purge, PutLocal, SetLimit, SetPurgedLimit, Reply, Wrote, WroteLocal, Purged, Done}
use Rattle.model.specs.declared.refusal.Refusal.{Refusal}
use Rattle.model.specs.Query.{Query, Get, OpenRevs, RevsDiff, Changes, AllDocuments, Info, GetLocal, RevsLimit, PurgedInfosLimit, Answer, Document, Counted, Found, Limit, Changed, Differences, Documents, FoundLocal, Opened}
use Rattle.model.specs.declared.absent.Absent.{Absent}
use Rattle.model.specs.declared.absent.Absent.TheVariants.{IsMissing}
use Rattle.model.specs.Revision.{Rev}
use Rattle.http_request.specs.declared.asked.Form.{Form}
use Rattle.http_request.specs.declared.asked.Form.TheVariants as form
use Rattle.api_json.specs.Bulk.{edits_data, merges_data}
use Rattle.api_json.specs.Counts.{counts_data}
use Rattle.api_json.specs.Purge.{purged_data}
use Rattle.api_json.specs.Replies.{written_data, local_written_data}
use Rattle.document_json.specs.Written.{document_data, local_data}
use Rattle.api_json.specs.Opened.{all_opened_data}
use Rattle.model.specs.Body.{Body}
use Rattle.api_json.specs.AllDocs.{all_docs_data}
use Rattle.api_json.specs.Changes.{page_data}
use Rattle.api_json.specs.Differences.{differences_data}
use Rattle.http_response.specs.Problem.{write_status, write_problem, absent_problem}
use Rattle.http_response.specs.declared.status.StatusCode.{StatusCode}
use Rattle.http_response.specs.declared.status.StatusCode.TheVariants as status

abbrev pub Told : Type 0
Told = StatusCode × List ℕ

-- that it is done
-- CouchDB: PUT /{db}/_revs_limit, POST /{db}/_compact
abbrev pub done : StatusCode → Told
done status = (status, codes "{\"ok\":true}")

-- a list
abbrev pub told_list : StatusCode → List Data → Told
told_list status items = (status, compact_text (array (items_of items)))

-- a write that was refused
abbrev pub told_refused : Refusal → Told
told_refused refusal = (write_status refusal, write_problem refusal)

-- one write
abbrev pub told_one : StatusCode → Id → Result Rev Refusal → Told
told_one status id (Ok rev) = (status, compact_text (written_data id rev))
told_one status id (Err refusal) = told_refused refusal

-- the one write that was asked for
-- CouchDB: PUT /{db}/{docid} and DELETE /{db}/{docid}
abbrev pub told_single : StatusCode → List Edit → List (Result Rev Refusal) → Option Told
told_single status (edit ∷ []) (outcome ∷ []) = Some (told_one status edit.id outcome)
told_single status edits outcomes = None

-- edits, in a form
-- CouchDB: POST /{db}/_bulk_docs
abbrev pub told_edits : Form → List Edit → List (Result Rev Refusal) → Option Told
told_edits form.Put edits outcomes = told_single status.Created edits outcomes
told_edits form.Delete edits outcomes = told_single status.Ok edits outcomes
told_edits form.Whole edits outcomes = Some (told_list status.Created (edits_data edits outcomes))

-- merges: the refusals alone
-- CouchDB: POST /{db}/_bulk_docs
abbrev pub told_merges : List Merge → List (Result Rev Refusal) → Told
told_merges merges outcomes = told_list status.Created (merges_data merges outcomes)

-- a write of a local document
abbrev pub told_local_one : StatusCode → Id → Result ℕ Refusal → Told
told_local_one status id (Ok counter) = (status, compact_text (local_written_data id counter))
told_local_one status id (Err refusal) = told_refused refusal

-- a write of a local document, in a form that is not of a bulk
-- CouchDB: PUT /{db}/_local/{docid}, DELETE /{db}/_local/{docid}
abbrev pub told_local : Form → Id → Result ℕ Refusal → Option Told
told_local form.Put id outcome = Some (told_local_one status.Created id outcome)
told_local form.Delete id outcome = Some (told_local_one status.Ok id outcome)
told_local form.Whole id outcome = None

-- a reply to a command, where some request asks for such a command in this form and is replied so
abbrev pub reply_told : Form → Command → Reply → Option Told
reply_told form (Edits edits) (Wrote outcomes) = told_edits form edits outcomes
reply_told form.Whole (Merges merges) (Wrote outcomes) = Some (told_merges merges outcomes)
reply_told form (PutLocal id named body) (WroteLocal outcome) = told_local form id outcome
reply_told form.Whole (Purge named) (Purged purge_seq removed) =
    Some (status.Created, compact_text (purged_data purge_seq removed))
reply_told form.Whole (SetLimit limit) Done = Some (done status.Ok)
reply_told form.Whole (SetPurgedLimit limit) Done = Some (done status.Ok)
reply_told form.Whole Compact Done = Some (done status.Accepted)
reply_told form command reply = None

-- ---- answers

-- what was found
abbrev pub told_found : List ℕ → Told
told_found text = (status.Ok, text)

-- that a document is not found
abbrev pub told_absent : Absent → Told
told_absent absent = (status.NotFound, absent_problem absent)

-- CouchDB: GET /{db}/{docid}
abbrev pub found_told : Result Document Absent → Told
found_told (Ok document) = told_found (compact_text (document_data document))
found_told (Err absent) = told_absent absent

-- the text of a value
abbrev pub told_data : Data → Told
told_data d = told_found (compact_text d)

-- CouchDB: GET /{db}/_local/{docid}
abbrev pub local_told : Id → Option (ℕ × Body) → Told
local_told id (Some local) = told_data (local_data id local)
local_told id None = told_absent IsMissing

-- an answer to a query, where such queries are answered so
abbrev pub answer_told : Query → Answer → Option Told
answer_told (Get id rev options) (Found found) = Some (found_told found)
answer_told (OpenRevs id asked options) (Opened opened) = Some (told_data (all_opened_data opened))
answer_told (RevsDiff named) (Differences differences) = Some (told_data (differences_data differences))
answer_told (Changes since limit style ids) (Changed page) = Some (told_data (page_data page))
answer_told AllDocuments (Documents documents) = Some (told_data (all_docs_data documents))
answer_told Info (Counted counts) = Some (told_data (counts_data counts))
answer_told (GetLocal id) (FoundLocal found) = Some (local_told id found)
answer_told RevsLimit (Limit limit) = Some (told_data (number (unsigned limit)))
answer_told PurgedInfosLimit (Limit limit) = Some (told_data (number (unsigned limit)))
answer_told query answer = None
