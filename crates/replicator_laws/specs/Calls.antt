-- As what a server takes the calls of a replication.
use Rattle.std.specs.Prelude.{◌≡◌, ℕ, Bool, ◌^◌, ◌<◌, ◌≤◌, true, false, List, [], length, All, Some, None, Ok, IfSome, codes}
use Rattle.serde_json.specs.Data.{unsigned, number, member}
use Rattle.serde_json.specs.Written.{compact_text}
use Rattle.http_framing.specs.Body.{body_limit}
use Rattle.http_framing.specs.Request.{Request, BeginsWithRequest}
use Rattle.model.specs.Body.{Body}
use Rattle.model.specs.Command.{Id, IsId, IsCounter, IsMerge, Merge, Merges, PutLocal, max_edits}
use Rattle.model.specs.Map.{entries}
use Rattle.model.specs.Profile.{is_special}
use Rattle.model.specs.Query.{GetLocal, Options, RevsDiff}
use Rattle.model.specs.declared.style.Style.TheVariants.{AllDocs}
use Rattle.model.specs.Query as query
use Rattle.model.specs.Revision.{Rev, IsRev}
use Rattle.document_id.specs.Ids.{AreIds}
use Rattle.http_request.specs.Decide.{decide}
use Rattle.http_request.specs.declared.asked.Asked.{Asked}
use Rattle.http_request.specs.declared.asked.Asked.TheVariants as asked
use Rattle.http_request.specs.declared.asked.Form.TheVariants as form
use Rattle.http_request.specs.declared.changes.Feed.TheVariants.{Normal}
use Rattle.http_request.specs.declared.changes.Since.TheVariants.{Number}
use Rattle.replicator_http.specs.Connection.{Terms}
use Rattle.replicator_http.specs.Requests.{asked_data, bulk_data, doc_ids_data, skip_last}
use Rattle.replicator.specs.Call.{Call, Changes, Diff, OpenRevs, Bulk, LocalGet, LocalPut}
use Rattle.replicator.specs.Wanted.{max_revs}

-- a server takes the bytes as one request, after which the connection stays open, and as asking this
-- RFC 9112, 2.1 "Message Format", 9.3 "Persistence"
abbrev pub IsTakenAs : List ℕ → Asked → Type 0
IsTakenAs bytes asks =
    (request : Request) × BeginsWithRequest bytes request [] × (request.closes ≡ false) × (decide request ≡ Ok asks)

-- ---- what the calls ask

-- each revision with its ancestors, and the newest in the place of an older one
-- CouchDB: GET /{db}/{docid}, "revs", "latest"
abbrev pub with_paths : Options
with_paths = record { latest = true; revs = true; revs_info = false; conflicts = false; deleted_conflicts = false }

-- `{"last_seq":n}`, and where documents are skipped `{"last_seq":n,"skip":true}`
-- CouchDB: "CouchDB Replication Protocol", "Record Replication Checkpoint"
abbrev pub checkpoint_body : ℕ → Bool → Body
checkpoint_body last_seq skips = member (codes "last_seq") (number (unsigned last_seq)) (skip_last skips)

-- the query or the command that a call on these terms stands for
-- CouchDB: "CouchDB Replication Protocol", "Replication Protocol Algorithm"
abbrev pub asked_by : Terms → Call → Asked
asked_by terms (Changes ids since limit answer) =
    asked.Changes (record { since = Number since; limit = Some limit; style = AllDocs; feed = Normal; ids = ids })
asked_by terms (Diff named answer) = asked.Query (RevsDiff named)
asked_by terms (OpenRevs id revs answer) = asked.Query (query.OpenRevs id (Some revs) with_paths)
asked_by terms (Bulk documents answer) = asked.Command form.Whole (Merges documents)
asked_by terms (LocalGet id answer) = asked.Query (GetLocal id)
asked_by terms (LocalPut id named last_seq answer) = asked.Command form.Put (PutLocal id named (Some (checkpoint_body last_seq terms.skips)))

-- ---- which calls can be taken

-- an id that requests can name: a text of 1 to 512 bytes that does not begin with `_`
-- CouchDB: "CouchDB Replication Protocol", "Definitions"
pub record IsPlainId (id : Id) : Type 0 where
  pub is_id : IsId id
  pub plain : is_special id ≡ false

abbrev pub NamesPlain : Id × List Rev → Type 0
NamesPlain named = IsPlainId named.0 × All IsRev named.1

abbrev pub IsPlainMerge : Merge → Type 0
IsPlainMerge merge = IsMerge merge × (is_special merge.id ≡ false)

-- numbers of at most 18 digits, or whole numbers of `i64` in a body; ids that requests can name, or in a list of
-- documents any ids; no more revisions of a document than a worker asks for at once; and a body within the limit of
-- requests, a list of documents too, which goes whole or not at all
abbrev pub CanBeTaken : Call → Type 0
CanBeTaken (Changes None since limit answer) = (since < 10 ^ 18) × (limit < 10 ^ 18)
CanBeTaken (Changes (Some ids) since limit answer) =
    (since < 10 ^ 18) × (limit < 10 ^ 18) × AreIds ids × (length (compact_text (doc_ids_data ids)) ≤ body_limit)
CanBeTaken (Diff named answer) = All NamesPlain (entries named) × (length (compact_text (asked_data named)) ≤ body_limit)
CanBeTaken (OpenRevs id revs answer) = IsPlainId id × All IsRev revs × (length revs ≤ max_revs)
CanBeTaken (Bulk documents answer) =
    (length documents ≤ max_edits) × All IsPlainMerge documents × (length (compact_text (bulk_data documents)) ≤ body_limit)
CanBeTaken (LocalGet id answer) = IsPlainId id
CanBeTaken (LocalPut id named last_seq answer) = IsPlainId id × IfSome named IsCounter × (last_seq < 2 ^ 63)
