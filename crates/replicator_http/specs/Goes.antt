-- The calls of a peer that is reached over a connection.
use Rattle.std.specs.Prelude.{◌≡◌, ℕ, List, Err}
use Rattle.http_client.specs.Response.{Response}
use Rattle.http_client.specs.declared.target.TheConstants.{SEGMENT}
use Rattle.replicator_http.specs.Requests.{bulk_request, changes_request_of, diff_request, local_get_request, local_put_request, open_revs_request}
use Rattle.replicator.specs.Call.{Call, Changes, Diff, OpenRevs, Bulk, LocalGet, LocalPut}
use Rattle.replicator.specs.declared.fault.PeerFault.TheVariants as fault
use Rattle.replicator_http.specs.Ahead.{AfterEvents}
use Rattle.replicator_http.specs.Asked.{fault_of}
use Rattle.replicator_http.specs.Connection.{Connection, Terms, Exchange, Unmade, GivenUp, Cut, Unanswered, Answered, Exchanges}
use Rattle.replicator_http.specs.Told.{Answers, Told, bulk_told, checkpoint_told, counter_told, differences_told, opened_told, page_told}

-- the request of a call on these terms
-- CouchDB: "CouchDB Replication Protocol", "Replication Protocol Algorithm"
abbrev pub request_of : Terms → Call → List ℕ
request_of terms (Changes ids since limit answer) = changes_request_of terms.host ids since limit
request_of terms (Diff asked answer) = diff_request terms.host asked
request_of terms (OpenRevs id revs answer) = open_revs_request terms.host SEGMENT id revs
request_of terms (Bulk documents answer) = bulk_request terms.host documents
request_of terms (LocalGet id answer) = local_get_request terms.host SEGMENT id
request_of terms (LocalPut id named last_seq answer) = local_put_request terms.host terms.skips SEGMENT id named last_seq

-- the answer after an exchange: what the response reports, or why there is none
abbrev pub IsAnswerTo : {A : Type 0} → Exchange → (Response → Told A) → Told A → Type 0
IsAnswerTo Unmade told answer = answer ≡ Err fault.Memory
IsAnswerTo (GivenUp why) told answer = answer ≡ Err why
IsAnswerTo Cut told answer = answer ≡ Err fault.Failed
IsAnswerTo (Unanswered come why) told answer = answer ≡ Err (fault_of why)
IsAnswerTo (Answered response behind) told answer = Answers answer (told response)

-- the call has its answer from the exchange
abbrev pub Tells : Exchange → Call → Type 0
Tells exchange (Changes ids since limit answer) = IsAnswerTo exchange page_told answer
Tells exchange (Diff asked answer) = IsAnswerTo exchange differences_told answer
Tells exchange (OpenRevs id revs answer) = IsAnswerTo exchange opened_told answer
Tells exchange (Bulk documents answer) = IsAnswerTo exchange bulk_told answer
Tells exchange (LocalGet id answer) = IsAnswerTo exchange checkpoint_told answer
Tells exchange (LocalPut id named last_seq answer) = IsAnswerTo exchange counter_told answer

-- the call's request is exchanged, and reports the answer
abbrev pub Exchanged : Call → Connection → Connection → Type 0
Exchanged call old new = (exchange : Exchange) × Exchanges (request_of old.terms call) old exchange new × Tells exchange call

-- By a call the connection goes from one state to the next: its request is exchanged for a response, which reports the
-- answer. Before, requests for revisions may have been written ahead, and the responses to those that aren't asked dropped.
abbrev pub Goes : Connection → Call → Connection → Type 0
Goes old call new = AfterEvents old (λ mid. Exchanged call mid new)
