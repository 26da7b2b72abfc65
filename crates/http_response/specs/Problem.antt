-- Why something was not done, as a response reports it.
use Rattle.std.specs.Prelude.{ℕ, List, ◌++◌, codes}
use Rattle.http_framing.specs.declared.FramingFault.{FramingFault}
use Rattle.http_framing.specs.declared.FramingFault.TheVariants as fault
use Rattle.http_request.specs.declared.rejection.Rejection.{Rejection}
use Rattle.http_request.specs.declared.rejection.Rejection.TheVariants as rejection
use Rattle.document_json.specs.declared.fault.Reason.{Reason}
use Rattle.document_json.specs.declared.fault.Reason.TheVariants as reason
use Rattle.model.specs.declared.refusal.Refusal.{Refusal}
use Rattle.model.specs.declared.refusal.Refusal.TheVariants as refusal
use Rattle.model.specs.declared.absent.Absent.{Absent}
use Rattle.model.specs.declared.absent.Absent.TheVariants as absent
use Rattle.api_json.specs.Refusals.{write_error, write_reason}
use Rattle.http_response.specs.declared.status.StatusCode.{StatusCode}
use Rattle.http_response.specs.declared.status.StatusCode.TheVariants as status
use Rattle.http_response.specs.declared.head.Allow.{Allow}
use Rattle.http_response.specs.declared.head.Allow.TheVariants as allow

-- the name of an error, and its reason
-- CouchDB: "JSON Structure Reference", "CouchDB Error Status"
abbrev pub problem_text : List ℕ → List ℕ → List ℕ
problem_text error why = codes "{\"error\":\"" ++ (error ++ (codes "\",\"reason\":\"" ++ (why ++ codes "\"}")))

abbrev pub reason_name : Reason → List ℕ
reason_name reason.Id = codes "id"
reason_name reason.Parameter = codes "parameter"
reason_name reason.Revision = codes "revision"
reason_name reason.Json = codes "json"
reason_name reason.Number = codes "number"
reason_name reason.Depth = codes "depth"
reason_name reason.Shape = codes "shape"
reason_name reason.Member = codes "member"

-- ---- a request that is refused

-- CouchDB: "API Basics", "HTTP Status Codes"
abbrev pub refusal_status : Rejection → StatusCode
refusal_status rejection.Missing = status.NotFound
refusal_status (rejection.MethodNotAllowed route) = status.MethodNotAllowed
refusal_status (rejection.BadRequest reason) = status.BadRequest

-- RFC 9110, 10.2.1 "Allow"
abbrev pub refusal_allow : Rejection → Allow
refusal_allow rejection.Missing = allow.Unsaid
refusal_allow (rejection.MethodNotAllowed route) = allow.Methods route
refusal_allow (rejection.BadRequest reason) = allow.Unsaid

abbrev pub refusal_body : Rejection → List ℕ
refusal_body rejection.Missing = problem_text (codes "not_found") (codes "missing")
refusal_body (rejection.MethodNotAllowed route) = problem_text (codes "method_not_allowed") (codes "Method not allowed.")
refusal_body (rejection.BadRequest reason) = problem_text (codes "bad_request") (reason_name reason)

-- ---- bytes that are refused, after which the connection closes

-- RFC 9110, 15.5 "Client Error 4xx"; RFC 6585, 5 "431 Request Header Fields Too Large"
abbrev pub closing_status : FramingFault → StatusCode
closing_status fault.Head = status.BadRequest
closing_status fault.LargeHead = status.RequestHeaderFieldsTooLarge
closing_status fault.TransferEncoding = status.LengthRequired
closing_status fault.ContentLength = status.BadRequest
closing_status fault.LargeBody = status.ContentTooLarge

abbrev pub closing_body : FramingFault → List ℕ
closing_body fault.Head = problem_text (codes "bad_request") (codes "head")
closing_body fault.LargeHead = problem_text (codes "too_large") (codes "head")
closing_body fault.TransferEncoding = problem_text (codes "length_required") (codes "Chunked bodies are not taken.")
closing_body fault.ContentLength = problem_text (codes "bad_request") (codes "length")
closing_body fault.LargeBody = problem_text (codes "too_large") (codes "body")

-- ---- a write that is refused

-- CouchDB: "API Basics", "HTTP Status Codes"
abbrev pub write_status : Refusal → StatusCode
write_status refusal.Conflict = status.Conflict
write_status refusal.BadHistory = status.Conflict
write_status refusal.Missing = status.NotFound
write_status refusal.Deleted = status.NotFound
write_status refusal.GenerationLimit = status.Conflict

abbrev pub write_problem : Refusal → List ℕ
write_problem refusal = problem_text (write_error refusal) (write_reason refusal)

-- ---- what is not found

abbrev pub absent_reason : Absent → List ℕ
absent_reason absent.IsMissing = codes "missing"
absent_reason absent.WasDeleted = codes "deleted"

-- CouchDB: GET /{db}/{docid}, 404 Not Found
abbrev pub absent_problem : Absent → List ℕ
absent_problem absent = problem_text (codes "not_found") (absent_reason absent)
