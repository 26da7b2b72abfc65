-- The texts of responses, each at a place of the history.
use Rattle.std.specs.Prelude.{ℕ, List, Option, option_map, codes}
use Rattle.model.specs.Command.{Command, Reply}
use Rattle.model.specs.Query.{Query, Answer}
use Rattle.http_framing.specs.declared.FramingFault.{FramingFault}
use Rattle.http_request.specs.declared.asked.Form.{Form}
use Rattle.http_request.specs.declared.extent.Extent.{Extent}
use Rattle.http_request.specs.declared.extent.Extent.TheVariants as extent
use Rattle.http_request.specs.declared.rejection.Rejection.{Rejection}
use Rattle.http_response.specs.Response.{response_text}
use Rattle.http_response.specs.Problem.{problem_text, refusal_status, refusal_allow, refusal_body, closing_status, closing_body}
use Rattle.http_response.specs.Told.{Told, reply_told, answer_told}
use Rattle.http_response.specs.declared.status.StatusCode.TheVariants as status
use Rattle.http_response.specs.declared.head.Allow.TheVariants as allow
use Rattle.http_response.specs.declared.connection.Connection.{Connection}
use Rattle.http_response.specs.declared.connection.Connection.TheVariants as connection
use Rattle.http_response.specs.declared.memory.MemoryFor.{MemoryFor}
use Rattle.http_response.specs.declared.memory.MemoryFor.TheVariants as memory_for
use Rattle.session_api.specs.declared.fault.Unavailable.{Unavailable}
use Rattle.session_api.specs.declared.fault.Unavailable.TheVariants as unavailable

-- ---- what is said without a call of the database

-- a request that is refused, as far as it takes the response
unfoldable pub refusal_text : ℕ → Connection → Extent → Rejection → List ℕ
refusal_text place connection extent refusal =
    response_text (refusal_status refusal) place (refusal_allow refusal) connection extent (refusal_body refusal)

-- bytes that are refused, with all that follows them
unfoldable pub closing_text : ℕ → FramingFault → List ℕ
closing_text place fault = response_text (closing_status fault) place allow.Unsaid connection.Close extent.Whole (closing_body fault)

-- `GET /`
-- CouchDB: GET /
unfoldable pub welcome_text : ℕ → Connection → List ℕ
welcome_text place connection = response_text status.Ok place allow.Unsaid connection extent.Whole (codes "{\"couchdb\":\"Welcome\"}")

abbrev pub told_text : ℕ → Connection → Told → List ℕ
told_text place connection told = response_text told.0 place allow.Unsaid connection extent.Whole told.1

-- what became of a command, where its reply is given in this form
unfoldable pub reply_text : ℕ → Connection → Form → Command → Reply → Option (List ℕ)
reply_text place connection form command reply = option_map (told_text place connection) (reply_told form command reply)

-- what a query is answered, where it has such answers
unfoldable pub answer_text : ℕ → Connection → Query → Answer → Option (List ℕ)
answer_text place connection query answer = option_map (told_text place connection) (answer_told query answer)

-- ---- a call that has no answer

abbrev pub unavailable_reason : Unavailable → List ℕ
unavailable_reason unavailable.Busy = codes "busy"
unavailable_reason unavailable.Lost = codes "lost"
unavailable_reason unavailable.Full = codes "full"
unavailable_reason unavailable.Behind = codes "behind"
unavailable_reason unavailable.Overrun = codes "overrun"
unavailable_reason unavailable.Entry = codes "entry"
unavailable_reason unavailable.Journal = codes "journal"

abbrev pub unavailable_body : Unavailable → List ℕ
unavailable_body why = problem_text (codes "unavailable") (unavailable_reason why)

-- RFC 9110, 15.6.4 "503 Service Unavailable"
unfoldable pub unavailable_text : ℕ → Connection → Unavailable → List ℕ
unavailable_text place connection why =
    response_text status.ServiceUnavailable place allow.Unsaid connection extent.Whole (unavailable_body why)

-- ---- out of memory

abbrev pub wanted_name : MemoryFor → List ℕ
wanted_name memory_for.Call = codes "call"
wanted_name memory_for.Reply = codes "reply"

abbrev pub no_memory_body : MemoryFor → List ℕ
no_memory_body wanted = problem_text (codes "no_memory") (wanted_name wanted)

-- memory was refused, and the connection closes
-- RFC 4918, 11.5 "507 Insufficient Storage"
unfoldable pub no_memory_text : ℕ → Extent → MemoryFor → List ℕ
no_memory_text place extent wanted =
    response_text status.InsufficientStorage place allow.Unsaid connection.Close extent (no_memory_body wanted)
