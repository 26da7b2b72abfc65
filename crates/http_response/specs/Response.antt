-- The text of a response: a status line, headers and a body.
use Rattle.std.specs.Prelude.{ℕ, List, [], ◌∷◌, ◌++◌, length, codes, string_bytes}
use Rattle.std.specs.List.{flat_map}
use Rattle.std.specs.Fmt.{decimal}
use Rattle.http_routing.specs.Routes.{methods_of, name_of}
use Rattle.http_routing.specs.declared.routes.Method.{Method}
use Rattle.http_response.specs.declared.body.BodyText.{BodyText}
use Rattle.http_response.specs.declared.body.BodyText.TheVariants as body_text
use Rattle.http_response.specs.declared.status.StatusCode.{StatusCode}
use Rattle.http_response.specs.declared.status.StatusCode.TheVariants as status
use Rattle.http_response.specs.declared.head.Allow.{Allow}
use Rattle.http_response.specs.declared.head.Allow.TheVariants as allow
use Rattle.http_response.specs.declared.connection.Connection.{Connection}
use Rattle.http_response.specs.declared.connection.Connection.TheVariants as connection
use Rattle.http_request.specs.declared.extent.Extent.{Extent}
use Rattle.http_request.specs.declared.extent.Extent.TheVariants as extent

-- RFC 9112, 2.1 "Message Format"
abbrev pub crlf : List ℕ
crlf = 13 ∷ 10 ∷ []

-- a line of a head
-- RFC 9112, 2.1 "Message Format"
abbrev pub line : List ℕ → List ℕ
line text = text ++ crlf

-- the code and the reason
-- RFC 9112, 4 "Status Line"
abbrev pub status_text : StatusCode → List ℕ
status_text status.Ok = codes "200 OK"
status_text status.Created = codes "201 Created"
status_text status.Accepted = codes "202 Accepted"
status_text status.BadRequest = codes "400 Bad Request"
status_text status.NotFound = codes "404 Not Found"
status_text status.MethodNotAllowed = codes "405 Method Not Allowed"
status_text status.Conflict = codes "409 Conflict"
status_text status.LengthRequired = codes "411 Length Required"
status_text status.ContentTooLarge = codes "413 Content Too Large"
status_text status.RequestHeaderFieldsTooLarge = codes "431 Request Header Fields Too Large"
status_text status.ServiceUnavailable = codes "503 Service Unavailable"
status_text status.InsufficientStorage = codes "507 Insufficient Storage"

-- one more method, behind others
abbrev pub next_listed : Method → List ℕ
next_listed method = codes ", " ++ name_of method

-- the names of methods, with `, ` between them
-- RFC 9110, 5.6.1 "Lists (#rule ABNF Extension)"
abbrev pub listed : List Method → List ℕ
listed [] = []
listed (method ∷ methods) = name_of method ++ flat_map next_listed methods

-- the line that says which methods a route takes
-- RFC 9110, 10.2.1 "Allow"
abbrev pub allow_line : Allow → List ℕ
allow_line allow.Unsaid = []
allow_line (allow.Methods route) = line (codes "Allow: " ++ listed (methods_of route))

-- the line that says that the connection closes
-- RFC 9110, 7.6.1 "Connection"
abbrev pub connection_line : Connection → List ℕ
connection_line connection.Open = []
connection_line connection.Close = line (codes "Connection: close")

-- from the end of the status line to the length
-- RFC 9110, 8.3 "Content-Type", 8.6 "Content-Length"
abbrev pub content_head : List ℕ
content_head = crlf ++ line (codes "Content-Type: application/json") ++ codes "Content-Length: "

-- from the end of the length to the place
abbrev pub place_head : List ℕ
place_head = crlf ++ codes "Couch-Place: "

-- the head of a response at a place of the history, with a body of so many bytes
abbrev pub head_text : StatusCode → ℕ → ℕ → Allow → Connection → List ℕ
head_text status len place allow connection =
    ((((((((codes "HTTP/1.1 " ++ status_text status) ++ content_head) ++ decimal len) ++ place_head) ++ decimal place)
    ++ crlf) ++ allow_line allow) ++ connection_line connection) ++ crlf

-- what a request of this extent takes of a body
-- RFC 9112, 6.3 "Message Body Length"
abbrev pub taken_body : Extent → List ℕ → List ℕ
taken_body extent.Whole body = body
taken_body extent.HeadAlone body = []

-- the text of a response with this body, as far as its request takes it; the length is that of the whole body
-- RFC 9112, 2.1 "Message Format"; RFC 9110, 8.6 "Content-Length"
abbrev pub response_text : StatusCode → ℕ → Allow → Connection → Extent → List ℕ → List ℕ
response_text status place allow connection extent body =
    head_text status (length body) place allow connection ++ taken_body extent body

-- the text of a body
abbrev pub bytes_of : BodyText → List ℕ
bytes_of (body_text.Fixed text) = text.now
bytes_of (body_text.Made text) = string_bytes text
