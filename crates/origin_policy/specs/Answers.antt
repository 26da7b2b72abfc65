-- What is added to answers, and the answers of requests that are not passed on.
use Rattle.std.specs.Prelude.{ℕ, Bool, true, false, List, [], ◌∷◌, ◌++◌, codes, if◌then◌else◌}
use Rattle.std.specs.Str.{bytes_eq}
use Rattle.origin_policy.specs.declared.judging.Forbidden.{Forbidden}
use Rattle.origin_policy.specs.declared.judging.Forbidden.TheVariants as forbidden

-- RFC 9112, 2.1 "Message Format"
abbrev pub crlf : List ℕ
crlf = 13 ∷ 10 ∷ []

-- a line of a head
-- RFC 9112, 2.1 "Message Format"
abbrev pub line : List ℕ → List ℕ
line text = text ++ crlf

-- Fetch Standard, 3.2.3 "HTTP responses"
abbrev pub allow_origin : List ℕ
allow_origin = codes "Access-Control-Allow-Origin: "

-- what follows the origin: its page may read an answer with its users, and the place in it; caches keep it for this origin alone
-- Fetch Standard, 3.2.3 "HTTP responses"; RFC 9110, 12.5.5 "Vary"
abbrev pub allowed : List ℕ
allowed =
    crlf ++ line (codes "Access-Control-Allow-Credentials: true") ++ line (codes "Access-Control-Expose-Headers: Couch-Place")
    ++ line (codes "Vary: Origin")

-- the lines of a head by which a page of this origin may read an answer
unfoldable pub allowing : List ℕ → List ℕ
allowing origin = allow_origin ++ (origin ++ allowed)

-- the line that says that the connection closes
-- RFC 9110, 7.6.1 "Connection"
abbrev pub closing_line : Bool → List ℕ
closing_line true = line (codes "Connection: close")
closing_line false = []

-- the answer of a preflight up to the origin; it has no body, and so no length
-- RFC 9110, 15.3.5 "204 No Content", 8.6 "Content-Length"
abbrev pub preflight_front : Bool → List ℕ
preflight_front closes = line (codes "HTTP/1.1 204 No Content") ++ closing_line closes ++ allow_origin

-- what follows the origin: which requests its page may make, and for how many seconds it need not ask again
-- Fetch Standard, 3.2.3 "HTTP responses"
abbrev pub allowed_requests : List ℕ
allowed_requests =
    crlf ++ line (codes "Access-Control-Allow-Credentials: true") ++ line (codes "Access-Control-Allow-Methods: GET, PUT, POST, DELETE")
    ++ line (codes "Access-Control-Allow-Headers: accept, authorization, content-type, origin, referer")
    ++ line (codes "Access-Control-Max-Age: 600") ++ line (codes "Vary: Origin") ++ crlf

-- the answer of a preflight of a page of this origin
unfoldable pub preflight_text : List ℕ → Bool → List ℕ
preflight_text origin closes = preflight_front closes ++ (origin ++ allowed_requests)

-- the first lines of a refusal
-- RFC 9110, 15.5.4 "403 Forbidden"
abbrev pub forbidden_front : Bool → List ℕ
forbidden_front closes = line (codes "HTTP/1.1 403 Forbidden") ++ closing_line closes

-- the body of a refusal
-- CouchDB: "API Reference": "API Basics": "HTTP Status Codes": "403"
abbrev pub reason_body : Forbidden → List ℕ
reason_body forbidden.Origin = codes "{\"error\":\"forbidden\",\"reason\":\"origin\"}"
reason_body forbidden.Site = codes "{\"error\":\"forbidden\",\"reason\":\"site\"}"
reason_body forbidden.Host = codes "{\"error\":\"forbidden\",\"reason\":\"host\"}"

-- how many bytes the body has
-- RFC 9110, 8.6 "Content-Length"
abbrev pub forbidden_length : Forbidden → List ℕ
forbidden_length forbidden.Origin = codes "39"
forbidden_length forbidden.Site = codes "37"
forbidden_length forbidden.Host = codes "37"

-- the other lines of the head of a refusal
-- RFC 9110, 8.3 "Content-Type", 8.6 "Content-Length"
abbrev pub forbidden_head : Forbidden → List ℕ
forbidden_head reason = line (codes "Content-Type: application/json") ++ codes "Content-Length: " ++ forbidden_length reason ++ crlf ++ crlf

-- what follows the head of the response to a request of this method: to HEAD nothing
-- RFC 9110, 9.3.2 "HEAD"
abbrev pub forbidden_body : Forbidden → List ℕ → List ℕ
forbidden_body reason method = if bytes_eq method (codes "HEAD") then [] else reason_body reason

-- the answer of a request of this method that is refused
unfoldable pub forbidden_text : Forbidden → List ℕ → Bool → List ℕ
forbidden_text reason method closes = forbidden_front closes ++ (forbidden_head reason ++ forbidden_body reason method)
