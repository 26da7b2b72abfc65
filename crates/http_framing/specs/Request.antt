-- A request, and the bytes that begin with one.
use Rattle.std.specs.Prelude.{◌≡◌, ℕ, ◌≤◌, ◌==◌, ◌&&◌, ◌||◌, Bool, List, ◌++◌, length, Ok, codes}
use Rattle.std.specs.List.{list_any}
use Rattle.std.specs.Str.{str_eq_ignore_ascii_case}
use Rattle.httparse.specs.Grammar.{RequestHead, print_request, ReadsRequest}
use Rattle.http_framing.specs.Headers.{Header, is_named, headers_of}
use Rattle.http_framing.specs.Body.{body_length}

-- the most bytes of a head
-- RFC 6585, 5 "431 Request Header Fields Too Large"
abbrev pub head_limit : ℕ
head_limit = 16384

-- the most headers of a head
-- RFC 6585, 5 "431 Request Header Fields Too Large"
abbrev pub header_limit : ℕ
header_limit = 64

-- what is asked
-- RFC 9112, 2.1 "Message Format"
pub record Request : Type 0 where
  pub method : List ℕ
  pub target : List ℕ
  pub body : List ℕ
  -- the connection closes after the response
  pub closes : Bool

-- the header is `Connection`, and its whole value the word `close`, both in upper or lower case
-- RFC 9110, 7.6.1 "Connection"
abbrev pub is_close : Header → Bool
is_close header = is_named (codes "connection") header && str_eq_ignore_ascii_case header.1 (codes "close")

-- the connection closes after the response to a head of this minor version with these headers
-- RFC 9112, 9.3 "Persistence"
abbrev pub closes_after : ℕ → List Header → Bool
closes_after minor headers = minor == 0 || list_any is_close headers

-- the request is asked by this head
pub record IsAskedBy (head : RequestHead) (request : Request) : Type 0 where
  pub method : request.method ≡ head.method
  pub target : request.target ≡ head.target
  pub body : body_length (headers_of head) ≡ Ok (length request.body)
  pub closes : request.closes ≡ closes_after head.minor (headers_of head)

-- the bytes begin with this head, which keeps the limits, and go on with what is after it
-- RFC 9112, 2.1 "Message Format"
pub record BeginsWithHead (bytes : List ℕ) (head : RequestHead) (after : List ℕ) : Type 0 where
  pub reads : ReadsRequest bytes head after
  pub size : length (print_request head) ≤ head_limit
  pub headers : length head.fields ≤ header_limit

-- the bytes begin with this request, and go on with what is after it
abbrev pub BeginsWithRequest : List ℕ → Request → List ℕ → Type 0
BeginsWithRequest bytes request after =
    (head : RequestHead) × BeginsWithHead bytes head (request.body ++ after) × IsAskedBy head request
