-- A response, and the bytes that begin with one.
use Rattle.std.specs.Prelude.{◌≡◌, ℕ, ◌≤◌, ◌<◌, ◌⊎◌, List, [], ◌∷◌, ◌++◌, codes, length, map, Option, Some, None, if◌then◌else◌}
use Rattle.std.specs.List.{list_any}
use Rattle.httparse.specs.Grammar.{ResponseHead, print_response, ReadsResponse, HasNoResponse, NeverHasResponse, MayBecomeResponse, status_code}
use Rattle.httparse.specs.Spans.{ResponseExceeds, ResponseOverflows, name_and_value}
use Rattle.decimals.specs.Number.{number}
use Rattle.http_framing.specs.Headers.{Header, is_named, values_named}
use Rattle.http_framing.specs.Request.{head_limit, header_limit}
use Rattle.http_framing.specs.Refusal.{head_window, FillWindow}

-- what is answered
-- RFC 9112, 2.1 "Message Format"
pub record Response : Type 0 where
  pub status : ℕ
  pub body : List ℕ

-- ---- the length of the body

-- the headers of a head, in order
-- RFC 9112, 5 "Field Syntax"
abbrev pub headers_of : ResponseHead → List Header
headers_of head = map name_and_value head.fields

-- the one value that there is
abbrev pub only : List (List ℕ) → Option (List ℕ)
only [] = None
only (value ∷ []) = Some value
only (value ∷ another ∷ more) = None

-- a number of 1 to 18 digits
abbrev pub length_in : Option (List ℕ) → Option ℕ
length_in None = None
length_in (Some value) = number value

-- the length of the body that these headers give: in one `Content-Length`, and with no transfer coding
-- RFC 9112, 6.3 "Message Body Length"
unfoldable pub told_length : List Header → Option ℕ
told_length headers =
    if list_any (is_named (codes "transfer-encoding")) headers then None
    else length_in (only (values_named (codes "content-length") headers))

-- ---- a whole response

-- the bytes begin with this head, which keeps the limits, and go on with what is after it
-- RFC 9112, 2.1 "Message Format"
pub record BeginsWithHead (bytes : List ℕ) (head : ResponseHead) (after : List ℕ) : Type 0 where
  pub reads : ReadsResponse bytes head after
  pub size : length (print_response head) ≤ head_limit
  pub headers : length head.fields ≤ header_limit

-- the response is answered by this head
pub record IsAnsweredBy (head : ResponseHead) (response : Response) : Type 0 where
  pub status : response.status ≡ status_code head
  pub body : told_length (headers_of head) ≡ Some (length response.body)

-- the bytes begin with this response, and go on with what is after it
abbrev pub BeginsWithResponse : List ℕ → Response → List ℕ → Type 0
BeginsWithResponse bytes response after =
    (head : ResponseHead) × BeginsWithHead bytes head (response.body ++ after) × IsAnsweredBy head response

-- ---- a part of one

-- the bytes are less than a head, which may still come
-- RFC 9112, 8 "Handling Incomplete Messages"
abbrev pub EndsInHead : List ℕ → Type 0
EndsInHead bytes = (length bytes < head_limit) × HasNoResponse bytes × MayBecomeResponse bytes

-- the bytes are a head and less than its body
-- RFC 9112, 8 "Handling Incomplete Messages"
abbrev pub EndsInBody : List ℕ → Type 0
EndsInBody bytes =
    (head : ResponseHead) × (after : List ℕ) × (len : ℕ)
    × BeginsWithHead bytes head after × (told_length (headers_of head) ≡ Some len) × (length after < len)

-- the bytes are less than a response, which may still come
-- RFC 9112, 8 "Handling Incomplete Messages"
abbrev pub IsUnfinished : List ℕ → Type 0
IsUnfinished bytes = EndsInHead bytes ⊎ EndsInBody bytes

-- ---- no response

-- no head begins the bytes, whatever follows
-- RFC 9112, 2.1 "Message Format"
abbrev pub HasNoHead : List ℕ → Type 0
HasNoHead bytes = NeverHasResponse (head_window bytes)

-- a head begins the bytes that has more headers than are taken, whether it ends or not, and so has each that it may become
pub record HasManyHeaders (bytes : List ℕ) : Type 0 where
  pub exceeds : ResponseExceeds header_limit (head_window bytes)
  pub overflows : ResponseOverflows header_limit (head_window bytes)

-- a head has more headers than are taken, or does not end in the bytes in which it has to
abbrev pub HasLargeHead : List ℕ → Type 0
HasLargeHead bytes = HasManyHeaders bytes ⊎ (FillWindow bytes × HasNoResponse (head_window bytes))

-- the bytes begin with a head that does not give the length of its body
-- RFC 9112, 6.3 "Message Body Length"
abbrev pub HasNoLength : List ℕ → Type 0
HasNoLength bytes =
    (head : ResponseHead) × (after : List ℕ) × BeginsWithHead bytes head after × (told_length (headers_of head) ≡ None)

-- no response that can be read begins the bytes, whatever follows
abbrev pub IsUnreadable : List ℕ → Type 0
IsUnreadable bytes = HasNoHead bytes ⊎ (HasLargeHead bytes ⊎ HasNoLength bytes)
