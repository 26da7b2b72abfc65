-- How the bytes of a connection are cut into requests.
use Rattle.std.specs.Prelude.{◌≡◌, ℕ, ◌+◌, ◌<◌, ◌⊎◌, Bool, true, IsTrue, IsFalse, List, [], ◌∷◌, length, All, Ok}
use Rattle.httparse.specs.Grammar.{RequestHead, HasNoRequest, MayBecomeRequest}
use Rattle.http_framing.specs.Headers.{headers_of}
use Rattle.http_framing.specs.Body.{body_length, body_limit}
use Rattle.http_framing.specs.Request.{head_limit, Request, BeginsWithHead, BeginsWithRequest}
use Rattle.http_framing.specs.Refusal.{HasManyHeaders, IsRefused}
use Rattle.http_framing.specs.declared.FramingFault.{FramingFault}

-- the most bytes of a request
abbrev pub request_limit : ℕ
request_limit = head_limit + body_limit

-- what is on a connection: a request, or the fault for which all that is left is refused
pub data Item : Type 0 where
  Requested : Request → Item
  Refused : FramingFault → Item

-- the connection closes after the response to it
-- RFC 9112, 9.6 "Tear-down"
abbrev pub closes_connection : Item → Bool
closes_connection (Requested request) = request.closes
closes_connection (Refused fault) = true

-- the bytes begin with this item, and go on with what is after it; a refusal reaches to their end
abbrev pub Begins : List ℕ → Item → List ℕ → Type 0
Begins bytes (Requested request) after = BeginsWithRequest bytes request after
Begins bytes (Refused fault) after = IsRefused bytes fault × (after ≡ [])

-- the bytes are these items, one after another, and then a rest; nothing is read after an item that closes
-- RFC 9112, 9.3.2 "Pipelining"
abbrev pub Splits : List ℕ → List Item → List ℕ → Type 0
Splits bytes [] rest = bytes ≡ rest
Splits bytes (item ∷ items) rest =
    (after : List ℕ) × Begins bytes item after × (IsTrue (closes_connection item) → items ≡ []) × Splits after items rest

-- none of the items closes the connection
abbrev pub AreOpen : List Item → Type 0
AreOpen items = All (λ item. IsFalse (closes_connection item)) items

-- the bytes are a head and less than its body
-- RFC 9112, 8 "Handling Incomplete Messages"
abbrev pub EndsInBody : List ℕ → Type 0
EndsInBody bytes =
    (head : RequestHead) × (after : List ℕ) × (len : ℕ)
    × BeginsWithHead bytes head after × (body_length (headers_of head) ≡ Ok len) × (length after < len)

-- the bytes are less than a head, which may still come and has not too many headers yet
-- RFC 9112, 8 "Handling Incomplete Messages"
abbrev pub EndsInHead : List ℕ → Type 0
EndsInHead bytes =
    (length bytes < head_limit) × HasNoRequest bytes × MayBecomeRequest bytes × ¬ (HasManyHeaders bytes)

-- the bytes are less than a request, which may still come
-- RFC 9112, 8 "Handling Incomplete Messages"
abbrev pub IsUnfinished : List ℕ → Type 0
IsUnfinished bytes = EndsInHead bytes ⊎ EndsInBody bytes
