-- Which bytes are refused, with all that follows them.
use Rattle.std.specs.Prelude.{◌≡◌, ℕ, ◌<◌, ◌≤◌, ◌⊎◌, List, ◌∷◌, ◌++◌, length, take, Err}
use Rattle.httparse.specs.Ascii.{space}
use Rattle.httparse.specs.Grammar.{LineEnd, print_blank, IsToken, AllPass, is_uri_byte, RequestHead, HasNoRequest, NeverHasRequest, MayBecomeRequest, EndsInTarget}
use Rattle.httparse.specs.Spans.{RequestExceeds}
use Rattle.http_framing.specs.Headers.{headers_of}
use Rattle.http_framing.specs.Body.{body_length}
use Rattle.http_framing.specs.Request.{head_limit, header_limit, BeginsWithHead}
use Rattle.http_framing.specs.declared.FramingFault.{FramingFault}
use Rattle.http_framing.specs.declared.FramingFault.TheVariants.{Head, LargeHead, TransferEncoding, ContentLength, LargeBody}

-- the first bytes, in which a head has to end
abbrev pub head_window : List ℕ → List ℕ
head_window bytes = take head_limit bytes

-- the bytes fill the window
abbrev pub FillWindow : List ℕ → Type 0
FillWindow bytes = head_limit ≤ length bytes

-- a head begins the bytes that has more headers than are taken, whether it ends or not
abbrev pub HasManyHeaders : List ℕ → Type 0
HasManyHeaders bytes = RequestExceeds header_limit (head_window bytes)

-- the window is full of a head that has not ended, or has more headers than are taken
-- RFC 6585, 5 "431 Request Header Fields Too Large"
abbrev pub HasLargeHead : List ℕ → Type 0
HasLargeHead bytes =
    (FillWindow bytes × HasNoRequest (head_window bytes) × MayBecomeRequest (head_window bytes))
    ⊎ HasManyHeaders bytes

-- the bytes begin with a head whose body has no length that is taken
-- RFC 9112, 6.3 "Message Body Length"
abbrev pub HasBadBody : List ℕ → FramingFault → Type 0
HasBadBody bytes fault =
    (head : RequestHead) × (after : List ℕ)
    × BeginsWithHead bytes head after × (body_length (headers_of head) ≡ Err fault)

-- no head begins the bytes, whatever follows; a target is not looked at before it has ended
-- RFC 9112, 2.1 "Message Format"
abbrev pub HasNoHead : List ℕ → Type 0
HasNoHead bytes =
    NeverHasRequest (head_window bytes) × ¬ (EndsInTarget (head_window bytes)) × ¬ (HasManyHeaders bytes)

-- the bytes are refused for this fault, whatever follows
abbrev pub IsRefused : List ℕ → FramingFault → Type 0
IsRefused bytes Head = HasNoHead bytes
IsRefused bytes LargeHead = HasLargeHead bytes
IsRefused bytes TransferEncoding = HasBadBody bytes TransferEncoding
IsRefused bytes ContentLength = HasBadBody bytes ContentLength
IsRefused bytes LargeBody = HasBadBody bytes LargeBody

-- the bytes begin with a request line as far as the space after this target
-- RFC 9112, 3 "Request Line"
abbrev pub HasTarget : List ℕ → List ℕ → Type 0
HasTarget bytes target =
    (blank : List LineEnd) × (method : List ℕ) × (rest : List ℕ)
    × IsToken method × (0 < length target) × AllPass is_uri_byte target
    × (bytes ≡ print_blank blank ++ (method ++ space ∷ (target ++ space ∷ rest)))
