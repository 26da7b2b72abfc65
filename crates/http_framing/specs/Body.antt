-- How long a request's body is (RFC 9112, section 6, with `Content-Length` alone).
use Rattle.std.specs.Prelude.{ℕ, List, [], ◌∷◌, Result, Ok, Err, codes, if◌then◌else◌, nat_le}
use Rattle.std.specs.Str.Parse.{digits_value}
use Rattle.decimals.specs.Number.{is_digits}
use Rattle.http_framing.specs.Headers.{Header, values_named}
use Rattle.http_framing.specs.declared.FramingFault.{FramingFault}
use Rattle.http_framing.specs.declared.FramingFault.TheVariants.{TransferEncoding, ContentLength, LargeBody}

-- the most bytes of a body
-- RFC 9110, 15.5.14 "413 Content Too Large"
abbrev pub body_limit : ℕ
body_limit = 1048576

-- the length that one value of `Content-Length` gives
-- RFC 9110, 8.6 "Content-Length"
unfoldable pub length_said : List ℕ → Result ℕ FramingFault
length_said value =
    if is_digits value
    then (if nat_le (digits_value 10 value) body_limit then Ok (digits_value 10 value) else Err LargeBody)
    else Err ContentLength

-- the length that all values of `Content-Length` give: 0 where there is none, and none where there are two
-- RFC 9112, 6.3 "Message Body Length"
abbrev pub content_length : List (List ℕ) → Result ℕ FramingFault
content_length [] = Ok 0
content_length (value ∷ []) = length_said value
content_length (value ∷ another ∷ more) = Err ContentLength

-- the length, unless a transfer coding is given
-- RFC 9112, 6.1 "Transfer-Encoding"
abbrev pub unless_coded : List (List ℕ) → Result ℕ FramingFault → Result ℕ FramingFault
unless_coded [] len = len
unless_coded (coding ∷ more) len = Err TransferEncoding

-- the length of the body after these headers
-- RFC 9112, 6.3 "Message Body Length"
unfoldable pub body_length : List Header → Result ℕ FramingFault
body_length headers =
    unless_coded (values_named (codes "transfer-encoding") headers)
    (content_length (values_named (codes "content-length") headers))
