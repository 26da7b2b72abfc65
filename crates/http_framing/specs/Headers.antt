-- The headers of a request (RFC 9112, section 5).
use Rattle.std.specs.Prelude.{ℕ, Bool, List, map, filter}
use Rattle.std.specs.Str.{str_eq_ignore_ascii_case}
use Rattle.httparse.specs.Grammar.{RequestHead}
use Rattle.httparse.specs.Spans.{name_and_value}

-- a name, and a value without the white space around it
-- RFC 9112, 5 "Field Syntax"
abbrev pub Header : Type 0
Header = List ℕ × List ℕ

-- the headers of a head, in order
-- RFC 9112, 5 "Field Syntax"
abbrev pub headers_of : RequestHead → List Header
headers_of head = map name_and_value head.fields

-- the header has this name, in upper or lower case
-- RFC 9110, 5.1 "Field Names"
abbrev pub is_named : List ℕ → Header → Bool
is_named name header = str_eq_ignore_ascii_case header.0 name

-- the values of the headers of this name, in order
-- RFC 9110, 5.2 "Field Lines and Combined Field Value"
unfoldable pub values_named : List ℕ → List Header → List (List ℕ)
values_named name headers = map (λ header. header.1) (filter (is_named name) headers)
