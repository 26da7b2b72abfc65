-- The parts of a request target: a path, and a query string (RFC 3986, sections 3.3 and 3.4).
use Rattle.std.specs.Prelude.{ℕ, ◌==◌, List, Option, Some, None, if◌then◌else◌}
use Rattle.std.specs.List.{before_first, after_first, after_last}
use Rattle.std.specs.Str.{is_utf8}
use Rattle.percent_encoding.specs.Percent.{percent_decode}

-- b'?'
abbrev pub question_mark : ℕ
question_mark = 63

-- what comes before the first `?`, or all of the target
-- RFC 3986, 3.3 "Path"
abbrev pub path_of : List ℕ → List ℕ
path_of target = before_first (λ byte. byte == question_mark) target

-- what comes after the first `?`, or nothing
-- RFC 3986, 3.4 "Query"
abbrev pub query_of : List ℕ → List ℕ
query_of target = after_first (λ byte. byte == question_mark) target

-- b'/'
abbrev pub slash : ℕ
slash = 47

-- what comes after the last slash, or all of the path
-- RFC 3986, 3.3 "Path"
abbrev pub last_segment : List ℕ → List ℕ
last_segment path = after_last (λ byte. byte == slash) path

-- the text that a path segment stands for, if its bytes are text once decoded
-- RFC 3986, 2.1 "Percent-Encoding"
abbrev pub segment_text : List ℕ → Option (List ℕ)
segment_text segment = if is_utf8 (percent_decode segment) then Some (percent_decode segment) else None
