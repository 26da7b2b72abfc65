-- The text of a request.
use Rattle.std.specs.Prelude.{ℕ, List, [], ◌∷◌, ◌++◌, codes, decimal, length}

-- CR LF
-- RFC 9112, 2.2 "Message Parsing"
abbrev pub line_end : List ℕ
line_end = 13 ∷ 10 ∷ []

-- the end of the request line, and the name of the first header
-- RFC 9112, 3 "Request Line"
-- RFC 9110, 7.2 "Host and :authority"
abbrev pub host_line : List ℕ
host_line = codes " HTTP/1.1" ++ (line_end ++ codes "Host: ")

-- the headers behind the host, up to the length of the body
-- RFC 9112, 5 "Field Syntax"
abbrev pub fixed_lines : List ℕ
fixed_lines = line_end ++ (codes "Accept: application/json" ++ (line_end ++ codes "Content-Length: "))

-- the head of a request of a method to a host for a target, whose body has so many bytes
-- RFC 9112, 2.1 "Message Format"
abbrev pub request_head : List ℕ → List ℕ → List ℕ → ℕ → List ℕ
request_head host method target len =
    method ++ (codes " " ++ (target ++ (host_line ++ (host ++ (fixed_lines ++ (decimal len ++ (line_end ++ line_end)))))))

-- a request of a method to a host for a target, with a body
-- RFC 9112, 2.1 "Message Format"
abbrev pub request_text : List ℕ → List ℕ → List ℕ → List ℕ → List ℕ
request_text host method target body =
    method ++ (codes " " ++ (target ++ (host_line ++ (host ++ (fixed_lines ++ (decimal (length body) ++ (line_end ++ (line_end ++ body))))))))
