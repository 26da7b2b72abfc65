-- A feed that gives its rows as they come: its head, and its last line. Each row between is a line of its own.
use Rattle.std.specs.Prelude.{ℕ, List, ◌++◌, codes}
use Rattle.std.specs.Fmt.{decimal}
use Rattle.http_response.specs.Response.{crlf, line, status_text, connection_line}
use Rattle.http_response.specs.declared.connection.Connection.TheVariants as connection
use Rattle.http_response.specs.declared.status.StatusCode.TheVariants as status

-- up to the place
-- RFC 9112, 4 "Status Line"; RFC 9110, 8.3 "Content-Type"
abbrev pub feed_front : List ℕ
feed_front = codes "HTTP/1.1 " ++ status_text status.Ok ++ crlf ++ line (codes "Content-Type: application/json") ++ codes "Couch-Place: "

-- the head names the place of the first rows, and no length, since the connection closes behind the last line
-- RFC 9112, 6.3 "Message Body Length"
abbrev pub feed_head_text : ℕ → List ℕ
feed_head_text place =
    (feed_front ++ decimal place) ++ (crlf ++ connection_line connection.Close ++ crlf)

-- `{"last_seq":n,"pending":p}`, on a line of its own: the number to go on from, and how many rows are left
-- CouchDB: GET /{db}/_changes, "feed", "last_seq", "pending"
abbrev pub feed_last_text : ℕ → ℕ → List ℕ
feed_last_text last_seq pending =
    (((codes "{\"last_seq\":" ++ decimal last_seq) ++ codes ",\"pending\":") ++ decimal pending) ++ codes "}\n"
