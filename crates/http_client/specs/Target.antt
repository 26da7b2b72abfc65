-- The targets of requests.
use Rattle.std.specs.Prelude.{ℕ, ◌||◌, ◌==◌, Bool, List, [], ◌++◌, codes, decimal}
use Rattle.std.specs.Char.{is_ascii_alphanumeric}
use Rattle.percent_encoding.specs.Percent.{percent_encode}
use Rattle.percent_encoding.specs.declared.ascii_set.AsciiSet.{AsciiSet}
use Rattle.form_urlencoded.specs.Form.{append_pair}

-- a byte that a path segment keeps: a letter, a digit, `-`, `.`, `_` or `~`
-- RFC 3986, 2.3 "Unreserved Characters"
abbrev pub is_unreserved : ℕ → Bool
is_unreserved byte = is_ascii_alphanumeric byte || byte == 45 || byte == 46 || byte == 95 || byte == 126

-- the changes above a number, at most so many rows, with all leaves of each document
-- CouchDB: GET /{db}/_changes, "since", "limit", "style"
abbrev pub changes_target : ℕ → ℕ → List ℕ
changes_target since limit = codes "/db/_changes?style=all_docs&since=" ++ (decimal since ++ (codes "&limit=" ++ decimal limit))

-- the changes of the documents that the body lists, above a number, at most so many rows, with all leaves of each
-- CouchDB: POST /{db}/_changes, "filter", "since", "limit", "style"
abbrev pub filtered_changes_target : ℕ → ℕ → List ℕ
filtered_changes_target since limit =
    codes "/db/_changes?style=all_docs&filter=_doc_ids&since=" ++ (decimal since ++ (codes "&limit=" ++ decimal limit))

-- a local document
-- CouchDB: GET /{db}/_local/{docid}
abbrev pub local_target : AsciiSet → List ℕ → List ℕ
local_target set id = codes "/db/_local/" ++ percent_encode set id

-- the revisions of a list, or the newest in their place, each with its ancestors
-- CouchDB: GET /{db}/{docid}, "revs", "latest", "open_revs"
abbrev pub open_revs_query : List ℕ → List ℕ
open_revs_query list =
    append_pair (append_pair (append_pair [] (codes "revs") (codes "true")) (codes "latest") (codes "true")) (codes "open_revs") list

-- revisions of a document
-- CouchDB: GET /{db}/{docid}, "open_revs"
abbrev pub open_revs_target : AsciiSet → List ℕ → List ℕ → List ℕ
open_revs_target set id list = codes "/db/" ++ (percent_encode set id ++ (codes "?" ++ open_revs_query list))
