-- What a long response is made of, and how long that is.
use Rattle.std.specs.Prelude.{ℕ, ◌+◌, true, List, length, codes, Result, ⊤}
use Rattle.document_json.specs.Written.{revs_member}
use Rattle.json_profile.specs.Joined.{bare_text}
use Rattle.model.specs.Query.{Document, Opened}
use Rattle.model.specs.Revision.{Rev}
use Rattle.session_api.specs.Revisions.{opened_by}
use Rattle.http_response.specs.Pieces.{IsListed, list_bytes}
use Rattle.http_response.specs.declared.pieces.Parts.{Parts}
use Rattle.http_response.specs.declared.pieces.Parts.TheVariants as parts

-- an answer that is there has a list
abbrev pub AreListed : {O : Type 0} → Parts O → Type 0
AreListed (parts.Made answer) = IsListed answer.value
AreListed (parts.Opening opening) = ⊤

-- the text of the list, by the documents of those that are made when their text is
abbrev pub parts_bytes : {O : Type 0} → (O → Rev → Result Document Rev) → (O → List Rev) → Parts O → List ℕ
parts_bytes document shown (parts.Made answer) = list_bytes answer.value
parts_bytes document shown (parts.Opening opening) = list_bytes (Opened (opened_by (document opening.value) (shown opening.value)))

-- what the lists of conflicts add to each document
-- CouchDB: GET /{db}/{docid}, "_conflicts", "_deleted_conflicts"
abbrev pub lists_len : List Rev → List Rev → ℕ
lists_len conflicts deleted =
    length (bare_text true (revs_member (codes "_conflicts") conflicts))
    + length (bare_text true (revs_member (codes "_deleted_conflicts") deleted))
