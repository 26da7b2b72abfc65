-- Which answers are long.
use Rattle.std.specs.Prelude.{◌≡◌, ℕ, ◌<◌, length, Some}
use Rattle.api_json.specs.Opened.{all_opened_data}
use Rattle.model.specs.Query.{Query, AllDocuments, Changes, OpenRevs, Answer, Changed, Documents, Opened}
use Rattle.serde_json.specs.Written.{compact_text}
use Rattle.http_response.specs.Pieces.{IsListed, listed_bytes}
use Rattle.http_response.specs.Told.{answer_told}
use Rattle.http_response.specs.declared.measured.TheConstants.{ROWS}
use Rattle.http_response.specs.declared.pieces.TheConstants.{PIECE}
use Rattle.http_response.specs.declared.status.StatusCode.TheVariants as status

-- the query asks for what the answer has: revisions, whose text is longer than a piece, or rows or documents, which are many
-- CouchDB: GET /{db}/{docid}, "open_revs"; GET /{db}/_changes; GET /{db}/_all_docs
abbrev pub IsLong : Query → Answer → Type 0
IsLong (OpenRevs id asked options) (Opened opened) = PIECE < length (compact_text (all_opened_data opened))
IsLong (Changes since limit style ids) (Changed page) = ROWS < length page.rows
IsLong AllDocuments (Documents documents) = ROWS < length documents
IsLong query answer = ⊥

-- the query asks for the list that the answer has, and the text is so long
pub record HasLen (query : Query) (answer : Answer) (len : ℕ) : Type 0 where
  pub listed : IsListed answer
  pub told : answer_told query answer ≡ Some (status.Ok, listed_bytes answer)
  pub len_is : len ≡ length (listed_bytes answer)
