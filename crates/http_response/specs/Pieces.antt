-- A response that is written in pieces.
use Rattle.std.specs.Prelude.{◌≡◌, ℕ, List, [], ◌++◌, Option, Result, Ok, Err, ⊤}
use Rattle.std.specs.Io.KnownBytes.{Appends}
use Rattle.api_json.specs.AllDocs.{all_docs_data, all_listed_data}
use Rattle.api_json.specs.Changes.{page_data, rows_data}
use Rattle.api_json.specs.Opened.{all_opened_data}
use Rattle.model.specs.Query.{Answer, Changed, Documents, Opened}
use Rattle.serde_json.specs.Written.{compact_text}
use Rattle.streams.specs.Counts.{CountRose}
use Rattle.http_response.specs.declared.pieces.Cut.{Cut}
use Rattle.http_response.specs.declared.pieces.Cut.TheVariants as cut

-- it has a list: the revisions that were asked for, rows of changes, or documents
abbrev pub IsListed : Answer → Type 0
IsListed (Opened opened) = ⊤
IsListed (Changed page) = ⊤
IsListed (Documents documents) = ⊤
IsListed answer = ⊥

-- its text
abbrev pub listed_bytes : Answer → List ℕ
listed_bytes (Opened opened) = compact_text (all_opened_data opened)
listed_bytes (Changed page) = compact_text (page_data page)
listed_bytes (Documents documents) = compact_text (all_docs_data documents)
listed_bytes answer = []

-- the text of the list alone
abbrev pub list_bytes : Answer → List ℕ
list_bytes (Opened opened) = compact_text (all_opened_data opened)
list_bytes (Changed page) = compact_text (rows_data page.rows)
list_bytes (Documents documents) = compact_text (all_listed_data documents)
list_bytes answer = []

-- the count of failed writes rose where a write failed, and else stayed
abbrev pub CountsCut : {A : Type 0} → ℕ → ℕ → Result A Cut → Type 0
CountsCut old new (Ok x) = new ≡ old
CountsCut old new (Err cut.Write) = CountRose old new
CountsCut old new (Err cut.Memory) = new ≡ old

-- a writer took a beginning of a text, and the rest is kept
pub record Keeps (old new : Option (List ℕ)) (kept text : List ℕ) : Type 0 where
  pub sent : List ℕ
  pub takes : Appends old new sent
  pub is : sent ++ kept ≡ text
