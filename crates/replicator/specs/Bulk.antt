-- How many documents are sent at once.
use Rattle.std.specs.Prelude.{◌≡◌, ◌⊎◌, ℕ, ◌+◌, ◌<◌, ◌≤◌, List, ◌++◌, map, take, length, codes}
use Rattle.std.specs.List.{join_with_byte}
use Rattle.serde_json.specs.Written.{compact_text}
use Rattle.document_json.specs.Written.{merge_data}
use Rattle.model.specs.Command.{Merge}

abbrev pub merge_text : Merge → List ℕ
merge_text m = compact_text (merge_data m)

-- the text of a bulk of documents with their paths
-- CouchDB: POST /{db}/_bulk_docs, "new_edits"
abbrev pub bulk_text : List Merge → List ℕ
bulk_text documents = codes "{\"docs\":[" ++ join_with_byte 44 (map merge_text documents) ++ codes "],\"new_edits\":false}"

-- the most bytes of a bulk of more than one document
abbrev pub max_bulk : ℕ
max_bulk = 1048576

-- so many of the documents go at once: as many as keep the text within the limit, and at least one
pub record IsBulkLen (documents : List Merge) (n : ℕ) : Type 0 where
  pub some : 0 < n
  pub within : n ≤ length documents
  pub fits : (n ≡ 1) ⊎ (length (bulk_text (take n documents)) ≤ max_bulk)
  pub most : (n ≡ length documents) ⊎ (max_bulk < length (bulk_text (take (n + 1) documents)))
