-- The beginnings of texts that are written in parts.
use Rattle.std.specs.Prelude.{ℕ, List, [], Option, Some, None, ◌++◌, codes}
use Rattle.serde_json.specs.Written.{compact_text}
use Rattle.model.specs.Revision.{Rev}
use Rattle.document_json.specs.Written.{rev_data}

-- what comes before the revision of a tree's revision, where its parent is known
abbrev pub parent_front : Option Rev → List ℕ
parent_front None = []
parent_front (Some parent) = codes "\"parent\":" ++ (compact_text (rev_data parent) ++ codes ",")
