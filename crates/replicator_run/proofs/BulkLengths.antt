-- How long the text of a bulk of one document is.
use Rattle.std.proofs.Common.{◌≡◌, ◌+◌, List, [], ◌∷◌, ◌++◌, ℕ, length, arith, length-append}
use Rattle.std.specs.Prelude.{codes}
use Rattle.model.specs.Command.{Merge}
use Rattle.replicator.specs.Bulk.{bulk_text, merge_text}

around : (text : List ℕ) → length (codes "{\"docs\":[" ++ text ++ codes "],\"new_edits\":false}") ≡ 29 + length text
around text = simp length-append (omega arith)

pub bulk_length : (document : Merge) → length (bulk_text (document ∷ [])) ≡ 29 + length (merge_text document)
bulk_length document = around (merge_text document)
