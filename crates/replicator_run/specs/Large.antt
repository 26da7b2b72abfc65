-- Documents that no bulk can hold.
use Rattle.std.specs.Prelude.{ℕ, List, [], ◌∷◌, length, nat_le, if◌then◌else◌, Option, None, Some}
use Rattle.model.specs.Command.{Id, Merge}
use Rattle.replicator.specs.Bulk.{bulk_text, max_bulk, merge_text}

-- the document that is alone in its bulk, where that is longer than any may be, and the length of its text
abbrev pub large_in : List Merge → Option (Id × ℕ)
large_in (document ∷ []) =
    if nat_le (length (bulk_text (document ∷ []))) max_bulk then None else Some (document.id, length (merge_text document))
large_in documents = None
