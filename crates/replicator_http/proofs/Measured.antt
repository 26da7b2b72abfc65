-- The text of a bulk, as it is measured.
use Rattle.std.proofs.Common.{◌≡◌, ◌∙◌, refl, sym, ap, List, [], ◌∷◌, ◌++◌, append_assoc, map}
use Rattle.std.specs.Prelude.{codes, true}
use Rattle.std.specs.List.{join_with_byte}
use Rattle.serde_json.specs.View.{items_of}
use Rattle.serde_json.specs.Written.{compact_text, items_text}
use Rattle.serde_json.proofs.OnLiterals.{serde_json_on_literals}
use Rattle.model.specs.Command.{Merge}
use Rattle.document_json.specs.Written.{merge_data}
use Rattle.replicator_http.specs.Requests.{bulk_data}
use Rattle.replicator.specs.Bulk.{bulk_text, merge_text}

-- a document, and those behind it
joined : (ms : List Merge) (m : Merge) → merge_text m ++ items_text true (items_of (map merge_data ms)) ≡ join_with_byte 44 (map merge_text (m ∷ ms)) ++ 93 ∷ []
joined [] m = refl
joined (n ∷ ns) m =
    ap (λ r. merge_text m ++ 44 ∷ r) (joined ns n) ∙ sym (append_assoc (merge_text m) (44 ∷ join_with_byte 44 (map merge_text (n ∷ ns))) (93 ∷ []))

pub bulk_text-is : (documents : List Merge) → bulk_text documents ≡ compact_text (bulk_data documents)
unfolding serde_json_on_literals
bulk_text-is [] = refl
bulk_text-is (m ∷ ms) =
    let list = join_with_byte 44 (map merge_text (m ∷ ms)) in
    let behind = codes ",\"new_edits\":false}" in
    ap (λ r. codes "{\"docs\":[" ++ r) (sym (append_assoc list (93 ∷ []) behind) ∙ ap (λ r. r ++ behind) (sym (joined ms m)))
