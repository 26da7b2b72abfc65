-- A list that was taken apart, and one that is written.
use Rattle.std.proofs.Common.{◌≡◌, ℕ, List, [], ◌∷◌, ◌++◌, false, Option, Some, None, append_assoc, sym, ap, ◌∙◌}
use Rattle.serde_json.specs.Data.{Data, Items, array}
use Rattle.serde_json.specs.Find.{as_array}
use Rattle.serde_json.specs.View.{items_of}
use Rattle.serde_json.specs.Written.{compact_text}
use Rattle.document_json.specs.Lists.{values_of}
use Rattle.document_json.proofs.Listings.{values_of-items_of}
use Rattle.api_json.specs.List.{items_so_far}
use Rattle.api_json.proofs.ListTexts.{items_so_far-closed}

values_in : Option Items → List Data
values_in None = []
values_in (Some items) = values_of items

-- the values of a list that was made of these
pub listed : (value : Data) (values ds : List Data) → Some (items_of values) ≡ as_array value → value ≡ array (items_of ds) → values ≡ ds
unfolding values_in
listed value values ds is e = sym (values_of-items_of values) ∙ ap values_in (is ∙ ap as_array e) ∙ values_of-items_of ds

-- the list with its closing bracket
pub closed : (before : List ℕ) (items : List Data) → (before ++ (91 ∷ items_so_far false items)) ++ 93 ∷ [] ≡ before ++ compact_text (array (items_of items))
closed before items = append_assoc before (91 ∷ items_so_far false items) (93 ∷ []) ∙ ap (λ t. before ++ (91 ∷ t)) (items_so_far-closed false items)
