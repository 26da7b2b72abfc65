-- A JSON list that is written item by item.
use Rattle.std.specs.Prelude.{◌≡◌, ℕ, Bool, true, false, List, [], ◌∷◌, ◌++◌, string_bytes}
use Rattle.serde_json.specs.Data.{Data}
use Rattle.serde_json.specs.Written.{comma_if, compact_text}
use Rattle.api_json.specs.declared.list.ListText.{ListText}

-- the texts of items, each behind a comma where something comes before it
-- RFC 8259, 5 "Arrays"
abbrev pub items_so_far : Bool → List Data → List ℕ
items_so_far later [] = []
items_so_far later (d ∷ ds) = comma_if later ++ (compact_text d ++ items_so_far true ds)

-- whether something is behind them
abbrev pub stands_after : Bool → List Data → Bool
stands_after later [] = later
stands_after later (d ∷ ds) = true

-- these items are in the list, behind the text before it
pub record IsListAfter (before : List ℕ) (list : ListText) (items : List Data) : Type 0 where
  pub text : string_bytes list.text ≡ before ++ (91 ∷ items_so_far false items)
  pub later : list.has_items ≡ stands_after false items
