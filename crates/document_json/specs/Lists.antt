-- Lists of values.
use Rattle.std.specs.Prelude.{List, [], ◌∷◌}
use Rattle.serde_json.specs.Data.{Data, Items, no_items, item}

-- the values of a list
abbrev pub values_of : Items → List Data
values_of no_items = []
values_of (item value values) = value ∷ values_of values
