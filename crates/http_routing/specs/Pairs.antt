-- The texts of decoded pairs.
use Rattle.std.specs.Prelude.{ℕ, List, Option, option_map}
use Rattle.std.specs.Cow.{cow_str_bytes}
use Rattle.std.specs.List.{find}
use Rattle.std.specs.Str.{bytes_eq}
use Rattle.std.specs.declared.alloc.Global.{Global}
use Rattle.std.specs.declared.borrow.CowStr.{CowStr}

abbrev pub Pair : Type 0
Pair = CowStr Global × CowStr Global

abbrev pub pair_texts : Pair → List ℕ × List ℕ
pair_texts pair = (cow_str_bytes pair.0, cow_str_bytes pair.1)

-- the value of the first pair of this name
abbrev pub value_in : List ℕ → List Pair → Option (List ℕ)
value_in name pairs = option_map (λ pair. cow_str_bytes pair.1) (find (λ pair. bytes_eq (cow_str_bytes pair.0) name) pairs)
