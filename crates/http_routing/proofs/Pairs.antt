-- What is found among decoded pairs.
use Rattle.std.proofs.Common.{◌≡◌, ℕ, List, [], ◌∷◌, Bool, true, false, cond, Some, map, refl, option_map}
use Rattle.std.specs.Cow.{cow_str_bytes}
use Rattle.std.specs.List.{find}
use Rattle.std.specs.Str.{bytes_eq}
use Rattle.http_routing.specs.Pairs.{Pair, pair_texts, value_in}
use Rattle.http_routing.specs.Query.{parameter}

-- the first pair of a name has the first text of that name
pub value_in-parameter : (name : List ℕ) (pairs : List Pair) → value_in name pairs ≡ parameter name (map pair_texts pairs)
value_in-parameter name [] = refl
value_in-parameter name (pair ∷ pairs) = at (bytes_eq (cow_str_bytes pair.0) name) (value_in-parameter name pairs)
  where
    at : (b : Bool) → value_in name pairs ≡ parameter name (map pair_texts pairs)
        → option_map (λ p. cow_str_bytes p.1) (cond b (Some pair) (find (λ p. bytes_eq (cow_str_bytes p.0) name) pairs))
        ≡ option_map (λ p. p.1) (cond b (Some (pair_texts pair)) (find (λ p. bytes_eq p.0 name) (map pair_texts pairs)))
    at true rest = refl
    at false rest = rest
