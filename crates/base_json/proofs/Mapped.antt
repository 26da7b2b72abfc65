-- A list that was mapped twice.
use Rattle.std.proofs.Common.{◌≡◌, List, [], ◌∷◌, ◌++◌, map, refl, ap}

-- an item more
pub mapped_more : {X Y Z : Type 0} (g : X → Y) (f : Y → Z) (xs : List X) (x : X) → map f (map g (xs ++ x ∷ [])) ≡ map f (map g xs) ++ f (g x) ∷ []
mapped_more g f [] x = refl
mapped_more g f (y ∷ xs) x = ap (λ zs. f (g y) ∷ zs) (mapped_more g f xs x)

pub map_twice : {X Y Z : Type 0} (g : X → Y) (f : Y → Z) (xs : List X) → map (λ x. f (g x)) xs ≡ map f (map g xs)
map_twice g f [] = refl
map_twice g f (x ∷ xs) = ap (λ zs. f (g x) ∷ zs) (map_twice g f xs)
