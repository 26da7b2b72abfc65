-- Lists of which the first items were changed.
use Rattle.std.proofs.Common.{◌≡◌, ℕ, zero, suc, ◌+◌, ◌<◌, List, [], ◌∷◌, ◌++◌, length, get_or, take, map, drop, set, refl, ap, ◌∙◌, arith}

one-changed : {A : Type 0} (f : A → A) (xs : List A) (i : ℕ) (d : A) → i < length xs
    → set (map f (take i xs) ++ drop i xs) i (f (get_or (map f (take i xs) ++ drop i xs) i d)) ≡ map f (take (suc i) xs) ++ drop (suc i) xs
one-changed f [] i d lt = absurd (omega arith)
one-changed f (x ∷ xs) zero d lt = refl
one-changed f (x ∷ xs) (suc i) d lt = ap (λ ys. f x ∷ ys) (one-changed f xs i d (omega arith))

-- one item more was changed
pub next-changed : {A : Type 0} (f : A → A) (xs so_far : List A) (i : ℕ) (d new : A) → i < length xs → so_far ≡ map f (take i xs) ++ drop i xs
    → new ≡ f (get_or so_far i d) → set so_far i new ≡ map f (take (i + 1) xs) ++ drop (i + 1) xs
next-changed f xs so_far i d new lt is is_new =
    let front = map f (take i xs) ++ drop i xs in
    let on : suc i ≡ i + 1 = omega arith in
    (λ k. set (is k) i (is_new k)) ∙ ap (λ ys. set front i (f (get_or ys i d))) is ∙ one-changed f xs i d lt ∙ ap (λ n. map f (take n xs) ++ drop n xs) on
