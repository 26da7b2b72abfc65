-- The numbers of sessions.
use Rattle.std.proofs.Common.{◌≡◌, ◌∷◌, ◌++◌, ◌+◌, [], ℕ, List, arith, ap, sym, ◌∙◌}
use Rattle.std.specs.List.{range_with_len}
use Rattle.std.proofs.lemmas.List.{map-id}
use Rattle.std.proofs.lemmas.List.FromFn.{map-range_with_len_more}

-- the numbers from 0 on, one more
pub range-push : (n : ℕ) → range_with_len 0 (n + 1) ≡ range_with_len 0 n ++ n ∷ []
range-push n = sym (map-id (range_with_len 0 (n + 1))) ∙ map-range_with_len_more (λ (x : ℕ). x) 0 n n (omega arith) ∙ ap (λ (l : List ℕ). l ++ n ∷ []) (map-id (range_with_len 0 n))

-- one number more in the list, where the list was those before it
pub range_more : (xs : List ℕ) (n x : ℕ) → xs ≡ range_with_len 0 n → x ≡ n → xs ++ x ∷ [] ≡ range_with_len 0 (n + 1)
range_more xs n x is same = (λ i. is i ++ same i ∷ []) ∙ sym (range-push n)
