-- How many documents an answer gives.
use Rattle.std.proofs.Common.{◌≡◌, ◌∙◌, ℕ, zero, suc, ◌+◌, ◌<◌, List, [], ◌∷◌, length, get_or, take, ap, sym, arith}
use Rattle.std.specs.Prelude.{Result}
use Rattle.std.proofs.lemmas.List.{length-append}
use Rattle.model.specs.Command.{Merge}
use Rattle.model.specs.Revision.{Rev}
use Rattle.replicator.specs.Wanted.{given_in, given_of}

one-more : (xs : List (Result Merge Rev)) (i : ℕ) (d : Result Merge Rev) → i < length xs
    → length (given_in (take (suc i) xs)) ≡ length (given_in (take i xs)) + length (given_of (get_or xs i d))
one-more [] i d h = absurd (omega arith)
one-more (x ∷ xs) zero d h = omega (arith, length-append (given_of x) [])
one-more (x ∷ xs) (suc i) d h =
    omega (arith, length-append (given_of x) (given_in (take (suc i) xs)), length-append (given_of x) (given_in (take i xs)), one-more xs i d (omega arith))

-- with the documents of one revision more
pub given-more : (xs : List (Result Merge Rev)) (i : ℕ) (x : Result Merge Rev) → i < length xs → x ≡ get_or xs i x
    → length (given_in (take (i + 1) xs)) ≡ length (given_in (take i xs)) + length (given_of x)
given-more xs i x h is =
    let on : i + 1 ≡ suc i = omega arith in
    ap (λ (n : ℕ). length (given_in (take n xs))) on ∙ one-more xs i x h
    ∙ ap (λ (r : Result Merge Rev). length (given_in (take i xs)) + length (given_of r)) (sym is)
