-- What stands before the first byte of a kind, by the place of that byte.
use Rattle.std.proofs.Common.{◌≡◌, ℕ, ◌≤◌, Bool, true, false, cond, List, length, take, Option, Some, None, refl, ap, sym, arith}
use Rattle.std.specs.Prelude.{nat_lt}
use Rattle.std.specs.List.{before_first, position, position_or_len}
use Rattle.std.proofs.lemmas.Bool.Decides.{nat_tests}
use Rattle.std.proofs.lemmas.List.{take_all}

some_is : (k i : ℕ) → Some k ≡ Some i → k ≡ i
some_is k i same = cc

none_is : (k : ℕ) → Some k ≡ None → ⊥
none_is k same = cc

not_some : (i : ℕ) → None ≡ Some i → ⊥
not_some i same = cc

-- there is one
pub before_place : (p : ℕ → Bool) (xs : List ℕ) (i : ℕ) → position p xs ≡ Some i → take i xs ≡ before_first p xs
before_place p xs i is =
    elim (nat_lt (position_or_len p xs) (length xs)) as (λ (b : Bool). cond b (Some (position_or_len p xs)) None ≡ Some i → take i xs ≡ take (position_or_len p xs) xs) [
      | true ↦ λ same. ap (λ (n : ℕ). take n xs) (sym (some_is (position_or_len p xs) i same))
      | false ↦ λ same. absurd (not_some i same)
    ] is

long_enough : (k n : ℕ) → nat_lt k n ≡ false → n ≤ k
long_enough k n not_less = grind (arith, nat_tests)

-- there is none
pub before_none : (p : ℕ → Bool) (xs : List ℕ) → position p xs ≡ None → xs ≡ before_first p xs
before_none p xs is =
    elim (nat_lt (position_or_len p xs) (length xs))
    as (λ (b : Bool). nat_lt (position_or_len p xs) (length xs) ≡ b → cond b (Some (position_or_len p xs)) None ≡ None → xs ≡ take (position_or_len p xs) xs) [
      | true ↦ λ less same. absurd (none_is (position_or_len p xs) same)
      | false ↦ λ not_less same. sym (take_all (position_or_len p xs) xs (long_enough (position_or_len p xs) (length xs) not_less))
    ] refl is
