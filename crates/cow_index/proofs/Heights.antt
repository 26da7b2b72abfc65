-- How high a balanced tree may be.
use Rattle.std.proofs.Common.{◌≡◌, ℕ, zero, suc, ◌+◌, ◌*◌, ◌/◌, ◌^◌, ◌<◌, ◌≤◌, max, sym, subst, arith, inl, inr}
use Rattle.std.proofs.lemmas.Bool.{cases_lt}
use Rattle.std.proofs.lemmas.Nat.{leading_length}
use Rattle.std.proofs.Math.Pow.{pow_mono}
use Rattle.cow_index.specs.Height.{bits, DifferByAtMost}

double : (h : ℕ) → 2 ^ suc h ≡ 2 * 2 ^ h
double h = grind arith

-- a node over two level sides of m and of n entries
pub dense_node : (l r m n : ℕ) → DifferByAtMost 1 l r → 2 ^ ((l + 1) / 2) ≤ m + 1 → 2 ^ ((r + 1) / 2) ≤ n + 1 → 2 ^ ((max l r + 1 + 1) / 2) ≤ m + n + 1 + 1
dense_node l r m n level a b =
    let half : (max l r + 1 + 1) / 2 ≡ suc (max l r / 2) = omega arith in
    let left = pow_mono {i = max l r / 2} {j = (l + 1) / 2} (omega arith) in
    let right = pow_mono {i = max l r / 2} {j = (r + 1) / 2} (omega arith) in
    subst (λ k. 2 ^ k ≤ m + n + 1 + 1) (sym half) (omega (arith, double (max l r / 2), left, right))

-- so of a level tree
pub dense_level : (h n : ℕ) → 2 ^ ((h + 1) / 2) ≤ n → 2 ^ (h / 2) ≤ n
dense_level h n dense = omega (arith, pow_mono {i = h / 2} {j = (h + 1) / 2} (omega arith))

-- h is at most twice the binary digits of n
pub height_below : (h n b : ℕ) → 2 ^ (h / 2) ≤ n → n < 2 ^ b → h ≤ 2 * b
height_below h n b dense below =
    elim (cases_lt (h / 2) b) [
      | inl less ↦ omega arith
      | inr more ↦ absurd (omega (arith, pow_mono more))
    ]

below_power : (n : ℕ) → n < 2 ^ n
below_power zero = omega arith
below_power (suc n) = omega (arith, double n, below_power n)

pub height-bits : (h n : ℕ) → 2 ^ (h / 2) ≤ n → h ≤ 2 * bits n
unfolding bits
height-bits h n dense =
    let digits = leading_length n n (below_power n) in
    height_below h n (bits n) dense (subst (λ b. n < 2 ^ b) (omega arith) digits.2)
