-- How many values a tree of so many levels holds.
use Rattle.std.proofs.Common.{◌≡◌, ℕ, zero, suc, ◌+◌, ◌*◌, ◌^◌, ◌<◌, ◌≤◌, List, length, [], ◌∷◌, ap, subst, arith, inl, inr, length-append}
use Rattle.std.proofs.lemmas.Bool.{cases_lt}
use Rattle.std.proofs.Math.Pow.{pow_mono}
use Rattle.shared_list.specs.declared.spine.Link.{Link}
use Rattle.shared_list.specs.Spine.{IsFirst, IsSkew, Rises, sizes}

pub double : (n : ℕ) → 2 ^ suc n ≡ 2 * 2 ^ n
double n = grind arith

pub below_power : (n : ℕ) → n < 2 ^ n
below_power zero = omega arith
below_power (suc n) = omega (arith, double n, below_power n)

-- no more levels than values
pub levels_le : {T : Type 0} (d : List T × List ℕ) (l : Link T) → IsFirst d l → l.levels ≤ length d.0
levels_le d l first = omega (arith, below_power l.levels, first.whole, ap length first.values, length-append l.tree l.rest.0)

-- trees of rising levels hold enough values for the last of them
rising_size : (n : ℕ) (ns : List ℕ) → Rises (n ∷ ns) → 2 ^ (n + length ns) ≤ sizes (n ∷ ns) + 1
rising_size n [] rises = omega (arith, below_power n, pow_mono {i = n + length {A = ℕ} []} {j = n} (omega arith))
rising_size n (m ∷ ms) rises = omega (arith, rising_size m ms rises.1, pow_mono {i = n + suc (length ms)} {j = m + length ms} (omega (arith, rises.0)))

rising_low : (n : ℕ) (ns : List ℕ) → Rises (n ∷ ns) → sizes (n ∷ ns) < 2 ^ 64 → n + length ns ≤ 64
rising_low n ns rises fits =
    elim (cases_lt (n + length ns) 65) [
      | inl less ↦ omega arith
      | inr more ↦ absurd (omega (arith, pow_mono more, rising_size n ns rises))
    ]

-- the number of trees, and the levels of the first
pub skew_low : (n : ℕ) (ns : List ℕ) → IsSkew (n ∷ ns) → sizes (n ∷ ns) < 2 ^ 64 → (n ≤ 64) × (length ns ≤ 64)
skew_low n [] skew fits = (omega (arith, rising_low n [] (tt, tt) fits), omega arith)
skew_low n (m ∷ ms) skew fits =
    let low = rising_low m ms skew.2 (omega arith) in
    (omega (arith, low, skew.1), omega (arith, low, skew.0, skew.1))

pub few_trees : {T : Type 0} (d : List T × List ℕ) (l : Link T) → IsFirst d l → length d.0 < 2 ^ 64 → (1 ≤ l.levels) × (l.levels ≤ 64) × (length d.1 ≤ 65)
few_trees d l first fits =
    let skew = subst IsSkew first.levels first.skew in
    let low = skew_low l.levels l.rest.1 skew (omega (arith, first.full, ap sizes first.levels, fits)) in
    (skew.0, low.0, omega (arith, low.1, ap length first.levels))
