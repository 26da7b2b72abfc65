-- What a tree on a path has yet to yield.
use Rattle.std.proofs.Common.{◌≡◌, ℕ, zero, suc, ◌+◌, ◌^◌, ◌<◌, List, length, reverse, refl, arith}
use Rattle.std.proofs.Math.Pow.{pow_mono}
use Rattle.shared_list.specs.Path.{due, IsDue}

module _ {T : Type 0} where
  pub due_whole : (t : List T) (k : ℕ) → 0 < k → due t k ≡ reverse t
  due_whole t zero some = absurd (omega arith)
  due_whole t (suc k) some = refl

  pub is_due : (t : List T) (k : ℕ) → 0 < k → length t + 1 ≡ 2 ^ k → IsDue t k
  is_due t zero some whole = absurd (omega arith)
  is_due t (suc k) some whole = whole

  pub some_value : (t : List T) (k : ℕ) → 0 < k → length t + 1 ≡ 2 ^ k → 0 < length t
  some_value t k some whole = omega (arith, pow_mono {i = 1} {j = k} some)
