-- What a filter of entries keeps.
use Rattle.std.proofs.Common.{◌≡◌, ◌≤◌, Bool, true, false, cond, not, List, [], ◌∷◌, filter, length, Some, None, refl, ap, arith}
use Rattle.std.specs.declared.cmp.Ordering.{Ordering}
use Rattle.std.specs.Ordering.{eq_by_cmp}
use Rattle.std.specs.FinMap.Entries.{find}
use Rattle.std.proofs.lemmas.List.Sums.{length-filter, count_by-le-length}
use Rattle.cow_index.specs.Entries.{without}

pub length_filter_le : {X : Type 0} (p : X → Bool) (xs : List X) → length (filter p xs) ≤ length xs
length_filter_le p xs = omega (arith, length-filter p xs, count_by-le-length p xs)

pub without_absent : {K X : Type 0} (R : K → K → Ordering) (q : K) (es : List (K × X)) → find R q es ≡ None → without R q es ≡ es
without_absent R q [] none = refl
without_absent R q (e ∷ es) none =
    elim (eq_by_cmp R q e.0) as (λ b. cond b (Some e.1) (find R q es) ≡ None → cond (not b) (e ∷ without R q es) (without R q es) ≡ e ∷ es) [
      | true ↦ λ some. cc
      | false ↦ λ rest. ap (λ t. e ∷ t) (without_absent R q es rest)
    ] none
