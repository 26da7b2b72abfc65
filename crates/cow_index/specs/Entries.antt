-- Words on the entries of a map in the order of their keys, beside `find`, `put` and `is_sorted` of std.
use Rattle.std.specs.Prelude.{◌≡◌, not, List, [], ◌∷◌, filter}
use Rattle.std.specs.declared.cmp.Ordering.{Ordering}
use Rattle.std.specs.Ordering.{eq_by_cmp, is_le}

module _ {K X : Type 0} (R : K → K → Ordering) where
  -- the entries whose keys do not tie with q
  abbrev pub without : K → List (K × X) → List (K × X)
  without q = filter (λ e. not (eq_by_cmp R q e.0))

  -- the entries whose keys are not below q
  abbrev pub entries_from : K → List (K × X) → List (K × X)
  entries_from q = filter (λ e. is_le (R q e.0))

  -- q compares so with each key
  abbrev pub EachCompares : K → Ordering → List (K × X) → Type 0
  EachCompares q c [] = Unit {0}
  EachCompares q c (e ∷ es) = (R q e.0 ≡ c) × EachCompares q c es
