-- The keys under which runs are found: their orders, and sets of them.
use Rattle.std.specs.Prelude.{◌≡◌, ◌⊎◌, ℕ, true, List, Option, Some, None, is_some, refl}
use Rattle.std.specs.declared.cmp.Ordering.{Ordering}
use Rattle.std.specs.declared.cmp.Ordering.TheVariants.{Less, Equal, Greater}
use Rattle.std.specs.Ordering.{is_le, nat_cmp, ordering_then, then_cmp, flip_args, on}
use Rattle.std.specs.Option.{option_cmp}
use Rattle.std.specs.Cmp.{IsTotalOrder, on_total, then_total, back_total, nat_cmp_total}
use Rattle.std.specs.Cmp.Lexicographic.{options_total}
use Rattle.std.specs.FinMap.{IsAntisymmetric, nat_cmp-IsAntisymmetric}
use Rattle.std.specs.FinMap.Entries.{find, put}
use Rattle.std.proofs.lemmas.Map.Lookups.{exact_pairs}
use Rattle.std.proofs.Common.{ap, sym}
use Rattle.model.specs.Revision.{Rev, rev_cmp, rev_total, rev_exact}
use Rattle.cow_index.specs.Entries.{without}
use Rattle.revision_runs.specs.declared.foot.Foot.{Foot}
use Rattle.revision_runs.specs.declared.hung.Hung.{Hung}
use Rattle.revision_runs.specs.declared.deep.Deep.{Deep}

option_exact : {K : Type 0} (R : K → K → Ordering) → IsAntisymmetric R → IsAntisymmetric (option_cmp R)
option_exact R h None None e = refl
option_exact R h None (Some y) e = cc
option_exact R h (Some x) None e = cc
option_exact R h (Some x) (Some y) e = ap (λ z. Some z) (h x y e)

-- ---- by the bottom, and then by the top

abbrev pub foot_cmp : Foot → Foot → Ordering
foot_cmp = then_cmp (on (λ k. k.bottom) rev_cmp) (on (λ k. k.top) (option_cmp rev_cmp))

pub foot_total : IsTotalOrder foot_cmp
foot_total = then_total (on_total (λ k. k.bottom) rev_total) (on_total (λ k. k.top) (options_total rev_total))

pub foot_exact : IsAntisymmetric foot_cmp
foot_exact a b e = ap (λ (p : Rev × Option Rev). record { bottom = p.0; top = p.1 })
    (exact_pairs rev_cmp (option_cmp rev_cmp) rev_exact (option_exact rev_cmp rev_exact) (a.bottom, a.top) (b.bottom, b.top) e)

-- ---- by the fork above, then by the nearest leaf below, and then by the top

abbrev pub hung_cmp : Hung → Hung → Ordering
hung_cmp = then_cmp (then_cmp (on (λ k. k.fork) rev_cmp) (on (λ k. k.low) nat_cmp)) (on (λ k. k.top) (option_cmp rev_cmp))

pub hung_total : IsTotalOrder hung_cmp
hung_total = then_total (then_total (on_total (λ k. k.fork) rev_total) (on_total (λ k. k.low) nat_cmp_total)) (on_total (λ k. k.top) (options_total rev_total))

pub hung_exact : IsAntisymmetric hung_cmp
hung_exact a b e = ap (λ (p : (Rev × ℕ) × Option Rev). record { fork = p.0.0; low = p.0.1; top = p.1 })
    (exact_pairs (λ (x y : Rev × ℕ). ordering_then (rev_cmp x.0 y.0) (nat_cmp x.1 y.1)) (option_cmp rev_cmp) (exact_pairs rev_cmp nat_cmp rev_exact nat_cmp-IsAntisymmetric) (option_exact rev_cmp rev_exact)
    ((a.fork, a.low), a.top) ((b.fork, b.low), b.top) e)

-- ---- by the steps above the nearest leaf, the most first, and then by the top

abbrev pub deep_cmp : Deep → Deep → Ordering
deep_cmp = then_cmp (flip_args (on (λ k. k.steps) nat_cmp)) (on (λ k. k.top) rev_cmp)

pub deep_total : IsTotalOrder deep_cmp
deep_total = then_total (back_total (on_total (λ k. k.steps) nat_cmp_total)) (on_total (λ k. k.top) rev_total)

pub deep_exact : IsAntisymmetric deep_cmp
deep_exact a b e = ap (λ (p : ℕ × Rev). record { steps = p.0; top = p.1 })
    (exact_pairs (flip_args nat_cmp) rev_cmp (λ m n same. sym (nat_cmp-IsAntisymmetric n m same)) rev_exact (a.steps, a.top) (b.steps, b.top) e)

-- ---- sets of keys

module _ {K : Type 0} (cmp : K → K → Ordering) where
  abbrev pub entered : Option K → List (K × Unit {0}) → List (K × Unit {0})
  entered None es = es
  entered (Some k) es = put cmp k tt es

  abbrev pub struck : Option K → List (K × Unit {0}) → List (K × Unit {0})
  struck None es = es
  struck (Some k) es = without cmp k es

  -- the second is there in the place of the first, or all is as before where these are one
  abbrev pub IsMoved : Option K → Option K → List (K × Unit {0}) → List (K × Unit {0}) → Type 0
  IsMoved from to before after = ((from ≡ to) × (after ≡ before)) ⊎ (after ≡ entered to (struck from before))

  -- k is there, and is the least
  pub record IsFirst (es : List (K × Unit {0})) (k : K) : Type 0 where
    pub has : is_some (find cmp k es) ≡ true
    pub least : (j : K) → is_some (find cmp j es) ≡ true → is_le (cmp k j) ≡ true

  -- k is there, and is the least of those that are not below q
  pub record IsFirstFrom (q : K) (es : List (K × Unit {0})) (k : K) : Type 0 where
    pub has : is_some (find cmp k es) ≡ true
    pub from : is_le (cmp q k) ≡ true
    pub least : (j : K) → is_some (find cmp j es) ≡ true → is_le (cmp q j) ≡ true → is_le (cmp k j) ≡ true
