-- What stays of a tree's runs where a part of it changes.
use Rattle.std.specs.Prelude.{◌≡◌, ◌≢◌, ◌⊎◌, ℕ, zero, suc, ◌+◌, ◌<◌, ◌≤◌, Bool, true, false, Option, Some, None, refl}
use Rattle.std.proofs.Common.{sym, ap, subst, ◌∙◌, ⊎_elim, inl, inr, arith}
use Rattle.std.proofs.lemmas.Bool.{true≢false}
use Rattle.std.proofs.lemmas.Option.{none-some, same_Some}
use Rattle.model.specs.Map.{get, same_key-equal, same_key_itself}
use Rattle.model.specs.Revision.{Rev, revs, same_rev}
use Rattle.model.specs.Tree.{Tree, IsForest, is_leaf, knows, parent_of}
use Rattle.model.proofs.ListLaws.{by_cases}
use Rattle.model.proofs.TreeLaws.{is_leaf-childless, knows_child, no_parent_of_leaf}
use Rattle.revision_runs.specs.declared.run.Run.{Run}
use Rattle.revision_runs.specs.Runs.{RunMap, EndsAt, HangsUnder}
use Rattle.revision_runs.specs.TreeRuns.{IsOnlyChild, IsOneChild, IsWay, IsTop, IsLeastUnder, IsBottom, IsRunOf, AreRuns, IsEnd, IsRunBut, AreRunsBut}

pub same_itself : (q : Rev) → same_rev q q ≡ true
same_itself q = same_key_itself revs q

pub not_same : (q r : Rev) → same_rev q r ≡ false → q ≡ r → ⊥
not_same q r fails e = true≢false (sym (subst (λ x. same_rev q x ≡ true) e (same_itself q)) ∙ fails)

pub other_of : (q r : Rev) → (q ≡ r → ⊥) → same_rev q r ≡ false
other_of q r fails = by_cases (same_rev q r) (λ s. absurd (fails (same_key-equal revs q r s))) (λ s. s)

-- ---- runs with no hole

pub whole : (t : Tree) (runs : RunMap) → AreRuns t runs → AreRunsBut t None runs
whole t runs h = record {
  each = λ top run is. let e = h.each top run is in record {
    at_top = e.at_top;
    fork = e.fork;
    steps = e.steps;
    way = e.way;
    ends = ⊎_elim (λ leaf. inl leaf.0) (λ l. inr (l.top, record { run = l.run; is = l.is; fork = l.fork })) e.low;
    low = λ fails. e.low;
  };
  all = h.all;
  fork = λ b none. absurd (none-some b none);
}

-- ---- ways

pub way_map : (t u : Tree) → ((q x : Rev) → IsOnlyChild t q x → IsOnlyChild u q x) → (n : ℕ) (b r : Rev) → IsWay t n b r → IsWay u n b r
way_map t u each zero b r way = way
way_map t u each (suc n) b r way = (way.0, each way.0 b way.1, way_map t u each n way.0 r way.2)

-- the same where each step is known to lead on to r
pub way_map_to : (t u : Tree) (r : Rev) → ((q x : Rev) (n : ℕ) → IsOnlyChild t q x → IsWay t n q r → IsOnlyChild u q x) → (n : ℕ) (b : Rev) → IsWay t n b r → IsWay u n b r
way_map_to t u r each zero b way = way
way_map_to t u r each (suc n) b way = (way.0, each way.0 b n way.1 way.2, way_map_to t u r each n way.0 way.2)

-- and where no step is younger than the bottom
pub way_map_up : (t u : Tree) → IsForest t → (g : ℕ) → ((q x : Rev) → x.generation ≤ g → IsOnlyChild t q x → IsOnlyChild u q x) → (n : ℕ) (b r : Rev) → b.generation ≤ g → IsWay t n b r → IsWay u n b r
way_map_up t u f g each zero b r le way = way
way_map_up t u f g each (suc n) b r le way =
    let up = (f.parents b way.0 way.1.child).1 in
    (way.0, each way.0 b le way.1, way_map_up t u f g each n way.0 r (omega (arith, le, up)) way.2)

pub way_join : (t : Tree) (m n : ℕ) (b r p s : Rev) → IsWay t m b r → IsOnlyChild t p r → IsWay t n p s → IsWay t (m + suc n) b s
way_join t zero n b r p s way only up =
    let e : suc n ≡ zero + suc n = omega arith in
    subst (λ k. IsWay t k b s) e (p, subst (IsOnlyChild t p) (sym way) only, up)
way_join t (suc m) n b r p s way only up =
    let e : suc (m + suc n) ≡ suc m + suc n = omega arith in
    subst (λ k. IsWay t k b s) e (way.0, way.1, way_join t m n way.0 r p s way.2 only up)

-- ---- what hangs under a fork

pub record HasLow (runs : RunMap) (q d : Rev) (n : ℕ) : Type 0 where
  pub run : Run
  pub is : get runs d ≡ Some run
  pub fork : run.fork ≡ Some q
  pub low : run.low ≡ n

-- the same tops hang under q in both, with the same leasts
pub record IsSameUnder (runs after : RunMap) (q : Rev) : Type 0 where
  pub to : (d : Rev) (r : Run) → get runs d ≡ Some r → r.fork ≡ Some q → HasLow after q d r.low
  pub from : (d : Rev) (r : Run) → get after d ≡ Some r → r.fork ≡ Some q → HasLow runs q d r.low

pub moved_least : (runs after : RunMap) (q : Rev) (n : ℕ) → IsSameUnder runs after q → IsLeastUnder runs q n → IsLeastUnder after q n
moved_least runs after q n same l =
    let x = same.to l.top l.run l.is l.fork in
    record {
      top = l.top;
      run = x.run;
      is = x.is;
      fork = x.fork;
      low = x.low ∙ l.low;
      least = λ d r is under. let y = same.from d r is under in let le = l.least d y.run y.is y.fork in omega (arith, le, y.low);
    }

pub moved_bottom : (t u : Tree) (runs after : RunMap) (q : Rev) (n : ℕ) → IsSameUnder runs after q → (is_leaf t q ≡ true → is_leaf u q ≡ true) → IsBottom t runs q n → IsBottom u after q n
moved_bottom t u runs after q n same leaf x = ⊎_elim (λ l. inl (leaf l.0, l.1)) (λ l. inr (moved_least runs after q n same l)) x

pub moved_end : (t u : Tree) (runs after : RunMap) (q : Rev) → ((d : Rev) → HangsUnder runs q d → (e : Rev) × HangsUnder after q e) → (is_leaf t q ≡ true → is_leaf u q ≡ true) → IsEnd t runs q → IsEnd u after q
moved_end t u runs after q hung leaf x = ⊎_elim (λ l. inl (leaf l)) (λ h. inr (hung h.0 h.1)) x

pub under_end : (runs after : RunMap) (q : Rev) → IsSameUnder runs after q → (d : Rev) → HangsUnder runs q d → (e : Rev) × HangsUnder after q e
under_end runs after q same d h = let x = same.to d h.run h.is h.fork in (d, record { run = x.run; is = x.is; fork = x.fork })

-- ---- from low and bottom to a run with no hole

pub whole_end : (t : Tree) (runs : RunMap) (q : Rev) (n : ℕ) → IsBottom t runs q n → IsEnd t runs q
whole_end t runs q n x = ⊎_elim (λ leaf. inl leaf.0) (λ l. inr (l.top, record { run = l.run; is = l.is; fork = l.fork })) x
