-- A graft's runs, member by member of a path.
use Rattle.std.specs.Prelude.{◌≡◌, ℕ, zero, suc, ◌+◌, ◌<◌, ◌||◌, Bool, true, false, List, [], ◌∷◌, ◌++◌, length, get_or, take, refl}
use Rattle.std.proofs.Common.{sym, ap, subst, ◌∙◌, arith}
use Rattle.model.specs.Body.{Body}
use Rattle.model.specs.Revision.{Rev, same_rev, same_rev-equal}
use Rattle.model.specs.Tree.{Tree, IsForest, is_at, knows, parent_of}
use Rattle.model.specs.TreeChange.{IsPath, IsUnion, agrees, grafted}
use Rattle.model.proofs.ListLaws.{by_cases, same_option}
use Rattle.model.proofs.TreeLaws.{is_at-equal}
use Rattle.revision_runs.specs.Changes.{AreBefore, IsNext, IsPartOf, IsRooted}
use Rattle.revision_runs.specs.Runs.{RunMap}
use Rattle.revision_runs.specs.TreeRuns.{AreRuns}
use Rattle.revision_runs.proofs.Nexts.{same_runs}
use Rattle.revision_runs.proofs.Prefixes.{grafted_forest, grafted_union, next, one_forest, part, two_forest}

-- a path around a member and the next
pub record IsSplit (path : List Rev) (i : ℕ) (c p : Rev) : Type 0 where
  pub front : List Rev
  pub more : List Rev
  pub whole : path ≡ front ++ c ∷ p ∷ more
  pub one : take i path ≡ front ++ c ∷ []
  pub two : take (i + 1) path ≡ front ++ c ∷ p ∷ []

pub split_at : (path : List Rev) (i : ℕ) (c p : Rev) → i + 1 < length path → c ≡ get_or path i c → p ≡ get_or path (i + 1) p → IsSplit path (i + 1) c p
split_at [] i c p lt e g = absurd (omega arith)
split_at (r ∷ []) i c p lt e g = absurd (omega arith)
split_at (r ∷ q ∷ qs) zero c p lt e g = record {
  front = [];
  more = qs;
  whole = (λ k. sym e k ∷ sym g k ∷ qs);
  one = (λ k. sym e k ∷ []);
  two = (λ k. sym e k ∷ sym g k ∷ []);
}
split_at (r ∷ q ∷ qs) (suc i) c p lt e g =
    let more : suc i + 1 ≡ suc (i + 1) = omega arith in
    let most : suc (i + 1) + 1 ≡ suc (i + 1 + 1) = omega arith in
    let s = split_at (q ∷ qs) i c p (omega (arith, lt)) e (subst (λ k. p ≡ get_or (r ∷ q ∷ qs) k p) more g) in
    let whole : IsSplit (r ∷ q ∷ qs) (suc (i + 1)) c p = record {
      front = r ∷ s.front;
      more = s.more;
      whole = ap (λ rs. r ∷ rs) s.whole;
      one = ap (λ rs. r ∷ rs) s.one;
      two = ap (λ k. take k (r ∷ q ∷ qs)) most ∙ ap (λ rs. r ∷ rs) s.two;
    } in
    subst (λ k. IsSplit (r ∷ q ∷ qs) k c p) (sym more) whole

-- the grafts of the members up to one and up to the next
module _ (t : Tree) (f : IsForest t) (body : Body) (deleted : Bool) (path : List Rev) (is : IsPath path) (h : agrees t path ≡ true) (i : ℕ) (c p : Rev) (s : IsSplit path i c p) where
  split_path : IsPath (s.front ++ c ∷ p ∷ s.more)
  split_path = subst IsPath s.whole is

  split_agrees : agrees t (s.front ++ c ∷ p ∷ s.more) ≡ true
  split_agrees = ap (agrees t) (sym s.whole) ∙ h

  abbrev pub one_of : Tree
  one_of = grafted (take i path) body deleted t

  abbrev pub two_of : Tree
  two_of = grafted (take (i + 1) path) body deleted t

  pub step_next : IsNext t one_of two_of c p
  step_next = subst (λ rs. IsNext t (grafted rs body deleted t) two_of c p) (sym s.one)
      (subst (λ rs. IsNext t (grafted (s.front ++ c ∷ []) body deleted t) (grafted rs body deleted t) c p) (sym s.two)
      (next t f body deleted s.front s.more c p split_path split_agrees))

  pub step_before : (runs : RunMap) → AreRuns one_of runs → AreBefore one_of two_of runs
  step_before runs r = record {
    before = subst (λ rs. IsForest (grafted rs body deleted t)) (sym s.one) (one_forest t f body deleted s.front s.more c p split_path split_agrees);
    after = subst (λ rs. IsForest (grafted rs body deleted t)) (sym s.two) (two_forest t f body deleted s.front s.more c p split_path split_agrees);
    runs = r;
  }

  pub step_part : IsPartOf one_of (grafted path body deleted t)
  step_part = subst (λ rs. IsPartOf (grafted rs body deleted t) (grafted path body deleted t)) (sym s.one)
      (subst (λ rs. IsPartOf (grafted (s.front ++ c ∷ []) body deleted t) (grafted rs body deleted t)) (sym s.whole)
      (part t f body deleted s.front s.more c p split_path split_agrees))

-- the graft of the newest alone
module _ (t : Tree) (f : IsForest t) (r : Rev) (body : Body) (deleted : Bool) (some : 0 < r.generation) where
  abbrev pub first_of : Tree
  first_of = grafted (r ∷ []) body deleted t

  union : IsUnion r [] body deleted t first_of
  union = grafted_union t f body deleted r [] some refl

  nothing : (a : Bool) → (a || false) ≡ a
  nothing true = refl
  nothing false = refl

  first_known : (q : Rev) → knows first_of q ≡ (knows t q || same_rev q r)
  first_known q = union.known q ∙ ap (λ b. knows t q || b) (nothing (same_rev q r))

  first_parents : (q : Rev) → parent_of first_of q ≡ parent_of t q
  first_parents q = same_option (parent_of first_of q) (parent_of t q) (λ p.
      let same = union.parents q p ∙ nothing (is_at (parent_of t q) p) in (
        λ e. (is_at-equal (parent_of t q) p).0 (sym same ∙ (is_at-equal (parent_of first_of q) p).1 e),
        λ e. (is_at-equal (parent_of first_of q) p).0 (same ∙ (is_at-equal (parent_of t q) p).1 e),
      ))

  pub first_forest : IsForest first_of
  first_forest = grafted_forest t f body deleted (r ∷ []) some refl

  pub first_runs : knows t r ≡ true → (runs : RunMap) → AreRuns t runs → AreRuns first_of runs
  first_runs k runs h = same_runs t first_of (λ q. first_known q ∙ at q) first_parents runs h
    where
      at : (q : Rev) → (knows t q || same_rev q r) ≡ knows t q
      at q = by_cases (same_rev q r)
          (λ s. ap (λ b. knows t q || b) s ∙ more (knows t q) ∙ sym (ap (knows t) ((same_rev-equal q r).0 s) ∙ k))
          (λ s. ap (λ b. knows t q || b) s ∙ nothing (knows t q))
        where
          more : (a : Bool) → (a || true) ≡ true
          more true = refl
          more false = refl

  pub first_rooted : knows t r ≡ false → IsRooted t first_of r
  first_rooted unknown = record { unknown = unknown; known = first_known; parents = first_parents }
