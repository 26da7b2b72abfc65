-- Where a root becomes the child of a revision: a fork, a leaf, or one with one child, and where that one is.
use Rattle.std.specs.Prelude.{◌≡◌, ℕ, zero, suc, true, Some, None, refl}
use Rattle.std.proofs.Common.{sym, ap, subst, ◌∙◌, ⊎_elim, arith}
use Rattle.std.proofs.lemmas.Option.{same_Some}
use Rattle.model.specs.Map.{get}
use Rattle.model.specs.Revision.{Rev}
use Rattle.model.specs.Tree.{Tree, IsForest, is_leaf, knows, parent_of}
use Rattle.revision_runs.specs.declared.run.Run.{Run}
use Rattle.revision_runs.specs.Runs.{RunMap, EndsAt, HangsUnder}
use Rattle.revision_runs.specs.TreeRuns.{AreRuns, IsOnlyChild, IsWay}
use Rattle.revision_runs.specs.Changes.{IsInside, IsPartOf}
use Rattle.revision_runs.proofs.Climbing.{ends_at_leaf}
use Rattle.revision_runs.proofs.Lows.{way_older}
use Rattle.revision_runs.proofs.Moving.{whole}
use Rattle.revision_runs.proofs.Nexts.{inside, one_below, step_up}

-- a way with one more step
pub way_more : (t : Tree) (n : ℕ) (b r p : Rev) → IsWay t n b r → IsOnlyChild t p r → IsWay t (suc n) b p
way_more t zero b r p way only = (p, subst (IsOnlyChild t p) (sym way) only, refl)
way_more t (suc n) b r p way only = (way.0, way.1, way_more t n way.0 r p way.2 only)

module _ (t : Tree) (f : IsForest t) (runs : RunMap) (h : AreRuns t runs) where
  -- a run ends there, and none hangs there
  pub leaf_end : (p top : Rev) → EndsAt runs p top → ((d : Rev) → HangsUnder runs p d → ⊥) → is_leaf t p ≡ true
  leaf_end p top e none = ⊎_elim
      (λ l. subst (λ q. is_leaf t q ≡ true) e.bottom l.0)
      (λ l. absurd (none l.top (record { run = l.run; is = l.is; fork = l.fork ∙ ap (λ q. Some q) e.bottom })))
      ((h.each top e.run e.is).low)

  -- what the walk up comes to
  pub step_from : (whole : Tree) → IsPartOf t whole → (r : Rev) → knows t r ≡ true → get runs r ≡ None → (p : Rev) × IsOnlyChild t p r × (parent_of whole r ≡ Some p)
  step_from all part r k none = let x = step_up t f runs h r k none in (x.0, x.1, part.parents r x.0 x.1.child)

  pub known_up : (p r : Rev) → IsOnlyChild t p r → knows t p ≡ true
  known_up p r only = (f.parents r p only.child).0

  -- no run ends there, and none hangs there
  pub inside_of : (p top : Rev) (run : Run) (n : ℕ) → knows t p ≡ true → IsWay t n p top → get runs top ≡ Some run
      → ((d : Rev) → HangsUnder runs p d → ⊥) → ((d : Rev) → EndsAt runs p d → ⊥) → (x : Rev) × IsInside t runs p x top
  inside_of p top run n k way is none no_end =
      let x = one_below t f runs h p k (λ leaf. let e = ends_at_leaf t f None runs (whole t runs h) p leaf in no_end e.0 e.1) none in
      (x.0, inside t f runs h p x.0 top x.1 n way run is)

  -- the same, and the way up to the child from where this run ends
  pub record IsFound (p top : Rev) (run : Run) : Type 0 where
    pub child : Rev
    pub inside : IsInside t runs p child top
    pub down : IsWay t inside.below run.bottom child

  pub found_inside : (p top : Rev) (run : Run) (n : ℕ) → knows t p ≡ true → IsWay t n p top → get runs top ≡ Some run
      → ((d : Rev) → HangsUnder runs p d → ⊥) → ((d : Rev) → EndsAt runs p d → ⊥) → IsFound p top run
  found_inside p top run n k way is none no_end =
      let x = inside_of p top run n k way is none no_end in
      let same : x.1.run ≡ run = same_Some x.1.run run (sym x.1.is ∙ is) in
      record { child = x.0; inside = x.1; down = subst (λ (r : Run). IsWay t x.1.below r.bottom x.0) same x.1.down }

-- ---- a walk up from the bottom of a run to the only child of a revision

module _ (t : Tree) (f : IsForest t) (all : Tree) (part : IsPartOf t all) (rev x : Rev) (only : IsOnlyChild t rev x) where
  too_old : (n : ℕ) → IsWay t n rev x → ⊥
  too_old n way =
      let le = way_older t f n rev x way in
      let up = (f.parents x rev only.child).1 in
      omega (arith, le, up)

  -- what has this parent is the child
  pub child_found : (k : ℕ) (child : Rev) → IsWay t k child x → parent_of all child ≡ Some rev → child ≡ x
  child_found zero child way up = way
  child_found (suc k) child way up =
      let above : way.0 ≡ rev = same_Some way.0 rev (sym (part.parents child way.0 way.1.child) ∙ up) in
      absurd (too_old k (subst (λ q. IsWay t k q x) above way.2))

  -- and what has another is on the way to it
  pub record IsNextUp (child : Rev) : Type 0 where
    pub parent : Rev
    pub up : parent_of all child ≡ Some parent
    pub steps : ℕ
    pub way : IsWay t steps parent x

  pub child_next : (k : ℕ) (child : Rev) → IsWay t k child x → (parent_of all child ≡ Some rev → ⊥) → IsNextUp child
  child_next zero child way other = absurd (other (part.parents child rev (subst (λ q. parent_of t q ≡ Some rev) (sym way) only.child)))
  child_next (suc k) child way other = record { parent = way.0; up = part.parents child way.0 way.1.child; steps = k; way = way.2 }
