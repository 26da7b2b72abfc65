-- A path's members, one by one: what each makes of the runs, and of the leaves.
use Rattle.std.specs.Prelude.{◌≡◌, ℕ, zero, suc, ◌+◌, ◌-◌, ◌<◌, ◌≤◌, ◌||◌, Bool, true, false, List, [], ◌∷◌, ◌++◌, length, get_or, take, Option, Some, None, refl}
use Rattle.std.specs.FinMap.Entries.{put}
use Rattle.std.proofs.Common.{sym, ap, subst, ◌∙◌, arith}
use Rattle.std.proofs.lemmas.Bool.{true≢false}
use Rattle.std.proofs.lemmas.List.{take_more}
use Rattle.model.specs.Body.{Body}
use Rattle.model.specs.Revision.{Rev, same_rev}
use Rattle.model.specs.Tree.{Tree, IsForest, among, is_at, knows, parent_of}
use Rattle.model.specs.TreeChange.{IsPath, agrees, grafted}
use Rattle.model.proofs.TreeLaws.{is_at-equal}
use Rattle.revision_runs.specs.Changes.{AreBefore, IsExtended, IsLinked, IsNext}
use Rattle.revision_runs.specs.Runs.{RunMap}
use Rattle.revision_runs.specs.TreeRuns.{AreRuns}
use Rattle.revision_runs.proofs.Grafting.{among_last}
use Rattle.revision_runs.proofs.Nexts.{next_extends, next_links, next_stays}
use Rattle.revision_tree.specs.declared.rank.Rank.{Rank}
use Rattle.revision_tree.specs.Ranks.{AreLeaves, AreLeft, rank_cmp}
use Rattle.revision_tree.proofs.Leaved.{leaves_known, leaves_new, same_left}
use Rattle.revision_tree.proofs.Steps.{IsSplit, split_at}

-- ---- the next member

module _ (tree t u : Tree) (c p : Rev) (runs : RunMap) (b : AreBefore t u runs) (n : IsNext tree t u c p) where
  pub member_new : knows tree p ≡ false → IsExtended t u c p
  member_new k = next_extends tree t u c p b.before n k

  pub member_there : knows tree p ≡ true → is_at (parent_of tree c) p ≡ true → AreRuns u runs
  member_there k at = next_stays tree t u c p b.before n runs k ((is_at-equal (parent_of tree c) p).0 at) b.runs

  pub member_linked : knows tree p ≡ true → is_at (parent_of tree c) p ≡ false → IsLinked t u c p
  member_linked k off = next_links tree t u c p b.before n k (none (parent_of tree c) refl)
    where
      none : (o : Option Rev) → parent_of tree c ≡ o → parent_of tree c ≡ None
      none None e = e
      none (Some q) e = absurd (true≢false (sym ((is_at-equal (parent_of tree c) p).1 (e ∙ ap (λ r. Some r) (n.fits q e))) ∙ off))

  pub member_known : knows tree p ≡ true → knows t p ≡ true
  member_known k = n.there ∙ k

-- ---- places on the path

pub split_near : (path : List Rev) (n : ℕ) (c p : Rev) → 1 ≤ n → n < length path → c ≡ get_or path (n - 1) c → p ≡ get_or path n p → IsSplit path n c p
split_near path zero c p some lt ec ep = absurd (omega (arith, some))
split_near path (suc n) c p some lt ec ep =
    let e : n + 1 ≡ suc n = omega arith in
    let d : suc n - 1 ≡ n = omega arith in
    subst (λ k. IsSplit path k c p) e (split_at path n c p (omega (arith, lt)) (subst (λ k. c ≡ get_or path k c) d ec) (subst (λ k. p ≡ get_or path k p) (sym e) ep))

-- ---- leaves

pub left_next : (t : Tree) (rs : List Rev) (i : ℕ) (r : Rev) (es : List (Rank × Unit {0})) → i < length rs → r ≡ get_or rs i r → AreLeft t (λ q. among (take i rs) q || same_rev q r) es → AreLeft t (among (take (i + 1) rs)) es
left_next t rs i r es lt is h =
    same_left t (λ q. among (take i rs) q || same_rev q r) (among (take (i + 1) rs)) es
    (λ q. sym (among_last (take i rs) r q) ∙ ap (λ qs. among qs q) (ap (λ m. take i rs ++ m ∷ []) is ∙ sym (take_more rs i r lt))) h

module _ (t : Tree) (f : IsForest t) (path : List Rev) (r : Rev) (rs : List Rev) (e : path ≡ r ∷ rs) (is : IsPath path) (h : agrees t path ≡ true) (es : List (Rank × Unit {0})) (left : AreLeft t (among rs) es) where
  pub leaves_stay : knows t r ≡ true → (body : Body) (deleted : Bool) → AreLeaves (grafted path body deleted t) es
  leaves_stay k body deleted = subst (λ ps. AreLeaves (grafted ps body deleted t) es) (sym e) (leaves_known t f r rs (subst IsPath e is) body deleted (ap (agrees t) (sym e) ∙ h) es left k)

  pub leaves_more : knows t r ≡ false → (body : Body) (deleted : Bool) → AreLeaves (grafted path body deleted t) (put rank_cmp (record { deleted = deleted; rev = r }) tt es)
  leaves_more k body deleted = subst (λ ps. AreLeaves (grafted ps body deleted t) (put rank_cmp (record { deleted = deleted; rev = r }) tt es)) (sym e) (leaves_new t f r rs (subst IsPath e is) body deleted (ap (agrees t) (sym e) ∙ h) es left k)
