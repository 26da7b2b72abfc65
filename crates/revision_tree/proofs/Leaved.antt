-- The leaves of a tree with a path.
use Rattle.std.specs.Prelude.{◌≡◌, ◌||◌, Bool, true, false, List, ◌∷◌, Option, Some, None, is_some, refl}
use Rattle.std.specs.FinMap.Entries.{find, put}
use Rattle.std.specs.Ordering.{eq_by_cmp}
use Rattle.std.proofs.Common.{sym, ap, subst, ◌∙◌, ⊎_elim}
use Rattle.std.proofs.lemmas.Bool.{true≢false, or_cases, or_left, or_right}
use Rattle.cow_index.specs.Entries.{without}
use Rattle.model.specs.Body.{Body}
use Rattle.model.specs.Revision.{Rev, same_rev, same_rev-equal}
use Rattle.model.specs.Tree.{Tree, IsForest, IsLeafOf, Leaf, among, body_of, has_child, is_deleted, is_leaf, knows}
use Rattle.model.specs.TreeChange.{IsPath, IsUnion, agrees, grafted}
use Rattle.model.proofs.ListLaws.{by_cases}
use Rattle.model.proofs.PathLaws.{first_among}
use Rattle.model.proofs.TreeLaws.{child_of, childless_leaf, leaf_childless, leaf_known, unknown_body}
use Rattle.model.proofs.UnionLaws.{graft-union}
use Rattle.revision_runs.proofs.Indexed.{put_itself, put_other, put_there, tied, itself, without_other, without_same}
use Rattle.revision_tree.specs.declared.rank.Rank.{Rank}
use Rattle.revision_tree.specs.Notes.{HasOneLeaf}
use Rattle.revision_tree.specs.Ranks.{AreLeaves, AreLeft, leaf_of, rank_cmp, rank_exact, rank_total}
use Rattle.revision_tree.proofs.Grafts.{graft_agreed}
use Rattle.revision_tree.proofs.Grown.{grown_marks, newest_apart}

-- ---- leaves that are no longer there

or_nothing : (a b : Bool) → (a || b) ≡ false → a ≡ false
or_nothing true b e = e
or_nothing false b e = refl

or_second : (a b : Bool) → (a || b) ≡ false → b ≡ false
or_second true b e = absurd (true≢false e)
or_second false b e = e

neither : (a b : Bool) → a ≡ false → b ≡ false → (a || b) ≡ false
neither a b x y = (λ i. x i || y i)

pub all_left : (t : Tree) (es : List (Rank × Unit {0})) → AreLeaves t es → AreLeft t (λ q. false) es
all_left t es h = record { has = λ k. (λ e. ((h.has k).0 e, refl), λ l. (h.has k).1 l.0) }

pub same_left : (t : Tree) (gone more : Rev → Bool) (es : List (Rank × Unit {0})) → ((q : Rev) → gone q ≡ more q) → AreLeft t gone es → AreLeft t more es
same_left t gone more es same h = record { has = λ k. (λ e. let x = (h.has k).0 e in (x.0, sym (same k.rev) ∙ x.1), λ l. (h.has k).1 (l.0, same k.rev ∙ l.1)) }

module _ (t : Tree) (gone : Rev → Bool) (es : List (Rank × Unit {0})) (h : AreLeft t gone es) (r : Rev) where
  abbrev more : Rev → Bool
  more q = gone q || same_rev q r

  -- where it is no leaf
  pub left_other : is_leaf t r ≡ false → AreLeft t more es
  left_other none = record {
    has = λ k. (
      λ e.
          let x = (h.has k).0 e in (
            x.0,
            neither (gone k.rev) (same_rev k.rev r) x.1 (by_cases (same_rev k.rev r)
                (λ s. absurd (true≢false (sym (subst (λ q. is_leaf t q ≡ true) ((same_rev-equal k.rev r).0 s) x.0.leaf) ∙ none)))
                (λ s. s)),
          ),
      λ l. (h.has k).1 (l.0, or_nothing (gone k.rev) (same_rev k.rev r) l.1),
    );
  }

  -- where it is one
  pub left_without : AreLeft t more (without rank_cmp (record { deleted = is_deleted t r; rev = r }) es)
  left_without = record {
    has = λ k. by_cases (eq_by_cmp rank_cmp at k)
        (λ s. (
          λ e. absurd (true≢false (sym e ∙ ap is_some (without_same rank_cmp rank_total rank_exact at k es s))),
          λ l. absurd (true≢false (sym ((same_rev-equal k.rev r).1 (ap (λ (x : Rank). x.rev) (sym (tied rank_cmp rank_total rank_exact at k s)))) ∙ or_second (gone k.rev) (same_rev k.rev r) l.1)),
        ))
        (λ s.
        let same = ap is_some (without_other rank_cmp rank_total rank_exact at k es s) in (
          λ e. let x = (h.has k).0 (sym same ∙ e) in (x.0, neither (gone k.rev) (same_rev k.rev r) x.1 (by_cases (same_rev k.rev r) (λ y. absurd (apart k s x.0 y)) (λ y. y))),
          λ l. same ∙ (h.has k).1 (l.0, or_nothing (gone k.rev) (same_rev k.rev r) l.1),
        ));
  }
    where
      at : Rank
      at = record { deleted = is_deleted t r; rev = r }

      apart : (k : Rank) → eq_by_cmp rank_cmp at k ≡ false → IsLeafOf t (leaf_of k) → same_rev k.rev r ≡ true → ⊥
      apart k s l y =
          let here : k.rev ≡ r = (same_rev-equal k.rev r).0 y in
          let flag : is_deleted t r ≡ k.deleted = ap (is_deleted t) (sym here) ∙ l.flag in
          let same : at ≡ k = (λ i. record { deleted = flag i; rev = sym here i }) in
          true≢false (sym (subst (λ x. eq_by_cmp rank_cmp at x ≡ true) same (itself rank_cmp rank_total rank_exact at)) ∙ s)

-- ---- once the path is there

module _ (t : Tree) (f : IsForest t) (r : Rev) (rs : List Rev) (path : IsPath (r ∷ rs)) (body : Body) (deleted : Bool) (h : agrees t (r ∷ rs) ≡ true) where
  abbrev u : Tree
  u = grafted (r ∷ rs) body deleted t

  union : IsUnion r rs body deleted t u
  union = (graft-union r rs body deleted t u path).0 (graft_agreed (r ∷ rs) body deleted t h)

  outer : (l : Rev) → (has_child t l || among rs l) ≡ has_child u l
  outer l = grown_marks t r rs path body deleted f (graft_agreed (r ∷ rs) body deleted t h) l

  -- a leaf that is none of the older members is one still, with its flag
  stays : (l : Leaf) → IsLeafOf t l → among rs l.rev ≡ false → IsLeafOf u l
  stays l x off = record {
    leaf = childless_leaf u l.rev (union.known l.rev ∙ or_left (knows t l.rev) (among (r ∷ rs) l.rev) (leaf_known t l.rev x.leaf)) (sym (outer l.rev) ∙ neither (has_child t l.rev) (among rs l.rev) (leaf_childless t l.rev x.leaf) off);
    flag = same_flag l.rev x.leaf ∙ x.flag;
  }
    where
      bodied : (o : Option Body) → body_of t r ≡ o → is_some (body_of t r) ≡ true → is_deleted u r ≡ is_deleted t r
      bodied None e some = absurd (true≢false (sym some ∙ ap is_some e))
      bodied (Some b) e some = (union.had_body b e).1

      same_flag : (q : Rev) → is_leaf t q ≡ true → is_deleted u q ≡ is_deleted t q
      same_flag q leaf = by_cases (same_rev r q)
          (λ s. let e = (same_rev-equal r q).0 s in subst (λ z. is_deleted u z ≡ is_deleted t z) e (bodied (body_of t r) refl (f.bodies r (subst (λ z. is_leaf t z ≡ true) (sym e) leaf))))
          (λ s. (union.others q s).1)

  -- and each leaf but the newest was one
  was : (l : Leaf) → IsLeafOf u l → knows t l.rev ≡ true → IsLeafOf t l × (among rs l.rev ≡ false)
  was l x k =
      let none : (has_child t l.rev || among rs l.rev) ≡ false = outer l.rev ∙ leaf_childless u l.rev x.leaf in
      let leaf : is_leaf t l.rev ≡ true = childless_leaf t l.rev k (or_nothing (has_child t l.rev) (among rs l.rev) none) in
      let off : among rs l.rev ≡ false = or_second (has_child t l.rev) (among rs l.rev) none in
      let now = stays (record { deleted = is_deleted t l.rev; rev = l.rev }) (record { leaf = leaf; flag = refl }) off in
      (record { leaf = leaf; flag = sym now.flag ∙ x.flag }, off)

  new_or_known : (l : Leaf) → IsLeafOf u l → same_rev l.rev r ≡ false → knows t l.rev ≡ true
  new_or_known l x other = ⊎_elim
      (λ k. k)
      (λ m. ⊎_elim
      (λ s. absurd (true≢false (sym s ∙ other)))
      (λ s. absurd (true≢false (sym (or_right (has_child t l.rev) (among rs l.rev) s) ∙ outer l.rev ∙ leaf_childless u l.rev x.leaf)))
      (or_cases (same_rev l.rev r) (among rs l.rev) m))
      (or_cases (knows t l.rev) (among (r ∷ rs) l.rev) (sym (union.known l.rev) ∙ leaf_known u l.rev x.leaf))

  module _ (es : List (Rank × Unit {0})) (left : AreLeft t (among rs) es) where
    -- the newest was known
    pub leaves_known : knows t r ≡ true → AreLeaves u es
    leaves_known k = record {
      has = λ x. (
        λ e. let l = (left.has x).0 e in stays (leaf_of x) l.0 l.1,
        λ l. (left.has x).1 (was (leaf_of x) l (by_cases (same_rev x.rev r) (λ s. ap (knows t) ((same_rev-equal x.rev r).0 s) ∙ k) (λ s. new_or_known (leaf_of x) l s))),
      );
    }

    module _ (unknown : knows t r ≡ false) where
      abbrev at : Rank
      at = record { deleted = deleted; rev = r }

      childless : has_child t r ≡ false
      childless = by_cases (has_child t r) (λ c. let d = child_of t r c in absurd (true≢false (sym (f.parents d.child r d.parent).0 ∙ unknown))) (λ c. c)

      newest : IsLeafOf u (leaf_of at)
      newest = record {
        leaf = childless_leaf u r (union.known r ∙ or_right (knows t r) (among (r ∷ rs) r) (first_among r rs)) (sym (outer r) ∙ neither (has_child t r) (among rs r) childless (newest_apart r rs path));
        flag = (union.had_none (unknown_body t r unknown)).1;
      }

      is_newest : (k : Rank) → IsLeafOf u (leaf_of k) → same_rev k.rev r ≡ true → at ≡ k
      is_newest k l s =
          let here : k.rev ≡ r = (same_rev-equal k.rev r).0 s in
          let flag : deleted ≡ k.deleted = sym newest.flag ∙ ap (is_deleted u) (sym here) ∙ l.flag in
          (λ i. record { deleted = flag i; rev = sym here i })

      -- the newest is new
      pub leaves_new : AreLeaves u (put rank_cmp at tt es)
      leaves_new = record {
        has = λ k. by_cases (eq_by_cmp rank_cmp k at)
            (λ s.
            let same : k ≡ at = tied rank_cmp rank_total rank_exact k at s in (
              λ e. subst (λ (x : Rank). IsLeafOf u (leaf_of x)) (sym same) newest,
              λ l. subst (λ (x : Rank). is_some (find rank_cmp x (put rank_cmp at tt es)) ≡ true) (sym same) (put_itself rank_cmp rank_total rank_exact at es),
            ))
            (λ s. (
              λ e. let l = (left.has k).0 (put_other rank_cmp rank_total rank_exact at k es s e) in stays (leaf_of k) l.0 l.1,
              λ l. put_there rank_cmp rank_total rank_exact at k es ((left.has k).1 (was (leaf_of k) l (new_or_known (leaf_of k) l (by_cases (same_rev k.rev r)
                  (λ y. absurd (true≢false (sym (subst (λ (x : Rank). eq_by_cmp rank_cmp x at ≡ true) (is_newest k l y) (itself rank_cmp rank_total rank_exact at)) ∙ s)))
                  (λ y. y))))),
            ));
      }

-- ---- one leaf

module _ (t : Tree) (f : IsForest t) (r : Rev) (rs : List Rev) (path : IsPath (r ∷ rs)) (body : Body) (deleted : Bool) (h : agrees t (r ∷ rs) ≡ true) where
  -- the newest was known, so no leaf is new
  pub one_known : knows t r ≡ true → HasOneLeaf t → HasOneLeaf (grafted (r ∷ rs) body deleted t)
  one_known k one l m x y = one l m (old l x) (old m y)
    where
      old : (q : Rev) → is_leaf (grafted (r ∷ rs) body deleted t) q ≡ true → is_leaf t q ≡ true
      old q leaf =
          let there : IsLeafOf (grafted (r ∷ rs) body deleted t) (record { deleted = is_deleted (grafted (r ∷ rs) body deleted t) q; rev = q }) = record { leaf = leaf; flag = refl } in
          (was t f r rs path body deleted h (record { deleted = is_deleted (grafted (r ∷ rs) body deleted t) q; rev = q }) there (by_cases (same_rev q r)
          (λ s. ap (knows t) ((same_rev-equal q r).0 s) ∙ k)
          (λ s. new_or_known t f r rs path body deleted h (record { deleted = is_deleted (grafted (r ∷ rs) body deleted t) q; rev = q }) there s))).0.leaf
