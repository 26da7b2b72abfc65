-- What is left where leaves are cut, while their runs go one by one.
use Rattle.std.specs.Prelude.{◌≡◌, ◌↔◌, ℕ, zero, suc, ◌&&◌, Bool, true, false, not, List, Option, Some, None, option_and_then, refl}
use Rattle.std.specs.Cmp.{both_ways}
use Rattle.std.proofs.Common.{sym, ap, subst, ◌∙◌}
use Rattle.std.proofs.lemmas.Bool.{true≢false, and_from, and_parts}
use Rattle.std.proofs.lemmas.Option.{same_Some}
use Rattle.model.specs.Revision.{Rev}
use Rattle.model.specs.Tree.{Tree, IsForest, IsLeafOf, Leaf, among, ancestor, has_child, is_deleted, is_leaf, knows, parent_of, path_of}
use Rattle.model.specs.TreeChange.{IsHeld, IsRestriction, cut}
use Rattle.model.proofs.AncestorLaws.{ancestor-suc}
use Rattle.model.proofs.CutLaws.{cut-None, cut-restriction, held_known}
use Rattle.model.proofs.ListLaws.{by_cases}
use Rattle.model.proofs.RestrictLaws.{IsForest-restriction, IsLeafOf-restriction, IsRestriction-restrict}
use Rattle.model.proofs.TreeLaws.{child_of, knows_child, leaf_known, no_parent_of_leaf}
use Rattle.revision_runs.specs.Runs.{RunMap}
use Rattle.revision_runs.specs.TreeRuns.{AreRuns, IsOneChild, IsWay}
use Rattle.revision_runs.specs.Changes.{IsCleared, IsLoneRun, cleared_of, orphaned}
use Rattle.revision_runs.proofs.Clearing.{off_child, off_parent, on_between}
use Rattle.revision_runs.proofs.Climbing.{way_last}
use Rattle.revision_runs.proofs.Loosening.{leads_was, leaf_same, step_to}
use Rattle.revision_runs.proofs.Moving.{other_of}
use Rattle.revision_runs.proofs.Steps.{IsForest-orphaned, body_of-orphaned, flag_of-orphaned, parent_had, parent_other}

-- ---- a child of a fork from which no leaf that stays descends

module _ (t : Tree) (f : IsForest t) (c p : Rev) (two : IsOneChild t p c) (named : List Rev) (gone : IsHeld named t c → ⊥) where
  abbrev u : Tree
  u = orphaned c t

  after : IsForest u
  after = IsForest-orphaned t c f p two

  leads_stays : (n : ℕ) (l r : Rev) → is_leaf t l ≡ true → among named l ≡ false → ancestor t n (Some l) ≡ Some r → ancestor u n (Some l) ≡ Some r
  leads_stays zero l r leaf stays e = e
  leads_stays (suc n) l r leaf stays e =
      let s = step_to t n l r e in
      ancestor-suc u n (Some l) ∙ ap (option_and_then (parent_of u)) (leads_stays n l s.child leaf stays s.leads)
      ∙ parent_other t c s.child (other_of s.child c (λ same. gone (record { leaf = l; at_leaf = leaf; stays = stays; steps = n; leads = s.leads ∙ ap (λ q. Some q) same })))
      ∙ s.parent

  held_was : (r : Rev) → IsHeld named u r → IsHeld named t r
  held_was r h = record { leaf = h.leaf; at_leaf = (leaf_same t f c p two h.leaf).0 h.at_leaf; stays = h.stays; steps = h.steps; leads = leads_was t f c p two h.steps h.leaf r h.leads }

  held_stays : (r : Rev) → IsHeld named t r → IsHeld named u r
  held_stays r h = record { leaf = h.leaf; at_leaf = (leaf_same t f c p two h.leaf).1 h.at_leaf; stays = h.stays; steps = h.steps; leads = leads_stays h.steps h.leaf r h.at_leaf h.stays h.leads }

  held_same : (v : Tree) → IsRestriction (IsHeld named u) u v → IsRestriction (IsHeld named t) t v
  held_same v k = record {
    known = λ r. (λ e. held_was r ((k.known r).0 e), λ x. (k.known r).1 (held_stays r x));
    parents = λ d q. (
      λ e. let a = (k.parents d q).0 e in ((parent_had t c d q a.0).1, held_was d a.1, held_was q a.2),
      λ a. (k.parents d q).1 (parent_other t c d (other_of d c (λ same. gone (subst (IsHeld named t) same a.1))) ∙ a.0, held_stays d a.1, held_stays q a.2),
    );
    bodies = λ r x. k.bodies r (held_stays r x) ∙ body_of-orphaned t c r;
    flags = λ r x. k.flags r (held_stays r x) ∙ flag_of-orphaned t c r;
  }

  pub cut_orphaned : cut named u ≡ cut named t
  cut_orphaned = at (cut named u) refl
    where
      at : (o : Option Tree) → cut named u ≡ o → cut named u ≡ cut named t
      at None e = e ∙ sym ((cut-None named t).1 (λ r leaf. (cut-None named u).0 e r ((leaf_same t f c p two r).1 leaf)))
      at (Some v) e =
          let k = (cut-restriction named u after v).0 e in
          e ∙ sym ((cut-restriction named t f v).1 (held_same v k.0, k.1))

-- ---- a root's run that ends in a named leaf

module _ (t : Tree) (leaf : Rev) (f : IsForest t) (at_leaf : is_leaf t leaf ≡ true) (runs : RunMap) (h : AreRuns t runs) (top : Rev) (lone : IsLoneRun runs leaf top) where
  abbrev Stays : Rev → Type 0
  Stays q = (knows t q ≡ true) × (among (path_of t leaf) q ≡ false)

  abbrev v : Tree
  v = cleared_of leaf t

  is_off : (b : Bool) → not b ≡ true → b ≡ false
  is_off true e = absurd (true≢false (sym e))
  is_off false e = refl

  restriction : IsRestriction Stays t v
  unfolding cleared_of
  restriction = IsRestriction-restrict (λ r. not (among (path_of t leaf) r)) t Stays f (λ r. (λ k. (k.1, is_off (among (path_of t leaf) r) k.0), λ k. (ap not k.1, k.0)))

  child_off : (d q : Rev) → among (path_of t leaf) q ≡ false → parent_of t d ≡ Some q → among (path_of t leaf) d ≡ false
  child_off d q off up = off_child t leaf f at_leaf runs h top lone d q off up

  pub cleared : IsCleared t v leaf
  cleared = record {
    at_leaf = at_leaf;
    known = λ q. both_ways (knows v q) (knows t q && not (among (path_of t leaf) q))
        (λ k. let x = (restriction.known q).0 k in and_from (knows t q) (not (among (path_of t leaf) q)) x.0 (ap not x.1))
        (λ k. let x = and_parts (knows t q) (not (among (path_of t leaf) q)) k in (restriction.known q).1 (x.0, is_off (among (path_of t leaf) q) x.1));
    parents = λ q p. (
      λ up. let x = (restriction.parents q p).0 up in (x.0, x.2.1),
      λ x. (restriction.parents q p).1 (x.0, (knows_child t q p x.0, child_off q p x.1 x.0), ((f.parents q p x.0).0, x.1)),
    );
  }

  below : (r : Rev) → Stays r → has_child t r ≡ true → (c : Rev) × (parent_of t c ≡ Some r) × Stays c
  below r k has = let d = child_of t r has in (d.child, d.parent, (knows_child t d.child r d.parent, child_off d.child r k.1 d.parent))

  pub cleared_forest : IsForest v
  cleared_forest = IsForest-restriction Stays t v restriction f (λ r k. k.0) below

  -- its leaves are the others
  pub leaf_of_cleared : (l : Leaf) → IsLeafOf v l ↔ (Stays l.rev × IsLeafOf t l)
  leaf_of_cleared = IsLeafOf-restriction Stays t v restriction f (λ r k. k.0) below

  -- of the run only the leaf is one
  only_leaf : (q : Rev) → is_leaf t q ≡ true → among (path_of t leaf) q ≡ true → q ≡ leaf
  only_leaf q l on = at (on_between t leaf f at_leaf runs h top lone q on).below (on_between t leaf f at_leaf runs h top lone q on).down
    where
      at : (n : ℕ) → IsWay t n leaf q → q ≡ leaf
      at zero down = sym down
      at (suc n) down = let x = way_last t n leaf q down in absurd (no_parent_of_leaf t q x.child l x.only.child)

  module _ (named : List Rev) (is_named : among named leaf ≡ true) where
    leads_back : (n : ℕ) (l r : Rev) → ancestor v n (Some l) ≡ Some r → ancestor t n (Some l) ≡ Some r
    leads_back zero l r e = e
    leads_back (suc n) l r e =
        let s = step_to v n l r e in
        ancestor-suc t n (Some l) ∙ ap (option_and_then (parent_of t)) (leads_back n l s.child s.leads) ∙ ((restriction.parents s.child r).0 s.parent).0

    leads_on_off : (n : ℕ) (l r : Rev) → among (path_of t leaf) l ≡ false → ancestor t n (Some l) ≡ Some r → (ancestor v n (Some l) ≡ Some r) × (among (path_of t leaf) r ≡ false)
    leads_on_off zero l r off e = (e, subst (λ q. among (path_of t leaf) q ≡ false) (same_Some l r e) off)
    leads_on_off (suc n) l r off e =
        let s = step_to t n l r e in
        let x = leads_on_off n l s.child off s.leads in
        let end = off_parent t leaf f at_leaf runs h top lone s.child r x.1 s.parent in
        let up = (restriction.parents s.child r).1 (s.parent, (knows_child t s.child r s.parent, x.1), ((f.parents s.child r s.parent).0, end)) in
        (ancestor-suc v n (Some l) ∙ ap (option_and_then (parent_of v)) x.0 ∙ up, end)

    was_leaf : (q : Rev) → is_leaf v q ≡ true → is_leaf t q ≡ true
    was_leaf q l = ((leaf_of_cleared (record { deleted = is_deleted v q; rev = q })).0 (record { leaf = l; flag = refl })).1.leaf

    held_back : (r : Rev) → IsHeld named v r → IsHeld named t r
    held_back r x = record { leaf = x.leaf; at_leaf = was_leaf x.leaf x.at_leaf; stays = x.stays; steps = x.steps; leads = leads_back x.steps x.leaf r x.leads }

    off_leaf : (q : Rev) → is_leaf t q ≡ true → among named q ≡ false → among (path_of t leaf) q ≡ false
    off_leaf q l stays = by_cases (among (path_of t leaf) q)
        (λ on. absurd (true≢false (sym (ap (among named) (only_leaf q l on) ∙ is_named) ∙ stays)))
        (λ off. off)

    held_on : (r : Rev) → IsHeld named t r → IsHeld named v r × Stays r
    held_on r x =
        let off = off_leaf x.leaf x.at_leaf x.stays in
        let way = leads_on_off x.steps x.leaf r off x.leads in (
          record {
            leaf = x.leaf;
            at_leaf = ((leaf_of_cleared (record { deleted = is_deleted t x.leaf; rev = x.leaf })).1 ((leaf_known t x.leaf x.at_leaf, off), record { leaf = x.at_leaf; flag = refl })).leaf;
            stays = x.stays;
            steps = x.steps;
            leads = way.0;
          },
          (held_known named t f r x, way.1),
        )

    cleared_same : (w : Tree) → IsRestriction (IsHeld named v) v w → IsRestriction (IsHeld named t) t w
    cleared_same w k = record {
      known = λ r. (λ e. held_back r ((k.known r).0 e), λ x. (k.known r).1 (held_on r x).0);
      parents = λ d q. (
        λ e. let a = (k.parents d q).0 e in (((restriction.parents d q).0 a.0).0, held_back d a.1, held_back q a.2),
        λ a. (k.parents d q).1 ((restriction.parents d q).1 (a.0, (held_on d a.1).1, (held_on q a.2).1), (held_on d a.1).0, (held_on q a.2).0),
      );
      bodies = λ r x. let y = held_on r x in k.bodies r y.0 ∙ restriction.bodies r y.1;
      flags = λ r x. let y = held_on r x in k.flags r y.0 ∙ restriction.flags r y.1;
    }

    pub cut_cleared : cut named v ≡ cut named t
    cut_cleared = at (cut named v) refl
      where
        at : (o : Option Tree) → cut named v ≡ o → cut named v ≡ cut named t
        at None e = e ∙ sym ((cut-None named t).1 (λ r l. by_cases (among named r)
            (λ n. n)
            (λ stays.
            let off = off_leaf r l stays in
            (cut-None named v).0 e r ((leaf_of_cleared (record { deleted = is_deleted t r; rev = r })).1 ((leaf_known t r l, off), record { leaf = l; flag = refl })).leaf)))
        at (Some w) e =
            let k = (cut-restriction named v cleared_forest w).0 e in
            e ∙ sym ((cut-restriction named t f w).1 (cleared_same w k.0, k.1))
