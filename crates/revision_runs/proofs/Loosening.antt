-- A tree in which one child of a fork has lost its parent: what is far from the leaves there stays so, and a stem is the same.
use Rattle.std.specs.Prelude.{◌≡◌, ◌↔◌, ℕ, zero, suc, ◌<◌, ◌≤◌, true, false, Option, Some, None, option_and_then, refl}
use Rattle.std.specs.Cmp.{both_ways}
use Rattle.std.proofs.Common.{sym, ap, subst, ◌∙◌, arith}
use Rattle.std.proofs.lemmas.Bool.{true≢false}
use Rattle.std.proofs.lemmas.Option.{none-some, same_Some}
use Rattle.model.specs.Map.{same_key-equal}
use Rattle.model.specs.Revision.{Rev, revs, same_rev}
use Rattle.model.specs.Tree.{Tree, IsForest, IsLeafOf, IsNear, Leaf, ancestor, has_child, is_leaf, parent_of}
use Rattle.model.specs.TreeChange.{IsRestriction, stem}
use Rattle.model.proofs.AncestorLaws.{ancestor-suc}
use Rattle.model.proofs.ListLaws.{by_cases}
use Rattle.model.proofs.StemLaws.{near_known, stem-restriction}
use Rattle.model.proofs.TreeLaws.{child_of, has_child-parent, is_leaf-childless}
use Rattle.revision_runs.specs.TreeRuns.{IsOneChild}
use Rattle.revision_runs.specs.Changes.{orphaned}
use Rattle.revision_runs.proofs.Moving.{other_of}
use Rattle.revision_runs.proofs.Steps.{IsForest-orphaned, body_of-orphaned, flag_of-orphaned, knows-orphaned, parent_had, parent_other}

-- the step before the last of a way
pub record IsStepTo (t : Tree) (n : ℕ) (l r : Rev) : Type 0 where
  pub child : Rev
  pub leads : ancestor t n (Some l) ≡ Some child
  pub parent : parent_of t child ≡ Some r

pub step_to : (t : Tree) (n : ℕ) (l r : Rev) → ancestor t (suc n) (Some l) ≡ Some r → IsStepTo t n l r
step_to t n l r e = at (ancestor t n (Some l)) refl (sym (ancestor-suc t n (Some l)) ∙ e)
  where
    at : (o : Option Rev) → ancestor t n (Some l) ≡ o → option_and_then (parent_of t) o ≡ Some r → IsStepTo t n l r
    at None is e = absurd (none-some r e)
    at (Some c) is e = record { child = c; leads = is; parent = e }

module _ (t : Tree) (f : IsForest t) (c p : Rev) (two : IsOneChild t p c) where
  abbrev u : Tree
  u = orphaned c t

  after : IsForest u
  after = IsForest-orphaned t c f p two

  pub leaf_same : (r : Rev) → (is_leaf u r ≡ true) ↔ (is_leaf t r ≡ true)
  leaf_same r = (
    λ leaf.
        let h = (is_leaf-childless u r).0 leaf in
        (is_leaf-childless t r).1 (
          sym (knows-orphaned t c r) ∙ h.0,
          λ d up. by_cases (same_rev d c)
              (λ s.
              let here : parent_of t c ≡ Some r = ap (parent_of t) (sym (same_key-equal revs d c s)) ∙ up in
              h.1 two.other (parent_other t c two.other (other_of two.other c two.apart) ∙ two.sibling ∙ sym two.child ∙ here))
              (λ s. h.1 d (parent_other t c d s ∙ up)),
        ),
    λ leaf.
        let h = (is_leaf-childless t r).0 leaf in
        (is_leaf-childless u r).1 (knows-orphaned t c r ∙ h.0, λ d up. h.1 d (parent_had t c d r up).1),
  )

  pub children_same : (r : Rev) → has_child u r ≡ has_child t r
  children_same r = both_ways (has_child u r) (has_child t r)
      (λ h. let d = child_of u r h in has_child-parent t r d.child (parent_had t c d.child r d.parent).1)
      (λ h.
      let d = child_of t r h in
      by_cases (same_rev d.child c)
      (λ s.
      let here : parent_of t c ≡ Some r = ap (parent_of t) (sym (same_key-equal revs d.child c s)) ∙ d.parent in
      has_child-parent u r two.other (parent_other t c two.other (other_of two.other c two.apart) ∙ two.sibling ∙ sym two.child ∙ here))
      (λ s. has_child-parent u r d.child (parent_other t c d.child s ∙ d.parent)))

  pub leaf_of_same : (l : Leaf) → IsLeafOf u l ↔ IsLeafOf t l
  leaf_of_same l = (
    λ h. record { leaf = (leaf_same l.rev).0 h.leaf; flag = sym (flag_of-orphaned t c l.rev) ∙ h.flag },
    λ h. record { leaf = (leaf_same l.rev).1 h.leaf; flag = flag_of-orphaned t c l.rev ∙ h.flag },
  )

  pub leads_was : (n : ℕ) (l r : Rev) → ancestor u n (Some l) ≡ Some r → ancestor t n (Some l) ≡ Some r
  leads_was zero l r e = e
  leads_was (suc n) l r e =
      let s = step_to u n l r e in
      ancestor-suc t n (Some l) ∙ ap (option_and_then (parent_of t)) (leads_was n l s.child s.leads) ∙ (parent_had t c s.child r s.parent).1

  near_was : (n : ℕ) (r : Rev) → IsNear n u r → IsNear n t r
  near_was n r h = record { leaf = h.leaf; at_leaf = (leaf_same h.leaf).0 h.at_leaf; steps = h.steps; few = h.few; leads = leads_was h.steps h.leaf r h.leads }

  -- no short way leads over the link that went
  module _ (limit : ℕ) (far : IsNear limit t c → IsNear limit t p → ⊥) where
    leads_stays : (n : ℕ) (l r : Rev) → is_leaf t l ≡ true → n < limit → ancestor t n (Some l) ≡ Some r → ancestor u n (Some l) ≡ Some r
    leads_stays zero l r leaf few e = e
    leads_stays (suc n) l r leaf few e =
        let s = step_to t n l r e in
        ancestor-suc u n (Some l) ∙ ap (option_and_then (parent_of u)) (leads_stays n l s.child leaf (omega (arith, few)) s.leads)
        ∙ parent_other t c s.child (other_of s.child c (λ same.
        let here : parent_of t c ≡ Some r = ap (parent_of t) (sym same) ∙ s.parent in
        let over : r ≡ p = same_Some r p (sym here ∙ two.child) in
        far (record { leaf = l; at_leaf = leaf; steps = n; few = omega (arith, few); leads = s.leads ∙ ap (λ q. Some q) same })
        (record { leaf = l; at_leaf = leaf; steps = suc n; few = few; leads = e ∙ ap (λ q. Some q) over })))
        ∙ s.parent

    near_stays : (r : Rev) → IsNear limit t r → IsNear limit u r
    near_stays r h = record { leaf = h.leaf; at_leaf = (leaf_same h.leaf).1 h.at_leaf; steps = h.steps; few = h.few; leads = leads_stays h.steps h.leaf r h.at_leaf h.few h.leads }

    link_stays : (d q : Rev) → parent_of t d ≡ Some q → IsNear limit t d → IsNear limit t q → parent_of u d ≡ Some q
    link_stays d q up near above = parent_other t c d (other_of d c (λ same.
        let over : q ≡ p = same_Some q p (sym up ∙ ap (parent_of t) same ∙ two.child) in
        far (subst (IsNear limit t) same near) (subst (IsNear limit t) over above))) ∙ up

    stems : IsRestriction (IsNear limit u) u (stem limit u)
    stems = (stem-restriction limit u after (stem limit u)).0 refl

    stems_whole : IsRestriction (IsNear limit t) t (stem limit u)
    stems_whole = record {
      known = λ r. (λ k. near_was limit r ((stems.known r).0 k), λ x. (stems.known r).1 (near_stays r x));
      parents = λ d q. (
        λ e. let a = (stems.parents d q).0 e in ((parent_had t c d q a.0).1, near_was limit d a.1, near_was limit q a.2),
        λ a. (stems.parents d q).1 (link_stays d q a.0 a.1 a.2, near_stays d a.1, near_stays q a.2),
      );
      bodies = λ r x. stems.bodies r (near_stays r x) ∙ body_of-orphaned t c r;
      flags = λ r x. stems.flags r (near_stays r x) ∙ flag_of-orphaned t c r;
    }

    pub stem_orphaned : stem limit u ≡ stem limit t
    stem_orphaned = sym ((stem-restriction limit t f (stem limit u)).1 stems_whole)
