-- Laws of trees: parents and children, and when two trees are equal.
use Rattle.std.specs.Prelude.{◌≡◌, ◌≢◌, ◌↔◌, Bool, true, false, not, ◌&&◌, Option, Some, None, is_some, option_map, option_and_then, unwrap_or, refl}
use Rattle.std.specs.Cmp.{both_ways}
use Rattle.std.proofs.Common.{sym, ap, ◌∙◌}
use Rattle.std.proofs.lemmas.Bool.{true≢false, and_parts, not-true}
use Rattle.std.proofs.lemmas.Option.{none-some, same_Some}
use Rattle.model.specs.Map.{empty, get, entries, same_map}
use Rattle.model.specs.Body.{Body}
use Rattle.model.specs.Revision.{Rev, revs, same_rev-equal}
use Rattle.model.specs.Tree.{Revision, Tree, IsForest, IsInRange, knows, parent_of, body_of, is_deleted, is_at, has_child, is_leaf}
use Rattle.model.proofs.ListLaws.{by_cases, passing_of, any_passing}
use Rattle.model.proofs.MapLaws.{Contains-entries}

-- ---- what a look-up says

abbrev pub parent_in : Option Revision → Option Rev
parent_in o = option_and_then (λ v. v.parent) o

abbrev pub body_in : Option Revision → Option Body
body_in o = option_and_then (λ v. v.body) o

abbrev pub flag_in : Option Revision → Bool
flag_in o = unwrap_or (option_map (λ v. v.deleted) o) false

-- what a change keeps of each revision it keeps of a look-up
pub kept_by : {A : Type 0} (said : Option Revision → A) (f : Revision → Revision) → ((v : Revision) → said (Some (f v)) ≡ said (Some v))
    → (o : Option Revision) → said (option_map f o) ≡ said o
kept_by said f h None = refl
kept_by said f h (Some v) = h v

-- ---- parents and children

pub is_at-equal : (o : Option Rev) (r : Rev) → (is_at o r ≡ true) ↔ (o ≡ Some r)
is_at-equal None r = (λ h. absurd (true≢false (sym h)), λ e. absurd (none-some r e))
is_at-equal (Some p) r = (λ h. ap Some ((same_rev-equal p r).0 h), λ e. (same_rev-equal p r).1 (same_Some p r e))

-- a known revision and what the tree has of it
pub record Known (t : Tree) (r : Rev) : Type 0 where
  pub revision : Revision
  pub got : get t r ≡ Some revision

pub known_of : (t : Tree) (r : Rev) → knows t r ≡ true → Known t r
known_of t r h = at (get t r) refl h
  where
    at : (o : Option Revision) → get t r ≡ o → is_some o ≡ true → Known t r
    at None e h = absurd (true≢false (sym h))
    at (Some v) e h = record { revision = v; got = e }

pub knows_child : (t : Tree) (r p : Rev) → parent_of t r ≡ Some p → knows t r ≡ true
knows_child t r p e = at (get t r) e
  where
    at : (o : Option Revision) → parent_in o ≡ Some p → is_some o ≡ true
    at None e = absurd (none-some p e)
    at (Some v) e = refl

pub knows_bodied : (t : Tree) (r : Rev) (b : Body) → body_of t r ≡ Some b → knows t r ≡ true
knows_bodied t r b e = at (get t r) e
  where
    at : (o : Option Revision) → body_in o ≡ Some b → is_some o ≡ true
    at None e = absurd (none-some b e)
    at (Some v) e = refl

-- nothing is said of an unknown revision
pub unknown_body : (t : Tree) (r : Rev) → knows t r ≡ false → body_of t r ≡ None
unknown_body t r k = at (get t r) k
  where
    at : (o : Option Revision) → is_some o ≡ false → body_in o ≡ None
    at None k = refl
    at (Some v) k = absurd (true≢false k)

pub unknown_flag : (t : Tree) (r : Rev) → knows t r ≡ false → is_deleted t r ≡ false
unknown_flag t r k = at (get t r) k
  where
    at : (o : Option Revision) → is_some o ≡ false → flag_in o ≡ false
    at None k = refl
    at (Some v) k = absurd (true≢false k)

pub record Child (t : Tree) (r : Rev) : Type 0 where
  pub child : Rev
  pub parent : parent_of t child ≡ Some r

pub has_child-parent : (t : Tree) (r c : Rev) → parent_of t c ≡ Some r → has_child t r ≡ true
unfolding has_child
has_child-parent t r c e =
    let k = known_of t c (knows_child t c r e) in
    let at = (is_at-equal k.revision.parent r).1 (ap parent_in (sym k.got) ∙ e) in
    any_passing (λ e. is_at e.1.parent r) (entries t) (c, k.revision) ((Contains-entries revs t c k.revision).1 k.got) at

pub child_of : (t : Tree) (r : Rev) → has_child t r ≡ true → Child t r
unfolding has_child
child_of t r h =
    let p = passing_of (λ e. is_at e.1.parent r) (entries t) h in
    let got = (Contains-entries revs t p.element.0 p.element.1).0 p.listed in
    record { child = p.element.0; parent = ap parent_in got ∙ (is_at-equal p.element.1.parent r).0 p.passes }

pub leaf_known : (t : Tree) (r : Rev) → is_leaf t r ≡ true → knows t r ≡ true
leaf_known t r h = (and_parts _ _ h).0

pub leaf_childless : (t : Tree) (r : Rev) → is_leaf t r ≡ true → has_child t r ≡ false
leaf_childless t r h = not-true _ ((and_parts (knows t r) (not (has_child t r)) h).1)

pub childless_leaf : (t : Tree) (r : Rev) → knows t r ≡ true → has_child t r ≡ false → is_leaf t r ≡ true
childless_leaf t r k c = λ i. k i && not (c i)

pub no_parent_of_leaf : (t : Tree) (r c : Rev) → is_leaf t r ≡ true → parent_of t c ≡ Some r → ⊥
no_parent_of_leaf t r c l e = true≢false (sym (has_child-parent t r c e) ∙ leaf_childless t r l)

pub has_child-child : (t : Tree) (r : Rev) → (has_child t r ≡ true) ↔ ((c : Rev) × (parent_of t c ≡ Some r))
has_child-child t r = (λ h. let c = child_of t r h in (c.child, c.parent), λ c. has_child-parent t r c.0 c.1)

pub is_leaf-childless : (t : Tree) (r : Rev) → (is_leaf t r ≡ true) ↔ ((knows t r ≡ true) × ((c : Rev) → parent_of t c ≢ Some r))
is_leaf-childless t r = (
  λ l. (leaf_known t r l, λ c e. no_parent_of_leaf t r c l e),
  λ h. childless_leaf t r h.0 (by_cases (has_child t r) (λ c. let d = child_of t r c in absurd (h.1 d.child d.parent)) (λ n. n)),
)

-- ---- trees that know the same revisions with the same parents

module _ (s t : Tree) (known : (r : Rev) → knows s r ≡ knows t r) (parents : (r : Rev) → parent_of s r ≡ parent_of t r) where
  pub same_children : (r : Rev) → has_child s r ≡ has_child t r
  same_children r = both_ways _ _
      (λ h. let c = child_of s r h in has_child-parent t r c.child (sym (parents c.child) ∙ c.parent))
      (λ h. let c = child_of t r h in has_child-parent s r c.child (parents c.child ∙ c.parent))

  pub same_leaf_test : (r : Rev) → is_leaf s r ≡ is_leaf t r
  same_leaf_test r = λ i. known r i && not (same_children r i)

  -- and the same bodies and flags
  pub same_trees : ((r : Rev) → body_of s r ≡ body_of t r) → ((r : Rev) → is_deleted s r ≡ is_deleted t r) → s ≡ t
  same_trees bodies flags = same_map s t (λ r. same (get s r) (get t r) (known r) (parents r) (bodies r) (flags r))
    where
      same : (o p : Option Revision) → is_some o ≡ is_some p → parent_in o ≡ parent_in p → body_in o ≡ body_in p
          → flag_in o ≡ flag_in p → o ≡ p
      same None None k p b d = refl
      same None (Some w) k p b d = absurd (true≢false (sym k))
      same (Some v) None k p b d = absurd (true≢false k)
      same (Some v) (Some w) k p b d = λ i. Some (record { parent = p i; deleted = d i; body = b i })

-- ---- the empty tree

pub IsForest-empty : IsForest empty
IsForest-empty = record {
  parents = λ r p e. absurd (none-some p e);
  generations = λ r k. absurd (true≢false (sym k));
  bodies = λ r l. absurd (true≢false (sym l));
}

pub IsInRange-empty : IsInRange empty
IsInRange-empty = record { known = λ r k. absurd (true≢false (sym k)); body = λ r b e. absurd (none-some b e) }
