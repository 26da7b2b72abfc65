-- The tests of bodies and of trees decide their equality.
use Rattle.std.specs.Prelude.{◌≡◌, ◌↔◌, Bool, true, false, ◌&&◌, List, [], ◌∷◌, Option, Some, None, refl}
use Rattle.std.specs.Option.{option_eq}
use Rattle.std.specs.Bool.{beq}
use Rattle.std.specs.Cmp.Lexicographic.{pointwise}
use Rattle.std.proofs.Common.{sym, ap, subst, eqb-true, eq-eqb}
use Rattle.std.proofs.lemmas.Bool.{true≢false, and_parts, and_from}
use base.Stored.{Gv, gnil, gnum, gcons}
use Rattle.model.specs.JsonCode.{members_code, members_inj}
use Rattle.model.specs.Body.{Body, same_code, same_body}
use Rattle.model.specs.Map.{entries, same_list, same_key-equal, same_key_itself}
use Rattle.model.specs.Revision.{Rev, revs, same_rev}
use Rattle.model.specs.Tree.{Tree, Revision}
use Rattle.model.specs.Database.{same_revision, same_entry, same_tree}

-- ---- flags, lists and options

beq-equal : (a b : Bool) → beq a b ≡ true → a ≡ b
beq-equal true true h = refl
beq-equal true false h = sym h
beq-equal false true h = h
beq-equal false false h = refl

beq_itself : (a : Bool) → beq a a ≡ true
beq_itself true = refl
beq_itself false = refl

module _ {A : Type 0} (E : A → A → Bool) where
  pointwise-equal : ((x y : A) → E x y ≡ true → x ≡ y) → (xs ys : List A) → pointwise E xs ys ≡ true → xs ≡ ys
  pointwise-equal d [] [] h = refl
  pointwise-equal d [] (y ∷ ys) h = absurd (true≢false (sym h))
  pointwise-equal d (x ∷ xs) [] h = absurd (true≢false (sym h))
  pointwise-equal d (x ∷ xs) (y ∷ ys) h = let p = and_parts _ _ h in λ i. d x y p.0 i ∷ pointwise-equal d xs ys p.1 i

  pointwise_itself : ((x : A) → E x x ≡ true) → (xs : List A) → pointwise E xs xs ≡ true
  pointwise_itself d [] = refl
  pointwise_itself d (x ∷ xs) = and_from _ _ (d x) (pointwise_itself d xs)

  option_eq-equal : ((x y : A) → E x y ≡ true → x ≡ y) → (o p : Option A) → option_eq E o p ≡ true → o ≡ p
  option_eq-equal d None None h = refl
  option_eq-equal d None (Some y) h = absurd (true≢false (sym h))
  option_eq-equal d (Some x) None h = absurd (true≢false (sym h))
  option_eq-equal d (Some x) (Some y) h = ap Some (d x y h)

  option_eq_itself : ((x : A) → E x x ≡ true) → (o : Option A) → option_eq E o o ≡ true
  option_eq_itself d None = refl
  option_eq_itself d (Some x) = d x

-- ---- bodies

same_code-equal : (x y : Gv) → same_code x y ≡ true → x ≡ y
same_code-equal gnil gnil h = refl
same_code-equal (gnum m) (gnum n) h = ap gnum (eqb-true m n h)
same_code-equal (gcons a b) (gcons c d) h = let p = and_parts _ _ h in λ i. gcons (same_code-equal a c p.0 i) (same_code-equal b d p.1 i)
same_code-equal x y h = absurd (true≢false (sym h))

same_code_itself : (x : Gv) → same_code x x ≡ true
same_code_itself gnil = refl
same_code_itself (gnum n) = eq-eqb n n refl
same_code_itself (gcons a b) = and_from _ _ (same_code_itself a) (same_code_itself b)

body_equal : (a b : Body) → same_body a b ≡ true → a ≡ b
unfolding same_body
body_equal a b h = members_inj a b (same_code-equal _ _ h)

body_itself : (a : Body) → same_body a a ≡ true
unfolding same_body
body_itself a = same_code_itself (members_code a)

pub same_body-equal : (a b : Body) → (same_body a b ≡ true) ↔ (a ≡ b)
same_body-equal a b = (body_equal a b, λ e. subst (λ c. same_body a c ≡ true) e (body_itself a))

-- ---- trees

revision_equal : (v w : Revision) → same_revision v w ≡ true → v ≡ w
revision_equal v w h =
    let outer = and_parts (option_eq same_rev v.parent w.parent && beq v.deleted w.deleted) _ h in
    let inner = and_parts (option_eq same_rev v.parent w.parent) _ outer.0 in
    let parent = option_eq-equal same_rev (same_key-equal revs) v.parent w.parent inner.0 in
    let body = option_eq-equal same_body body_equal v.body w.body outer.1 in
    λ i. record { parent = parent i; deleted = beq-equal v.deleted w.deleted inner.1 i; body = body i }

revision_itself : (v : Revision) → same_revision v v ≡ true
revision_itself v = and_from _ _ (and_from _ _ (option_eq_itself same_rev (same_key_itself revs) v.parent) (beq_itself v.deleted)) (option_eq_itself same_body body_itself v.body)

entry_equal : (a b : Rev × Revision) → same_entry a b ≡ true → a ≡ b
entry_equal a b e = let p = and_parts _ _ e in λ i. (same_key-equal revs a.0 b.0 p.0 i, revision_equal a.1 b.1 p.1 i)

tree_equal : (s t : Tree) → same_tree s t ≡ true → s ≡ t
unfolding same_tree
tree_equal s t h = same_list s t (pointwise-equal same_entry entry_equal (entries s) (entries t) h)

tree_itself : (t : Tree) → same_tree t t ≡ true
unfolding same_tree
tree_itself t = pointwise_itself same_entry (λ a. and_from _ _ (same_key_itself revs a.0) (revision_itself a.1)) (entries t)

pub same_tree-equal : (s t : Tree) → (same_tree s t ≡ true) ↔ (s ≡ t)
same_tree-equal s t = (tree_equal s t, λ e. subst (λ u. same_tree s u ≡ true) e (tree_itself s))
