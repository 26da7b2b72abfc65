-- What is reached from a leaf by parent steps: each known revision is, and so a document's tree has a winner.
use Rattle.std.specs.Prelude.{◌≡◌, ◌⊎◌, ℕ, zero, suc, ◌+◌, ◌<◌, ◌≤◌, max, true, List, [], ◌∷◌, Option, Some, None, option_and_then, All, Contains, refl}
use Rattle.std.proofs.Common.{⊎_elim, inl, inr, sym, ap, subst, ◌∙◌, arith}
use Rattle.std.proofs.lemmas.Bool.{true≢false}
use Rattle.std.proofs.lemmas.Option.{none-some, same_Some}
use Rattle.std.proofs.lemmas.List.Elements.{All-nil, All-cons, All-weaker, All-contains}
use Rattle.model.specs.Lists.{first_of}
use Rattle.model.specs.Map.{entries}
use Rattle.model.specs.Revision.{Rev, revs}
use Rattle.model.specs.Tree.{Tree, Revision, Leaf, IsForest, IsTree, knows, parent_of, is_deleted, has_child, is_leaf, leaves, winner, ancestor}
use Rattle.model.proofs.ListLaws.{by_cases}
use Rattle.model.proofs.MapLaws.{Contains-entries}
use Rattle.model.proofs.TreeLaws.{known_of, knows_child, Child, child_of, leaf_known, leaf_childless, childless_leaf, no_parent_of_leaf}
use Rattle.model.proofs.LeafLaws.{Contains-leaves}
use Rattle.model.proofs.AncestorLaws.{ancestor-suc, ancestor_known}

-- r is so many steps above some leaf as are allowed
pub record IsReached (Allows : Rev → ℕ → Type 0) (t : Tree) (r : Rev) : Type 0 where
  pub leaf : Rev
  pub at_leaf : is_leaf t leaf ≡ true
  pub steps : ℕ
  pub allowed : Allows leaf steps
  pub leads : ancestor t steps (Some leaf) ≡ Some r

-- with a step that was taken before
abbrev pub Stepped : (Rev → ℕ → Type 0) → Rev → ℕ → Type 0
Stepped Allows leaf n = Allows leaf (suc n)

pub reached_more : (Allows More : Rev → ℕ → Type 0) (t : Tree) (r : Rev) → ((leaf : Rev) (n : ℕ) → Allows leaf n → More leaf n) → IsReached Allows t r → IsReached More t r
reached_more Allows More t r more h =
    record { leaf = h.leaf; at_leaf = h.at_leaf; steps = h.steps; allowed = more h.leaf h.steps h.allowed; leads = h.leads }

module _ (Allows : Rev → ℕ → Type 0) (t : Tree) (r : Rev) where
  -- a child that is reached with a step to go
  pub record ReachedChild : Type 0 where
    pub child : Rev
    pub parent : parent_of t child ≡ Some r
    pub reached : IsReached (Stepped Allows) t child

  pub reached_itself : is_leaf t r ≡ true → Allows r 0 → IsReached Allows t r
  reached_itself l a = record { leaf = r; at_leaf = l; steps = 0; allowed = a; leads = refl }

  pub reached_above : (c : Rev) → parent_of t c ≡ Some r → IsReached (Stepped Allows) t c → IsReached Allows t r
  reached_above c p h = record {
    leaf = h.leaf;
    at_leaf = h.at_leaf;
    steps = suc h.steps;
    allowed = h.allowed;
    leads = ancestor-suc t h.steps (Some h.leaf) ∙ ap (option_and_then (parent_of t)) h.leads ∙ p;
  }

  pub reached_cases : IsReached Allows t r → ((is_leaf t r ≡ true) × Allows r 0) ⊎ ReachedChild
  reached_cases h = at h.steps h.allowed h.leads
    where
      last : (n : ℕ) → Allows h.leaf (suc n) → (o : Option Rev) → ancestor t n (Some h.leaf) ≡ o → option_and_then (parent_of t) o ≡ Some r → ReachedChild
      last n a None is e = absurd (none-some r e)
      last n a (Some c) is e = record { child = c; parent = e; reached = record { leaf = h.leaf; at_leaf = h.at_leaf; steps = n; allowed = a; leads = is } }

      at : (n : ℕ) → Allows h.leaf n → ancestor t n (Some h.leaf) ≡ Some r → ((is_leaf t r ≡ true) × Allows r 0) ⊎ ReachedChild
      at zero a e = let same = same_Some h.leaf r e in inl (subst (λ q. is_leaf t q ≡ true) same h.at_leaf, subst (λ q. Allows q 0) same a)
      at (suc n) a e = inr (last n a (ancestor t n (Some h.leaf)) refl (sym (ancestor-suc t n (Some h.leaf)) ∙ e))

  pub reached_leaf : is_leaf t r ≡ true → IsReached Allows t r → Allows r 0
  reached_leaf l h = ⊎_elim (λ e. e.1) (λ b. absurd (no_parent_of_leaf t r b.child l b.parent)) (reached_cases h)

  pub reached_below : has_child t r ≡ true → IsReached Allows t r → ReachedChild
  reached_below c h = ⊎_elim (λ e. absurd (true≢false (sym c ∙ leaf_childless t r e.0))) (λ b. b) (reached_cases h)

  pub reached_known : IsForest t → IsReached Allows t r → knows t r ≡ true
  reached_known f h = (ancestor_known t f h.steps h.leaf r (leaf_known t h.leaf h.at_leaf) h.leads).0

-- ---- each known revision is reached

top : List (Rev × Revision) → ℕ
top [] = 0
top (e ∷ es) = max e.0.generation (top es)

below_top : (es : List (Rev × Revision)) → All (λ e. e.0.generation ≤ top es) es
unfolding top
below_top [] = All-nil _
below_top (e ∷ es) = All-cons low e es (omega arith) (All-weaker (λ f. f.0.generation ≤ top es) low (λ f h. omega (arith, h)) es (below_top es))
  where
    low : Rev × Revision → Type 0
    low f = f.0.generation ≤ max e.0.generation (top es)

known_below : (t : Tree) (r : Rev) → knows t r ≡ true → r.generation ≤ top (entries t)
known_below t r k =
    let v = known_of t r k in
    All-contains (λ e. e.0.generation ≤ top (entries t)) (entries t) (r, v.revision) (below_top (entries t)) ((Contains-entries revs t r v.revision).1 v.got)

-- the leaf is as many generations younger as it is steps below
abbrev pub IsBelow : Rev → Rev → ℕ → Type 0
IsBelow r leaf n = leaf.generation ≡ r.generation + n

below_step : (t : Tree) (r c : Rev) → c.generation ≡ r.generation + 1 → parent_of t c ≡ Some r → IsReached (IsBelow c) t c → IsReached (IsBelow r) t r
below_step t r c up p h = reached_above (IsBelow r) t r c p (reached_more (IsBelow c) (Stepped (IsBelow r)) t c (λ leaf n b. omega (arith, b, up)) h)

-- from child to child, each a generation nearer to the top
climb : (t : Tree) → IsForest t → (n : ℕ) (r : Rev) → knows t r ≡ true → top (entries t) < r.generation + n → IsReached (IsBelow r) t r
climb t f zero r k h = absurd (omega (arith, h, known_below t r k))
climb t f (suc n) r k h = by_cases (has_child t r) (λ c. higher (child_of t r c) (climb t f n)) (λ c. reached_itself (IsBelow r) t r (childless_leaf t r k c) (omega arith))
  where
    higher : Child t r → ((c : Rev) → knows t c ≡ true → top (entries t) < c.generation + n → IsReached (IsBelow c) t c) → IsReached (IsBelow r) t r
    higher d above =
        let up = (f.parents d.child r d.parent).1 in
        below_step t r d.child up d.parent (above d.child (knows_child t d.child r d.parent) (omega (arith, h, up)))

pub known_reached : (t : Tree) → IsForest t → (r : Rev) → knows t r ≡ true → IsReached (IsBelow r) t r
known_reached t f r k = climb t f (top (entries t) + 1) r k (omega arith)

pub some_leaf : (t : Tree) → IsTree t → (l : Leaf) × Contains (leaves t) l
some_leaf t h =
    let r = known_reached t h.forest h.some_known.0 h.some_known.1 in
    let l : Leaf = record { deleted = is_deleted t r.leaf; rev = r.leaf } in
    (l, (Contains-leaves t l).1 (record { leaf = r.at_leaf; flag = refl }))

pub some_winner : (t : Tree) → IsTree t → (w : Leaf) × (winner t ≡ Some w)
some_winner t h = at (leaves t) (some_leaf t h).0 (some_leaf t h).1
  where
    at : (ls : List Leaf) (l : Leaf) → Contains ls l → (w : Leaf) × (first_of ls ≡ Some w)
    at [] l c = absurd (omega (arith, c.1))
    at (w ∷ ls) l c = (w, refl)
