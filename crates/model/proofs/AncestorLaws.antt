-- Laws of steps up a tree: the path of a revision is all of its ancestors.
use Rattle.std.specs.Prelude.{◌≡◌, ◌↔◌, ℕ, zero, suc, ◌+◌, ◌<◌, true, cond, List, [], ◌∷◌, length, take, slice_get, Option, Some, None, option_and_then, Contains, refl}
use Rattle.std.specs.Cmp.{eq_by_cmp_equiv}
use Rattle.std.proofs.Common.{sym, ap, subst, ◌∙◌, arith, length-take, get_or-take}
use Rattle.std.proofs.lemmas.Option.{none-some, same_Some, slice_get_within, slice_get_read, get_or_from_slice_get}
use Rattle.std.proofs.lemmas.Map.Views.{Contains-from_any, list_any-from_Contains}
use Rattle.model.specs.Map.{same_key-equal}
use Rattle.model.specs.Revision.{Rev, revs, rev_total}
use Rattle.model.specs.Tree.{Tree, IsForest, knows, parent_of, among, ancestor, upward, ancestors, path_of}

-- ---- one step more

pub ancestor-None : (t : Tree) (n : ℕ) → ancestor t n None ≡ None
ancestor-None t zero = refl
ancestor-None t (suc n) = ancestor-None t n

-- the last step apart
pub ancestor-suc : (t : Tree) (n : ℕ) (o : Option Rev) → ancestor t (suc n) o ≡ option_and_then (parent_of t) (ancestor t n o)
ancestor-suc t zero o = refl
ancestor-suc t (suc n) o = ancestor-suc t n (option_and_then (parent_of t) o)

-- ---- paths

upward-None : (t : Tree) (fuel : ℕ) → upward t fuel None ≡ []
upward-None t zero = refl
upward-None t (suc fuel) = refl

module _ (t : Tree) (forest : IsForest t) where
  -- the way goes on from the parent
  pub ancestors-Some : (r : Rev) → knows t r ≡ true → ancestors t (Some r) ≡ r ∷ ancestors t (parent_of t r)
  ancestors-Some r k = at r.generation refl (parent_of t r) refl
    where
      at : (g : ℕ) → r.generation ≡ g → (o : Option Rev) → parent_of t r ≡ o → upward t g (Some r) ≡ r ∷ ancestors t (parent_of t r)
      at zero e o is = absurd (omega (arith, forest.generations r k))
      at (suc g) e None is = λ i. r ∷ (ap (upward t g) is ∙ upward-None t g ∙ ap (ancestors t) (sym is)) i
      at (suc g) e (Some p) is =
          let same : g ≡ p.generation = omega (arith, e, (forest.parents r p is).1) in
          λ i. r ∷ (ap (upward t g) is ∙ ap (λ n. upward t n (Some p)) same ∙ ap (ancestors t) (sym is)) i

  pub ancestor_known : (n : ℕ) (r a : Rev) → knows t r ≡ true → ancestor t n (Some r) ≡ Some a → (knows t a ≡ true) × (r.generation ≡ a.generation + n)
  ancestor_known zero r a k e = let same = same_Some r a e in (subst (λ q. knows t q ≡ true) same k, omega (arith, ap (λ (q : Rev). q.generation) same))
  ancestor_known (suc n) r a k e = at (λ p. ancestor_known n p a) (parent_of t r) refl e
    where
      at : ((p : Rev) → knows t p ≡ true → ancestor t n (Some p) ≡ Some a → (knows t a ≡ true) × (p.generation ≡ a.generation + n))
          → (o : Option Rev) → parent_of t r ≡ o → ancestor t n o ≡ Some a → (knows t a ≡ true) × (r.generation ≡ a.generation + suc n)
      at above None is e = absurd (none-some a (sym (ancestor-None t n) ∙ e))
      at above (Some p) is e = let up = forest.parents r p is in let h = above p up.0 e in (h.0, omega (arith, up.1, h.1))

  slice_get-ancestors : (n : ℕ) (r : Rev) → knows t r ≡ true → slice_get (ancestors t (Some r)) n ≡ ancestor t n (Some r)
  slice_get-ancestors zero r k = ap (λ rs. slice_get rs 0) (ancestors-Some r k)
  slice_get-ancestors (suc n) r k = ap (λ rs. slice_get rs (suc n)) (ancestors-Some r k) ∙ at (slice_get-ancestors n) (parent_of t r) refl
    where
      at : ((p : Rev) → knows t p ≡ true → slice_get (ancestors t (Some p)) n ≡ ancestor t n (Some p))
          → (o : Option Rev) → parent_of t r ≡ o → slice_get (ancestors t o) n ≡ ancestor t n o
      at above None is = sym (ancestor-None t n)
      at above (Some p) is = above p (forest.parents r p is).0

  pub slice_get-path_of : (r : Rev) (n : ℕ) → knows t r ≡ true → slice_get (path_of t r) n ≡ ancestor t n (Some r)
  slice_get-path_of r n k = ap (λ b. slice_get (cond b (ancestors t (Some r)) []) n) k ∙ slice_get-ancestors n r k

-- ---- members by their places

pub Contains-among : (rs : List Rev) (r : Rev) → (among rs r ≡ true) ↔ Contains rs r
Contains-among rs r = (Contains-from_any (same_key-equal revs) r rs, list_any-from_Contains (eq_by_cmp_equiv rev_total) r rs)

pub among-place : (rs : List Rev) (r : Rev) → (among rs r ≡ true) ↔ ((n : ℕ) × (slice_get rs n ≡ Some r))
among-place rs r = (
  λ h. let c = (Contains-among rs r).0 h in (c.0, slice_get_read rs (length rs) c.0 r refl c.1 (sym c.2)),
  λ p. (Contains-among rs r).1 (p.0, slice_get_within rs p.0 r p.1, get_or_from_slice_get rs p.0 r r p.1),
)

pub among-take : (m : ℕ) (rs : List Rev) (r : Rev) → (among (take m rs) r ≡ true) ↔ ((n : ℕ) × (n < m) × (slice_get rs n ≡ Some r))
among-take m rs r = (λ h. placed ((Contains-among (take m rs) r).0 h), λ p. (Contains-among (take m rs) r).1 (taken p))
  where
    placed : Contains (take m rs) r → (n : ℕ) × (n < m) × (slice_get rs n ≡ Some r)
    placed c =
        let less : c.0 < m = omega (arith, c.1, length-take m rs) in
        (c.0, less, slice_get_read rs (length rs) c.0 r refl (omega (arith, c.1, length-take m rs)) (sym c.2 ∙ get_or-take m rs c.0 r less))

    taken : (n : ℕ) × (n < m) × (slice_get rs n ≡ Some r) → Contains (take m rs) r
    taken p =
        let within = slice_get_within rs p.0 r p.2 in
        (p.0, omega (arith, p.1, within, length-take m rs), get_or-take m rs p.0 r p.1 ∙ get_or_from_slice_get rs p.0 r r p.2)
