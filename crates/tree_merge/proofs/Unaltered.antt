-- A path that is known, and whose newest has a body, leaves a tree as it is.
use Rattle.std.specs.Prelude.{◌≡◌, ◌⊎◌, ℕ, zero, suc, ◌+◌, ◌-◌, ◌<◌, ◌≤◌, Bool, true, false, ◌&&◌, ◌||◌, List, [], ◌∷◌, length, get_or, take, Option, None, Some, is_some, option_map, option_and_then, refl}
use Rattle.std.proofs.Common.{⊎_elim, inl, inr, sym, ap, subst, ◌∙◌, arith}
use Rattle.std.proofs.lemmas.Bool.{and_parts, and_from, true≢false}
use Rattle.model.specs.Body.{Body}
use Rattle.model.specs.Map.{get}
use Rattle.model.specs.Revision.{Rev, same_rev, same_rev-equal}
use Rattle.model.specs.Tree.{Tree, Revision, IsForest, knows, parent_of, body_of, is_at, among}
use Rattle.model.specs.TreeChange.{IsPath, IsUnion, is_pair, graft}
use Rattle.model.proofs.TreeLaws.{is_at-equal}
use Rattle.model.proofs.UnionLaws.{graft-union}
use Rattle.tree_merge.specs.Links.{IsLinked}

either : (a b : Bool) → (a || b) ≡ true → (a ≡ true) ⊎ (b ≡ true)
either true b h = inl refl
either false b h = inr h

or_left : (a b : Bool) → a ≡ true → (a || b) ≡ true
or_left a b h = ap (λ x. x || b) h

or_right : (a b : Bool) → b ≡ true → (a || b) ≡ true
or_right true b h = refl
or_right false b h = h

absorbed : (a b : Bool) → (b ≡ true → a ≡ true) → a ≡ (a || b)
absorbed true b h = refl
absorbed false true h = h refl
absorbed false false h = refl

-- ---- from place to place

links_more : (t : Tree) (path : List Rev) (i : ℕ) (d e : Rev) → suc i < length path → parent_of t (get_or path i d) ≡ Some (get_or path (suc i) e) → IsLinked t (take (suc i) path) → IsLinked t (take (suc (suc i)) path)
links_more t [] i d e lt is h = absurd (omega arith)
links_more t (r ∷ []) i d e lt is h = absurd (omega arith)
links_more t (r ∷ next ∷ rest) zero d e lt is h = λ c p pair. ⊎_elim
    (λ here.
    let both = and_parts (same_rev r c) (same_rev next p) here in
    ap (parent_of t) (sym ((same_rev-equal r c).0 both.0)) ∙ is ∙ ap Some ((same_rev-equal next p).0 both.1))
    (λ none. absurd (true≢false (sym none)))
    (either (same_rev r c && same_rev next p) false pair)
links_more t (r ∷ next ∷ rest) (suc i) d e lt is h = λ c p pair. ⊎_elim
    (λ here. h c p (or_left (same_rev r c && same_rev next p) (is_pair (next ∷ take i rest) c p) here))
    (λ later. links_more t (next ∷ rest) i d e (omega arith) is (λ c p known. h c p (or_right (same_rev r c && same_rev next p) (is_pair (next ∷ take i rest) c p) known)) c p later)
    (either (same_rev r c && same_rev next p) (is_pair (next ∷ take (suc i) rest) c p) pair)

pub links_next : (t : Tree) (path : List Rev) (i : ℕ) (d e : Rev) → 1 ≤ i → i < length path → parent_of t (get_or path (i - 1) d) ≡ Some (get_or path i e) → IsLinked t (take i path) → IsLinked t (take (i + 1) path)
links_next t path zero d e some lt is h = absurd (omega arith)
links_next t path (suc i) d e some lt is h =
    let before : suc i - 1 ≡ i = omega arith in
    let after : suc (suc i) ≡ suc i + 1 = omega arith in
    subst (λ n. IsLinked t (take n path)) after (links_more t path i d e lt (subst (λ n. parent_of t (get_or path n d) ≡ Some (get_or path (suc i) e)) before is) h)

pub links_first : (t : Tree) (path : List Rev) → IsLinked t (take 1 path)
links_first t [] = λ c p pair. absurd (true≢false (sym pair))
links_first t (r ∷ rest) = λ c p pair. absurd (true≢false (sym pair))

-- ---- a path that is known

pair_first : (r next : Rev) (rest : List Rev) → is_pair (r ∷ next ∷ rest) r next ≡ true
pair_first r next rest = or_left (same_rev r r && same_rev next next) (is_pair (next ∷ rest) r next) (and_from (same_rev r r) (same_rev next next) ((same_rev-equal r r).1 refl) ((same_rev-equal next next).1 refl))

pub members_known : (t : Tree) → IsForest t → (r : Rev) (rest : List Rev) → knows t r ≡ true → IsLinked t (r ∷ rest) → (q : Rev) → among (r ∷ rest) q ≡ true → knows t q ≡ true
members_known t f r [] k h q m = ⊎_elim (λ here. ap (knows t) ((same_rev-equal q r).0 here) ∙ k) (λ none. absurd (true≢false (sym none))) (either (same_rev q r) false m)
members_known t f r (next ∷ rest) k h q m = ⊎_elim
    (λ here. ap (knows t) ((same_rev-equal q r).0 here) ∙ k)
    (λ later. members_known t f next rest (f.parents r next (h r next (pair_first r next rest))).0 (λ c p pair. h c p (or_right (same_rev r c && same_rev next p) (is_pair (next ∷ rest) c p) pair)) q later)
    (either (same_rev q r) (among (next ∷ rest) q) m)

bodied : (t : Tree) (r : Rev) → is_some (body_of t r) ≡ true → knows t r ≡ true
bodied t r e = at (get t r) e
  where
    at : (o : Option Revision) → is_some (option_and_then (λ v. v.body) o) ≡ true → is_some o ≡ true
    at None e = e
    at (Some v) e = refl

unaltered : (t : Tree) → IsForest t → (newest : Rev) (older : List Rev) (body : Body) (deleted : Bool) → is_some (body_of t newest) ≡ true → IsLinked t (newest ∷ older) → IsUnion newest older body deleted t t
unaltered t f newest older body deleted has h = record {
  known = λ r. absorbed (knows t r) (among (newest ∷ older) r) (members_known t f newest older (bodied t newest has) h r);
  parents = λ c p. absorbed (is_at (parent_of t c) p) (is_pair (newest ∷ older) c p) (λ pair. (is_at-equal (parent_of t c) p).1 (h c p pair));
  others = λ r apart. (refl, refl);
  had_body = λ b e. (e, refl);
  had_none = λ e. absurd (true≢false (sym has ∙ ap is_some e));
}

pub has_body : (X : Type 0) (f : X → Body) (o : Option X) (b : Option Body) → option_map f o ≡ b → is_some o ≡ true → is_some b ≡ true
has_body X f None b e some = absurd (true≢false (sym some))
has_body X f (Some x) b e some = ap is_some (sym e)

pub grafts_nothing : (t : Tree) → IsForest t → (path : List Rev) (newest : Rev) (body : Body) (deleted : Bool) → IsPath path → newest ≡ get_or path 0 newest → is_some (body_of t newest) ≡ true → IsLinked t path → graft path body deleted t ≡ Some t
grafts_nothing t f [] newest body deleted path first has h = absurd path
grafts_nothing t f (r ∷ older) newest body deleted path first has h =
    (graft-union r older body deleted t t path).1 (unaltered t f r older body deleted (ap (λ q. is_some (body_of t q)) (sym first) ∙ has) h)
