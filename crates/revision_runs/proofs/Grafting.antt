-- A graft member by member: the graft of a path with one more member is a small change of the graft of the path.
use Rattle.std.specs.Prelude.{◌≡◌, ◌↔◌, ◌||◌, ◌&&◌, Bool, true, false, List, [], ◌∷◌, ◌++◌, Option, Some, None, refl}
use Rattle.std.specs.List.{list_any}
use Rattle.std.specs.Cmp.{both_ways}
use Rattle.std.proofs.Common.{sym, ap, subst, ◌∙◌, ⊎_elim}
use Rattle.std.proofs.lemmas.Bool.{true≢false, and_from, or_cases, or_left, or_right}
use Rattle.std.proofs.lemmas.List.Folds.{list_any-append}
use Rattle.model.specs.Body.{Body}
use Rattle.model.specs.Map.{same_key_itself}
use Rattle.model.specs.Revision.{Rev, revs, same_rev, same_rev-equal}
use Rattle.model.specs.Tree.{Tree, is_at, among, knows, parent_of}
use Rattle.model.specs.TreeChange.{IsUnion, is_pair}
use Rattle.model.proofs.ListLaws.{by_cases, same_option}
use Rattle.model.proofs.TreeLaws.{is_at-equal}
use Rattle.revision_runs.specs.Changes.{IsExtended, IsLinked}

-- ---- a path with one more member

or_nothing : (a : Bool) → (a || false) ≡ a
or_nothing true = refl
or_nothing false = refl

or_joined : (a b c : Bool) → (a || (b || c)) ≡ ((a || b) || c)
or_joined true b c = refl
or_joined false b c = refl

pub among_last : (rs : List Rev) (p q : Rev) → among (rs ++ p ∷ []) q ≡ (among rs q || same_rev q p)
among_last rs p q = list_any-append (same_rev q) rs (p ∷ []) ∙ ap (λ b. among rs q || b) (or_nothing (same_rev q p))

pub pair_last : (rs : List Rev) (c p a b : Rev) → is_pair (rs ++ c ∷ p ∷ []) a b ≡ (is_pair (rs ++ c ∷ []) a b || (same_rev c a && same_rev p b))
pair_last [] c p a b = or_nothing (same_rev c a && same_rev p b)
pair_last (r ∷ []) c p a b =
    ap (λ x. (same_rev r a && same_rev c b) || x) (or_nothing (same_rev c a && same_rev p b)) ∙ ap (λ x. x || (same_rev c a && same_rev p b)) (sym (or_nothing (same_rev r a && same_rev c b)))
pair_last (r ∷ s ∷ ss) c p a b =
    ap (λ x. (same_rev r a && same_rev s b) || x) (pair_last (s ∷ ss) c p a b)
    ∙ or_joined (same_rev r a && same_rev s b) (is_pair (s ∷ (ss ++ c ∷ [])) a b) (same_rev c a && same_rev p b)

-- ---- what the last member changes

module _ (t u : Tree) (c p : Rev) (known : (q : Rev) → knows u q ≡ (knows t q || same_rev q p)) (parents : (a b : Rev) → is_at (parent_of u a) b ≡ (is_at (parent_of t a) b || (same_rev c a && same_rev p b))) where
  apart : (q : Rev) → same_rev q c ≡ false → same_rev c q ≡ false
  apart q s = by_cases (same_rev c q)
      (λ e. absurd (true≢false (sym ((same_rev-equal q c).1 (sym ((same_rev-equal c q).0 e))) ∙ s)))
      (λ e. e)

  same_at : (q b : Rev) → same_rev q c ≡ false → is_at (parent_of u q) b ≡ is_at (parent_of t q) b
  same_at q b s = parents q b ∙ ap (λ x. is_at (parent_of t q) b || (x && same_rev p b)) (apart q s) ∙ or_nothing (is_at (parent_of t q) b)

  pub others_same : (q : Rev) → same_rev q c ≡ false → parent_of u q ≡ parent_of t q
  others_same q s = same_option (parent_of u q) (parent_of t q) (λ b. (
    λ e. (is_at-equal (parent_of t q) b).0 (sym (same_at q b s) ∙ (is_at-equal (parent_of u q) b).1 e),
    λ e. (is_at-equal (parent_of u q) b).0 (same_at q b s ∙ (is_at-equal (parent_of t q) b).1 e),
  ))

  pub parent_new : parent_of u c ≡ Some p
  parent_new = (is_at-equal (parent_of u c) p).0
      (parents c p ∙ or_right (is_at (parent_of t c) p) (same_rev c c && same_rev p p) (and_from (same_rev c c) (same_rev p p) (same_key_itself revs c) (same_key_itself revs p)))

  pub member_extends : knows t p ≡ false → knows t c ≡ true → parent_of t c ≡ None → IsExtended t u c p
  member_extends unknown root none = record { unknown = unknown; root = root; none = none; known = known; parent = parent_new; others = others_same }

  pub known_same : knows t p ≡ true → (q : Rev) → knows u q ≡ knows t q
  known_same there q = both_ways (knows u q) (knows t q)
      (λ k. ⊎_elim (λ y. y) (λ y. ap (knows t) ((same_rev-equal q p).0 y) ∙ there) (or_cases (knows t q) (same_rev q p) (sym (known q) ∙ k)))
      (λ k. known q ∙ or_left (knows t q) (same_rev q p) k)

  pub member_links : knows t p ≡ true → knows t c ≡ true → parent_of t c ≡ None → IsLinked t u c p
  member_links there root none = record { root = root; none = none; known = known_same there; parent = parent_new; others = others_same }

  -- a member that is there with its link changes nothing
  pub member_known : parent_of t c ≡ Some p → (q : Rev) → parent_of u q ≡ parent_of t q
  member_known link q = by_cases (same_rev q c)
      (λ s. let e = (same_rev-equal q c).0 s in ap (parent_of u) e ∙ parent_new ∙ sym link ∙ ap (parent_of t) (sym e))
      (λ s. others_same q s)

-- ---- grafts of two paths, of which the second has one member more

append_two : (ps : List Rev) (c p : Rev) → ps ++ c ∷ p ∷ [] ≡ (ps ++ c ∷ []) ++ p ∷ []
append_two [] c p = refl
append_two (r ∷ ps) c p = ap (λ rs. r ∷ rs) (append_two ps c p)

module _ (t one two : Tree) (newest : Rev) (older more ps : List Rev) (c p : Rev) (first : newest ∷ older ≡ ps ++ c ∷ []) (second : newest ∷ more ≡ ps ++ c ∷ p ∷ []) (body : Body) (deleted : Bool)
    (grafted : IsUnion newest older body deleted t one) (further : IsUnion newest more body deleted t two) where
  pub known_next : (q : Rev) → knows two q ≡ (knows one q || same_rev q p)
  known_next q =
      further.known q
      ∙ ap (λ rs. knows t q || among rs q) (second ∙ append_two ps c p)
      ∙ ap (λ b. knows t q || b) (among_last (ps ++ c ∷ []) p q)
      ∙ or_joined (knows t q) (among (ps ++ c ∷ []) q) (same_rev q p)
      ∙ ap (λ rs. (knows t q || among rs q) || same_rev q p) (sym first)
      ∙ ap (λ b. b || same_rev q p) (sym (grafted.known q))

  pub parents_next : (a b : Rev) → is_at (parent_of two a) b ≡ (is_at (parent_of one a) b || (same_rev c a && same_rev p b))
  parents_next a b =
      further.parents a b
      ∙ ap (λ rs. is_at (parent_of t a) b || is_pair rs a b) second
      ∙ ap (λ x. is_at (parent_of t a) b || x) (pair_last ps c p a b)
      ∙ or_joined (is_at (parent_of t a) b) (is_pair (ps ++ c ∷ []) a b) (same_rev c a && same_rev p b)
      ∙ ap (λ rs. (is_at (parent_of t a) b || is_pair rs a b) || (same_rev c a && same_rev p b)) (sym first)
      ∙ ap (λ x. x || (same_rev c a && same_rev p b)) (sym (grafted.parents a b))
