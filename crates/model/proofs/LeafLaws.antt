-- The leaves in the winner's order are the one list of just the leaves in that order, and the winner is their greatest.
use Rattle.std.specs.Prelude.{◌≡◌, ◌↔◌, ◌⊎◌, ◌≢◌, Bool, true, false, List, [], ◌∷◌, map, filter, Some, Contains, refl}
use Rattle.std.specs.declared.cmp.Ordering.{Ordering}
use Rattle.std.specs.declared.cmp.Ordering.TheVariants.{Less, Equal, Greater}
use Rattle.std.specs.Ordering.{bool_cmp, ordering_then, ordering_reverse}
use Rattle.std.specs.Cmp.{tied_itself}
use Rattle.std.proofs.Common.{sym, ap, subst, ◌∙◌, ⊎_elim, arith}
use Rattle.std.proofs.lemmas.Bool.{true≢false}
use Rattle.model.specs.Lists.{first_of}
use Rattle.model.specs.Map.{Map, IsRising, entries, from_list}
use Rattle.model.specs.Revision.{Rev, rev_cmp, revs, rev_total}
use Rattle.model.specs.Tree.{Tree, Revision, Leaf, IsLeafOf, IsGreatestLeaf, leaf_cmp, ranks, as_leaf, leaves, winner, is_leaf}
use Rattle.model.proofs.ListLaws.{Contains-filter, source_of, Contains-map, first_is_listed, first_before}
use Rattle.model.proofs.MapLaws.{Contains-entries, Contains-keys-from_list, IsRising-keys, same_rising}
use Rattle.model.proofs.TreeLaws.{flag_in, known_of, leaf_known}

-- ---- the list

abbrev leaf_entries : Tree → List (Rev × Revision)
leaf_entries t = filter (λ e. is_leaf t e.0) (entries t)

abbrev leaf_map : Tree → Map ranks (Unit {0})
leaf_map t = from_list {O = ranks} (map as_leaf (leaf_entries t))

pub Contains-leaves : (t : Tree) (l : Leaf) → Contains (leaves t) l ↔ IsLeafOf t l
unfolding leaves
Contains-leaves t l =
    let made = Contains-keys-from_list ranks (map as_leaf (leaf_entries t)) l in
    (λ c. leaf_of (made.0 c), λ h. made.1 (listed h))
  where
    leaf_of : Contains (map (λ e. e.0) (map as_leaf (leaf_entries t))) l → IsLeafOf t l
    leaf_of c =
        let a = source_of (λ (e : Leaf × Unit {0}). e.0) (map as_leaf (leaf_entries t)) l c in
        let b = source_of as_leaf (leaf_entries t) a.element a.listed in
        let kept = (Contains-filter (λ e. is_leaf t e.0) (entries t) b.element).0 b.listed in
        let got = (Contains-entries revs t b.element.0 b.element.1).0 kept.0 in
        subst (IsLeafOf t) (ap (λ (e : Leaf × Unit {0}). e.0) b.gives ∙ a.gives) (record { leaf = kept.1; flag = ap flag_in got })

    listed : IsLeafOf t l → Contains (map (λ e. e.0) (map as_leaf (leaf_entries t))) l
    listed h =
        let k = known_of t l.rev (leaf_known t l.rev h.leaf) in
        let e : Rev × Revision = (l.rev, k.revision) in
        let c : Contains (leaf_entries t) e = (Contains-filter (λ e. is_leaf t e.0) (entries t) e).1 ((Contains-entries revs t l.rev k.revision).1 k.got, h.leaf) in
        let flag : k.revision.deleted ≡ l.deleted = ap flag_in (sym k.got) ∙ h.flag in
        subst (Contains (map (λ e. e.0) (map as_leaf (leaf_entries t)))) (λ i. record { deleted = flag i; rev = l.rev })
        (Contains-map (λ (e : Leaf × Unit {0}). e.0) (map as_leaf (leaf_entries t)) (as_leaf e) (Contains-map as_leaf (leaf_entries t) e c))

pub IsRising-leaves : (t : Tree) → IsRising ranks (leaves t)
unfolding leaves
IsRising-leaves t = IsRising-keys ranks (leaf_map t)

pub only_leaves : (t : Tree) (ls : List Leaf) → IsRising ranks ls → ((l : Leaf) → Contains ls l ↔ IsLeafOf t l) → ls ≡ leaves t
only_leaves t ls rising is =
    same_rising ranks ls (leaves t) rising (IsRising-leaves t) (λ l. (λ c. (Contains-leaves t l).1 ((is l).0 c), λ c. (is l).1 ((Contains-leaves t l).0 c)))

pub same_leaves : (s t : Tree) → ((l : Leaf) → IsLeafOf s l ↔ IsLeafOf t l) → leaves s ≡ leaves t
same_leaves s t is =
    only_leaves t (leaves s) (IsRising-leaves s) (λ l. (λ c. (is l).0 ((Contains-leaves s l).0 c), λ h. (Contains-leaves s l).1 ((is l).1 h)))

-- ---- the winner

-- a flag and a revision that come before others
before_parts : (a b : Bool) (o : Ordering) → ordering_then (bool_cmp a b) o ≡ Less → (a ≡ true → b ≡ true) × (b ≡ a → o ≡ Less)
before_parts false false o h = (λ e. e, λ _. h)
before_parts false true o h = (λ _. refl, λ e. absurd (true≢false e))
before_parts true false o h = cc
before_parts true true o h = (λ e. e, λ _. h)

less≢equal : (o : Ordering) → o ≡ Less → o ≢ Equal
less≢equal o h e = cc

less≢greater : (o : Ordering) → o ≡ Less → o ≢ Greater
less≢greater o h e = cc

not_before : (a b : Bool) (o : Ordering) → ordering_then (bool_cmp a b) o ≡ Less → (b ≡ true → a ≡ true) → (a ≡ b → o ≢ Less) → ⊥
not_before false false o h live greatest = greatest refl h
not_before false true o h live greatest = true≢false (sym (live refl))
not_before true false o h live greatest = cc
not_before true true o h live greatest = greatest refl h

module _ (t : Tree) (w : Leaf) where
  winner_first : winner t ≡ Some w → (l : Leaf) → IsLeafOf t l → (w ≡ l) ⊎ (leaf_cmp w l ≡ Less)
  winner_first e l h = first_before (λ a b. leaf_cmp a b ≡ Less) (leaves t) w l (IsRising-leaves t) e ((Contains-leaves t l).1 h)

  winner_is_greatest : winner t ≡ Some w → IsGreatestLeaf t w
  winner_is_greatest e = record {
    leaf = (Contains-leaves t w).0 (first_is_listed (leaves t) w e);
    live_first = λ d l h. ⊎_elim (λ (is : w ≡ l). ap (λ (k : Leaf). k.deleted) (sym is) ∙ d) (λ before. (parts l before).0 d) (winner_first e l h);
    greatest = λ l h same less. ⊎_elim
        (λ (is : w ≡ l). less≢equal _ less (ap (λ (k : Leaf). rev_cmp w.rev k.rev) (sym is) ∙ tied_itself rev_total w.rev))
        (λ before. less≢greater _ less (rev_total.antisymm w.rev l.rev ∙ ap ordering_reverse ((parts l before).1 same)))
        (winner_first e l h);
  }
    where
      parts : (l : Leaf) → leaf_cmp w l ≡ Less → (w.deleted ≡ true → l.deleted ≡ true) × (l.deleted ≡ w.deleted → rev_cmp l.rev w.rev ≡ Less)
      parts l before = before_parts w.deleted l.deleted (rev_cmp l.rev w.rev) before

  greatest_is_winner : IsGreatestLeaf t w → winner t ≡ Some w
  greatest_is_winner h = at (leaves t) refl ((Contains-leaves t w).1 h.leaf)
    where
      at : (ls : List Leaf) → leaves t ≡ ls → Contains ls w → winner t ≡ Some w
      at [] e c = absurd (omega (arith, c.1))
      at (l ∷ ls) e c =
          let is : winner t ≡ Some l = ap first_of e in
          let g = (Contains-leaves t l).0 (first_is_listed (leaves t) l is) in
          is ∙ ⊎_elim (ap Some) (λ less. absurd (not_before l.deleted w.deleted (rev_cmp w.rev l.rev) less (λ d. h.live_first d l g) (h.greatest l g)))
          (first_before (λ a b. leaf_cmp a b ≡ Less) (leaves t) l w (IsRising-leaves t) is ((Contains-leaves t w).1 h.leaf))

pub winner-greatest : (t : Tree) (w : Leaf) → (winner t ≡ Some w) ↔ IsGreatestLeaf t w
winner-greatest t w = (winner_is_greatest t w, greatest_is_winner t w)
