-- The leaves that are noted are the leaves in the winner's order.
use Rattle.std.specs.Prelude.{◌≡◌, ◌↔◌, T, List, [], ◌∷◌, map, Contains, Some, refl}
use Rattle.std.specs.FinMap.Entries.{is_sorted}
use Rattle.std.specs.declared.cmp.Ordering.TheVariants.{Less}
use Rattle.std.proofs.Common.{sym, ap, subst, ◌∙◌}
use Rattle.std.proofs.lemmas.Option.{none-some}
use Rattle.model.specs.Lists.{first_of}
use Rattle.model.specs.Map.{Map, Order, IsRising}
use Rattle.model.specs.Tree.{Tree, IsTree, Leaf, IsLeafOf, leaf_cmp, leaves, ranks, winner, revs_of}
use Rattle.model.proofs.LeafLaws.{only_leaves}
use Rattle.model.proofs.ListLaws.{Contains-map, source_of}
use Rattle.model.proofs.MapLaws.{Contains-keys, IsRising-keys}
use Rattle.model.proofs.ReachLaws.{some_winner}
use Rattle.model.proofs.RisingLaws.{AllPairs-map}
use Rattle.revision_tree.specs.declared.rank.Rank.{Rank}
use Rattle.revision_tree.specs.Ranks.{AreLeaves, leaf_of, rank_cmp, rank_exact, rank_total}
use Rattle.revision_tree.proofs.InOrder.{AllPairs-mapped}

abbrev by_rank : Order
by_rank = record { key = Rank; cmp = rank_cmp; total = rank_total; exact = rank_exact }

abbrev pub of_entry : Rank × Unit {0} → Leaf
of_entry e = leaf_of e.0

module _ (t : Tree) (es : List (Rank × Unit {0})) (sorted : T (is_sorted rank_cmp es)) (h : AreLeaves t es) where
  abbrev m : Map by_rank (Unit {0})
  m = record { list = es; sorted = sorted }

  abbrev Before : Rank × Unit {0} → Rank × Unit {0} → Type 0
  Before a b = rank_cmp a.0 b.0 ≡ Less

  abbrev Ranked : Leaf → Leaf → Type 0
  Ranked a b = leaf_cmp a b ≡ Less

  ordered : IsRising ranks (map of_entry es)
  ordered = AllPairs-mapped of_entry Before Ranked (λ _. Unit {0}) (λ x y p q less. less) es (λ i d lt. tt)
      (AllPairs-map (λ (a b : Rank). rank_cmp a b ≡ Less) (λ (e : Rank × Unit {0}). e.0) es (IsRising-keys by_rank m))

  members : (l : Leaf) → Contains (map of_entry es) l ↔ IsLeafOf t l
  members l = (
    λ c.
        let s = source_of of_entry es l c in
        let k = (Contains-keys by_rank m s.element.0).0 (Contains-map (λ (e : Rank × Unit {0}). e.0) es s.element s.listed) in
        subst (IsLeafOf t) s.gives ((h.has s.element.0).0 k),
    λ g.
        let k : Rank = record { deleted = l.deleted; rev = l.rev } in
        let c = (Contains-keys by_rank m k).1 ((h.has k).1 g) in
        let s = source_of (λ (e : Rank × Unit {0}). e.0) es k c in
        subst (Contains (map of_entry es)) (ap leaf_of s.gives) (Contains-map of_entry es s.element s.listed),
  )

  pub noted_leaves : map of_entry es ≡ leaves t
  noted_leaves = only_leaves t (map of_entry es) ordered members

  pub noted_first : (e : Rank × Unit {0}) (rest : List (Rank × Unit {0})) → es ≡ e ∷ rest → winner t ≡ Some (of_entry e)
  noted_first e rest is = ap first_of (sym noted_leaves ∙ ap (map of_entry) is)

  pub noted_some : IsTree t → es ≡ [] → ⊥
  noted_some tree none = let w = some_winner t tree in none-some w.0 (sym (ap first_of (sym noted_leaves ∙ ap (map of_entry) none)) ∙ w.1)

  pub noted_revs : map (λ e. e.0.rev) es ≡ revs_of (leaves t)
  noted_revs = each es ∙ ap revs_of noted_leaves
    where
      each : (fs : List (Rank × Unit {0})) → map (λ e. e.0.rev) fs ≡ revs_of (map of_entry fs)
      each [] = refl
      each (f ∷ fs) = ap (λ rs. f.0.rev ∷ rs) (each fs)
