-- The leaves of a tree, revision by revision.
use Rattle.std.specs.Prelude.{◌≡◌, true, false, List, [], ◌∷◌, ◌++◌, Contains, is_some}
use Rattle.std.specs.FinMap.Entries.{find, put}
use Rattle.std.specs.Ordering.{eq_by_cmp}
use Rattle.std.proofs.Common.{sym, ap, subst, ◌∙◌, ⊎_elim, arith}
use Rattle.std.proofs.lemmas.Bool.{true≢false}
use Rattle.std.proofs.lemmas.List.Elements.{Contains-append_cases, Contains-append_left, Contains-append_right}
use Rattle.model.specs.Tree.{IsLeafOf, has_child, is_deleted}
use Rattle.model.proofs.ListLaws.{by_cases, Contains-cons_cases, Contains-head}
use Rattle.model.proofs.TreeLaws.{childless_leaf, flag_in, leaf_childless, leaf_known}
use Rattle.revision_runs.proofs.Indexed.{put_itself, put_other, put_there, tied}
use Rattle.revision_tree.specs.declared.node.Node.{Node}
use Rattle.revision_tree.specs.declared.rank.Rank.{Rank}
use Rattle.revision_tree.specs.Nodes.{IsNodes, tree_of}
use Rattle.revision_tree.specs.Ranks.{AreLeaves, AreOuter, IsOuterOf, rank_cmp, rank_exact, rank_total}
use Rattle.revision_tree.proofs.Places.{got, node_known}

pub none_outer : AreOuter [] []
none_outer = record { has = λ k. (λ e. absurd (true≢false (sym e)), λ o. absurd (omega (arith, o.listed.1))) }

more_outer : (ns : List Node) (n : Node) (k : Rank) → IsOuterOf ns k → IsOuterOf (ns ++ n ∷ []) k
more_outer ns n k o = record { node = o.node; listed = Contains-append_left ns (n ∷ []) o.node o.listed; outer = o.outer; deleted = o.deleted; rev = o.rev }

-- of the last of them or of one before
last_or : (ns : List Node) (n m : Node) {P : Type 0} → Contains (ns ++ n ∷ []) m → (Contains ns m → P) → (n ≡ m → P) → P
last_or ns n m c f g = ⊎_elim f (λ d. ⊎_elim g (λ none. absurd (omega (arith, none.1))) (Contains-cons_cases n [] m d)) (Contains-append_cases ns (n ∷ []) m c)

module _ (ns : List Node) (n : Node) (es : List (Rank × Unit {0})) (h : AreOuter ns es) where
  pub outer_inner : n.inner ≡ true → AreOuter (ns ++ n ∷ []) es
  outer_inner inner = record {
    has = λ k. (
      λ e. more_outer ns n k ((h.has k).0 e),
      λ o. last_or ns n o.node o.listed
          (λ c. (h.has k).1 (record { node = o.node; listed = c; outer = o.outer; deleted = o.deleted; rev = o.rev }))
          (λ e. absurd (true≢false (sym inner ∙ ap (λ (m : Node). m.inner) e ∙ o.outer))),
    );
  }

  abbrev at : Rank
  at = record { deleted = n.deleted; rev = n.rev }

  pub outer_leaf : n.inner ≡ false → AreOuter (ns ++ n ∷ []) (put rank_cmp at tt es)
  outer_leaf outer = record {
    has = λ k. (
      λ e. by_cases (eq_by_cmp rank_cmp k at)
          (λ s.
          let same : k ≡ at = tied rank_cmp rank_total rank_exact k at s in
          record { node = n; listed = Contains-append_right ns (n ∷ []) n (Contains-head n []); outer = outer; deleted = ap (λ (x : Rank). x.deleted) (sym same); rev = ap (λ (x : Rank). x.rev) (sym same) })
          (λ s. more_outer ns n k ((h.has k).0 (put_other rank_cmp rank_total rank_exact at k es s e))),
      λ o. last_or ns n o.node o.listed
          (λ c. put_there rank_cmp rank_total rank_exact at k es ((h.has k).1 (record { node = o.node; listed = c; outer = o.outer; deleted = o.deleted; rev = o.rev })))
          (λ e.
          let same : at ≡ k = λ i. record { deleted = (ap (λ (m : Node). m.deleted) e ∙ o.deleted) i; rev = (ap (λ (m : Node). m.rev) e ∙ o.rev) i } in
          subst (λ (x : Rank). is_some (find rank_cmp x (put rank_cmp at tt es)) ≡ true) same (put_itself rank_cmp rank_total rank_exact at es)),
    );
  }

-- all of them
pub outer_leaves : (ns : List Node) → IsNodes ns → (es : List (Rank × Unit {0})) → AreOuter ns es → AreLeaves (tree_of ns) es
outer_leaves ns h es o = record {
  has = λ k. (
    λ e.
        let x = (o.has k).0 e in
        let found = got ns h.sorted x.node x.listed in
        subst (λ r. IsLeafOf (tree_of ns) (record { deleted = k.deleted; rev = r })) x.rev (record {
          leaf = childless_leaf (tree_of ns) x.node.rev (ap is_some found) (sym (h.inner x.node x.listed) ∙ x.outer);
          flag = ap flag_in found ∙ x.deleted;
        }),
    λ l.
        let m = node_known ns h.sorted k.rev (leaf_known (tree_of ns) k.rev l.leaf) in
        let found = got ns h.sorted m.node m.listed in
        (o.has k).1 (record {
          node = m.node;
          listed = m.listed;
          outer = h.inner m.node m.listed ∙ ap (has_child (tree_of ns)) m.rev ∙ leaf_childless (tree_of ns) k.rev l.leaf;
          deleted = sym (ap flag_in found) ∙ ap (is_deleted (tree_of ns)) m.rev ∙ l.flag;
          rev = m.rev;
        }),
  );
}
