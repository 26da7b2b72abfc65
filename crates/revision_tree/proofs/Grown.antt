-- A graft, member by member, on the nodes with their marks.
use Rattle.std.specs.Prelude.{◌≡◌, ◌⊎◌, ◌<◌, ◌≤◌, Bool, true, false, ◌||◌, cond, List, [], ◌∷◌, map, length, get_or, All, Contains, Option, Some, None, is_some, option_map, unwrap_or, if◌then◌else◌, refl}
use Rattle.std.proofs.Common.{sym, ap, subst, ◌∙◌, ⊎_elim, inl, inr, arith}
use Rattle.std.specs.Cmp.{both_ways}
use Rattle.std.specs.FinMap.Entries.{find, put}
use Rattle.std.proofs.lemmas.Bool.{true≢false, cond-false}
use Rattle.std.proofs.lemmas.Option.{same_Some, none-some}
use Rattle.std.proofs.lemmas.List.Elements.{All-head, All-tail, All-weaker, All-contains_itself}
use Rattle.model.specs.Map.{Map, entries, get, get-put, same_map, refine, refine_list}
use Rattle.model.specs.Body.{Body}
use Rattle.model.specs.Revision.{Rev, rev_cmp, revs, same_rev, same_rev-equal}
use Rattle.model.specs.Tree.{Tree, Revision, IsForest, IsTree, IsInRange, has_child, is_at, parent_of, among}
use Rattle.model.specs.TreeChange.{IsPath, IsUnion, is_pair, linked, linked_to, unseen, given, graft, grafted}
use Rattle.model.proofs.ListLaws.{by_cases}
use Rattle.model.proofs.MapLaws.{get-refine_all}
use Rattle.model.proofs.TreeLaws.{is_at-equal, has_child-parent, child_of}
use Rattle.model.proofs.PathLaws.{same_rev-symm, pair_above, member_generation}
use Rattle.model.proofs.UnionLaws.{graft-union}
use Rattle.revision_tree.specs.declared.node.Node.{Node}
use Rattle.revision_tree.specs.Nodes.{IsNodes, IsSorted, entry_of, entries_of, rows_of, tree_of}
use Rattle.revision_tree.specs.Growth.{seen_in, as_parent, as_newest, marked_with, grown, AreGround}
use Rattle.revision_tree.proofs.Listed.{entries-tree_of, sorted_list, tree_of-list}
use Rattle.revision_tree.proofs.Rowed.{bare_entry, entries_of-rows, row_found}

-- ---- the next member

pub linked_none : (older : List Rev) (v : Revision) → length older < 1 → linked_to older v ≡ v
linked_none [] v lt = refl
linked_none (r ∷ rs) v lt = absurd (omega arith)

pub linked_first : (older : List Rev) (next : Rev) (v : Revision) → 1 ≤ length older → next ≡ get_or older 0 next → v.parent ≡ Some next → linked_to older v ≡ v
linked_first [] next v le is e = absurd (omega arith)
linked_first (r ∷ rs) next v le is e = let same : Some r ≡ v.parent = ap Some (sym is) ∙ sym e in λ i. record v { parent = same i }

-- ---- marks

abbrev pub marking : (Rev → Bool) → Rev → Revision → Revision × Bool
marking m q v = (v, m q)

abbrev pub with_marks : (Rev → Bool) → Tree → Map revs (Revision × Bool)
with_marks m t = refine (λ q v. Some (marking m q v)) t

pub get-with_marks : (m : Rev → Bool) (t : Tree) (q : Rev) → get (with_marks m t) q ≡ option_map (marking m q) (get t q)
get-with_marks m t q = get-refine_all (marking m) t q

bare_marked : (m : Rev → Bool) (es : List (Rev × Revision)) → map bare_entry (refine_list revs (λ q v. Some (marking m q v)) es) ≡ es
bare_marked m [] = refl
bare_marked m (e ∷ es) = ap (λ xs. e ∷ xs) (bare_marked m es)

mark_in : (o : Option Revision) (v : Revision) (a b : Bool) → ◌≡◌ {A = Option (Revision × Bool)} (Some (v, a)) (option_map (λ w. (w, b)) o) → a ≡ b
mark_in None v a b e = absurd (none-some (v, a) (sym e))
mark_in (Some w) v a b e = ap (λ (p : Revision × Bool). p.1) (same_Some (v, a) (w, b) e)

pub rows_marked : (m : Rev → Bool) (ns : List Node) → All (λ n. n.inner ≡ m n.rev) ns → rows_of ns ≡ refine_list revs (λ q v. Some (marking m q v)) (entries_of ns)
rows_marked m [] h = refl
rows_marked m (n ∷ ns) h = λ i. (n.rev, ((entry_of n).1, All-head (λ n. n.inner ≡ m n.rev) n ns h i)) ∷ rows_marked m ns (All-tail (λ n. n.inner ≡ m n.rev) n ns h) i

-- nodes with the marks of a tree are that tree's
module _ (ns : List Node) (u : Tree) (m : Rev → Bool) (is : rows_of ns ≡ entries (with_marks m u)) where
  pub entries_marked : entries u ≡ entries_of ns
  entries_marked = sym (bare_marked m (entries u)) ∙ ap (map bare_entry) (sym is) ∙ entries_of-rows ns

  pub tree_marked : tree_of ns ≡ u
  tree_marked = tree_of-list ns u entries_marked

  pub nodes_marked : ((q : Rev) → m q ≡ has_child u q) → IsTree u → IsInRange u → IsNodes ns
  nodes_marked same tree range = record {
    sorted = sorted;
    inner = λ n c.
        mark_in (get u n.rev) (entry_of n).1 n.inner (m n.rev) (sym (row_found ns n sorted c) ∙ ap (find rev_cmp n.rev) is ∙ get-with_marks m u n.rev)
        ∙ same n.rev ∙ ap (λ t. has_child t n.rev) (sym tree_marked);
    tree = subst IsTree (sym tree_marked) tree;
    range = subst IsInRange (sym tree_marked) range;
  }
    where
      sorted : IsSorted ns
      sorted = sorted_list ns u entries_marked

or_false : (a : Bool) → a ≡ (a || false)
or_false true = refl
or_false false = refl

or_true : (a : Bool) → (a || true) ≡ true
or_true true = refl
or_true false = refl

pub ground_of : (ns : List Node) → IsNodes ns → AreGround ns
ground_of ns h = record {
  forest = h.tree.forest;
  linked = record { rows = rows_marked m ns (All-weaker (Contains ns) (λ n. n.inner ≡ m n.rev) (λ n c. h.inner n c ∙ or_false (has_child (tree_of ns) n.rev)) ns (All-contains_itself ns)) ∙ ap (refine_list revs (λ q v. Some (marking m q v))) (sym (entries-tree_of ns h.sorted)) };
}
  where
    m : Rev → Bool
    m q = has_child (tree_of ns) q || false

-- ---- members

-- what is above the newest
abbrev Above : Rev → List Rev → Type 0
Above r [] = Unit {0}
Above r (s ∷ rs) = (s.generation < r.generation) × IsPath (s ∷ rs)

above_of : (r : Rev) (rs : List Rev) → IsPath (r ∷ rs) → Above r rs
above_of r [] h = tt
above_of r (s ∷ rs) h = (omega (arith, h.0), h.1)

pub get-unlinked : (t : Tree) (r : Rev) (rs : List Rev) → IsPath (r ∷ rs) → get (linked rs t) r ≡ get t r
get-unlinked t r rs h = go rs (above_of r rs h)
  where
    apart : (s : Rev) → s.generation < r.generation → same_rev r s ≡ false
    apart s lt = by_cases (same_rev r s) (λ e. absurd (let same = ap (λ (q : Rev). q.generation) ((same_rev-equal r s).0 e) in omega (arith, same, lt))) (λ e. e)

    go : (rs : List Rev) → Above r rs → get (linked rs t) r ≡ get t r
    go [] h = refl
    go (s ∷ []) h = get-put t s (linked_to [] (unwrap_or (get t s) unseen)) r ∙ ap (λ b. cond b (Some (linked_to [] (unwrap_or (get t s) unseen))) (get t r)) (apart s h.0)
    go (s ∷ q ∷ rs) h =
        let v = linked_to (q ∷ rs) (unwrap_or (get t s) unseen) in
        get-put (linked (q ∷ rs) t) s v r ∙ ap (λ b. cond b (Some v) (get (linked (q ∷ rs) t) r)) (apart s h.0)
        ∙ go (q ∷ rs) (omega (arith, h.0, h.1.0), h.1.1)

pub newest_apart : (r : Rev) (rs : List Rev) → IsPath (r ∷ rs) → among rs r ≡ false
newest_apart r [] h = refl
newest_apart r (s ∷ rs) h = by_cases (among (s ∷ rs) r) (λ e. absurd (let le = (member_generation s rs r h.1 e).1 in omega (arith, h.0, le))) (λ e. e)

pair_next : (r : Rev) (rs : List Rev) (c p : Rev) → is_pair (r ∷ rs) c p ≡ true → among rs p ≡ true
pair_next r [] c p h = h
pair_next r (s ∷ rs) c p h = ⊎_elim
    (λ e. ap (λ b. b || among rs p) ((same_rev-symm p s) ∙ ap (λ q. same_rev s q) (sym e.1) ∙ (same_rev-equal s s).1 refl))
    (λ later. or_right (same_rev p s) (among rs p) (pair_next s rs c p later))
    (Rattle.model.proofs.PathLaws.pair_cases r s rs c p h)
  where
    or_right : (a b : Bool) → b ≡ true → (a || b) ≡ true
    or_right a b e = ap (λ x. a || x) e ∙ or_true a

module _ (t : Tree) (r : Rev) (rs : List Rev) (path : IsPath (r ∷ rs)) where
  abbrev marks : Rev → Bool
  marks q = has_child t q || among rs q

  abbrev M : Map revs (Revision × Bool)
  M = marked_with rs t

  got : (q : Rev) → get M q ≡ option_map (marking marks q) (get (linked rs t) q)
  got q = get-with_marks marks (linked rs t) q

  seen : seen_in (entries M) r ≡ unwrap_or (option_map (marking marks r) (get t r)) (unseen, false)
  seen = ap (λ o. unwrap_or o (unseen, false)) (got r ∙ ap (option_map (marking marks r)) (get-unlinked t r rs path))

  seen_value : (o : Option Revision) → (unwrap_or (option_map (marking marks r) o) (unseen, false)).0 ≡ unwrap_or o unseen
  seen_value None = refl
  seen_value (Some v) = refl

  value : (seen_in (entries M) r).0 ≡ unwrap_or (get t r) unseen
  value = ap (λ (v : Revision × Bool). v.0) seen ∙ seen_value (get t r)

  abbrev last : Revision
  last = linked_to rs (unwrap_or (get t r) unseen)

  -- with a member that is not the newest
  pub parent_added : put rev_cmp r (as_parent rs (seen_in (entries M) r)) (entries M) ≡ entries (marked_with (r ∷ rs) t)
  parent_added = ap entries (same_map (Rattle.model.specs.Map.put M r (as_parent rs (seen_in (entries M) r))) (marked_with (r ∷ rs) t) at)
    where
      more : Rev → Bool
      more q = has_child t q || among (r ∷ rs) q

      X : Revision × Bool
      X = as_parent rs (seen_in (entries M) r)

      Alike : Rev → Bool → Type 0
      Alike q b = cond b (Some X) (option_map (marking marks q) (get (linked rs t) q)) ≡ option_map (marking (λ k. has_child t k || (b || among rs k)) q) (cond b (Some last) (get (linked rs t) q))

      both : (q : Rev) (b : Bool) → same_rev q r ≡ b → Alike q b
      both q true e = λ i. Some (linked_to rs (value i), sym (or_true (has_child t q)) i)
      both q false e = refl

      at : (q : Rev) → get (Rattle.model.specs.Map.put M r X) q ≡ get (marked_with (r ∷ rs) t) q
      at q =
          get-put M r X q ∙ ap (cond (same_rev q r) (Some X)) (got q) ∙ both q (same_rev q r) refl
          ∙ ap (option_map (marking more q)) (sym (get-put (linked rs t) r last q)) ∙ sym (get-with_marks more (linked (r ∷ rs) t) q)

  module _ (body : Body) (deleted : Bool) where
    abbrev filled : Rev → Revision → Revision
    filled q v = if same_rev r q then given body deleted v else v

    pub get-grafted : (q : Rev) → get (grafted (r ∷ rs) body deleted t) q ≡ cond (same_rev q r) (Some (given body deleted last)) (get (linked rs t) q)
    unfolding grafted
    get-grafted q =
        get-refine_all filled (linked (r ∷ rs) t) q ∙ ap (option_map (filled q)) (get-put (linked rs t) r last q) ∙ at (same_rev q r) (same_rev-symm r q)
      where
        kept : (o : Option Revision) (b : Bool) → b ≡ false → option_map (λ v. if b then given body deleted v else v) o ≡ o
        kept None b e = refl
        kept (Some v) b e = ap Some (cond-false b (given body deleted v) v e)

        at : (b : Bool) → same_rev r q ≡ b → option_map (filled q) (cond b (Some last) (get (linked rs t) q)) ≡ cond b (Some (given body deleted last)) (get (linked rs t) q)
        at true e = ap (λ b. Some (cond b (given body deleted last) last)) e
        at false e = kept (get (linked rs t) q) (same_rev r q) e

    -- with the newest
    pub newest_added : IsForest t → put rev_cmp r (as_newest rs body deleted (seen_in (entries M) r)) (entries M) ≡ entries (grown (r ∷ rs) body deleted t)
    newest_added f = ap entries (same_map (Rattle.model.specs.Map.put M r X) (grown (r ∷ rs) body deleted t) at)
      where
        X : Revision × Bool
        X = as_newest rs body deleted (seen_in (entries M) r)

        unknown : get t r ≡ None → false ≡ marks r
        unknown e = by_cases (has_child t r)
            (λ h. absurd (true≢false (sym (f.parents (child_of t r h).child r (child_of t r h).parent).0 ∙ ap is_some e)))
            (λ h. sym (ap (λ b. b || among rs r) h ∙ newest_apart r rs path))

        seen_mark : (o : Option Revision) → get t r ≡ o → (unwrap_or (option_map (marking marks r) o) (unseen, false)).1 ≡ marks r
        seen_mark None e = unknown e
        seen_mark (Some v) e = refl

        mark : (seen_in (entries M) r).1 ≡ marks r
        mark = ap (λ (v : Revision × Bool). v.1) seen ∙ seen_mark (get t r) refl

        both : (q : Rev) (b : Bool) → same_rev q r ≡ b → cond b (Some X) (option_map (marking marks q) (get (linked rs t) q)) ≡ option_map (marking marks q) (cond b (Some (given body deleted last)) (get (linked rs t) q))
        both q true e = let here : marks r ≡ marks q = ap marks (sym ((same_rev-equal q r).0 e)) in λ i. Some (given body deleted (linked_to rs (value i)), (mark ∙ here) i)
        both q false e = refl

        at : (q : Rev) → get (Rattle.model.specs.Map.put M r X) q ≡ get (grown (r ∷ rs) body deleted t) q
        at q =
            get-put M r X q ∙ ap (cond (same_rev q r) (Some X)) (got q) ∙ both q (same_rev q r) refl
            ∙ ap (option_map (marking marks q)) (sym (get-grafted q)) ∙ sym (get-with_marks marks (grafted (r ∷ rs) body deleted t) q)

    -- the parents of the graft
    pub grown_marks : IsForest t → graft (r ∷ rs) body deleted t ≡ Some (grafted (r ∷ rs) body deleted t) → (q : Rev) → marks q ≡ has_child (grafted (r ∷ rs) body deleted t) q
    grown_marks f e q = both_ways (marks q) (has_child u q) to from
      where
        u : Tree
        u = grafted (r ∷ rs) body deleted t

        union : IsUnion r rs body deleted t (grafted (r ∷ rs) body deleted t)
        union = (graft-union r rs body deleted t (grafted (r ∷ rs) body deleted t) path).0 e

        either : (a b : Bool) → (a || b) ≡ true → (a ≡ true) ⊎ (b ≡ true)
        either true b h = inl refl
        either false b h = inr h

        child : (c : Rev) → (is_at (parent_of t c) q || is_pair (r ∷ rs) c q) ≡ true → has_child (grafted (r ∷ rs) body deleted t) q ≡ true
        child c h = has_child-parent (grafted (r ∷ rs) body deleted t) q c ((is_at-equal (parent_of (grafted (r ∷ rs) body deleted t) c) q).0 (union.parents c q ∙ h))

        to : marks q ≡ true → has_child (grafted (r ∷ rs) body deleted t) q ≡ true
        to h = ⊎_elim
            (λ known. let c = child_of t q known in child c.child (ap (λ b. b || is_pair (r ∷ rs) c.child q) ((is_at-equal (parent_of t c.child) q).1 c.parent)))
            (λ member.
            let apart : same_rev r q ≡ false = by_cases (same_rev r q) (λ y. absurd (true≢false (sym member ∙ ap (among rs) (sym ((same_rev-equal r q).0 y)) ∙ newest_apart r rs path))) (λ n. n) in
            let listed : among (r ∷ rs) q ≡ true = ap (λ b. same_rev q r || b) member ∙ or_true (same_rev q r) in
            let c = pair_above r rs q listed apart in
            child c.0 (ap (λ b. is_at (parent_of t c.0) q || b) c.1 ∙ or_true (is_at (parent_of t c.0) q)))
            (either (has_child t q) (among rs q) h)

        from : has_child (grafted (r ∷ rs) body deleted t) q ≡ true → marks q ≡ true
        from h =
            let c = child_of (grafted (r ∷ rs) body deleted t) q h in
            ⊎_elim
            (λ known. ap (λ b. b || among rs q) (has_child-parent t q c.child ((is_at-equal (parent_of t c.child) q).0 known)))
            (λ pair. ap (λ b. has_child t q || b) (pair_next r rs c.child q pair) ∙ or_true (has_child t q))
            (either (is_at (parent_of t c.child) q) (is_pair (r ∷ rs) c.child q) (sym (union.parents c.child q) ∙ (is_at-equal (parent_of (grafted (r ∷ rs) body deleted t) c.child) q).1 c.parent))
