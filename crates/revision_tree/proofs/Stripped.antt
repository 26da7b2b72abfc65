-- A strip of nodes by their marks.
use Rattle.std.specs.List.{flat_map}
use Rattle.std.specs.Prelude.{◌≡◌, ◌<◌, Bool, true, false, not, ◌&&◌, Some, List, [], ◌∷◌, ◌++◌, map, length, All, Contains, None, is_some, if◌then◌else◌, refl}
use Rattle.std.proofs.Common.{sym, ap, subst, ◌∙◌, arith}
use Rattle.std.proofs.Math.ListN.{length-map}
use Rattle.std.proofs.lemmas.List.{map-append}
use Rattle.std.proofs.lemmas.List.Elements.{All-head, All-tail, All-nil, All-cons, All-weaker, All-contains_itself}
use Rattle.model.specs.Map.{entries, refine_list}
use Rattle.model.specs.Revision.{Rev, revs}
use Rattle.model.specs.Tree.{Tree, Revision, has_child, is_leaf, knows}
use Rattle.model.specs.TreeChange.{strip}
use Rattle.model.proofs.TreeLaws.{same_children}
use Rattle.model.proofs.StripLaws.{knows-strip, parent_of-strip}
use Rattle.revision_tree.specs.declared.node.Node.{Node}
use Rattle.revision_tree.specs.Nodes.{Row, IsNodes, entry_of, entries_of, row_of, rows_of, tree_of}
use Rattle.revision_tree.specs.Rows.{joined, AreFilled}
use Rattle.revision_tree.specs.Bared.{bare_row}
use Rattle.revision_tree.proofs.Listed.{entries-tree_of}
use Rattle.revision_tree.proofs.Places.{got}
use Rattle.revision_tree.proofs.Grown.{with_marks}

abbrev bared_in : Tree → Rev → Revision → Revision
bared_in t r v = if is_leaf t r then v else record v { body = None }

abbrev marked : (Rev → Bool) → Rev → Revision → Revision × Bool
marked m q v = (v, m q)

-- a node is marked as the tree says
abbrev Said : Tree → Node → Type 0
Said t n = (n.inner ≡ has_child t n.rev) × (knows t n.rev ≡ true)

bare_one : (t : Tree) (n : Node) → Said t n → bare_row (row_of n) ≡ (n.rev, (bared_in t n.rev (entry_of n).1, has_child t n.rev))
bare_one t n h = at n.inner (has_child t n.rev) h.0
  where
    v : Revision
    v = (entry_of n).1

    at : (a b : Bool) → a ≡ b → ◌≡◌ {A = Row} (n.rev, (if a then record v { body = None } else v, a)) (n.rev, (if knows t n.rev && not b then v else record v { body = None }, b))
    at a b e = subst (λ k. ◌≡◌ {A = Row} (n.rev, (if a then record v { body = None } else v, a)) (n.rev, (if k && not b then v else record v { body = None }, b))) (sym h.1) (same a b e)
      where
        same : (a b : Bool) → a ≡ b → ◌≡◌ {A = Row} (n.rev, (if a then record v { body = None } else v, a)) (n.rev, (if not b then v else record v { body = None }, b))
        same a b e = subst (λ c. ◌≡◌ {A = Row} (n.rev, (if a then record v { body = None } else v, a)) (n.rev, (if not c then v else record v { body = None }, c))) e (alone a)
          where
            alone : (a : Bool) → ◌≡◌ {A = Row} (n.rev, (if a then record v { body = None } else v, a)) (n.rev, (if not a then v else record v { body = None }, a))
            alone true = refl
            alone false = refl

bare_all : (t : Tree) (ns : List Node) → All (Said t) ns → map bare_row (rows_of ns) ≡ refine_list revs (λ q v. Some (marked (has_child t) q v)) (refine_list revs (λ q v. Some (bared_in t q v)) (entries_of ns))
bare_all t [] h = refl
bare_all t (n ∷ ns) h = λ i. bare_one t n (All-head (Said t) n ns h) i ∷ bare_all t ns (All-tail (Said t) n ns h) i

pub stripped_rows : (ns made : List Node) → IsNodes ns → rows_of made ≡ map bare_row (rows_of ns) → rows_of made ≡ entries (with_marks (has_child (tree_of ns)) (strip (tree_of ns)))
unfolding strip
stripped_rows ns made h is =
    let t = tree_of ns in
    is ∙ bare_all t ns (All-weaker (Contains ns) (Said t) (λ n c. (h.inner n c, ap is_some (got ns h.sorted n c))) ns (All-contains_itself ns))
    ∙ ap (λ es. refine_list revs (λ q v. Some (marked (has_child t) q v)) (refine_list revs (λ q v. Some (bared_in t q v)) es)) (sym (entries-tree_of ns h.sorted))

pub stripped_marks : (t : Tree) (q : Rev) → has_child t q ≡ has_child (strip t) q
stripped_marks t q = sym (same_children (strip t) t (knows-strip t) (parent_of-strip t) q)

-- ---- pieces

pub rows-joined : (nss : List (List Node)) → rows_of (joined nss) ≡ flat_map (λ (rs : List Row). rs) (map rows_of nss)
rows-joined [] = refl
rows-joined (ns ∷ nss) = map-append row_of ns (joined nss) ∙ ap (λ rs. rows_of ns ++ rs) (rows-joined nss)

bare-joined : (nss : List (List Node)) → map bare_row (rows_of (joined nss)) ≡ flat_map (λ (rs : List Row). rs) (map (λ ns. map bare_row (rows_of ns)) nss)
bare-joined [] = refl
bare-joined (ns ∷ nss) = ap (map bare_row) (map-append row_of ns (joined nss)) ∙ map-append bare_row (rows_of ns) (rows_of (joined nss)) ∙ ap (λ rs. map bare_row (rows_of ns) ++ rs) (bare-joined nss)

pub bare_whole : (mss nss : List (List Node)) (ms ns : List Node) → map rows_of mss ≡ map (λ ns. map bare_row (rows_of ns)) nss → rows_of ms ≡ map bare_row (rows_of ns)
    → rows_of (joined mss ++ ms) ≡ map bare_row (rows_of (joined nss ++ ns))
bare_whole mss nss ms ns e f =
    map-append row_of (joined mss) ms
    ∙ (λ i. (rows-joined mss ∙ ap (flat_map (λ (rs : List Row). rs)) e ∙ sym (bare-joined nss)) i ++ f i)
    ∙ sym (ap (map bare_row) (map-append row_of (joined nss) ns) ∙ map-append bare_row (rows_of (joined nss)) (rows_of ns))

same_length : (ms ns : List Node) → rows_of ms ≡ map bare_row (rows_of ns) → length ms ≡ length ns
same_length ms ns e = sym (length-map ms row_of) ∙ ap length e ∙ length-map (rows_of ns) bare_row ∙ length-map ns row_of

abbrev first_list : (d : List Row) (xs : List (List Row)) → List Row
first_list d [] = d
first_list d (x ∷ xs) = x

abbrev rest_list : (xs : List (List Row)) → List (List Row)
rest_list [] = []
rest_list (x ∷ xs) = xs

pub bare_filled : (mss nss : List (List Node)) → map rows_of mss ≡ map (λ ns. map bare_row (rows_of ns)) nss → AreFilled nss → AreFilled mss
bare_filled [] nss e h = All-nil (λ ns. 0 < length ns)
bare_filled (ms ∷ mss) [] e h = let n = ap length e in absurd (omega (arith, n))
bare_filled (ms ∷ mss) (ns ∷ nss) e h =
    let here = same_length ms ns (ap (first_list []) e) in
    let some : 0 < length ns = All-head (λ ns. 0 < length ns) ns nss h in
    All-cons (λ ns. 0 < length ns) ms mss (omega (arith, here, some)) (bare_filled mss nss (ap rest_list e) (All-tail (λ ns. 0 < length ns) ns nss h))
