-- A graft of a path on the nodes of a tree.
use Rattle.std.specs.Prelude.{◌≡◌, ℕ, zero, suc, ◌+◌, ◌-◌, ◌<◌, ◌≤◌, T, Bool, true, ◌||◌, List, [], ◌∷◌, map, length, get_or, take, drop, All, Contains, Some, None, Result, Ok, Err, IfOk, refl}
use Rattle.std.specs.declared.vec.Vec.{Vec}
use Rattle.std.specs.declared.alloc.Global.{Global}
use Rattle.std.proofs.Common.{sym, ap, subst, ◌∙◌, arith, sub-one, length-drop, drop-cons}
use Rattle.std.specs.FinMap.Entries.{is_sorted, put}
use Rattle.std.proofs.lemmas.Bool.{cond-true}
use Rattle.std.proofs.lemmas.List.{take_all, drop_all}
use Rattle.std.proofs.lemmas.List.Elements.{All-weaker, All-contains_itself}
use Rattle.model.specs.Map.{entries, from_list, refine_list}
use Rattle.model.specs.Body.{Body, IsBody}
use Rattle.model.specs.Revision.{Rev, IsRev, rev_cmp, revs}
use Rattle.model.specs.Tree.{Tree, IsForest, IsInRange, has_child, among}
use Rattle.model.specs.TreeChange.{IsPath, agrees, graft, grafted}
use Rattle.model.proofs.UnionLaws.{IsTree-graft, IsInRange-graft}
use Rattle.revision_tree.specs.declared.node.Node.{Node}
use Rattle.revision_tree.specs.Nodes.{IsNodes, IsSorted, IsListOf, entries_of, rows_of, tree_of}
use Rattle.revision_tree.specs.Growth.{AreLinked, AreGround, IsRest, as_parent, as_newest, seen_in, marked_with, grown}
use Rattle.revision_tree.proofs.Grown.{parent_added, newest_added, grown_marks, with_marks, rows_marked, tree_marked, nodes_marked}
use Rattle.revision_tree.proofs.Listed.{entries-tree_of}
use Rattle.revision_tree.proofs.Rowed.{sorted_from_rows, entries_of-rows, bare_entry}

-- ---- the first of a list

pub uncons : {X : Type 0} (xs : List X) (x : X) → 1 ≤ length xs → x ≡ get_or xs 0 x → xs ≡ x ∷ take (length xs - 1) (drop 1 xs)
uncons [] x le e = absurd (omega arith)
uncons (y ∷ ys) x le e = λ i. sym e i ∷ sym (take_all (length (y ∷ ys) - 1) ys (omega arith)) i

pub no_first : {X : Type 0} (xs : List X) → length xs < 1 → xs ≡ []
no_first [] lt = refl
no_first (x ∷ xs) lt = absurd (omega arith)

-- ---- paths

pub path_at : (rs : List Rev) (i : ℕ) (d : Rev) → IsRest rs → i < length rs → IsPath (get_or rs i d ∷ drop (suc i) rs)
path_at [] i d h lt = absurd (omega arith)
path_at (r ∷ rs) zero d h lt = h
path_at (r ∷ []) (suc i) d h lt = absurd (omega arith)
path_at (r ∷ s ∷ rs) (suc i) d h lt = path_at (s ∷ rs) i d h.1 (omega arith)

pub rest_of_path : (r : Rev) (rs : List Rev) → IsPath (r ∷ rs) → IsRest rs
rest_of_path r [] h = tt
rest_of_path r (s ∷ rs) h = h.1

-- what follows a place from which a loop comes down
pub rest_from : (rs : List Rev) (i : ℕ) → 0 < i → take (length rs - (i - 1 + 1)) (drop (i - 1 + 1) rs) ≡ drop i rs
rest_from rs i some = let same : i - 1 + 1 ≡ i = omega arith in ap (λ n. take (length rs - n) (drop n rs)) same ∙ take_all (length rs - i) (drop i rs) (omega (arith, length-drop i rs))

-- ---- the members that are not the newest

pub linked_sorted : (rs : List Rev) (t : Tree) (ns : List Node) → AreLinked rs t ns → IsSorted ns
linked_sorted rs t ns h = sorted_from_rows ns (subst (λ xs. T (is_sorted rev_cmp xs)) (sym h.rows) (marked_with rs t).sorted)

pub linked_start : (older : List Rev) (ns : List Node) → AreGround ns → AreLinked (drop (length older) older) (tree_of ns) ns
linked_start older ns h = subst (λ rs. AreLinked rs (tree_of ns) ns) (sym (drop_all (length older) older (omega arith))) h.linked

pub linked_more : (t : Tree) (r : Rev) (rs : List Rev) (ns made : List Node) → IsPath (r ∷ rs) → AreLinked rs t ns → rows_of made ≡ put rev_cmp r (as_parent rs (seen_in (rows_of ns) r)) (rows_of ns) → AreLinked (r ∷ rs) t made
linked_more t r rs ns made path h e = record { rows = e ∙ ap (λ xs. put rev_cmp r (as_parent rs (seen_in xs r)) xs) h.rows ∙ parent_added t r rs path }

pub linked_next : (t : Tree) (older os : List Rev) (i : ℕ) (r : Rev) (ns made : List Node) → IsRest older → i ≤ length older → 0 < i → r ≡ get_or older (i - 1) r → os ≡ drop i older
    → AreLinked (drop i older) t ns → rows_of made ≡ put rev_cmp r (as_parent os (seen_in (rows_of ns) r)) (rows_of ns) → AreLinked (drop (i - 1) older) t made
linked_next t older os zero r ns made path le some at is before e = absurd (omega arith)
linked_next t older os (suc k) r ns made path le some at is before e =
    let place : r ≡ get_or older k r = rw sub-one at at in
    let parts : drop k older ≡ r ∷ drop (suc k) older = drop-cons older k r (omega arith) ∙ ap (λ q. q ∷ drop (suc k) older) (sym place) in
    let whole : IsPath (r ∷ drop (suc k) older) = subst (λ q. IsPath (q ∷ drop (suc k) older)) (sym place) (path_at older k r path (omega arith)) in
    rw sub-one (subst (λ rs. AreLinked rs t made) (sym parts) (linked_more t r (drop (suc k) older) ns made whole before (e ∙ ap (λ rs. put rev_cmp r (as_parent rs (seen_in (rows_of ns) r)) (rows_of ns)) is)))

-- ---- the whole path

pub grown_rows : (path : List Rev) (r : Rev) (rs : List Rev) (body : Body) (deleted : Bool) (t : Tree) (ns made : List Node) → path ≡ r ∷ rs → IsPath path → IsForest t → AreLinked rs t ns
    → rows_of made ≡ put rev_cmp r (as_newest rs body deleted (seen_in (rows_of ns) r)) (rows_of ns) → rows_of made ≡ entries (grown path body deleted t)
grown_rows path r rs body deleted t ns made parts is f h e =
    e ∙ ap (λ xs. put rev_cmp r (as_newest rs body deleted (seen_in xs r)) xs) h.rows ∙ newest_added t r rs (subst IsPath parts is) body deleted f
    ∙ ap (λ p. entries (grown p body deleted t)) (sym parts)

pub graft_agreed : (path : List Rev) (body : Body) (deleted : Bool) (t : Tree) → agrees t path ≡ true → graft path body deleted t ≡ Some (grafted path body deleted t)
unfolding graft
graft_agreed path body deleted t h = cond-true (agrees t path) (Some (grafted path body deleted t)) None h

pub grown_tree : (path : List Rev) (body : Body) (deleted : Bool) (t : Tree) (ns : List Node) → IsPath path → rows_of ns ≡ entries (grown path body deleted t) → tree_of ns ≡ grafted path body deleted t
grown_tree [] body deleted t ns path is = absurd path
grown_tree (r ∷ rs) body deleted t ns path is = tree_marked ns (grafted (r ∷ rs) body deleted t) (λ q. has_child t q || among rs q) is

pub grown_nodes : (path : List Rev) (body : Body) (deleted : Bool) (t : Tree) (ns : List Node) → IsPath path → All IsRev path → IsBody body → agrees t path ≡ true → IsForest t → IsInRange t
    → rows_of ns ≡ entries (grown path body deleted t) → IsNodes ns
grown_nodes [] body deleted t ns path each is_body h f range is = absurd path
grown_nodes (r ∷ rs) body deleted t ns path each is_body h f range is =
    let e = graft_agreed (r ∷ rs) body deleted t h in
    nodes_marked ns (grafted (r ∷ rs) body deleted t) (λ q. has_child t q || among rs q) is (grown_marks t r rs path body deleted f e)
    (IsTree-graft (r ∷ rs) body deleted t (grafted (r ∷ rs) body deleted t) path f e)
    (IsInRange-graft (r ∷ rs) body deleted t (grafted (r ∷ rs) body deleted t) path each is_body range e)

-- ---- the same rows

pub same_entries_of : (ms ns : List Node) → rows_of ms ≡ rows_of ns → entries_of ms ≡ entries_of ns
same_entries_of ms ns e = sym (entries_of-rows ms) ∙ ap (map bare_entry) e ∙ entries_of-rows ns

pub same_tree_of : (ms ns : List Node) → rows_of ms ≡ rows_of ns → tree_of ms ≡ tree_of ns
same_tree_of ms ns e = ap from_list (same_entries_of ms ns e)

pub listed_alike : (ms ns : List Node) → rows_of ms ≡ rows_of ns → IsNodes ns → IsListOf ms (tree_of ns)
listed_alike ms ns e h = record { entries = entries-tree_of ns h.sorted ∙ sym (same_entries_of ms ns e); tree = h.tree; range = h.range }

pub ground_alike : (ms ns : List Node) → rows_of ms ≡ rows_of ns → AreGround ns → AreGround ms
ground_alike ms ns e h =
    let same = sym (same_tree_of ms ns e) in
    record { forest = subst IsForest same h.forest; linked = record { rows = e ∙ h.linked.rows ∙ ap (λ t. entries (marked_with [] t)) same } }

pub listed_if_ok : {E : Type 0} (r : Result (Vec Node Global) E) (ns : List Node) → IsNodes ns → IfOk r (λ v. rows_of v.items ≡ rows_of ns) → IfOk r (λ v. IsListOf v.items (tree_of ns))
listed_if_ok (Ok v) ns h e = listed_alike v.items ns e h
listed_if_ok (Err f) ns h e = tt

pub ground_if_ok : {X E : Type 0} {P Q : X → Type 0} (r : Result X E) → ((x : X) → P x → Q x) → IfOk r P → IfOk r Q
ground_if_ok (Ok x) f h = f x h
ground_if_ok (Err e) f h = tt

pub nodes_alike : (ms ns : List Node) → rows_of ms ≡ rows_of ns → IsNodes ns → IsNodes ms
nodes_alike ms ns e h =
    let is : rows_of ms ≡ entries (with_marks (has_child (tree_of ns)) (tree_of ns)) = e ∙ rows_marked (has_child (tree_of ns)) ns (All-weaker (Contains ns) (λ n. n.inner ≡ has_child (tree_of ns) n.rev) (λ n c. h.inner n c) ns (All-contains_itself ns))
    ∙ ap (refine_list revs (λ q v. Some (v, has_child (tree_of ns) q))) (sym (entries-tree_of ns h.sorted)) in
    nodes_marked ms (tree_of ns) (has_child (tree_of ns)) is (λ q. refl) h.tree h.range
