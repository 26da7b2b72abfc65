-- The trees that have one leaf.
use Rattle.std.specs.Prelude.{◌≡◌, ◌⊎◌, ℕ, ◌<◌, ◌≤◌, Bool, true, false, ◌||◌, List, [], ◌∷◌, ◌++◌, All, Some, refl}
use Rattle.std.proofs.Common.{sym, ap, subst, ◌∙◌, ⊎_elim, inl, inr, arith}
use Rattle.std.proofs.lemmas.Bool.{true≢false}
use Rattle.std.proofs.lemmas.List.Elements.{All-nil, All-cons, All-append, All-weaker, All-contains}
use Rattle.model.specs.Map.{entries}
use Rattle.model.specs.Body.{Body}
use Rattle.model.specs.Revision.{Rev, same_rev, same_rev-equal}
use Rattle.model.specs.Tree.{Tree, IsForest, has_child, is_leaf, knows, among}
use Rattle.model.specs.TreeChange.{IsPath, IsUnion, agrees, graft, grafted, stem, strip}
use Rattle.model.proofs.ListLaws.{by_cases}
use Rattle.model.proofs.StripLaws.{is_leaf-strip}
use Rattle.model.proofs.TreeLaws.{child_of, childless_leaf, knows_child, leaf_childless, leaf_known}
use Rattle.model.proofs.UnionLaws.{graft-union}
use Rattle.revision_tree.specs.declared.node.Node.{Node}
use Rattle.revision_tree.specs.Notes.{HasOneLeaf}
use Rattle.revision_tree.specs.Growth.{grown}
use Rattle.revision_tree.specs.Nodes.{IsNodes, rows_of, tree_of}
use Rattle.revision_tree.proofs.Grafts.{graft_agreed, grown_tree}
use Rattle.revision_tree.proofs.Grown.{grown_marks}
use Rattle.revision_tree.proofs.Places.{node_known}
use Rattle.revision_tree.proofs.Shortened.{IsLevelTree, stem_leaf}

-- with no leaf but this
pub one_of : (t : Tree) (r : Rev) → ((l : Rev) → is_leaf t l ≡ true → l ≡ r) → HasOneLeaf t
one_of t r h l m x y = h l x ∙ sym (h m y)

-- ---- nodes

abbrev pub IsOnly : Rev → Node → Type 0
IsOnly r n = n.inner ≡ false → n.rev ≡ r

pub only_last : (ns older : List Node) (n : Node) → ns ≡ older ++ (n ∷ []) → All (λ m. m.inner ≡ true) older → All (IsOnly n.rev) ns
only_last ns older n e h = subst (All (IsOnly n.rev)) (sym e)
    (All-append (IsOnly n.rev) older (n ∷ []) (All-weaker (λ m. m.inner ≡ true) (IsOnly n.rev) (λ m inner outer. absurd (true≢false (sym inner ∙ outer))) older h)
    (All-cons (IsOnly n.rev) n [] (λ _. refl) (All-nil (IsOnly n.rev))))

pub one_listed : (ns : List Node) → IsNodes ns → (r : Rev) → All (IsOnly r) ns → HasOneLeaf (tree_of ns)
one_listed ns h r all = one_of (tree_of ns) r (λ l leaf.
    let m = node_known ns h.sorted l (leaf_known (tree_of ns) l leaf) in
    let n = m.node in
    let outer : n.inner ≡ false = h.inner n m.listed ∙ ap (has_child (tree_of ns)) m.rev ∙ leaf_childless (tree_of ns) l leaf in
    sym m.rev ∙ All-contains (IsOnly r) ns n all m.listed outer)

-- ---- a graft of a path that has each leaf

or_left : (a b : Bool) → (a || b) ≡ false → a ≡ false
or_left true b e = e
or_left false b e = refl

or_right : (a b : Bool) → (a || b) ≡ false → b ≡ false
or_right true b e = absurd (true≢false e)
or_right false b e = e

either : (a b : Bool) → (a || b) ≡ true → (a ≡ true) ⊎ (b ≡ true)
either true b h = inl refl
either false b h = inr h

pub one_grafted : (r : Rev) (rs : List Rev) (body : Body) (deleted : Bool) (t : Tree) → IsPath (r ∷ rs) → IsForest t → graft (r ∷ rs) body deleted t ≡ Some (grafted (r ∷ rs) body deleted t)
    → ((l : Rev) → is_leaf t l ≡ true → among (r ∷ rs) l ≡ true) → HasOneLeaf (grafted (r ∷ rs) body deleted t)
one_grafted r rs body deleted t path f e through = one_of (grafted (r ∷ rs) body deleted t) r (λ l leaf.
    let u = grafted (r ∷ rs) body deleted t in
    let union : IsUnion r rs body deleted t u = (graft-union r rs body deleted t u path).0 e in
    let outer : (has_child t l || among rs l) ≡ false = grown_marks t r rs path body deleted f e l ∙ leaf_childless u l leaf in
    let member : among (r ∷ rs) l ≡ true = ⊎_elim
    (λ known. through l (childless_leaf t l known (or_left (has_child t l) (among rs l) outer)))
    (λ listed. listed)
    (either (knows t l) (among (r ∷ rs) l) (sym (union.known l) ∙ leaf_known u l leaf)) in
    (same_rev-equal l r).0 (⊎_elim (λ same. same) (λ listed. absurd (true≢false (sym listed ∙ or_right (has_child t l) (among rs l) outer))) (either (same_rev l r) (among rs l) member)))

pub one_grown : (path : List Rev) (body : Body) (deleted : Bool) (t : Tree) (ns : List Node) → IsPath path → agrees t path ≡ true → IsForest t → rows_of ns ≡ entries (grown path body deleted t)
    → ((l : Rev) → is_leaf t l ≡ true → among path l ≡ true) → HasOneLeaf (tree_of ns)
one_grown [] body deleted t ns path h f is through = absurd path
one_grown (r ∷ rs) body deleted t ns path h f is through =
    subst HasOneLeaf (sym (grown_tree (r ∷ rs) body deleted t ns path is)) (one_grafted r rs body deleted t path f (graft_agreed (r ∷ rs) body deleted t h) through)

-- ---- a strip

pub one_stripped : (t : Tree) → HasOneLeaf t → HasOneLeaf (strip t)
one_stripped t one l m x y = one l m (sym (is_leaf-strip t l) ∙ x) (sym (is_leaf-strip t m) ∙ y)

-- ---- a stem of a level tree

pub one_shortened : (t : Tree) → IsForest t → (limit : ℕ) → 0 < limit → (newest : Rev) → knows t newest ≡ true → ((r : Rev) → knows t r ≡ true → r.generation ≤ newest.generation) → IsLevelTree t → HasOneLeaf t → HasOneLeaf (stem limit t)
one_shortened t f limit some newest known most level one l m x y = one l m (stem_leaf t f limit some newest known most level l x) (stem_leaf t f limit some newest known most level m y)

-- ---- the newest

-- a revision that none is younger than is a leaf
pub newest_leaf : (t : Tree) → IsForest t → (r : Rev) → knows t r ≡ true → ((q : Rev) → knows t q ≡ true → q.generation ≤ r.generation) → is_leaf t r ≡ true
newest_leaf t f r k most = by_cases (has_child t r)
    (λ h. let c = child_of t r h in
    absurd (let up = (f.parents c.child r c.parent).1 in let le = most c.child (knows_child t c.child r c.parent) in omega (arith, up, le)))
    (λ h. childless_leaf t r k h)

pub one_level : (t : Tree) → IsForest t → HasOneLeaf t → (r : Rev) → knows t r ≡ true → ((q : Rev) → knows t q ≡ true → q.generation ≤ r.generation) → IsLevelTree t
one_level t f one r k most l q leaf known =
    let same : r.generation ≡ l.generation = ap (λ (s : Rev). s.generation) (one r l (newest_leaf t f r k most) leaf) in
    omega (arith, same, most q known)
