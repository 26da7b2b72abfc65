-- The first and the last node, and nodes counted piece by piece.
use Rattle.std.specs.Prelude.{◌≡◌, ℕ, zero, suc, ◌+◌, ◌-◌, ◌<◌, ◌≤◌, min, ◌==◌, true, false, List, [], ◌∷◌, ◌++◌, length, get_or, take, drop, AllPairs, Contains, is_some, refl}
use Rattle.std.proofs.Common.{sym, ap, subst, ◌∙◌, arith, append_assoc}
use Rattle.std.specs.declared.cmp.Ordering.{Ordering}
use Rattle.std.specs.declared.cmp.Ordering.TheVariants.{Less, Equal, Greater}
use Rattle.std.specs.Ordering.{nat_cmp, ordering_then}
use Rattle.std.specs.Cmp.Lexicographic.{slice_cmp}
use Rattle.std.proofs.lemmas.Bool.{true≢false}
use Rattle.std.proofs.lemmas.Cmp.{ranked}
use Rattle.std.proofs.Math.ListN.{length-map}
use Rattle.std.proofs.lemmas.List.{map-append, get_or-map, take_more, length-append, append-nil}
use Rattle.std.proofs.lemmas.List.Elements.{Contains-append_right}
use Rattle.model.specs.Revision.{Rev, rev_cmp}
use Rattle.model.specs.Tree.{IsTree, knows}
use Rattle.model.proofs.ListLaws.{Contains-head}
use Rattle.revision_tree.specs.declared.node.Node.{Node}
use Rattle.revision_tree.specs.Nodes.{IsSorted, row_of, rows_of, tree_of}
use Rattle.revision_tree.specs.Rows.{Piece, items_of, lists_of, joined, AreFilled}
use Rattle.revision_tree.proofs.Pieces.{joined-append, joined_from}
use Rattle.revision_tree.proofs.Places.{Before, rising, got, node_known}

-- ---- generations

by_rank : (m n : ℕ) (o : Ordering) → nat_cmp m n ≡ o → (m < n → o ≡ Less) × (o ≡ Less → m < n) × (o ≡ Equal → m ≡ n)
by_rank m n Less e = let r = ranked m n Less (sym e) in (λ _. refl, λ _. r, λ k. cc)
by_rank m n Equal e = let r = ranked m n Equal (sym e) in (λ lt. absurd (omega arith), λ k. cc, λ _. r)
by_rank m n Greater e = let r = ranked m n Greater (sym e) in (λ lt. absurd (omega arith), λ k. cc, λ k. cc)

pub younger : (a b : Rev) → a.generation < b.generation → rev_cmp a b ≡ Less
younger a b lt = ap (λ o. ordering_then o (slice_cmp nat_cmp a.hash b.hash)) ((by_rank a.generation b.generation (nat_cmp a.generation b.generation) refl).0 lt)

pub no_older : (a b : Rev) → rev_cmp a b ≡ Less → a.generation ≤ b.generation
no_older a b e = at (nat_cmp a.generation b.generation) refl e
  where
    at : (o : Ordering) → nat_cmp a.generation b.generation ≡ o → ordering_then o (slice_cmp nat_cmp a.hash b.hash) ≡ Less → a.generation ≤ b.generation
    at Less k e = let lt = (by_rank a.generation b.generation Less k).1 refl in omega arith
    at Equal k e = let same = (by_rank a.generation b.generation Equal k).2 refl in omega arith
    at Greater k e = cc

-- ---- the ends

pub no_younger_after : (ns : List Node) → AllPairs Before ns → (i j : ℕ) (d : Node) → i ≤ j → j < length ns → (get_or ns i d).rev.generation ≤ (get_or ns j d).rev.generation
no_younger_after ns rise i j d le lt =
    grind (arith, λ (k : i < j). no_older (get_or ns i d).rev (get_or ns j d).rev (rise i j d k lt), λ (e : i ≡ j). ap (λ k. (get_or ns k d).rev.generation) e)

pub node_knows : (ns : List Node) (n : Node) → IsSorted ns → Contains ns n → knows (tree_of ns) n.rev ≡ true
node_knows ns n h c = ap is_some (got ns h n c)

-- the first of a list, and the last
pub first_known : (ns piece after rest : List Node) (n : Node) → ns ≡ piece ++ after → piece ≡ n ∷ rest → Contains ns n
first_known ns piece after rest n e f = subst (λ ms. Contains ms n) (sym (e ∙ ap (λ ms. ms ++ after) f)) (Contains-head n (rest ++ after))

pub first_oldest : (ns piece after rest : List Node) (n : Node) → IsSorted ns → ns ≡ piece ++ after → piece ≡ n ∷ rest → (r : Rev) → knows (tree_of ns) r ≡ true → n.rev.generation ≤ r.generation
first_oldest ns piece after rest n h e f r k =
    let m = node_known ns h r k in
    let at : get_or ns 0 m.node ≡ n = ap (λ ms. get_or ms 0 m.node) (e ∙ ap (λ ms. ms ++ after) f) in
    let there : (get_or ns m.listed.0 m.node).rev.generation ≡ r.generation = ap (λ (x : Node). x.rev.generation) m.listed.2 ∙ ap (λ (q : Rev). q.generation) m.rev in
    let here : (get_or ns 0 m.node).rev.generation ≡ n.rev.generation = ap (λ (x : Node). x.rev.generation) at in
    omega (arith, here, there, no_younger_after ns (rising ns h) 0 m.listed.0 m.node (omega arith) m.listed.1)

end_at : (xs : List Node) (n d : Node) → get_or (xs ++ n ∷ []) (length xs) d ≡ n
end_at [] n d = refl
end_at (x ∷ xs) n d = end_at xs n d

pub last_part : (ns : List Node) (n : Node) → 1 ≤ length ns → n ≡ get_or ns (length ns - 1) n → ns ≡ take (length ns - 1) ns ++ (n ∷ [])
last_part ns n le is =
    let k = length ns - 1 in
    let more : k + 1 ≡ length ns = omega (arith, le) in
    sym (Rattle.std.proofs.lemmas.List.take_all (k + 1) ns (omega (arith, more))) ∙ take_more ns k n (omega (arith, le)) ∙ ap (λ x. take k ns ++ (x ∷ [])) (sym is)

pub last_known : (ns before piece front : List Node) (n : Node) → ns ≡ before ++ piece → piece ≡ front ++ (n ∷ []) → Contains ns n
last_known ns before piece front n e f = subst (λ ms. Contains ms n) (sym (e ∙ ap (λ ms. before ++ ms) f)) (Contains-append_right before (front ++ (n ∷ [])) n (Contains-append_right front (n ∷ []) n (Contains-head n [])))

pub last_newest : (ns before piece front : List Node) (n : Node) → IsSorted ns → ns ≡ before ++ piece → piece ≡ front ++ (n ∷ []) → (r : Rev) → knows (tree_of ns) r ≡ true → r.generation ≤ n.rev.generation
last_newest ns before piece front n h e f r k =
    let m = node_known ns h r k in
    let whole : ns ≡ (before ++ front) ++ (n ∷ []) = e ∙ ap (λ ms. before ++ ms) f ∙ sym (append_assoc before front (n ∷ [])) in
    let long : length ns ≡ length (before ++ front) + 1 = ap length whole ∙ length-append (before ++ front) (n ∷ []) in
    let i = length (before ++ front) in
    let at : get_or ns i m.node ≡ n = ap (λ ms. get_or ms i m.node) whole ∙ end_at (before ++ front) n m.node in
    let there : (get_or ns m.listed.0 m.node).rev.generation ≡ r.generation = ap (λ (x : Node). x.rev.generation) m.listed.2 ∙ ap (λ (q : Rev). q.generation) m.rev in
    let here : (get_or ns i m.node).rev.generation ≡ n.rev.generation = ap (λ (x : Node). x.rev.generation) at in
    omega (arith, here, there, no_younger_after ns (rising ns h) m.listed.0 i m.node (omega (arith, long, m.listed.1)) (omega (arith, long)))

pub not_empty : (ns : List Node) → IsTree (tree_of ns) → IsSorted ns → ns ≡ [] → ⊥
not_empty ns t h e = let m = node_known ns h t.some_known.0 t.some_known.1 in omega (arith, m.listed.1, ap length e)

pub some_from : (n : ℕ) → (n == 0) ≡ false → 0 < n
some_from zero e = absurd (true≢false e)
some_from (suc n) e = omega arith

-- ---- piece by piece

pub joined_more : (ps : List Piece) (i : ℕ) (p : Piece) → i < length ps → p ≡ get_or ps i p → joined (take (i + 1) (lists_of ps)) ≡ joined (take i (lists_of ps)) ++ items_of p
joined_more ps i p lt is =
    ap joined (take_more (lists_of ps) i [] (omega (arith, lt, length-map ps items_of))) ∙ joined-append (take i (lists_of ps)) (get_or (lists_of ps) i [] ∷ [])
    ∙ ap (λ ms. joined (take i (lists_of ps)) ++ ms) (append-nil (get_or (lists_of ps) i []) ∙ get_or-map items_of ps i p [] lt ∙ ap items_of (sym is))

pub rows_more : (ps qs : List Piece) (i : ℕ) (p : Piece) (old new ns : List Node) → qs ≡ ps → i < length qs → p ≡ get_or qs i p → ns ≡ items_of p
    → rows_of old ≡ rows_of (joined (take i (lists_of ps))) → rows_of new ≡ rows_of old ++ rows_of ns → rows_of new ≡ rows_of (joined (take (i + 1) (lists_of ps)))
rows_more ps qs i p old new ns same lt is here before e =
    let parts = joined_more ps i p (omega (arith, lt, ap length same)) (subst (λ xs. p ≡ get_or xs i p) same is) in
    e ∙ (λ k. before k ++ rows_of (here k)) ∙ sym (map-append row_of (joined (take i (lists_of ps))) (items_of p)) ∙ ap rows_of (sym parts)

pub count_more : (ps qs : List Piece) (i : ℕ) (p : Piece) (a b c d most : ℕ) → qs ≡ ps → i < length qs → p ≡ get_or qs i p → d ≡ length (items_of p)
    → a ≡ min (length (joined (take i (lists_of ps))) + c) most → b ≡ min (a + d) most → b ≡ min (length (joined (take (i + 1) (lists_of ps))) + c) most
count_more ps qs i p a b c d most same lt is here before e =
    let long : length (joined (take (i + 1) (lists_of ps))) ≡ length (joined (take i (lists_of ps))) + length (items_of p) = ap length (joined_more ps i p (omega (arith, lt, ap length same)) (subst (λ xs. p ≡ get_or xs i p) same is)) ∙ length-append (joined (take i (lists_of ps))) (items_of p) in
    omega (arith, long, here, before, e)

pub first_parts : (ps : List Piece) (p : Piece) (ns last : List Node) → 0 < length ps → p ≡ get_or ps 0 p → ns ≡ items_of p → joined (lists_of ps) ++ last ≡ ns ++ (joined (drop 1 (lists_of ps)) ++ last)
first_parts ps p ns last some is here =
    ap (λ ms. ms ++ last) (joined_from (lists_of ps) 0 (omega (arith, some, length-map ps items_of)) ∙ ap (λ ms. ms ++ joined (drop 1 (lists_of ps))) (get_or-map items_of ps 0 p [] some ∙ ap items_of (sym is) ∙ sym here))
    ∙ append_assoc ns (joined (drop 1 (lists_of ps))) last

pub last_parts : (ps : List Piece) (p : Piece) (ns last : List Node) → 0 < length ps → p ≡ get_or ps (length ps - 1) p → ns ≡ items_of p → last ≡ [] → joined (lists_of ps) ++ last ≡ joined (take (length ps - 1) (lists_of ps)) ++ ns
last_parts ps p ns last some is here none =
    let k = length ps - 1 in
    let lt : k < length ps = omega (arith, some) in
    let more : k + 1 ≡ length ps = omega (arith, some) in
    ap (λ ms. joined (lists_of ps) ++ ms) none ∙ append-nil (joined (lists_of ps))
    ∙ ap joined (sym (Rattle.std.proofs.lemmas.List.take_all (k + 1) (lists_of ps) (omega (arith, more, length-map ps items_of)))) ∙ joined_more ps k p lt is ∙ ap (λ ms. joined (take k (lists_of ps)) ++ ms) (sym here)

pub filled_here : (ps : List Piece) (i : ℕ) (p : Piece) (ns : List Node) → AreFilled (lists_of ps) → i < length ps → p ≡ get_or ps i p → ns ≡ items_of p → ns ≡ [] → ⊥
filled_here ps i p ns h lt is here none =
    let some : 0 < length (get_or (lists_of ps) i []) = h i [] (omega (arith, lt, length-map ps items_of)) in
    let same : get_or (lists_of ps) i [] ≡ [] = get_or-map items_of ps i p [] lt ∙ ap items_of (sym is) ∙ sym here ∙ none in
    omega (arith, some, ap length same)
