-- The nodes in pieces, from the newest piece on.
use Rattle.std.specs.Prelude.{◌≡◌, ℕ, zero, suc, ◌-◌, ◌<◌, ◌≤◌, Bool, List, [], ◌++◌, length, get_or, take, drop, Some, None}
use Rattle.std.proofs.Common.{sym, ap, subst, ◌∙◌, arith, append_assoc}
use Rattle.std.specs.Option.{option_or}
use Rattle.std.proofs.Math.ListN.{length-map}
use Rattle.std.proofs.lemmas.List.{get_or-map}
use Rattle.revision_tree.specs.declared.node.Node.{Node}
use Rattle.revision_tree.specs.declared.leaf.Leaf.{Leaf as Found}
use Rattle.revision_tree.specs.Rows.{Piece, items_of, lists_of, joined}
use Rattle.revision_tree.proofs.Pieces.{joined_at, joined_from}
use Rattle.revision_tree.proofs.Ranked.{greatest_of, greatest_of-append, revs_half, revs_half-append}

-- the piece before a place from which a loop comes down
pub joined_back : (ps : List Piece) (i : ℕ) (p : Piece) → 0 < i → i ≤ length ps → p ≡ get_or ps (i - 1) p → joined (drop (i - 1) (lists_of ps)) ≡ items_of p ++ joined (drop i (lists_of ps))
joined_back ps zero p some le is = absurd (omega arith)
joined_back ps (suc k) p some le is =
    let same : suc k - 1 ≡ k = omega arith in
    let lt : k < length ps = omega arith in
    let at : items_of p ≡ get_or (lists_of ps) k [] = ap items_of (subst (λ n. p ≡ get_or ps n p) same is) ∙ sym (get_or-map items_of ps k p [] lt) in
    ap (λ n. joined (drop n (lists_of ps))) same ∙ joined_from (lists_of ps) k (omega (arith, lt, length-map ps items_of)) ∙ ap (λ ns. ns ++ joined (drop (suc k) (lists_of ps))) (sym at)

pub joined_before : (ps : List Piece) (i : ℕ) (p : Piece) → 0 < i → i ≤ length ps → p ≡ get_or ps (i - 1) p
    → joined (lists_of ps) ≡ joined (take (i - 1) (lists_of ps)) ++ (items_of p ++ joined (drop i (lists_of ps)))
joined_before ps zero p some le is = absurd (omega arith)
joined_before ps (suc k) p some le is =
    let same : suc k - 1 ≡ k = omega arith in
    let lt : k < length ps = omega arith in
    let at : get_or (lists_of ps) k [] ≡ items_of p = get_or-map items_of ps k p [] lt ∙ ap items_of (sym (subst (λ n. p ≡ get_or ps n p) same is)) in
    joined_at (lists_of ps) k (omega (arith, lt, length-map ps items_of)) ∙ ap (λ ns. joined (take k (lists_of ps)) ++ (ns ++ joined (drop (suc k) (lists_of ps)))) at
    ∙ ap (λ n. joined (take n (lists_of ps)) ++ (items_of p ++ joined (drop (suc k) (lists_of ps)))) (sym same)

pub greatest_back : (d : Bool) (ps : List Piece) (i : ℕ) (p : Piece) → 0 < i → i ≤ length ps → p ≡ get_or ps (i - 1) p
    → greatest_of d (joined (drop i (lists_of ps))) ≡ None → greatest_of d (joined (drop (i - 1) (lists_of ps))) ≡ greatest_of d (items_of p)
greatest_back d ps i p some le is none =
    ap (greatest_of d) (joined_back ps i p some le is) ∙ greatest_of-append d (items_of p) (joined (drop i (lists_of ps))) ∙ ap (λ o. option_or o (greatest_of d (items_of p))) none

pub greatest_here : (d : Bool) (ps : List Piece) (i : ℕ) (p : Piece) (l : Found) → 0 < i → i ≤ length ps → p ≡ get_or ps (i - 1) p
    → greatest_of d (joined (drop i (lists_of ps))) ≡ None → greatest_of d (items_of p) ≡ Some l → Some l ≡ greatest_of d (joined (lists_of ps))
greatest_here d ps i p l some le is none here =
    let before = joined (take (i - 1) (lists_of ps)) in
    let rest = joined (drop i (lists_of ps)) in
    sym (ap (greatest_of d) (joined_before ps i p some le is) ∙ greatest_of-append d before (items_of p ++ rest)
    ∙ ap (λ o. option_or o (greatest_of d before)) (greatest_of-append d (items_of p) rest ∙ ap (λ o. option_or o (greatest_of d (items_of p))) none ∙ here))

pub revs_back : (d : Bool) (ps : List Piece) (last : List Node) (i : ℕ) (p : Piece) → 0 < i → i ≤ length ps → p ≡ get_or ps (i - 1) p
    → revs_half d (joined (drop (i - 1) (lists_of ps)) ++ last) ≡ revs_half d (joined (drop i (lists_of ps)) ++ last) ++ revs_half d (items_of p)
revs_back d ps last i p some le is =
    ap (λ ns. revs_half d (ns ++ last)) (joined_back ps i p some le is) ∙ ap (revs_half d) (append_assoc (items_of p) (joined (drop i (lists_of ps))) last)
    ∙ revs_half-append d (items_of p) (joined (drop i (lists_of ps)) ++ last)
