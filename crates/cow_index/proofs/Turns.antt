-- A search for a key q at a node n, the root of a tree that is seen as d: what each word says of d, by the side that q lies on.
use Rattle.std.proofs.Common.{◌≡◌, ℕ, T, IsTrue, List, [], ◌∷◌, ◌++◌, cond, Bool, Some, length, ◌+◌, refl, sym, ap, subst, ◌∙◌, length-append, arith}
use Rattle.std.specs.Ordering.{is_eq, is_le, ordering_reverse}
use Rattle.std.specs.declared.cmp.Ordering.{Ordering}
use Rattle.std.specs.declared.cmp.Ordering.TheVariants.{Less, Equal, Greater}
use Rattle.std.specs.Cmp.{IsTotalOrder}
use Rattle.std.specs.FinMap.Entries.{by_order, put, find, is_sorted}
use Rattle.std.proofs.lemmas.List.Elements.{filter-append}
use Rattle.cow_index.specs.declared.tree.Node.{Node}
use Rattle.cow_index.specs.Entries.{entries_from, EachCompares}
use Rattle.cow_index.specs.Tree.{pair_of, entries_of, IsRoot}
use Rattle.cow_index.proofs.Sides.{sorted_left, sorted_right, right_less, left_greater, each_append, find_before, find_past, put_before, put_past, kept, kept_alike}

-- q compares so with the key of n
pub record Turn {K V : Type 0} (R : K → K → Ordering) (d : List (K × V) × ℕ) (n : Node K V) (q : K) (c : Ordering) : Type 0 where
  pub root : IsRoot d n
  pub sorted : T (is_sorted R d.0)
  pub compares : R q (pair_of n.entry).0 ≡ c

pub turn : {K V : Type 0} (R : K → K → Ordering) {d : List (K × V) × ℕ} {n : Node K V} {q : K} {c : Ordering} → IsRoot d n → T (is_sorted R d.0) → c ≡ R q (pair_of n.entry).0 → Turn R d n q c
turn R root sorted is = record { root = root; sorted = sorted; compares = sym is }

module _ {K V : Type 0} {R : K → K → Ordering} {d : List (K × V) × ℕ} {n : Node K V} {q : K} where
  in_order : {c : Ordering} → Turn R d n q c → T (is_sorted R (entries_of n))
  in_order t = subst (λ es. T (is_sorted R es)) t.root.entries t.sorted

  pub left_sorted : {c : Ordering} → Turn R d n q c → T (is_sorted R n.left.0)
  left_sorted t = sorted_left R _ _ _ (in_order t)

  pub right_sorted : {c : Ordering} → Turn R d n q c → T (is_sorted R n.right.0)
  right_sorted t = sorted_right R n.left.0 _ _ (in_order t)

  module _ (o : IsTotalOrder R) where
    above_left : {c : Ordering} → Turn R d n q c → IsTrue (is_le (ordering_reverse c)) → EachCompares R q Greater n.left.0
    above_left {c} t le = left_greater R o q c n.left.0 _ _ t.compares le (in_order t)

    below_right : {c : Ordering} → Turn R d n q c → IsTrue (is_le c) → EachCompares R q Less n.right.0
    below_right {c} t le = right_less R o q c n.left.0 _ _ t.compares le (in_order t)

    -- q is above all keys where it is above those of the right side
    pub all_above : Turn R d n q Greater → EachCompares R q Greater n.right.0 → EachCompares R q Greater d.0
    all_above t above =
        subst (EachCompares R q Greater) (sym t.root.entries) (each_append R q Greater n.left.0 (pair_of n.entry ∷ n.right.0) (above_left t refl) (t.compares, above))

    pub find-left : Turn R d n q Less → find R q d.0 ≡ find R q n.left.0
    find-left t = ap (find R q) t.root.entries ∙ find_before R q n.left.0 _ (t.compares, below_right t refl)

    find_at_node : {c : Ordering} → Turn R d n q c → IsTrue (is_le (ordering_reverse c)) → find R q d.0 ≡ cond (is_eq c) (Some (pair_of n.entry).1) (find R q n.right.0)
    find_at_node t le =
        ap (find R q) t.root.entries ∙ find_past R q n.left.0 _ (above_left t le)
        ∙ ap (λ c. cond (is_eq c) (Some (pair_of n.entry).1) (find R q n.right.0)) t.compares

    pub find-right : Turn R d n q Greater → find R q d.0 ≡ find R q n.right.0
    find-right t = find_at_node t refl

    pub find-here : Turn R d n q Equal → find R q d.0 ≡ Some (pair_of n.entry).1
    find-here t = find_at_node t refl

    module _ (v : V) where
      pub put-left : Turn R d n q Less → put R q v d.0 ≡ put R q v n.left.0 ++ pair_of n.entry ∷ n.right.0
      put-left t = ap (put R q v) t.root.entries ∙ put_before R q v n.left.0 _ _ t.compares

      put_at_node : {c : Ordering} → Turn R d n q c → IsTrue (is_le (ordering_reverse c)) → put R q v d.0 ≡ n.left.0 ++ by_order c ((q, v) ∷ pair_of n.entry ∷ n.right.0) (((pair_of n.entry).0, v) ∷ n.right.0) (pair_of n.entry ∷ put R q v n.right.0)
      put_at_node t le =
          ap (put R q v) t.root.entries ∙ put_past R q v n.left.0 _ (above_left t le)
          ∙ ap (λ c. n.left.0 ++ by_order c ((q, v) ∷ pair_of n.entry ∷ n.right.0) (((pair_of n.entry).0, v) ∷ n.right.0) (pair_of n.entry ∷ put R q v n.right.0)) t.compares

      pub put-right : Turn R d n q Greater → put R q v d.0 ≡ n.left.0 ++ pair_of n.entry ∷ put R q v n.right.0
      put-right t = put_at_node t refl

      pub put-here : ((x y : K) → R x y ≡ Equal → x ≡ y) → Turn R d n q Equal → put R q v d.0 ≡ n.left.0 ++ (q, v) ∷ n.right.0
      put-here exact t = put_at_node t refl ∙ ap (λ k. n.left.0 ++ (k, v) ∷ n.right.0) (sym (exact _ _ t.compares))

    -- the entries that stay by how q compares with their keys
    module _ (stays : Ordering → Bool) where
      pub kept-left : Turn R d n q Less → kept R q stays d.0 ≡ kept R q stays n.left.0 ++ cond (stays Less) (pair_of n.entry ∷ n.right.0) []
      kept-left t =
          ap (kept R q stays) t.root.entries ∙ filter-append (λ e. stays (R q e.0)) n.left.0 _
          ∙ ap (λ m. kept R q stays n.left.0 ++ m) (kept_alike R q stays Less _ (t.compares, below_right t refl))

      kept_at_node : {c : Ordering} → Turn R d n q c → IsTrue (is_le (ordering_reverse c)) → kept R q stays d.0 ≡ cond (stays Greater) n.left.0 [] ++ cond (stays c) (pair_of n.entry ∷ kept R q stays n.right.0) (kept R q stays n.right.0)
      kept_at_node t le =
          ap (kept R q stays) t.root.entries ∙ filter-append (λ e. stays (R q e.0)) n.left.0 _
          ∙ ap (λ l. l ++ kept R q stays (pair_of n.entry ∷ n.right.0)) (kept_alike R q stays Greater _ (above_left t le))
          ∙ ap (λ c. cond (stays Greater) n.left.0 [] ++ cond (stays c) (pair_of n.entry ∷ kept R q stays n.right.0) (kept R q stays n.right.0)) t.compares

      pub kept-right : Turn R d n q Greater → kept R q stays d.0 ≡ cond (stays Greater) n.left.0 [] ++ cond (stays Greater) (pair_of n.entry ∷ kept R q stays n.right.0) (kept R q stays n.right.0)
      kept-right t = kept_at_node t refl

      pub kept-here : Turn R d n q Equal → kept R q stays d.0 ≡ cond (stays Greater) n.left.0 [] ++ cond (stays Equal) (pair_of n.entry ∷ cond (stays Less) n.right.0 []) (cond (stays Less) n.right.0 [])
      kept-here t =
          kept_at_node t refl
          ∙ ap (λ m. cond (stays Greater) n.left.0 [] ++ cond (stays Equal) (pair_of n.entry ∷ m) m) (kept_alike R q stays Less _ (below_right t refl))

    -- how many keys are not below q
    pub length-from-left : Turn R d n q Less → length (entries_from R q d.0) ≡ length (entries_from R q n.left.0) + length n.right.0 + 1
    length-from-left t = omega (arith, ap length (kept-left is_le t), length-append (entries_from R q n.left.0) (pair_of n.entry ∷ n.right.0))

    pub length-from-right : Turn R d n q Greater → length (entries_from R q d.0) ≡ length (entries_from R q n.right.0)
    length-from-right t = ap length (kept-right is_le t)

    pub length-from-here : Turn R d n q Equal → length (entries_from R q d.0) ≡ length n.right.0 + 1
    length-from-here t = omega (arith, ap length (kept-here is_le t))
