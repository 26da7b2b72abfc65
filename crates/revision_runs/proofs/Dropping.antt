-- The runs of a tree without a root that has one child.
use Rattle.std.specs.Prelude.{◌≡◌, ◌⊎◌, ◌&&◌, ℕ, zero, suc, ◌+◌, not, Bool, true, false, Option, Some, None, refl}
use Rattle.std.proofs.Common.{sym, ap, subst, ◌∙◌, ⊎_elim, inl, inr, arith}
use Rattle.std.proofs.lemmas.Bool.{true≢false, and_from, and_parts}
use Rattle.std.proofs.lemmas.Option.{none-some, same_Some}
use Rattle.model.specs.Map.{get, put, without, same_key-equal}
use Rattle.model.specs.Revision.{Rev, revs, same_rev}
use Rattle.model.specs.Tree.{Tree, IsForest, is_leaf, knows, parent_of}
use Rattle.model.proofs.ListLaws.{by_cases, same_option}
use Rattle.model.proofs.LookupLaws.{get-put_same, get-put_other, get-without_same, get-without_other}
use Rattle.model.proofs.TreeLaws.{is_leaf-childless, knows_child}
use Rattle.revision_runs.specs.declared.run.Run.{Run}
use Rattle.revision_runs.specs.Runs.{RunMap, HangsUnder}
use Rattle.revision_runs.specs.TreeRuns.{IsOnlyChild, IsOneChild, IsWay, IsTop, IsBottom, IsEnd, IsRunOf, AreRuns}
use Rattle.revision_runs.specs.Changes.{IsDropped}
use Rattle.revision_runs.proofs.Climbing.{end_not_only, top_not_only, way_last}
use Rattle.revision_runs.proofs.Moving.{IsSameUnder, moved_bottom, not_same, other_of, same_itself, way_map_to, whole, whole_end}

not_false : (b : Bool) → not b ≡ true → b ≡ false
not_false true h = absurd (true≢false (sym h))
not_false false h = refl

-- ---- the way down from a root to its one child

module _ (t : Tree) (before : IsForest t) (runs : RunMap) (h : AreRuns t runs) (r x : Rev) (only : IsOnlyChild t r x) (rr : Run) (at : get runs r ≡ Some rr) where
  to_child : (n : ℕ) → IsWay t n rr.bottom r → (m : ℕ) × IsWay t m rr.bottom x
  to_child zero way = absurd (end_not_only t before None runs (whole t runs h) r x (subst (IsEnd t runs) way (whole_end t runs rr.bottom rr.low ((h.each r rr at).low))) only)
  to_child (suc n) way = let l = way_last t n rr.bottom r way in (n, subst (IsWay t n rr.bottom) (only.only l.child l.only.child) l.way)

  pub down_to : (m : ℕ) × IsWay t m rr.bottom x
  down_to = let e = h.each r rr at in to_child e.steps e.way

-- ---- without the root

module _ (t u : Tree) (r : Rev) (before : IsForest t) (gone : IsDropped t u r) (runs : RunMap) (h : AreRuns t runs) (x : Rev) (only : IsOnlyChild t r x)
    (rr : Run) (at : get runs r ≡ Some rr) (below : ℕ) (down : IsWay t below rr.bottom x) (lower : Run) (fork : lower.fork ≡ None) (bottom : lower.bottom ≡ rr.bottom) (low : lower.low ≡ rr.low) where
  known_was : (q : Rev) → knows u q ≡ true → (knows t q ≡ true) × (same_rev q r ≡ false)
  known_was q k = let e = and_parts (knows t q) (not (same_rev q r)) (sym (gone.known q) ∙ k) in (e.0, not_false (same_rev q r) e.1)

  known_stays : (q : Rev) → knows t q ≡ true → same_rev q r ≡ false → knows u q ≡ true
  known_stays q k s = gone.known q ∙ and_from (knows t q) (not (same_rev q r)) k (ap not s)

  up_was : (d q : Rev) → parent_of u d ≡ Some q → parent_of t d ≡ Some q
  up_was d q up = ((gone.parents d q).0 up).0

  up_stays : (d q : Rev) → same_rev q r ≡ false → parent_of t d ≡ Some q → parent_of u d ≡ Some q
  up_stays d q s up = (gone.parents d q).1 (up, s)

  -- another has the parent that it had
  same_parent : (d : Rev) → same_rev d x ≡ false → parent_of u d ≡ parent_of t d
  same_parent d s = same_option (parent_of u d) (parent_of t d) (λ q. (
    λ up. up_was d q up,
    λ up. up_stays d q (other_of q r (λ e. not_same d x s (only.only d (up ∙ ap (λ z. Some z) e)))) up,
  ))

  orphan_x : parent_of u x ≡ None
  orphan_x = at_x (parent_of u x) refl
    where
      at_x : (o : Option Rev) → parent_of u x ≡ o → parent_of u x ≡ None
      at_x None e = e
      at_x (Some q) e =
          let w = (gone.parents x q).0 e in
          absurd (not_same q r w.1 (same_Some q r (sym w.0 ∙ only.child)))

  x_not_r : same_rev x r ≡ false
  x_not_r = other_of x r (λ e.
      let g = (before.parents x r only.child).1 in
      let k = ap (λ (q : Rev). q.generation) e in
      absurd (omega (arith, g, k)))

  r_not_x : same_rev r x ≡ false
  r_not_x = other_of r x (λ e. not_same x r x_not_r (sym e))

  x_new : (s : Run) → get runs x ≡ Some s → ⊥
  x_new s is = top_not_only t x r ((h.each x s is).at_top) only

  unhung : rr.fork ≡ None
  unhung = (h.each r rr at).fork ∙ gone.top

  abbrev pub dropped : RunMap
  dropped = put (without runs r) x lower

  is_x : (d : Rev) → same_rev d x ≡ true → get dropped d ≡ Some lower
  is_x d s = get-put_same (without runs r) x lower d s

  is_r : (d : Rev) → same_rev d x ≡ false → same_rev d r ≡ true → get dropped d ≡ None
  is_r d s k = get-put_other (without runs r) x lower d s ∙ get-without_same runs r d k

  is_other : (d : Rev) → same_rev d x ≡ false → same_rev d r ≡ false → get dropped d ≡ get runs d
  is_other d s k = get-put_other (without runs r) x lower d s ∙ get-without_other runs r d k

  same_under : (q : Rev) → IsSameUnder runs dropped q
  same_under q = record {
    to = λ d s is under. by_cases (same_rev d x)
        (λ e. absurd (x_new s (ap (get runs) (sym (same_key-equal revs d x e)) ∙ is)))
        (λ e. by_cases (same_rev d r)
        (λ k. absurd (none-some q (sym unhung ∙ ap (λ (z : Run). z.fork) (same_Some rr s (sym at ∙ ap (get runs) (sym (same_key-equal revs d r k)) ∙ is)) ∙ under)))
        (λ k. record { run = s; is = is_other d e k ∙ is; fork = under; low = refl }));
    from = λ d s is under. by_cases (same_rev d x)
        (λ e. absurd (none-some q (sym fork ∙ ap (λ (z : Run). z.fork) (same_Some lower s (sym (is_x d e) ∙ is)) ∙ under)))
        (λ e. by_cases (same_rev d r)
        (λ k. absurd (none-some s (sym (is_r d e k) ∙ is)))
        (λ k. record { run = s; is = sym (is_other d e k) ∙ is; fork = under; low = refl }));
  }

  leaf_stays : (q : Rev) → same_rev q r ≡ false → is_leaf t q ≡ true → is_leaf u q ≡ true
  leaf_stays q s leaf = let k = (is_leaf-childless t q).0 leaf in (is_leaf-childless u q).1 (known_stays q k.0 s, λ d up. k.1 d (up_was d q up))

  -- a leaf is no parent, so it isn't the root that goes
  leaf_other : (q : Rev) → is_leaf t q ≡ true → is_leaf u q ≡ true
  leaf_other q leaf = leaf_stays q (other_of q r (λ e. ((is_leaf-childless t q).0 leaf).1 x (only.child ∙ ap (λ z. Some z) (sym e)))) leaf

  only_stays : (q y : Rev) → same_rev q r ≡ false → IsOnlyChild t q y → IsOnlyChild u q y
  only_stays q y s o = record { child = up_stays y q s o.child; only = λ d up. o.only d (up_was d q up) }

  -- a way to x, or to another top than r, doesn't lead through r
  way_stays : (d : Rev) → ((n : ℕ) → IsWay t n r d → ⊥) → (n : ℕ) (b : Rev) → IsWay t n b d → IsWay u n b d
  way_stays d never n b way = way_map_to t u d (λ q y m o rest. only_stays q y (other_of q r (λ e. never m (subst (λ z. IsWay t m z d) e rest))) o) n b way

  root_ends : (n : ℕ) (d : Rev) → IsWay t n r d → r ≡ d
  root_ends zero d way = way
  root_ends (suc n) d way = absurd (none-some way.0 (sym gone.top ∙ way.1.child))

  run_x : (d : Rev) (s : Run) → d ≡ x → lower ≡ s → IsRunOf u dropped d s
  run_x d s same alike =
      let w = h.each r rr at in
      let bottoms : rr.bottom ≡ s.bottom = sym bottom ∙ ap (λ (z : Run). z.bottom) alike in
      let lows : rr.low ≡ s.low = sym low ∙ ap (λ (z : Run). z.low) alike in
      record {
        at_top = subst (IsTop u) (sym same) (known_stays x (knows_child t x r only.child) x_not_r, inl orphan_x);
        fork = ap (λ (z : Run). z.fork) (sym alike) ∙ fork ∙ sym orphan_x ∙ ap (parent_of u) (sym same);
        steps = below;
        way = subst (λ q. IsWay u below q d) bottoms (subst (IsWay u below rr.bottom) (sym same) (way_stays x (λ n way. not_same r x r_not_x (root_ends n x way)) below rr.bottom down));
        low = subst (IsBottom u dropped s.bottom) lows (subst (λ q. IsBottom u dropped q rr.low) bottoms (moved_bottom t u runs dropped rr.bottom rr.low (same_under rr.bottom) (leaf_other rr.bottom) w.low));
      }

  run_other : (d : Rev) (s : Run) → same_rev d x ≡ false → same_rev d r ≡ false → get runs d ≡ Some s → IsRunOf u dropped d s
  run_other d s e k is =
      let w = h.each d s is in
      record {
        at_top = (known_stays d w.at_top.0 k, ⊎_elim (λ none. inl (same_parent d e ∙ none)) (λ o. inr (o.0, one o.0 o.1)) w.at_top.1);
        fork = w.fork ∙ sym (same_parent d e);
        steps = w.steps;
        way = way_stays d (λ n way. not_same d r k (sym (root_ends n d way))) w.steps s.bottom w.way;
        low = moved_bottom t u runs dropped s.bottom s.low (same_under s.bottom) (leaf_other s.bottom) w.low;
      }
    where
      one : (q : Rev) → IsOneChild t q d → IsOneChild u q d
      one q o =
          let apart : same_rev q r ≡ false = other_of q r (λ z. not_same d x e (only.only d (o.child ∙ ap (λ y. Some y) z))) in
          record { child = up_stays d q apart o.child; other = o.other; sibling = up_stays o.other q apart o.sibling; apart = o.apart }

  pub dropped_runs : AreRuns u dropped
  dropped_runs = record {
    each = λ d s is. by_cases (same_rev d x)
        (λ e. run_x d s (same_key-equal revs d x e) (same_Some lower s (sym (is_x d e) ∙ is)))
        (λ e. by_cases (same_rev d r)
        (λ k. absurd (none-some s (sym (is_r d e k) ∙ is)))
        (λ k. run_other d s e k (sym (is_other d e k) ∙ is)));
    all = λ q top. by_cases (same_rev q x)
        (λ e. (lower, is_x q e))
        (λ e.
        let w = known_was q top.0 in
        let y = h.all q (w.0, ⊎_elim (λ none. inl (sym (same_parent q e) ∙ none)) (λ o. inr (o.0, record { child = up_was q o.0 o.1.child; other = o.1.other; sibling = up_was o.1.other o.0 o.1.sibling; apart = o.1.apart })) top.1) in
        (y.0, is_other q e w.1 ∙ y.1));
  }
