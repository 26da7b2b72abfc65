-- The runs of a tree in which the run of a root goes whole: that of a leaf that is cut.
use Rattle.std.specs.Prelude.{◌≡◌, ◌↔◌, ℕ, zero, suc, ◌+◌, ◌&&◌, Bool, true, false, not, List, Option, Some, None, option_and_then, refl}
use Rattle.std.proofs.Common.{sym, ap, subst, ◌∙◌, ⊎_elim, inl, inr, arith}
use Rattle.std.proofs.lemmas.Bool.{true≢false, and_from, and_parts}
use Rattle.std.proofs.lemmas.Option.{none-some, same_Some}
use Rattle.model.specs.Map.{get, without, same_key-equal, same_key_itself}
use Rattle.model.specs.Revision.{Rev, revs, same_rev}
use Rattle.model.specs.Tree.{Tree, IsForest, among, ancestor, is_leaf, knows, parent_of, path_of}
use Rattle.model.proofs.AncestorLaws.{among-place, ancestor-None, ancestor-suc, slice_get-path_of}
use Rattle.model.proofs.ListLaws.{by_cases}
use Rattle.model.proofs.LookupLaws.{get-without_same, get-without_other, without-some}
use Rattle.model.proofs.TreeLaws.{is_leaf-childless, leaf_known, no_parent_of_leaf}
use Rattle.revision_runs.specs.declared.run.Run.{Run}
use Rattle.revision_runs.specs.Runs.{RunMap}
use Rattle.revision_runs.specs.TreeRuns.{IsOnlyChild, IsOneChild, IsWay, IsTop, IsBottom, IsRunOf, AreRuns}
use Rattle.revision_runs.specs.Changes.{IsCleared, IsLoneRun}
use Rattle.revision_runs.proofs.Climbing.{top_not_only, way_last}
use Rattle.revision_runs.proofs.Moving.{IsSameUnder, moved_bottom, other_of, same_itself, way_map_to}

-- ---- a way and the steps that it takes

pub way_leads : (t : Tree) (n : ℕ) (b r : Rev) → IsWay t n b r → ancestor t n (Some b) ≡ Some r
way_leads t zero b r way = ap (λ q. Some q) way
way_leads t (suc n) b r way = ap (ancestor t n) way.1.child ∙ way_leads t n way.0 r way.2

-- a revision on the way up to a root lies on a way to it
pub record IsBetween (t : Tree) (b q r : Rev) : Type 0 where
  pub below : ℕ
  pub down : IsWay t below b q
  pub above : ℕ
  pub up : IsWay t above q r

pub between : (t : Tree) (m n : ℕ) (b q r : Rev) → parent_of t r ≡ None → IsWay t n b r → ancestor t m (Some b) ≡ Some q → IsBetween t b q r
between t zero n b q r root way e = record { below = 0; down = same_Some b q e; above = n; up = subst (λ z. IsWay t n z r) (same_Some b q e) way }
between t (suc m) zero b q r root way e = absurd (none-some q (sym (ancestor-None t m) ∙ ap (ancestor t m) (sym (ap (parent_of t) way ∙ root)) ∙ e))
between t (suc m) (suc n) b q r root way e =
    let x = between t m n way.0 q r root way.2 (ap (ancestor t m) (sym way.1.child) ∙ e) in
    record { below = suc x.below; down = (way.0, way.1, x.down); above = x.above; up = x.up }

module _ (t : Tree) (leaf : Rev) (before : IsForest t) (at_leaf : is_leaf t leaf ≡ true) (runs : RunMap) (h : AreRuns t runs) (top : Rev) (lone : IsLoneRun runs leaf top) where
  abbrev pub On : Rev → Type 0
  On q = among (path_of t leaf) q ≡ true

  e_top : IsRunOf t runs top lone.run
  e_top = h.each top lone.run lone.is

  root : parent_of t top ≡ None
  root = sym e_top.fork ∙ lone.root

  way : IsWay t e_top.steps leaf top
  way = subst (λ z. IsWay t e_top.steps z top) lone.bottom e_top.way

  pub on_leads : (q : Rev) → On q → (n : ℕ) × (ancestor t n (Some leaf) ≡ Some q)
  on_leads q on =
      let at = (among-place (path_of t leaf) q).0 on in
      (at.0, sym (slice_get-path_of t before leaf at.0 (leaf_known t leaf at_leaf)) ∙ at.1)

  pub leads_on : (n : ℕ) (q : Rev) → ancestor t n (Some leaf) ≡ Some q → On q
  leads_on n q e = (among-place (path_of t leaf) q).1 (n, slice_get-path_of t before leaf n (leaf_known t leaf at_leaf) ∙ e)

  pub on_between : (q : Rev) → On q → IsBetween t leaf q top
  on_between q on = let x = on_leads q on in between t x.0 e_top.steps leaf q top root way x.1

  pub top_on : On top
  top_on = leads_on e_top.steps top (way_leads t e_top.steps leaf top way)

  -- what hangs together with the run is on it
  pub parent_on : (q p : Rev) → On q → parent_of t q ≡ Some p → On p
  parent_on q p on up =
      let x = on_leads q on in
      leads_on (suc x.0) p (ancestor-suc t x.0 (Some leaf) ∙ ap (option_and_then (parent_of t)) x.1 ∙ up)

  pub child_on : (d q : Rev) → On q → parent_of t d ≡ Some q → On d
  child_on d q on up = at x.below x.down
    where
      x : IsBetween t leaf q top
      x = on_between q on

      at : (n : ℕ) → IsWay t n leaf q → On d
      at zero down = absurd (no_parent_of_leaf t leaf d at_leaf (up ∙ ap (λ z. Some z) (sym down)))
      at (suc n) down =
          let l = way_last t n leaf q down in
          subst On (sym (l.only.only d up)) (leads_on n l.child (way_leads t n leaf l.child l.way))

  pub off_parent : (q p : Rev) → among (path_of t leaf) q ≡ false → parent_of t q ≡ Some p → among (path_of t leaf) p ≡ false
  off_parent q p off up = by_cases (among (path_of t leaf) p) (λ on. absurd (true≢false (sym (child_on q p on up) ∙ off))) (λ z. z)

  pub off_child : (d q : Rev) → among (path_of t leaf) q ≡ false → parent_of t d ≡ Some q → among (path_of t leaf) d ≡ false
  off_child d q off up = by_cases (among (path_of t leaf) d) (λ on. absurd (true≢false (sym (parent_on d q on up) ∙ off))) (λ z. z)

  -- on a way up from the run all is on it
  way_on : (n : ℕ) (q r : Rev) → On q → IsWay t n q r → On r
  way_on zero q r on up = subst On up on
  way_on (suc n) q r on up = way_on n up.0 r (parent_on q up.0 on up.1.child) up.2

  off_of : (q r : Rev) (n : ℕ) → among (path_of t leaf) r ≡ false → IsWay t n q r → among (path_of t leaf) q ≡ false
  off_of q r n off up = by_cases (among (path_of t leaf) q) (λ on. absurd (true≢false (sym (way_on n q r on up) ∙ off))) (λ z. z)

  -- no other top is on the run
  top_off : (r : Rev) → IsTop t r → same_rev r top ≡ false → among (path_of t leaf) r ≡ false
  top_off r at_top other = by_cases (among (path_of t leaf) r) (λ on. absurd (clash (on_between r on))) (λ z. z)
    where
      clash : IsBetween t leaf r top → ⊥
      clash x = at x.above x.up
        where
          at : (n : ℕ) → IsWay t n r top → ⊥
          at zero same = true≢false (sym (subst (λ z. same_rev r z ≡ true) same (same_itself r)) ∙ other)
          at (suc n) up = top_not_only t r up.0 at_top up.1

  -- ---- the tree without it

  module _ (u : Tree) (cleared : IsCleared t u leaf) where
    up_stays : (d q : Rev) → among (path_of t leaf) d ≡ false → parent_of t d ≡ Some q → parent_of u d ≡ Some q
    up_stays d q off up = (cleared.parents d q).1 (up, off_parent d q off up)

    up_was : (d q : Rev) → parent_of u d ≡ Some q → parent_of t d ≡ Some q
    up_was d q up = ((cleared.parents d q).0 up).0

    no_up : (d : Rev) → parent_of t d ≡ None → parent_of u d ≡ None
    no_up d none = at (parent_of u d) refl
      where
        at : (o : Option Rev) → parent_of u d ≡ o → parent_of u d ≡ None
        at None e = e
        at (Some q) e = absurd (none-some q (sym none ∙ up_was d q e))

    known_off : (q : Rev) → knows u q ≡ true → (knows t q ≡ true) × (among (path_of t leaf) q ≡ false)
    known_off q k = let x = and_parts (knows t q) (not (among (path_of t leaf) q)) (sym (cleared.known q) ∙ k) in (x.0, not_true (among (path_of t leaf) q) x.1)
      where
        not_true : (b : Bool) → not b ≡ true → b ≡ false
        not_true true e = absurd (true≢false (sym e))
        not_true false e = refl

    known_stays : (q : Rev) → knows t q ≡ true → among (path_of t leaf) q ≡ false → knows u q ≡ true
    known_stays q k off = cleared.known q ∙ and_from (knows t q) (not (among (path_of t leaf) q)) k (ap not off)

    only_stays : (q x : Rev) → among (path_of t leaf) q ≡ false → IsOnlyChild t q x → IsOnlyChild u q x
    only_stays q x off o = record { child = up_stays x q (off_child x q off o.child) o.child; only = λ d up. o.only d (up_was d q up) }

    leaf_stays : (q : Rev) → among (path_of t leaf) q ≡ false → is_leaf t q ≡ true → is_leaf u q ≡ true
    leaf_stays q off l =
        let x = (is_leaf-childless t q).0 l in
        (is_leaf-childless u q).1 (known_stays q x.0 off, λ d up. x.1 d (up_was d q up))

    way_stays : (n : ℕ) (b r : Rev) → among (path_of t leaf) r ≡ false → IsWay t n b r → IsWay u n b r
    way_stays n b r off = way_map_to t u r (λ q x m o up. only_stays q x (off_of q r m off up) o) n b

    abbrev pub left : RunMap
    left = without runs top

    at_other : (d : Rev) → same_rev d top ≡ false → get left d ≡ get runs d
    at_other d s = get-without_other runs top d s

    not_top : (d : Rev) (r : Run) → get left d ≡ Some r → same_rev d top ≡ false
    not_top d r is = by_cases (same_rev d top) (λ s. absurd (none-some r (sym (get-without_same runs top d s) ∙ is))) (λ z. z)

    same_under : (q : Rev) → IsSameUnder runs left q
    same_under q = record {
      to = λ d r is under. by_cases (same_rev d top)
          (λ s.
          let alike : lone.run ≡ r = same_Some lone.run r (sym lone.is ∙ ap (get runs) (sym (same_key-equal revs d top s)) ∙ is) in
          absurd (none-some q (sym lone.root ∙ ap (λ (z : Run). z.fork) alike ∙ under)))
          (λ s. record { run = r; is = at_other d s ∙ is; fork = under; low = refl });
      from = λ d r is under. record { run = r; is = without-some runs top d r is; fork = under; low = refl };
    }

    run_left : (d : Rev) (r : Run) → get left d ≡ Some r → IsRunOf u left d r
    run_left d r is =
        let e = h.each d r (without-some runs top d r is) in
        let off = top_off d e.at_top (not_top d r is) in
        let end = off_of r.bottom d e.steps off e.way in
        record {
          at_top = (
            known_stays d e.at_top.0 off,
            ⊎_elim
                (λ none. inl (no_up d none))
                (λ o. inr (
                  o.0,
                  record {
                    child = up_stays d o.0 off o.1.child;
                    other = o.1.other;
                    sibling = up_stays o.1.other o.0 (off_child o.1.other o.0 (off_parent d o.0 off o.1.child) o.1.sibling) o.1.sibling;
                    apart = o.1.apart;
                  },
                ))
                e.at_top.1,
          );
          fork = e.fork ∙ same_parent d off;
          steps = e.steps;
          way = way_stays e.steps r.bottom d off e.way;
          low = moved_bottom t u runs left r.bottom r.low (same_under r.bottom) (leaf_stays r.bottom end) e.low;
        }
      where
        same_parent : (q : Rev) → among (path_of t leaf) q ≡ false → parent_of t q ≡ parent_of u q
        same_parent q off = at (parent_of t q) refl
          where
            at : (o : Option Rev) → parent_of t q ≡ o → parent_of t q ≡ parent_of u q
            at None e = e ∙ sym (no_up q e)
            at (Some p) e = e ∙ sym (up_stays q p off e)

    top_was : (r : Rev) → IsTop u r → (same_rev r top ≡ false) × IsTop t r
    top_was r at_top =
        let k = known_off r at_top.0 in (
          other_of r top (λ e. true≢false (sym (subst On (sym e) top_on) ∙ k.1)),
          (
            k.0,
            ⊎_elim
                (λ none. inl (was_none (parent_of t r) refl k.1 none))
                (λ o. inr (o.0, record { child = up_was r o.0 o.1.child; other = o.1.other; sibling = up_was o.1.other o.0 o.1.sibling; apart = o.1.apart }))
                at_top.1,
          ),
        )
      where
        was_none : (o : Option Rev) → parent_of t r ≡ o → among (path_of t leaf) r ≡ false → parent_of u r ≡ None → parent_of t r ≡ None
        was_none None e off none = e
        was_none (Some p) e off none = absurd (none-some p (sym none ∙ up_stays r p off e))

    pub cleared_runs : AreRuns u left
    cleared_runs = record {
      each = run_left;
      all = λ r at_top. let was = top_was r at_top in let x = h.all r was.1 in (x.0, at_other r was.0 ∙ x.1);
    }
