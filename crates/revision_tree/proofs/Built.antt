-- The runs of a tree, revision by revision as they ascend.
use Rattle.std.specs.Prelude.{◌≡◌, ℕ, suc, ◌<◌, ◌≤◌, ◌||◌, Bool, true, false, cond, List, [], ◌∷◌, ◌++◌, map, length, get_or, take, drop, AllPairs, Contains, Option, Some, None, is_some, option_map, option_and_then, refl}
use Rattle.std.specs.FinMap.Entries.{find}
use Rattle.std.specs.declared.cmp.Ordering.TheVariants.{Less}
use Rattle.std.proofs.Common.{sym, ap, subst, ◌∙◌, ⊎_elim, arith, drop-cons}
use Rattle.std.proofs.lemmas.List.{take-append-drop}
use Rattle.std.proofs.lemmas.Bool.{true≢false, or_cases, or_left, or_right}
use Rattle.std.proofs.lemmas.List.Elements.{All-contains, Contains-append_left, Contains-append_right, Contains-append_cases}
use Rattle.std.proofs.lemmas.Option.{none-some, same_Some}
use Rattle.serde_json.specs.Data.{no_members}
use Rattle.model.specs.Map.{from_list, get, get-from_list, get-put, put, same_key_itself}
use Rattle.model.specs.Revision.{Rev, rev_cmp, revs, same_rev, same_rev-equal}
use Rattle.model.specs.Tree.{Tree, Revision, IsForest, body_of, knows, parent_of}
use Rattle.model.proofs.ListLaws.{by_cases, AllPairs-head, AllPairs-tail, Contains-cons_cases, Contains-head}
use Rattle.model.proofs.LookupLaws.{get-put_same, get-put_other}
use Rattle.model.proofs.MapLaws.{same_key-apart}
use Rattle.model.proofs.PathLaws.{same_rev-symm}
use Rattle.model.proofs.TreeLaws.{knows_child, leaf_known}
use Rattle.revision_runs.specs.Changes.{IsLinked, IsPartOf, IsRooted}
use Rattle.revision_runs.specs.Runs.{RunMap}
use Rattle.revision_runs.specs.TreeRuns.{AreRuns}
use Rattle.revision_runs.proofs.Moving.{not_same}
use Rattle.revision_runs.proofs.Nexts.{same_runs}
use Rattle.revision_tree.specs.declared.node.Node.{Node}
use Rattle.revision_tree.specs.Nodes.{IsNodes, IsSorted, entries_of, entry_of, tree_of}
use Rattle.revision_tree.specs.Stems.{IsNodeStep}
use Rattle.revision_tree.proofs.Ends.{no_older}
use Rattle.revision_tree.proofs.Shortened.{rising_part}
use Rattle.revision_tree.proofs.Places.{Before, got, node_known, rising}

-- ---- nodes with nothing but their parents

abbrev bare : Node → Rev × Revision
bare n = (n.rev, record { parent = n.parent; deleted = false; body = Some no_members })

abbrev pub shell : List Node → Tree
shell ns = from_list {O = revs} (map bare ns)

abbrev alone : Revision → Revision
alone v = record { parent = v.parent; deleted = false; body = Some no_members }

module _ (q : Rev) where
  cond_of : (b : Bool) (v : Revision) (o : Option Revision) → cond b (Some (alone v)) (option_map alone o) ≡ option_map alone (cond b (Some v) o)
  cond_of true v o = refl
  cond_of false v o = refl

  find_bare : (ns : List Node) → find rev_cmp q (map bare ns) ≡ option_map alone (find rev_cmp q (entries_of ns))
  find_bare [] = refl
  find_bare (n ∷ ns) = ap (cond (same_rev q n.rev) (Some (bare n).1)) (find_bare ns) ∙ cond_of (same_rev q n.rev) (entry_of n).1 (find rev_cmp q (entries_of ns))

  get-shell : (ns : List Node) → get (shell ns) q ≡ option_map alone (get (tree_of ns) q)
  get-shell ns = get-from_list revs (map bare ns) q ∙ find_bare ns ∙ ap (option_map alone) (sym (get-from_list revs (entries_of ns) q))

  some_of : (o : Option Revision) → is_some (option_map alone o) ≡ is_some o
  some_of None = refl
  some_of (Some v) = refl

  parent_in : (o : Option Revision) → option_and_then (λ (v : Revision). v.parent) (option_map alone o) ≡ option_and_then (λ (v : Revision). v.parent) o
  parent_in None = refl
  parent_in (Some v) = refl

  pub knows-shell : (ns : List Node) → knows (shell ns) q ≡ knows (tree_of ns) q
  knows-shell ns = ap is_some (get-shell ns) ∙ some_of (get (tree_of ns) q)

  pub parent_of-shell : (ns : List Node) → parent_of (shell ns) q ≡ parent_of (tree_of ns) q
  parent_of-shell ns = ap (option_and_then (λ (v : Revision). v.parent)) (get-shell ns) ∙ parent_in (get (tree_of ns) q)

pub runs_of_shell : (ns : List Node) (runs : RunMap) → AreRuns (shell ns) runs → AreRuns (tree_of ns) runs
runs_of_shell ns runs h = same_runs (shell ns) (tree_of ns) (λ q. sym (knows-shell q ns)) (λ q. sym (parent_of-shell q ns)) runs h

-- ---- the next of them

-- in order, each of these before each of those
across : (xs ys : List Node) → AllPairs Before (xs ++ ys) → (x y : Node) → Contains xs x → Contains ys y → rev_cmp x.rev y.rev ≡ Less
across [] ys h x y c d = absurd (omega (arith, c.1))
across (z ∷ zs) ys h x y c d = ⊎_elim
    (λ e. subst (λ (w : Node). rev_cmp w.rev y.rev ≡ Less) e (All-contains (Before z) (zs ++ ys) y (AllPairs-head Before z (zs ++ ys) h) (Contains-append_right zs ys y d)))
    (λ later. across zs ys (AllPairs-tail Before z (zs ++ ys) h) x y later d)
    (Contains-cons_cases z zs x c)

abbrev or_none : {X : Type 0} → Option X → Option X → Option X
or_none None p = p
or_none (Some x) p = Some x

cond_or : {X : Type 0} (b : Bool) (x : X) (o p : Option X) → cond b (Some x) (or_none o p) ≡ or_none (cond b (Some x) o) p
cond_or true x o p = refl
cond_or false x o p = refl

find_append : (q : Rev) (xs ys : List (Rev × Revision)) → find rev_cmp q (xs ++ ys) ≡ or_none (find rev_cmp q xs) (find rev_cmp q ys)
find_append q [] ys = refl
find_append q (x ∷ xs) ys = ap (cond (same_rev q x.0) (Some x.1)) (find_append q xs ys) ∙ cond_or (same_rev q x.0) x.1 (find rev_cmp q xs) (find rev_cmp q ys)

bare_append : (xs ys : List Node) → map bare (xs ++ ys) ≡ map bare xs ++ map bare ys
bare_append [] ys = refl
bare_append (x ∷ xs) ys = ap (λ es. bare x ∷ es) (bare_append xs ys)

none_of : {X : Type 0} (o : Option X) → is_some o ≡ false → o ≡ None
none_of None h = refl
none_of (Some x) h = absurd (true≢false h)

module _ (ns before after : List Node) (n : Node) (e : ns ≡ before ++ n ∷ after) (h : IsNodes ns) where
  abbrev t : Tree
  t = tree_of ns

  abbrev S : Tree
  S = shell before

  abbrev R : Tree
  R = put S n.rev (record { parent = None; deleted = false; body = Some no_members })

  abbrev U : Tree
  U = shell (before ++ n ∷ [])

  ordered : AllPairs Before (before ++ n ∷ after)
  ordered = subst (AllPairs Before) e (rising ns h.sorted)

  here : Contains ns n
  here = subst (λ ms. Contains ms n) (sym e) (Contains-append_right before (n ∷ after) n (Contains-head n after))

  listed : (m : Node) → Contains before m → Contains ns m
  listed m c = subst (λ ms. Contains ms m) (sym e) (Contains-append_left before (n ∷ after) m c)

  front : IsSorted before
  front = (rising_part ns [] before (n ∷ after) h e).sorted

  -- whose node is there, and is before n
  record IsFront (q : Rev) (v : Revision) : Type 0 where
    node : Node
    is_there : Contains before node
    rev : node.rev ≡ q
    value : (entry_of node).1 ≡ v

  front_of : (q : Rev) (v : Revision) → get (tree_of before) q ≡ Some v → IsFront q v
  front_of q v got_q =
      let x = node_known before front q (ap is_some got_q) in
      record { node = x.node; is_there = x.listed; rev = x.rev; value = same_Some (entry_of x.node).1 v (sym (got before front x.node x.listed) ∙ ap (get (tree_of before)) x.rev ∙ got_q) }

  known_front : (q : Rev) → knows S q ≡ true → (v : Revision) × (get (tree_of before) q ≡ Some v)
  known_front q k = at (get (tree_of before) q) refl (sym (knows-shell q before) ∙ k)
    where
      at : (o : Option Revision) → get (tree_of before) q ≡ o → is_some o ≡ true → (v : Revision) × (get (tree_of before) q ≡ Some v)
      at None i f = absurd (true≢false (sym f))
      at (Some v) i f = (v, i)

  unknown : knows S n.rev ≡ false
  unknown = by_cases (knows S n.rev)
      (λ k.
      let v = known_front n.rev k in
      let x = front_of n.rev v.0 v.1 in
      absurd (not_same x.node.rev n.rev (same_rev-symm x.node.rev n.rev ∙ same_key-apart revs x.node.rev n.rev (across before (n ∷ after) ordered x.node n x.is_there (Contains-head n after))) x.rev))
      (λ k. k)

  get-U : (q : Rev) → get U q ≡ get (put S n.rev (bare n).1) q
  get-U q =
      get-from_list revs (map bare (before ++ n ∷ [])) q ∙ ap (find rev_cmp q) (bare_append before (n ∷ [])) ∙ find_append q (map bare before) (bare n ∷ [])
      ∙ ap (λ o. or_none o (cond (same_rev q n.rev) (Some (bare n).1) None)) (sym (get-from_list revs (map bare before) q))
      ∙ at (same_rev q n.rev) (get S q) (λ s. none_of (get S q) (ap (λ z. is_some (get S z)) ((same_rev-equal q n.rev).0 s) ∙ unknown))
      ∙ sym (get-put {O = revs} S n.rev (bare n).1 q)
    where
      at : (b : Bool) (o : Option Revision) → (b ≡ true → o ≡ None) → or_none o (cond b (Some (bare n).1) None) ≡ cond b (Some (bare n).1) o
      at true None f = refl
      at true (Some v) f = absurd (none-some v (sym (f refl)))
      at false None f = refl
      at false (Some v) f = refl

  -- ---- what each of the three has

  R_n : get R n.rev ≡ Some (record { parent = None; deleted = false; body = Some no_members })
  R_n = get-put_same {O = revs} S n.rev (record { parent = None; deleted = false; body = Some no_members }) n.rev (same_key_itself revs n.rev)

  R_other : (q : Rev) → same_rev q n.rev ≡ false → get R q ≡ get S q
  R_other q s = get-put_other {O = revs} S n.rev (record { parent = None; deleted = false; body = Some no_members }) q s

  U_n : get U n.rev ≡ Some (bare n).1
  U_n = get-U n.rev ∙ get-put_same {O = revs} S n.rev (bare n).1 n.rev (same_key_itself revs n.rev)

  U_other : (q : Rev) → same_rev q n.rev ≡ false → get U q ≡ get S q
  U_other q s = get-U q ∙ get-put_other {O = revs} S n.rev (bare n).1 q s

  abbrev parent_at : Option Revision → Option Rev
  parent_at o = option_and_then (λ (v : Revision). v.parent) o

  more : (a : Bool) → (a || true) ≡ true
  more true = refl
  more false = refl

  less : (a : Bool) → (a || false) ≡ a
  less true = refl
  less false = refl

  R_known : (q : Rev) → knows R q ≡ (knows S q || same_rev q n.rev)
  R_known q = by_cases (same_rev q n.rev)
      (λ s. ap (λ z. knows R z) ((same_rev-equal q n.rev).0 s) ∙ ap is_some R_n ∙ sym (ap (λ b. knows S q || b) s ∙ more (knows S q)))
      (λ s. ap is_some (R_other q s) ∙ sym (ap (λ b. knows S q || b) s ∙ less (knows S q)))

  S_none : parent_of S n.rev ≡ None
  S_none = ap parent_at (none_of (get S n.rev) unknown)

  R_parents : (q : Rev) → parent_of R q ≡ parent_of S q
  R_parents q = by_cases (same_rev q n.rev)
      (λ s. subst (λ z. parent_of R z ≡ parent_of S z) (sym ((same_rev-equal q n.rev).0 s)) (ap parent_at R_n ∙ sym S_none))
      (λ s. ap parent_at (R_other q s))

  rooted : IsRooted S R n.rev
  rooted = record { unknown = unknown; known = R_known; parents = R_parents }

  U_known : (q : Rev) → knows U q ≡ knows R q
  U_known q = by_cases (same_rev q n.rev)
      (λ s. subst (λ z. knows U z ≡ knows R z) (sym ((same_rev-equal q n.rev).0 s)) (ap is_some U_n ∙ sym (ap is_some R_n)))
      (λ s. ap is_some (U_other q s) ∙ sym (ap is_some (R_other q s)))

  U_others : (q : Rev) → same_rev q n.rev ≡ false → parent_of U q ≡ parent_of R q
  U_others q s = ap parent_at (U_other q s) ∙ sym (ap parent_at (R_other q s))

  U_parent : parent_of U n.rev ≡ n.parent
  U_parent = ap parent_at U_n

  R_none : parent_of R n.rev ≡ None
  R_none = ap parent_at R_n

  -- ---- they are forests

  -- the parent of what is no younger than n and all behind it is before n
  known_parent : (q a : Rev) → parent_of t q ≡ Some a → ((m : Node) → Contains (n ∷ after) m → q.generation ≤ m.rev.generation) → knows S a ≡ true
  known_parent q a parent low =
      let f = h.tree.forest.parents q a parent in
      let k = node_known ns h.sorted a f.0 in
      ⊎_elim
      (λ c. knows-shell a before ∙ ap (λ z. is_some (get (tree_of before) z)) (sym k.rev) ∙ ap is_some (got before front k.node c))
      (λ c. let le = low k.node c in let same = ap (λ (z : Rev). z.generation) k.rev in absurd (omega (arith, le, same, f.1)))
      (Contains-append_cases before (n ∷ after) k.node (subst (λ ms. Contains ms k.node) e k.listed))

  from_n : (xs : List Node) → AllPairs Before (xs ++ n ∷ after) → (m : Node) → Contains after m → rev_cmp n.rev m.rev ≡ Less
  from_n [] g m c = All-contains (Before n) after m (AllPairs-head Before n after g) c
  from_n (x ∷ xs) g m c = from_n xs (AllPairs-tail Before x (xs ++ n ∷ after) g) m c

  n_low : (m : Node) → Contains (n ∷ after) m → n.rev.generation ≤ m.rev.generation
  n_low m c = ⊎_elim
      (λ s. let g = ap (λ (w : Node). w.rev.generation) s in omega (arith, g))
      (λ d. no_older n.rev m.rev (from_n before ordered m d))
      (Contains-cons_cases n after m c)

  -- what has a parent before n has it in the whole tree
  record IsUp (q a : Rev) : Type 0 where
    whole : parent_of t q ≡ Some a
    known : knows S a ≡ true

  S_up : (q a : Rev) → parent_of S q ≡ Some a → IsUp q a
  S_up q a up =
      let v = known_front q (knows_child S q a up) in
      let x = front_of q v.0 v.1 in
      let found : get t q ≡ Some v.0 = ap (get t) (sym x.rev) ∙ got ns h.sorted x.node (listed x.node x.is_there) ∙ ap (λ w. Some w) x.value in
      let parent : parent_of t q ≡ Some a = ap parent_at found ∙ sym (ap parent_at v.1) ∙ sym (parent_of-shell q before) ∙ up in
      record {
        whole = parent;
        known = known_parent q a parent (λ m c. subst (λ z. z.generation ≤ m.rev.generation) x.rev (no_older x.node.rev m.rev (across before (n ∷ after) ordered x.node m x.is_there c)));
      }

  S_whole : (q : Rev) → knows S q ≡ true → knows t q ≡ true
  S_whole q k =
      let v = known_front q k in
      let x = front_of q v.0 v.1 in
      ap (λ z. is_some (get t z)) (sym x.rev) ∙ ap is_some (got ns h.sorted x.node (listed x.node x.is_there))

  n_up : (a : Rev) → n.parent ≡ Some a → IsUp n.rev a
  n_up a up =
      let parent : parent_of t n.rev ≡ Some a = ap parent_at (got ns h.sorted n here) ∙ up in
      record { whole = parent; known = known_parent n.rev a parent n_low }

  R_or_n : (q : Rev) → knows R q ≡ true → knows t q ≡ true
  R_or_n q k = ⊎_elim
      (S_whole q)
      (λ s. ap (knows t) ((same_rev-equal q n.rev).0 s) ∙ ap is_some (got ns h.sorted n here))
      (or_cases (knows S q) (same_rev q n.rev) (sym (R_known q) ∙ k))

  body_in : (o : Option Revision) → (q : Rev) → is_some (option_map alone o) ≡ true → is_some (option_and_then (λ (v : Revision). v.body) (option_map alone o)) ≡ true
  body_in None q k = k
  body_in (Some v) q k = refl

  S_body : (q : Rev) → knows S q ≡ true → is_some (body_of S q) ≡ true
  S_body q k = ap (λ o. is_some (option_and_then (λ (v : Revision). v.body) o)) (get-shell q before) ∙ body_in (get (tree_of before) q) q (sym (ap is_some (get-shell q before)) ∙ k)

  pub before_forest : IsForest S
  before_forest = record {
    parents = λ r p up. let x = S_up r p up in (x.known, (h.tree.forest.parents r p x.whole).1);
    generations = λ r k. h.tree.forest.generations r (S_whole r k);
    bodies = λ r leaf. S_body r (leaf_known S r leaf);
  }

  new_body : (u : Tree) → (v : Revision) → v.body ≡ Some no_members → get u n.rev ≡ Some v → ((q : Rev) → same_rev q n.rev ≡ false → get u q ≡ get S q) → ((q : Rev) → knows u q ≡ knows R q)
      → (q : Rev) → knows u q ≡ true → is_some (body_of u q) ≡ true
  new_body u v some at_n others known q k = by_cases (same_rev q n.rev)
      (λ s. ap (λ z. is_some (body_of u z)) ((same_rev-equal q n.rev).0 s) ∙ ap (λ o. is_some (option_and_then (λ (w : Revision). w.body) o)) at_n ∙ ap is_some some)
      (λ s. ap (λ o. is_some (option_and_then (λ (w : Revision). w.body) o)) (others q s) ∙ S_body q (sym (ap is_some (others q s)) ∙ k))

  pub between_forest : IsForest R
  between_forest = record {
    parents = λ r p up. let x = S_up r p (sym (R_parents r) ∙ up) in (R_known p ∙ or_left (knows S p) (same_rev p n.rev) x.known, (h.tree.forest.parents r p x.whole).1);
    generations = λ r k. h.tree.forest.generations r (R_or_n r k);
    bodies = λ r leaf. new_body R (record { parent = None; deleted = false; body = Some no_members }) refl R_n R_other (λ q. refl) r (leaf_known R r leaf);
  }

  U_up : (q a : Rev) → parent_of U q ≡ Some a → IsUp q a
  U_up q a up = by_cases (same_rev q n.rev)
      (λ s. let is = (same_rev-equal q n.rev).0 s in subst (λ z. IsUp z a) (sym is) (n_up a (sym U_parent ∙ ap (parent_of U) (sym is) ∙ up)))
      (λ s. S_up q a (sym (R_parents q) ∙ sym (U_others q s) ∙ up))

  pub after_forest : IsForest U
  after_forest = record {
    parents = λ r p up. let x = U_up r p up in (U_known p ∙ R_known p ∙ or_left (knows S p) (same_rev p n.rev) x.known, (h.tree.forest.parents r p x.whole).1);
    generations = λ r k. h.tree.forest.generations r (R_or_n r (sym (U_known r) ∙ k));
    bodies = λ r leaf. new_body U (bare n).1 refl U_n U_other U_known r (leaf_known U r leaf);
  }

  -- ---- the two steps

  pub step_linked : (p : Rev) → n.parent ≡ Some p → IsLinked R U n.rev p
  step_linked p up = record { root = R_known n.rev ∙ or_right (knows S n.rev) (same_rev n.rev n.rev) (same_key_itself revs n.rev); none = R_none; known = U_known; parent = U_parent ∙ up; others = U_others }

  pub step_known : (p : Rev) → n.parent ≡ Some p → knows R p ≡ true
  step_known p up = R_known p ∙ or_left (knows S p) (same_rev p n.rev) (n_up p up).known

  pub step_part : IsPartOf R t
  step_part = record { parents = λ q a up. (S_up q a (sym (R_parents q) ∙ up)).whole }

  pub step_alone : n.parent ≡ None → (runs : RunMap) → AreRuns R runs → AreRuns U runs
  step_alone none runs g = same_runs R U U_known (λ q. by_cases (same_rev q n.rev)
      (λ s. subst (λ z. parent_of U z ≡ parent_of R z) (sym ((same_rev-equal q n.rev).0 s)) (U_parent ∙ none ∙ sym R_none))
      (λ s. U_others q s)) runs g

  pub node_step : IsNodeStep t S U n
  node_step = record {
    middle = R;
    before = before_forest;
    between = between_forest;
    after = after_forest;
    rooted = rooted;
    linked = λ p up. (step_linked p up, step_known p up, step_part);
    alone = step_alone;
  }

-- a list around one of its elements
pub around : (ns : List Node) (k : ℕ) (n : Node) → k < length ns → n ≡ get_or ns k n → ns ≡ take k ns ++ n ∷ drop (suc k) ns
around ns k n lt e = sym (take-append-drop k ns) ∙ ap (λ xs. take k ns ++ xs) (drop-cons ns k n lt ∙ ap (λ q. q ∷ drop (suc k) ns) (sym e))

-- the next of them, in a walk along all
pub next_step : (ns ys : List Node) (k : ℕ) (n : Node) → IsNodes ns → ys ≡ take k ns → k < length ns → n ≡ get_or ns k n → IsNodeStep (tree_of ns) (shell ys) (shell (ys ++ n ∷ [])) n
next_step ns ys k n h is lt at = subst (λ ms. IsNodeStep (tree_of ns) (shell ms) (shell (ms ++ n ∷ [])) n) (sym is) (node_step ns (take k ns) (drop (suc k) ns) n (around ns k n lt at) h)
