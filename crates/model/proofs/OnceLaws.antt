-- A list with each member at its first place has the members of the list, each once, in the order of those places. So have
-- the leaves that a cut removes.
use Rattle.std.specs.Prelude.{◌≡◌, ◌≢◌, ◌↔◌, Bool, true, false, cond, not, ◌&&◌, ◌||◌, List, [], ◌∷◌, ◌++◌, if◌then◌else◌, filter, AllPairs, Contains, refl}
use Rattle.std.specs.List.{list_any}
use Rattle.std.specs.Cmp.{both_ways}
use Rattle.std.proofs.Common.{append-nil, sym, ap, subst, ◌∙◌, ⊎_elim, arith}
use Rattle.std.proofs.lemmas.Bool.{true≢false, or_right, not-true, not_from_false}
use Rattle.std.proofs.lemmas.List.Elements.{All-weaker, filter-append, filter_passes}
use Rattle.std.proofs.lemmas.List.Kept.{AllPairs-cons, AllPairs-filter}
use Rattle.model.specs.Lists.{each_once}
use Rattle.model.specs.Map.{same_key_itself}
use Rattle.model.specs.Revision.{Rev, revs, same_rev, same_rev-equal}
use Rattle.model.specs.Tree.{Tree, is_leaf, among}
use Rattle.model.specs.TreeChange.{removed_leaves}
use Rattle.model.proofs.ListLaws.{by_cases, Passing, passing_of, any_passing, Contains-head, Contains-tail, Contains-cons_cases, Contains-filter}
use Rattle.model.proofs.AncestorLaws.{Contains-among}
use Rattle.model.proofs.PathLaws.{same_rev-symm}

module _ {X : Type 0} (same : X → X → Bool) where
  abbrev Differ : X → X → Type 0
  Differ a b = same a b ≡ false

  pub AllPairs-each_once : (xs : List X) → AllPairs (λ a b. same a b ≡ false) (each_once same xs)
  AllPairs-each_once [] = λ i j d less lt. absurd (omega arith)
  AllPairs-each_once (x ∷ xs) =
      let others = filter (λ y. not (same x y)) (each_once same xs) in
      let apart = All-weaker (λ y. not (same x y) ≡ true) (Differ x) (λ y h. not-true _ h) others (filter_passes (λ y. not (same x y)) (each_once same xs)) in
      AllPairs-cons Differ x others apart (AllPairs-filter Differ (λ y. not (same x y)) (each_once same xs) (AllPairs-each_once xs))

  each_once_listed : (xs : List X) (x : X) → Contains (each_once same xs) x → Contains xs x
  each_once_listed [] x c = c
  each_once_listed (y ∷ ys) x c = ⊎_elim
      (λ e. subst (Contains (y ∷ ys)) e (Contains-head y ys))
      (λ d. Contains-tail y ys x (each_once_listed ys x ((Contains-filter (λ z. not (same y z)) (each_once same ys) x).0 d).0))
      (Contains-cons_cases y (filter (λ z. not (same y z)) (each_once same ys)) x c)

  module _ (exact : (x y : X) → same x y ≡ true → x ≡ y) where
    listed_each_once : (xs : List X) (x : X) → Contains xs x → Contains (each_once same xs) x
    listed_each_once [] x c = c
    listed_each_once (y ∷ ys) x c = ⊎_elim here (λ d. later (listed_each_once ys x d)) (Contains-cons_cases y ys x c)
      where
        others : List X
        others = filter (λ z. not (same y z)) (each_once same ys)

        here : y ≡ x → Contains (y ∷ others) x
        here e = subst (Contains (y ∷ others)) e (Contains-head y others)

        later : Contains (each_once same ys) x → Contains (y ∷ others) x
        later d = by_cases (same y x)
            (λ e. here (exact y x e))
            (λ n. Contains-tail y others x ((Contains-filter (λ z. not (same y z)) (each_once same ys) x).1 (d, not_from_false _ n)))

    pub Contains-each_once : (xs : List X) (x : X) → Contains (each_once same xs) x ↔ Contains xs x
    Contains-each_once xs x = (each_once_listed xs x, listed_each_once xs x)

  abbrev pub once_more : Bool → List X → X → List X
  once_more seen xs x = if seen then xs else xs ++ x ∷ []

  -- one more member goes last, unless it repeats another
  pub each_once-push : (xs : List X) (x : X) → each_once same (xs ++ x ∷ []) ≡ once_more (list_any (λ y. same y x) xs) (each_once same xs) x
  each_once-push [] x = refl
  each_once-push (y ∷ ys) x = ap (λ zs. y ∷ filter (λ z. not (same y z)) zs) (each_once-push ys x) ∙ at (list_any (λ z. same z x) ys)
    where
      others : List X
      others = filter (λ z. not (same y z)) (each_once same ys)

      last : (b : Bool) → y ∷ (others ++ cond (not b) (x ∷ []) []) ≡ once_more (b || false) (y ∷ others) x
      last true = ap (λ zs. y ∷ zs) (append-nil others)
      last false = refl

      at : (b : Bool) → y ∷ filter (λ z. not (same y z)) (once_more b (each_once same ys) x) ≡ once_more (same y x || b) (y ∷ others) x
      at true = ap (λ b. once_more b (y ∷ others) x) (sym (or_right (same y x) true refl))
      at false = ap (λ zs. y ∷ zs) (filter-append (λ z. not (same y z)) (each_once same ys) (x ∷ [])) ∙ last (same y x)

-- ---- the leaves that a cut takes

pub Contains-removed_leaves : (named : List Rev) (t : Tree) (r : Rev) → Contains (removed_leaves named t) r ↔ (Contains named r × (is_leaf t r ≡ true))
Contains-removed_leaves named t r =
    let once = Contains-each_once same_rev (λ a b. (same_rev-equal a b).0) (filter (is_leaf t) named) r in
    let kept = Contains-filter (is_leaf t) named r in
    (λ c. kept.0 (once.0 c), λ h. once.1 (kept.1 h))

pub AllPairs-removed_leaves : (named : List Rev) (t : Tree) → AllPairs (λ a b. a ≢ b) (removed_leaves named t)
AllPairs-removed_leaves named t i j d less lt e =
    true≢false (sym ((same_rev-equal _ _).1 e) ∙ AllPairs-each_once same_rev (filter (is_leaf t) named) i j d less lt)

-- a leaf is among the named leaves exactly where it is named
seen_named : (named : List Rev) (t : Tree) (r : Rev) → is_leaf t r ≡ true → list_any (λ q. same_rev q r) (filter (is_leaf t) named) ≡ among named r
seen_named named t r l = both_ways _ _
    (λ h. to (passing_of (λ q. same_rev q r) (filter (is_leaf t) named) h))
    (λ h. any_passing (λ q. same_rev q r) (filter (is_leaf t) named) r ((Contains-filter (is_leaf t) named r).1 ((Contains-among named r).0 h, l)) (same_key_itself revs r))
  where
    to : Passing (λ q. same_rev q r) (filter (is_leaf t) named) → among named r ≡ true
    to p = any_passing (same_rev r) named p.element ((Contains-filter (is_leaf t) named p.element).0 p.listed).0 (same_rev-symm r p.element ∙ p.passes)

pub removed_leaves-push : (named : List Rev) (t : Tree) (r : Rev)
    → removed_leaves (named ++ r ∷ []) t ≡ (if is_leaf t r && not (among named r) then removed_leaves named t ++ r ∷ [] else removed_leaves named t)
removed_leaves-push named t r = ap (each_once same_rev) (filter-append (is_leaf t) named (r ∷ [])) ∙ at (is_leaf t r) refl
  where
    kept : List Rev
    kept = filter (is_leaf t) named

    turned : (b : Bool) → once_more same_rev b (each_once same_rev kept) r ≡ cond (not b) (each_once same_rev kept ++ r ∷ []) (each_once same_rev kept)
    turned true = refl
    turned false = refl

    at : (b : Bool) → is_leaf t r ≡ b → each_once same_rev (kept ++ cond b (r ∷ []) []) ≡ cond (b && not (among named r)) (each_once same_rev kept ++ r ∷ []) (each_once same_rev kept)
    at true l = each_once-push same_rev kept r ∙ ap (λ b. once_more same_rev b (each_once same_rev kept) r) (seen_named named t r l) ∙ turned (among named r)
    at false l = ap (each_once same_rev) (append-nil kept)
