-- Lists that name each revision once, made with a set of those that came before.
use Rattle.std.specs.Prelude.{◌≡◌, Bool, true, false, cond, ◌&&◌, ◌||◌, List, [], ◌∷◌, ◌++◌, if◌then◌else◌, filter, refl}
use Rattle.std.specs.List.{list_any}
use Rattle.std.specs.BTreeSet.{BTreeSet, contains, Updates}
use Rattle.std.proofs.Common.{append-nil, sym, ap, ◌∙◌}
use Rattle.std.proofs.lemmas.List.Elements.{filter-append}
use Rattle.model.specs.Lists.{each_once}
use Rattle.model.specs.Revision.{Rev, rev_cmp, same_rev, same_rev-equal}
use Rattle.model.proofs.ListLaws.{by_cases}
use Rattle.model.proofs.OnceLaws.{once_more, each_once-push}

-- the set has just the revisions of the list
pub record IsSeen (s : BTreeSet Rev) (xs : List Rev) : Type 0 where
  pub has : (r : Rev) → contains rev_cmp s r ≡ list_any (λ y. same_rev y r) xs

pub any-push : (p : Rev → Bool) (xs : List Rev) (x : Rev) → list_any p (xs ++ x ∷ []) ≡ cond (p x) true (list_any p xs)
any-push p [] x = elim (p x) as (λ b. (b || false) ≡ cond b true false) [ true ↦ refl | false ↦ refl ]
any-push p (y ∷ ys) x = ap (λ b. p y || b) (any-push p ys x) ∙ at (p y) (p x)
  where
    at : (a b : Bool) → (a || cond b true (list_any p ys)) ≡ cond b true (a || list_any p ys)
    at true true = refl
    at true false = refl
    at false true = refl
    at false false = refl

pub IsSeen-push : (s n : BTreeSet Rev) (xs : List Rev) (x : Rev) → Updates rev_cmp s n x true → IsSeen s xs → IsSeen n (xs ++ x ∷ [])
IsSeen-push s n xs x u h = record { has = λ r. u.0 r ∙ ap (cond (same_rev x r) true) (h.has r) ∙ sym (any-push (λ y. same_rev y r) xs x) }

module _ (same : Rev → Rev → Bool) where
  -- a further member, where it is known whether it repeats another
  pub each_once-told : (xs : List Rev) (x : Rev) (b : Bool) → b ≡ list_any (λ y. same y x) xs → each_once same (xs ++ x ∷ []) ≡ once_more same b (each_once same xs) x
  each_once-told xs x b e = each_once-push same xs x ∙ ap (λ c. once_more same c (each_once same xs) x) (sym e)

module _ (p : Rev → Bool) (xs : List Rev) (x : Rev) where
  pub filter-more : p x ≡ true → filter p (xs ++ x ∷ []) ≡ filter p xs ++ x ∷ []
  filter-more e = filter-append p xs (x ∷ []) ∙ ap (λ b. filter p xs ++ cond b (x ∷ []) []) e

  pub filter-same : p x ≡ false → filter p (xs ++ x ∷ []) ≡ filter p xs
  filter-same e = filter-append p xs (x ∷ []) ∙ ap (λ b. filter p xs ++ cond b (x ∷ []) []) e ∙ append-nil (filter p xs)

-- those that pass a test count, and the others may be there again
module _ (p : Rev → Bool) where
  abbrev pub once_where : List Rev → List Rev
  once_where = each_once (λ a b. p a && same_rev a b)

  counted : (xs : List Rev) (x : Rev) → list_any (λ y. p y && same_rev y x) xs ≡ list_any (λ y. same_rev y x) (filter p xs)
  counted [] x = refl
  counted (y ∷ ys) x = elim (p y) as (λ b. ((b && same_rev y x) || list_any (λ z. p z && same_rev z x) ys) ≡ list_any (λ z. same_rev z x) (cond b (y ∷ filter p ys) (filter p ys))) [
    | true ↦ ap (λ c. same_rev y x || c) (counted ys x)
    | false ↦ counted ys x
  ]

  free : (xs : List Rev) (x : Rev) → p x ≡ false → list_any (λ y. p y && same_rev y x) xs ≡ false
  free [] x e = refl
  free (y ∷ ys) x e = ap (λ b. b || list_any (λ z. p z && same_rev z x) ys) (by_cases (same_rev y x) (λ t. one (p y) (same_rev y x) (ap p ((same_rev-equal y x).0 t) ∙ e)) (λ f. two (p y) (same_rev y x) f)) ∙ free ys x e
    where
      one : (a b : Bool) → a ≡ false → (a && b) ≡ false
      one a b h = ap (λ c. c && b) h

      two : (a b : Bool) → b ≡ false → (a && b) ≡ false
      two true b h = h
      two false b h = refl

  pub once_where-counted : (s : BTreeSet Rev) (xs : List Rev) (x : Rev) → IsSeen s (filter p xs) → once_where (xs ++ x ∷ []) ≡ (if contains rev_cmp s x then once_where xs else once_where xs ++ x ∷ [])
  once_where-counted s xs x h = each_once-told (λ a b. p a && same_rev a b) xs x (contains rev_cmp s x) (h.has x ∙ sym (counted xs x))

  pub once_where-free : (xs : List Rev) (x : Rev) → p x ≡ false → once_where (xs ++ x ∷ []) ≡ once_where xs ++ x ∷ []
  once_where-free xs x e = each_once-told (λ a b. p a && same_rev a b) xs x false (sym (free xs x e))
