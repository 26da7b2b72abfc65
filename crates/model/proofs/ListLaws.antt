-- Laws of tests and lists.
use Rattle.std.specs.Prelude.{◌≡◌, ◌↔◌, ◌⊎◌, zero, suc, Bool, true, false, List, [], ◌∷◌, filter, map, Option, Some, None, All, AllPairs, Contains, refl}
use Rattle.std.specs.List.{list_any}
use Rattle.std.proofs.Common.{get_or, ⊎_elim, sym, ap, subst, ◌∙◌, inl, inr, arith}
use Rattle.std.proofs.lemmas.Option.{none-some, same_Some}
use Rattle.std.proofs.lemmas.Bool.{true≢false, cond_both}
use Rattle.std.proofs.Math.ListN.{length-map}
use Rattle.std.proofs.lemmas.List.{get_or-map}
use Rattle.std.proofs.lemmas.List.Elements.{All-contains, All-filter, All-contains_itself, filter_passes}
use Rattle.std.proofs.lemmas.List.Folds.{Any-from_list_any, list_any-from_Any}
use Rattle.model.specs.Lists.{first_of}

pub by_cases : (b : Bool) {P : Type 0} → (b ≡ true → P) → (b ≡ false → P) → P
by_cases b {P} f g = elim b as (λ c. b ≡ c → P) [ true ↦ f | false ↦ g ] refl

pub same_option : {X : Type 0} (o p : Option X) → ((x : X) → (o ≡ Some x) ↔ (p ≡ Some x)) → o ≡ p
same_option None None h = refl
same_option None (Some y) h = (h y).1 refl
same_option (Some x) p h = sym ((h x).0 refl)

module _ {X : Type 0} where
  -- an element that passes a test
  pub record Passing (p : X → Bool) (xs : List X) : Type 0 where
    pub element : X
    pub listed : Contains xs element
    pub passes : p element ≡ true

  pub passing_of : (p : X → Bool) (xs : List X) → list_any p xs ≡ true → Passing p xs
  passing_of p xs h = let a = Any-from_list_any p xs h in record { element = a.1; listed = (a.0, a.2, a.3); passes = a.4 }

  pub any_passing : (p : X → Bool) (xs : List X) (x : X) → Contains xs x → p x ≡ true → list_any p xs ≡ true
  any_passing p xs x c e = list_any-from_Any p xs (c.0, x, c.1, c.2, e)

  pub Contains-head : (x : X) (xs : List X) → Contains (x ∷ xs) x
  Contains-head x xs = (0, omega arith, refl)

  pub Contains-tail : (x : X) (xs : List X) (y : X) → Contains xs y → Contains (x ∷ xs) y
  Contains-tail x xs y c = (suc c.0, omega (arith, c.1), c.2)

  pub Contains-cons_cases : (x : X) (xs : List X) (y : X) → Contains (x ∷ xs) y → (x ≡ y) ⊎ Contains xs y
  Contains-cons_cases x xs y (zero, lt, is) = inl is
  Contains-cons_cases x xs y (suc k, lt, is) = inr (k, omega (arith, lt), is)

  kept_passing : (p : X → Bool) (xs : List X) (x : X) → p x ≡ true → Contains xs x → Contains (filter p xs) x
  kept_passing p [] x e c = c
  kept_passing p (y ∷ ys) x e c =
      let later = kept_passing p ys x e in
      let cases = Contains-cons_cases y ys x c in
      cond_both (p y) (y ∷ filter p ys) (filter p ys) (λ zs. Contains zs x)
      (λ _. ⊎_elim (λ is. subst (Contains (y ∷ filter p ys)) is (Contains-head y (filter p ys))) (λ d. Contains-tail y (filter p ys) x (later d)) cases)
      (λ n. ⊎_elim (λ is. absurd (true≢false (sym e ∙ ap p (sym is) ∙ n))) later cases)

  passing_kept : (p : X → Bool) (xs : List X) (x : X) → Contains (filter p xs) x → Contains xs x × (p x ≡ true)
  passing_kept p xs x c =
      let listed = All-filter p (Contains xs) xs (All-contains_itself xs) in
      (All-contains (Contains xs) (filter p xs) x listed c, All-contains (λ y. p y ≡ true) (filter p xs) x (filter_passes p xs) c)

  pub Contains-filter : (p : X → Bool) (xs : List X) (x : X) → Contains (filter p xs) x ↔ (Contains xs x × (p x ≡ true))
  Contains-filter p xs x = (passing_kept p xs x, λ h. kept_passing p xs x h.1 h.0)

  -- ---- the first of a list in order

  pub first_is_listed : (xs : List X) (x : X) → first_of xs ≡ Some x → Contains xs x
  first_is_listed [] x e = absurd (none-some x e)
  first_is_listed (y ∷ ys) x e = (0, omega arith, same_Some y x e)

  pub first_before : (R : X → X → Type 0) (xs : List X) (x y : X) → AllPairs R xs → first_of xs ≡ Some x → Contains xs y → (x ≡ y) ⊎ R x y
  first_before R [] x y h e c = absurd (none-some x e)
  first_before R (z ∷ zs) x y h e (zero, lt, is) = inl (sym (same_Some z x e) ∙ is)
  first_before R (z ∷ zs) x y h e (suc k, lt, is) = inr (subst (R x) is (subst (λ a. R a (get_or zs k y)) (same_Some z x e) (h 0 (suc k) y (omega arith) lt)))

  pub AllPairs-tail : (R : X → X → Type 0) (x : X) (xs : List X) → AllPairs R (x ∷ xs) → AllPairs R xs
  AllPairs-tail R x xs h i j d less lt = h (suc i) (suc j) d (omega arith) (omega arith)

  pub AllPairs-head : (R : X → X → Type 0) (x : X) (xs : List X) → AllPairs R (x ∷ xs) → All (R x) xs
  AllPairs-head R x xs h k d lt = h 0 (suc k) d (omega arith) (omega arith)

module _ {X Y : Type 0} (f : X → Y) where
  -- what an element of a mapped list was made from
  pub record Source (xs : List X) (y : Y) : Type 0 where
    pub element : X
    pub listed : Contains xs element
    pub gives : f element ≡ y

  pub source_of : (xs : List X) (y : Y) → Contains (map f xs) y → Source xs y
  source_of [] y c = absurd (omega (arith, c.1))
  source_of (x ∷ xs) y c = ⊎_elim
      (λ e. record { element = x; listed = Contains-head x xs; gives = e })
      (λ d. let s = source_of xs y d in record { element = s.element; listed = Contains-tail x xs s.element s.listed; gives = s.gives })
      (Contains-cons_cases (f x) (map f xs) y c)

  pub Contains-map : (xs : List X) (x : X) → Contains xs x → Contains (map f xs) (f x)
  Contains-map xs x c = (c.0, omega (arith, c.1, length-map xs f), get_or-map f xs c.0 x (f x) c.1 ∙ ap f c.2)
