-- What a map has after a put and after a removal, at the key and at others, and after two puts at one key.
use Rattle.std.specs.Prelude.{◌≡◌, ◌≢◌, ◌⊎◌, Bool, true, false, cond, Option, Some, None, option_map, option_and_then, refl}
use Rattle.std.proofs.Common.{sym, ap, inl, inr, ◌∙◌}
use Rattle.std.proofs.lemmas.Option.{none-some, same_Some}
use Rattle.std.proofs.lemmas.Bool.{false_from_ne_true}
use Rattle.model.specs.Map.{Order, Map, get, put, refine, without, get-put, get-refine, same_key, same_key-equal, same_map}
use Rattle.model.proofs.ListLaws.{by_cases}
use Rattle.model.proofs.MapLaws.{get-refine_all}

module _ {O : Order} {X : Type 0} (m : Map O X) (k : O.key) where
  -- keys that are not equal are distinguished
  pub apart : (q : O.key) → q ≢ k → same_key O q k ≡ false
  apart q other = false_from_ne_true _ (λ e. other (same_key-equal O q k e))

  pub get-put_same : (x : X) (q : O.key) → same_key O q k ≡ true → get (put m k x) q ≡ Some x
  get-put_same x q same = get-put m k x q ∙ ap (λ b. cond b (Some x) (get m q)) same

  pub get-put_other : (x : X) (q : O.key) → same_key O q k ≡ false → get (put m k x) q ≡ get m q
  get-put_other x q other = get-put m k x q ∙ ap (λ b. cond b (Some x) (get m q)) other

  get-without : (q : O.key) → get (without m k) q ≡ cond (same_key O q k) None (get m q)
  get-without q = get-refine (λ r x. cond (same_key O r k) None (Some x)) m q ∙ same (same_key O q k) (get m q)
    where
      same : (b : Bool) (o : Option X) → option_and_then (λ x. cond b None (Some x)) o ≡ cond b None o
      same true None = refl
      same true (Some x) = refl
      same false None = refl
      same false (Some x) = refl

  pub get-without_same : (q : O.key) → same_key O q k ≡ true → get (without m k) q ≡ None
  get-without_same q same = get-without q ∙ ap (λ b. cond b None (get m q)) same

  pub get-without_other : (q : O.key) → same_key O q k ≡ false → get (without m k) q ≡ get m q
  get-without_other q other = get-without q ∙ ap (λ b. cond b None (get m q)) other

  -- what is there after a put was put, or was there
  pub put-cases : (x : X) (q : O.key) (y : X) → get (put m k x) q ≡ Some y → ((q ≡ k) × (x ≡ y)) ⊎ (get m q ≡ Some y)
  put-cases x q y e = by_cases (same_key O q k)
      (λ t. inl (same_key-equal O q k t, same_Some x y (sym (get-put_same x q t) ∙ e)))
      (λ f. inr (sym (get-put_other x q f) ∙ e))

  pub without-some : (q : O.key) (y : X) → get (without m k) q ≡ Some y → get m q ≡ Some y
  without-some q y e = by_cases (same_key O q k)
      (λ t. absurd (none-some y (sym (get-without_same q t) ∙ e)))
      (λ f. sym (get-without_other q f) ∙ e)

  -- the later of two puts at a key
  pub put_again : (x y : X) → put (put m k x) k y ≡ put m k y
  put_again x y = same_map (put (put m k x) k y) (put m k y) (λ q.
      get-put (put m k x) k y q ∙ ap (cond (same_key O q k) (Some y)) (get-put m k x q) ∙ twice (same_key O q k) (get m q) ∙ sym (get-put m k y q))
    where
      twice : (b : Bool) (o : Option X) → cond b (Some y) (cond b (Some x) o) ≡ cond b (Some y) o
      twice true o = refl
      twice false o = refl

-- what is there after each value has changed was made of what was there
pub refined-some : {O : Order} {X Y : Type 0} (f : O.key → X → Y) (m : Map O X) (q : O.key) (y : Y) → get {O = O} (refine (λ k x. Some (f k x)) m) q ≡ Some y → (x : X) × (get m q ≡ Some x) × (f q x ≡ y)
refined-some {X} {Y} f m q y e = at (get m q) (sym (get-refine_all f m q) ∙ e)
  where
    at : (o : Option X) → option_map (f q) o ≡ Some y → (x : X) × (o ≡ Some x) × (f q x ≡ y)
    at None e = absurd (none-some y e)
    at (Some x) e = (x, refl, same_Some (f q x) y e)
