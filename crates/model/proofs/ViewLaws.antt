-- Views of sessions: a change of one leaves the others as they were, and no place goes back.
use Rattle.std.specs.Prelude.{◌≡◌, ℕ, ◌≤◌, Bool, true, false, ◌||◌, List, [], ◌∷◌, map, Some, option_map, unwrap_or, refl}
use Rattle.std.specs.List.{list_any, range_with_len}
use Rattle.std.proofs.Common.{sym, ap, ◌∙◌, arith}
use Rattle.std.proofs.lemmas.Bool.{cond-true, cond-false, or_parts, false≢true}
use Rattle.model.specs.Map.{Map, get, from_list, get-put, same_key, same_key-equal}
use Rattle.model.specs.Command.{numbers, Job}
use Rattle.model.specs.World.{Config, View, start_world, free_in, place_in, viewing, all_at, all_freed}
use Rattle.model.proofs.ListLaws.{by_cases}

abbrev pub same : ℕ → ℕ → Bool
same = same_key numbers

-- a job of the session is in the list
abbrev pub has_job : List Job → ℕ → Bool
has_job js s = list_any (λ j. same s j.seat.session) js

-- ---- one view

module _ (vs : Map numbers View) (s place : ℕ) (free : Bool) (q : ℕ) where
  abbrev changed : View
  changed = record { place = place; free = free }

  own : same q s ≡ true → get (viewing vs s place free) q ≡ Some changed
  own t = get-put vs s changed q ∙ cond-true _ _ _ t

  other : same q s ≡ false → get (viewing vs s place free) q ≡ get vs q
  other f = get-put vs s changed q ∙ cond-false _ _ _ f

  pub free-own : same q s ≡ true → free_in (viewing vs s place free) q ≡ free
  free-own t = ap (λ o. unwrap_or (option_map (λ v. v.free) o) false) (own t)

  pub free-other : same q s ≡ false → free_in (viewing vs s place free) q ≡ free_in vs q
  free-other f = ap (λ o. unwrap_or (option_map (λ v. v.free) o) false) (other f)

  pub place-own : same q s ≡ true → place_in (viewing vs s place free) q ≡ place
  place-own t = ap (λ o. unwrap_or (option_map (λ v. v.place) o) 0) (own t)

  pub place-other : same q s ≡ false → place_in (viewing vs s place free) q ≡ place_in vs q
  place-other f = ap (λ o. unwrap_or (option_map (λ v. v.place) o) 0) (other f)

  pub place-within : (n : ℕ) → place ≤ n → place_in vs q ≤ n → place_in (viewing vs s place free) q ≤ n
  place-within n le all = by_cases (same q s) (λ t. omega (arith, place-own t)) (λ f. omega (arith, place-other f))

  pub place-rises : place_in vs s ≤ place → place_in vs q ≤ place_in (viewing vs s place free) q
  place-rises le = by_cases (same q s) (λ t. omega (arith, place-own t, ap (place_in vs) (same_key-equal numbers q s t))) (λ f. omega (arith, place-other f))

-- ---- the views of a batch

module _ (vs : Map numbers View) (place : ℕ) where
  pub free-all_at : (js : List Job) (q : ℕ) → has_job js q ≡ false → free_in (all_at vs place js) q ≡ free_in vs q
  free-all_at [] q f = refl
  free-all_at (j ∷ js) q f = let p = or_parts _ _ f in free-other (all_at vs place js) j.seat.session place true q p.0 ∙ free-all_at js q p.1

  pub place-all_at : (js : List Job) (q : ℕ) → has_job js q ≡ false → place_in (all_at vs place js) q ≡ place_in vs q
  place-all_at [] q f = refl
  place-all_at (j ∷ js) q f = let p = or_parts _ _ f in place-other (all_at vs place js) j.seat.session place true q p.0 ∙ place-all_at js q p.1

  pub place-at : (js : List Job) (q : ℕ) → has_job js q ≡ true → place_in (all_at vs place js) q ≡ place
  place-at [] q t = absurd (false≢true t)
  place-at (j ∷ js) q t = by_cases (same q j.seat.session)
      (λ own. place-own (all_at vs place js) j.seat.session place true q own)
      (λ other. place-other (all_at vs place js) j.seat.session place true q other ∙ place-at js q (sym (ap (λ b. b || has_job js q) other) ∙ t))

  pub all_at-within : (js : List Job) (q : ℕ) → place_in vs q ≤ place → place_in (all_at vs place js) q ≤ place
  all_at-within js q le = by_cases (has_job js q) (λ t. omega (arith, place-at js q t)) (λ f. omega (arith, place-all_at js q f))

module _ (vs : Map numbers View) where
  pub free-all_freed : (js : List Job) (q : ℕ) → has_job js q ≡ false → free_in (all_freed vs js) q ≡ free_in vs q
  free-all_freed [] q f = refl
  free-all_freed (j ∷ js) q f = let p = or_parts _ _ f in free-other (all_freed vs js) j.seat.session _ true q p.0 ∙ free-all_freed js q p.1

  pub place-all_freed : (js : List Job) (q : ℕ) → place_in (all_freed vs js) q ≡ place_in vs q
  place-all_freed [] q = refl
  place-all_freed (j ∷ js) q = by_cases (same q j.seat.session)
      (λ t. place-own (all_freed vs js) j.seat.session _ true q t ∙ ap (place_in (all_freed vs js)) (sym (same_key-equal numbers q j.seat.session t)) ∙ place-all_freed js q)
      (λ f. place-other (all_freed vs js) j.seat.session _ true q f ∙ place-all_freed js q)

-- ---- the first views

abbrev unseen : List ℕ → Map numbers View
unseen ns = from_list {O = numbers} (map (λ s. (s, record { place = 0; free = true })) ns)

place-unseen : (ns : List ℕ) (q : ℕ) → place_in (unseen ns) q ≡ 0
place-unseen [] q = refl
place-unseen (n ∷ ns) q = by_cases (same q n) (λ t. place-own (unseen ns) n 0 true q t) (λ f. place-other (unseen ns) n 0 true q f ∙ place-unseen ns q)

pub place-start : (c : Config) (q : ℕ) → place_in (start_world c).views q ≡ 0
place-start c q = place-unseen (range_with_len 0 c.sessions) q
