-- How many records are live after one is put and after one is removed.
use Rattle.std.specs.Prelude.{◌≡◌, ◌+◌, ◌≤◌, Bool, true, false, cond, not, List, [], ◌∷◌, length, filter, T, Option, Some, None, is_some, option_map, refl}
use Rattle.std.specs.declared.cmp.Ordering.{Ordering}
use Rattle.std.specs.declared.cmp.Ordering.TheVariants.{Less, Equal, Greater}
use Rattle.std.specs.Ordering.{is_eq, is_lt}
use Rattle.std.specs.FinMap.Entries as listed
use Rattle.std.specs.FinMap.Entries.{find, is_sorted, below_all, by_order, length-put}
use Rattle.std.proofs.Common.{ap, sym, subst, ◌∙◌, arith}
use Rattle.cow_index.specs.Entries.{without}
use Rattle.model.specs.Truth.{first, second}
use Rattle.model.specs.Map.{same_key, same_key-equal}
use Rattle.model.specs.Command.{Id, names}
use Rattle.model.specs.Database.{Record}
use Rattle.model.specs.Answers.{is_live}
use Rattle.snapshots.specs.Listing.{live_count}
use Rattle.snapshots.specs.Replaced.{replaced, live_of}

abbrev Records : Type 0
Records = List (Id × Record)

live_count-cons : (e : Id × Record) (es : Records) → live_count (e ∷ es) ≡ live_of (Some (replaced e.1)) + live_count es
live_count-cons e es = elim (is_live e.1) as (λ b. length (cond b (e ∷ filter (λ f. is_live f.1) es) (filter (λ f. is_live f.1) es)) ≡ cond b 1 0 + live_count es) [ true ↦ omega arith | false ↦ omega arith ]

length-filter_le : {X : Type 0} (p : X → Bool) (xs : List X) → length (filter p xs) ≤ length xs
length-filter_le p [] = omega arith
length-filter_le p (x ∷ xs) = elim (p x) as (λ b. length (cond b (x ∷ filter p xs) (filter p xs)) ≤ length (x ∷ xs)) [ true ↦ omega (arith, length-filter_le p xs) | false ↦ omega (arith, length-filter_le p xs) ]

-- one that is found is among those counted
pub live_of-le : (k : Id) (es : Records) → live_of (option_map replaced (find names.cmp k es)) ≤ live_count es
live_of-le k [] = omega arith
live_of-le k (e ∷ es) = elim (same_key names k e.0) as (λ b. live_of (option_map replaced (cond b (Some e.1) (find names.cmp k es))) ≤ live_count (e ∷ es)) [
  | true ↦ omega (arith, live_count-cons e es)
  | false ↦ omega (arith, live_count-cons e es, live_of-le k es)
]

-- a key below the first of a list in order is not found there
absent : (k : Id) (x : Record) (e : Id × Record) (es : Records) → names.cmp k e.0 ≡ Less → T (is_sorted names.cmp (e ∷ es)) → find names.cmp k (e ∷ es) ≡ None
absent k x e es less s = at (find names.cmp k (e ∷ es)) (subst (λ r. length (by_order r ((k, x) ∷ e ∷ es) ((e.0, x) ∷ es) (e ∷ listed.put names.cmp k x es)) ≡ cond (is_some (find names.cmp k (e ∷ es))) (length (e ∷ es)) (length (e ∷ es) + 1)) less (length-put names.cmp names.total k x (e ∷ es) s))
  where
    at : (o : Option Record) → length ((k, x) ∷ e ∷ es) ≡ cond (is_some o) (length (e ∷ es)) (length (e ∷ es) + 1) → o ≡ None
    at None same = refl
    at (Some y) same = absurd (omega arith)

pub live_count-put : (k : Id) (x : Record) (es : Records) → T (is_sorted names.cmp es) → live_count (listed.put names.cmp k x es) + live_of (option_map replaced (find names.cmp k es)) ≡ live_count es + live_of (Some (replaced x))
live_count-put k x [] s = omega (arith, live_count-cons (k, x) [])
live_count-put k x (e ∷ es) s =
    elim (names.cmp k e.0) as (λ r. names.cmp k e.0 ≡ r → live_count (by_order r ((k, x) ∷ e ∷ es) ((e.0, x) ∷ es) (e ∷ listed.put names.cmp k x es)) + live_of (option_map replaced (cond (is_eq r) (Some e.1) (find names.cmp k es))) ≡ live_count (e ∷ es) + live_of (Some (replaced x))) [
      | Less ↦ λ less. omega (arith, live_count-cons (k, x) (e ∷ es), ap (λ (o : Option Record). live_of (option_map replaced o)) (subst (λ r. cond (is_eq r) (Some e.1) (find names.cmp k es) ≡ None) less (absent k x e es less s)))
      | Equal ↦ λ same. omega (arith, live_count-cons (e.0, x) es, live_count-cons e es)
      | Greater ↦ λ more. omega (arith, live_count-cons e es, live_count-cons e (listed.put names.cmp k x es), live_count-put k x es (second (below_all names.cmp e.0 es) _ s))
    ] refl

-- ---- one removed

above_is_other : (k : Id) (o : Ordering) → T (is_lt o) → is_eq o ≡ false
above_is_other k Less h = refl
above_is_other k Equal h = absurd h
above_is_other k Greater h = absurd h

-- a key below all is not found
none_found : (k : Id) (es : Records) → T (below_all names.cmp k es) → find names.cmp k es ≡ None
none_found k [] h = refl
none_found k (e ∷ es) h = ap (λ b. cond b (Some e.1) (find names.cmp k es)) (above_is_other k (names.cmp k e.0) (first _ _ h)) ∙ none_found k es (second _ _ h)

pub live_count-without : (k : Id) (es : Records) → T (is_sorted names.cmp es) → live_count (without names.cmp k es) + live_of (option_map replaced (find names.cmp k es)) ≡ live_count es
live_count-without k [] s = omega arith
live_count-without k (e ∷ es) s =
    let rest = live_count-without k es (second (below_all names.cmp e.0 es) _ s) in
    elim (same_key names k e.0) as (λ b. same_key names k e.0 ≡ b → live_count (cond (not b) (e ∷ without names.cmp k es) (without names.cmp k es)) + live_of (option_map replaced (cond b (Some e.1) (find names.cmp k es))) ≡ live_count (e ∷ es)) [
      | true ↦ λ same.
          let none : find names.cmp k es ≡ None = subst (λ q. find names.cmp q es ≡ None) (sym (same_key-equal names k e.0 same)) (none_found e.0 es (first (below_all names.cmp e.0 es) _ s)) in
          omega (arith, rest, live_count-cons e es, ap (λ (o : Option Record). live_of (option_map replaced o)) none)
      | false ↦ λ other. omega (arith, rest, live_count-cons e es, live_count-cons e (without names.cmp k es))
    ] refl

pub live_count-few : (es : Records) → live_count es ≤ length es
live_count-few es = length-filter_le (λ (e : Id × Record). is_live e.1) es
