-- The documents of a version in slices.
use Rattle.std.specs.Prelude.{◌≡◌, ◌+◌, ◌≤◌, ℕ, zero, suc, Bool, true, false, cond, List, [], ◌∷◌, ◌++◌, length, take, drop, map, T, Option, Some, None, refl}
use Rattle.std.specs.Ordering.{is_le, is_lt, ordering_reverse}
use Rattle.std.specs.declared.cmp.Ordering.{Ordering}
use Rattle.std.specs.declared.cmp.Ordering.TheVariants.{Less, Equal, Greater}
use Rattle.std.specs.Cmp.{tied_itself}
use Rattle.std.specs.Map.Iter.{TakesFirst}
use Rattle.std.specs.FinMap.Entries.{is_sorted, below_all}
use Rattle.std.proofs.Common.{ap, sym, subst, ◌∙◌, arith, ◌&&◌}
use Rattle.std.proofs.lemmas.Option.{none-some, same_Some}
use Rattle.std.proofs.lemmas.List.{take_all, drop-map, take-map}
use Rattle.cow_index.specs.Entries.{entries_from}
use Rattle.model.specs.Map.{Map}
use Rattle.model.specs.Command.{Id, names}
use Rattle.model.specs.Database.{Database, Record}
use Rattle.snapshots.specs.Listing.{Listing}
use Rattle.snapshots.specs.Taken.{taken_one, taken_all}
use Rattle.snapshots.proofs.Taken.{taken_all-push}
use Rattle.compactor.specs.Copy.{last_id}

abbrev Docs : Type 0
Docs = List (Id × Record)

first : (a b : Bool) → T (a && b) → T a
first true b p = tt
first false b p = p

second : (a b : Bool) → T (a && b) → T b
second true b p = p
second false b p = absurd p

-- ---- the last of some ids

pub last_id-push : (o : Option Id) (ids : List Id) (id : Id) → last_id o (ids ++ id ∷ []) ≡ Some id
last_id-push o [] id = refl
last_id-push o (i ∷ ids) id = last_id-push (Some i) ids id

pub last_id-append : (o : Option Id) (ids more : List Id) → last_id o (ids ++ more) ≡ last_id (last_id o ids) more
last_id-append o [] more = refl
last_id-append o (i ∷ ids) more = last_id-append (Some i) ids more

last_some : (i : Id) (ids : List Id) → last_id (Some i) ids ≡ None → ⊥
last_some i [] e = none-some i (sym e)
last_some i (j ∷ ids) e = last_some j ids e

-- ---- the documents after one

less_is_le : (o : Ordering) → T (is_lt o) → is_le o ≡ true
less_is_le Less h = refl
less_is_le Equal h = absurd h
less_is_le Greater h = absurd h

-- those above a key are all not below it
entries_from-above : (k : Id) (es : Docs) → T (below_all names.cmp k es) → entries_from names.cmp k es ≡ es
entries_from-above k [] h = refl
entries_from-above k (e ∷ es) h = ap (λ b. cond b (e ∷ entries_from names.cmp k es) (entries_from names.cmp k es)) (less_is_le (names.cmp k e.0) (first _ _ h)) ∙ ap (λ l. e ∷ l) (entries_from-above k es (second _ _ h))

entries_from-head : (e : Id × Record) (es : Docs) → T (is_sorted names.cmp (e ∷ es)) → entries_from names.cmp e.0 (e ∷ es) ≡ e ∷ es
entries_from-head e es s =
    ap (λ b. cond b (e ∷ entries_from names.cmp e.0 es) (entries_from names.cmp e.0 es)) (ap is_le (tied_itself names.total e.0))
    ∙ ap (λ l. e ∷ l) (entries_from-above e.0 es (first (below_all names.cmp e.0 es) _ s))

abbrev keys : Docs → List Id
keys es = map (λ e. e.0) es

-- a key below all is below the last of some of them
below-last : (x : Id) (e : Id × Record) (es : Docs) → T (below_all names.cmp x (e ∷ es)) → (k : ℕ) (id : Id) → Some id ≡ last_id (Some e.0) (take k (keys es)) → T (is_lt (names.cmp x id))
below-last x e es h zero id is = subst (λ i. T (is_lt (names.cmp x i))) (same_Some e.0 id (sym is)) (first _ _ h)
below-last x e [] h (suc k) id is = subst (λ i. T (is_lt (names.cmp x i))) (same_Some e.0 id (sym is)) (first _ _ h)
below-last x e (f ∷ fs) h (suc k) id is = below-last x f fs (second _ _ h) k id is

less_back : (o : Ordering) → T (is_lt o) → is_le (ordering_reverse o) ≡ false
less_back Less h = refl
less_back Equal h = absurd h
less_back Greater h = absurd h

-- after the last of the first k there are the others
pub rest-drop : (es : Docs) → T (is_sorted names.cmp es) → (k : ℕ) → k ≤ length es → (id : Id) → Some id ≡ last_id None (take k (keys es)) → drop 1 (entries_from names.cmp id es) ≡ drop k es
rest-drop es s zero le id is = absurd (none-some id (sym is))
rest-drop [] s (suc k) le id is = absurd (omega (arith, le))
rest-drop (e ∷ es) s (suc zero) le id is = ap (λ i. drop 1 (entries_from names.cmp i (e ∷ es))) (same_Some id e.0 is) ∙ ap (drop 1) (entries_from-head e es s)
rest-drop (e ∷ []) s (suc (suc k)) le id is = absurd (omega (arith, le))
rest-drop (e ∷ f ∷ fs) s (suc (suc k)) le id is =
    let less = below-last e.0 f fs (first (below_all names.cmp e.0 (f ∷ fs)) _ s) k id is in
    let later : is_le (names.cmp id e.0) ≡ false = ap is_le (names.total.antisymm id e.0) ∙ less_back (names.cmp e.0 id) less in
    ap (λ b. drop 1 (cond b (e ∷ entries_from names.cmp id (f ∷ fs)) (entries_from names.cmp id (f ∷ fs)))) later
    ∙ rest-drop (f ∷ fs) (second (below_all names.cmp e.0 (f ∷ fs)) _ s) (suc k) (omega (arith, le)) id is

pub none-first : (k : ℕ) (ids : List Id) → k ≤ length ids → None ≡ last_id None (take k ids) → k ≡ 0
none-first zero ids le is = refl
none-first (suc k) [] le is = absurd (omega (arith, le))
none-first (suc k) (i ∷ ids) le is = absurd (last_some i (take k ids) (sym is))

-- the first k and then the next n
pub take-drop : {X : Type 0} (k n : ℕ) (xs : List X) → take k xs ++ take n (drop k xs) ≡ take (k + n) xs
take-drop zero n xs = let same : n ≡ 0 + n = omega arith in ap (λ m. take m xs) same
take-drop (suc k) n [] = take_all n [] (omega arith) ∙ sym (take_all (suc k + n) [] (omega arith))
take-drop (suc k) n (x ∷ xs) = let same : suc (k + n) ≡ suc k + n = omega arith in ap (λ l. x ∷ l) (take-drop k n xs) ∙ ap (λ m. take m (x ∷ xs)) same

-- ---- one more

module _ (ids us : List Id) (id : Id) (more : us ≡ ids ++ id ∷ []) where
  pub copied-more : (start was later : Listing) (d : Database) → was ≡ record start { docs = taken_all start.docs d ids } → later ≡ record was { docs = taken_one was.docs d id } → later ≡ record start { docs = taken_all start.docs d us }
  copied-more start was later d so_far step =
      step
      ∙ ap (λ (l : Listing). record l { docs = taken_one l.docs d id }) so_far
      ∙ ap (λ (docs : Map names Record). record start { docs = docs }) (sym (taken_all-push start.docs d ids id))
      ∙ ap (λ is. record start { docs = taken_all start.docs d is }) (sym more)

  pub last-more : (o : Option Id) → Some id ≡ last_id o us
  last-more o = sym (last_id-push o ids id) ∙ ap (last_id o) (sym more)

-- the ids of what is walked over
pub ids-walked : (k n : ℕ) (es rest : Docs) → rest ≡ drop k es → map (λ e. e.0) (take n rest) ≡ take n (drop k (keys es))
ids-walked k n es rest is = ap (λ (l : Docs). map (λ e. e.0) (take n l)) is ∙ sym (take-map (λ (e : Id × Record). e.0) n (drop k es)) ∙ ap (take n) (sym (drop-map (λ (e : Id × Record). e.0) k es))

-- what is left after one was taken
pub left-drop : {A X : Type 0} (shows : A → X) (s t : List X) (r : Option A) → TakesFirst shows s r t → t ≡ drop 1 s
left-drop shows s t None h = h.1 ∙ sym (ap (drop 1) h.0)
left-drop shows s t (Some x) h = sym (ap (drop 1) h)
