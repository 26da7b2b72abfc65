-- The first of the keys that are not below another, and what it says of the runs.
use Rattle.std.specs.Prelude.{◌≡◌, ◌==◌, ℕ, zero, suc, ◌<◌, ◌≤◌, ◌-◌, ◌&&◌, Bool, true, false, cond, T, List, [], ◌∷◌, Option, Some, None, IfSome, is_some, nat_lt, option_map, refl}
use Rattle.std.specs.declared.cmp.Ordering.{Ordering}
use Rattle.std.specs.declared.cmp.Ordering.TheVariants.{Less, Equal, Greater}
use Rattle.std.specs.Cmp.{IsTotalOrder, Equal-is, tied_itself}
use Rattle.std.specs.FinMap.{IsAntisymmetric}
use Rattle.std.specs.FinMap.Entries.{find, is_sorted, below_all}
use Rattle.std.specs.Ordering.{is_eq, is_le, is_lt, eq_by_cmp, nat_cmp, ordering_then, ordering_reverse}
use Rattle.std.proofs.Common.{sym, ap, subst, ◌∙◌, arith}
use Rattle.std.proofs.lemmas.Bool.{true≢false}
use Rattle.std.proofs.lemmas.Option.{none-some, same_Some}
use borrow.Author.Tests.{ltb-true, ltb-false}
use Rattle.std.proofs.lemmas.Map.Keys.{le_from_is_le}
use Rattle.model.specs.Map.{get}
use Rattle.model.specs.Truth.{first, second}
use Rattle.model.specs.Revision.{Rev, rev_cmp, rev_total, rev_exact}
use Rattle.model.proofs.ListLaws.{by_cases}
use Rattle.cow_index.specs.Entries.{entries_from}
use Rattle.revision_runs.specs.declared.run.Run.{Run}
use Rattle.revision_runs.specs.declared.foot.Foot.{Foot}
use Rattle.revision_runs.specs.declared.hung.Hung.{Hung}
use Rattle.revision_runs.specs.declared.deep.Deep.{Deep}
use Rattle.revision_runs.specs.Keys.{foot_cmp, hung_cmp, deep_cmp, IsFirst, IsFirstFrom}
use Rattle.revision_runs.specs.Runs.{RunMap, EndsAt, HangsUnder, IsNearestUnder, IsDeepest, IsIndex, IsKeyOf, foot_of, hung_of, deep_of, steps_of}

-- ---- answers of an order

lt_le : (o : Ordering) → T (is_lt o) → is_le o ≡ true
lt_le Less h = refl
lt_le Equal h = absurd h
lt_le Greater h = absurd h

eq_le : (o : Ordering) → is_eq o ≡ true → is_le o ≡ true
eq_le Less h = refl
eq_le Equal h = refl
eq_le Greater h = absurd (true≢false (sym h))

le_head : (a b : Ordering) → is_le (ordering_then a b) ≡ true → is_le a ≡ true
le_head Less b h = refl
le_head Equal b h = refl
le_head Greater b h = h

both_le : {K : Type 0} (R : K → K → Ordering) → IsTotalOrder R → IsAntisymmetric R → (x y : K) → is_le (R x y) ≡ true → is_le (R y x) ≡ true → x ≡ y
both_le R total exact x y a b = at (R x y) refl a
  where
    at : (o : Ordering) → R x y ≡ o → is_le o ≡ true → x ≡ y
    at Less e h = absurd (true≢false (sym b ∙ ap is_le (total.antisymm y x ∙ ap ordering_reverse e)))
    at Equal e h = exact x y e
    at Greater e h = absurd (true≢false (sym h))

zero_le : (n : ℕ) → is_le (nat_cmp 0 n) ≡ true
zero_le n = by_cases (nat_lt 0 n)
    (λ holds. ap (λ b. is_le (cond b Less (cond (0 == n) Equal Greater))) holds)
    (λ fails. let le = ltb-false 0 n fails in let none : 0 ≡ n = omega (arith, le) in subst (λ m. is_le (nat_cmp 0 m) ≡ true) none refl)

-- ---- the first of the entries that are not below q

module _ {K : Type 0} (cmp : K → K → Ordering) (total : IsTotalOrder cmp) where
  below_found : (k : K) (es : List (K × Unit {0})) → T (below_all cmp k es) → (j : K) → is_some (find cmp j es) ≡ true → is_le (cmp k j) ≡ true
  below_found k [] below j h = absurd (true≢false (sym h))
  below_found k (e ∷ es) below j h = by_cases (eq_by_cmp cmp j e.0)
      (λ s. let less = first (is_lt (cmp k e.0)) (below_all cmp k es) below in
      lt_le (cmp k j) (subst (λ o. T (is_lt o)) (level e.0 s) less))
      (λ f. below_found k es (second (is_lt (cmp k e.0)) (below_all cmp k es) below) j (sym (ap (λ b. is_some (cond b (Some e.1) (find cmp j es))) f) ∙ h))
    where
      back : (o : Ordering) → o ≡ Equal → ordering_reverse o ≡ Equal
      back o e = ap ordering_reverse e

      -- a key that ties with another compares as that does
      level : (x : K) → eq_by_cmp cmp j x ≡ true → cmp k x ≡ cmp k j
      level x s =
          let tied : cmp j x ≡ Equal = (Equal-is (cmp j x)).0 s in
          total.antisymm k x ∙ ap ordering_reverse (sym (total.congr j x k tied)) ∙ sym (total.antisymm k j)

  found_itself : (k : K) (v : Unit {0}) (es : List (K × Unit {0})) → is_some (find cmp k ((k, v) ∷ es)) ≡ true
  found_itself k v es = ap (λ o. is_some (cond (is_eq o) (Some v) (find cmp k es))) (tied_itself total k)

  found_later : (k j : K) (v : Unit {0}) (es : List (K × Unit {0})) → is_some (find cmp j es) ≡ true → is_some (find cmp j ((k, v) ∷ es)) ≡ true
  found_later k j v es h = more (eq_by_cmp cmp j k) (find cmp j es) h
    where
      more : (b : Bool) (o : Option (Unit {0})) → is_some o ≡ true → is_some (cond b (Some v) o) ≡ true
      more true o h = refl
      more false o h = h

  least_head : (k : K) (v : Unit {0}) (es : List (K × Unit {0})) → T (is_sorted cmp ((k, v) ∷ es)) → (j : K) → is_some (find cmp j ((k, v) ∷ es)) ≡ true → is_le (cmp k j) ≡ true
  least_head k v es sorted j h = by_cases (eq_by_cmp cmp j k)
      (λ s. ap is_le (total.antisymm k j ∙ ap ordering_reverse ((Equal-is (cmp j k)).0 s)))
      (λ f. below_found k es (first (below_all cmp k es) (is_sorted cmp es) sorted) j (sym (ap (λ b. is_some (cond b (Some v) (find cmp j es))) f) ∙ h))

  pub first_of_all : (es rest : List (K × Unit {0})) (e : K × Unit {0}) → T (is_sorted cmp es) → es ≡ e ∷ rest → IsFirst cmp es e.0
  first_of_all es rest e sorted is = subst (λ xs. IsFirst cmp xs e.0) (sym is) (record {
    has = found_itself e.0 e.1 rest;
    least = least_head e.0 e.1 rest (subst (λ xs. T (is_sorted cmp xs)) is sorted);
  })

  pub first_listed : (q : K) (es rest : List (K × Unit {0})) (e : K × Unit {0}) → T (is_sorted cmp es) → entries_from cmp q es ≡ e ∷ rest → IsFirstFrom cmp q es e.0
  first_listed q [] rest e sorted is = absurd cc
  first_listed q (x ∷ xs) rest e sorted is = by_cases (is_le (cmp q x.0))
      (λ holds.
      let same : x ∷ entries_from cmp q xs ≡ e ∷ rest = sym (ap (λ b. cond b (x ∷ entries_from cmp q xs) (entries_from cmp q xs)) holds) ∙ is in
      let here : x ≡ e = cc in
      subst (λ (y : K × Unit {0}). IsFirstFrom cmp q (x ∷ xs) y.0) here (record { has = found_itself x.0 x.1 xs; from = holds; least = λ j found above. least_head x.0 x.1 xs sorted j found }))
      (λ fails.
      let h = first_listed q xs rest e (second (below_all cmp x.0 xs) (is_sorted cmp xs) sorted) (sym (ap (λ b. cond b (x ∷ entries_from cmp q xs) (entries_from cmp q xs)) fails) ∙ is) in
      record {
        has = found_later x.0 e.0 x.1 xs h.has;
        from = h.from;
        least = λ j found above. h.least j (later j found above fails) above;
      })
    where
      later : (j : K) → is_some (find cmp j (x ∷ xs)) ≡ true → is_le (cmp q j) ≡ true → is_le (cmp q x.0) ≡ false → is_some (find cmp j xs) ≡ true
      later j found above fails = by_cases (eq_by_cmp cmp j x.0)
          (λ s. let tied : cmp j x.0 ≡ Equal = (Equal-is (cmp j x.0)).0 s in
          let level : cmp q x.0 ≡ cmp q j = total.antisymm q x.0 ∙ ap ordering_reverse (sym (total.congr j x.0 q tied)) ∙ sym (total.antisymm q j) in
          absurd (true≢false (sym above ∙ ap is_le (sym level) ∙ fails)))
          (λ f. sym (ap (λ b. is_some (cond b (Some x.1) (find cmp j xs))) f) ∙ found)

  pub none_listed : (q : K) (es : List (K × Unit {0})) → entries_from cmp q es ≡ [] → (k : K) → is_some (find cmp k es) ≡ true → is_le (cmp q k) ≡ false
  none_listed q [] is k found = absurd (true≢false (sym found))
  none_listed q (x ∷ xs) is k found = by_cases (is_le (cmp q x.0))
      (λ holds. let none : x ∷ entries_from cmp q xs ≡ [] = sym (ap (λ b. cond b (x ∷ entries_from cmp q xs) (entries_from cmp q xs)) holds) ∙ is in absurd cc)
      (λ fails. by_cases (eq_by_cmp cmp k x.0)
      (λ s. let tied : cmp k x.0 ≡ Equal = (Equal-is (cmp k x.0)).0 s in
      let level : cmp q x.0 ≡ cmp q k = total.antisymm q x.0 ∙ ap ordering_reverse (sym (total.congr k x.0 q tied)) ∙ sym (total.antisymm q k) in
      ap is_le (sym level) ∙ fails)
      (λ f. none_listed q xs (sym (ap (λ b. cond b (x ∷ entries_from cmp q xs) (entries_from cmp q xs)) fails) ∙ is) k (sym (ap (λ b. is_some (cond b (Some x.1) (find cmp k xs))) f) ∙ found)))

-- ---- by the bottom

-- a foot below all with its bottom
abbrev pub least_foot : Rev → Foot
least_foot b = record { bottom = b; top = None }

abbrev pub foot_at : Rev → Rev → Foot
foot_at b t = record { bottom = b; top = Some t }

least_foot_below : (b t : Rev) → is_le (foot_cmp (least_foot b) (foot_at b t)) ≡ true
least_foot_below b t = ap (λ o. is_le (ordering_then o Less)) (tied_itself rev_total b)

module _ (runs : RunMap) (feet : List (Foot × Unit {0})) (h : IsIndex foot_cmp foot_of runs feet) (b : Rev) where
  foot_there : (t : Rev) → EndsAt runs b t → is_some (find foot_cmp (foot_at b t) feet) ≡ true
  foot_there t e = (h.has (foot_at b t)).1 (record { top = t; run = e.run; is = e.is; key = ap (λ z. Some (foot_at z t)) e.bottom })

  pub foot_none : ((k : Foot) → is_some (find foot_cmp k feet) ≡ true → is_le (foot_cmp (least_foot b) k) ≡ false) → (t : Rev) → EndsAt runs b t → ⊥
  foot_none none t e = true≢false (sym (least_foot_below b t) ∙ none (foot_at b t) (foot_there t e))

  module _ (k : Foot) (f : IsFirstFrom foot_cmp (least_foot b) feet k) where
    pub foot_some : (t : Rev) → k.bottom ≡ b → k.top ≡ Some t → EndsAt runs b t
    foot_some t is top =
        let g = (h.has k).0 f.has in
        let same : foot_at g.run.bottom g.top ≡ k = same_Some (foot_at g.run.bottom g.top) k g.key in
        let tops : g.top ≡ t = same_Some g.top t (ap (λ (z : Foot). z.top) same ∙ top) in
        record { run = g.run; is = ap (get runs) (sym tops) ∙ g.is; bottom = ap (λ (z : Foot). z.bottom) same ∙ is }

    pub foot_found : k.bottom ≡ b → IfSome k.top (λ t. EndsAt runs b t)
    foot_found is = at k.top refl
      where
        at : (o : Option Rev) → k.top ≡ o → IfSome o (λ t. EndsAt runs b t)
        at None e = tt
        at (Some t) e = foot_some t is e

    pub foot_other : (k.bottom ≡ b → ⊥) → (t : Rev) → EndsAt runs b t → ⊥
    foot_other apart t e = apart (both_le rev_cmp rev_total rev_exact k.bottom b
        (le_head (rev_cmp k.bottom b) _ (f.least (foot_at b t) (foot_there t e) (least_foot_below b t)))
        (le_head (rev_cmp b k.bottom) _ f.from))

    pub foot_top : k.top ≡ None → ⊥
    foot_top none =
        let g = (h.has k).0 f.has in
        none-some g.top (sym none ∙ ap (λ (z : Foot). z.top) (sym (same_Some (foot_at g.run.bottom g.top) k g.key)))

-- ---- by the fork above

abbrev pub least_hung : Rev → Hung
least_hung f = record { fork = f; low = 0; top = None }

abbrev pub hung_at : Rev → ℕ → Rev → Hung
hung_at f n t = record { fork = f; low = n; top = Some t }

least_hung_below : (f : Rev) (n : ℕ) (t : Rev) → is_le (hung_cmp (least_hung f) (hung_at f n t)) ≡ true
least_hung_below f n t = ap (λ o. is_le (ordering_then (ordering_then o (nat_cmp 0 n)) Less)) (tied_itself rev_total f) ∙ at (nat_cmp 0 n) (zero_le n)
  where
    at : (o : Ordering) → is_le o ≡ true → is_le (ordering_then o Less) ≡ true
    at Less h = refl
    at Equal h = refl
    at Greater h = h

pub record AreParts (t : Rev) (r : Run) (k : Hung) : Type 0 where
  pub fork : r.fork ≡ Some k.fork
  pub low : r.low ≡ k.low
  pub top : k.top ≡ Some t

pub parts_of : (t : Rev) (r : Run) (k : Hung) → hung_of t r ≡ Some k → AreParts t r k
parts_of t r k e = at r.fork refl e
  where
    at : (o : Option Rev) → r.fork ≡ o → option_map (λ f. hung_at f r.low t) o ≡ Some k → AreParts t r k
    at None is e = absurd (none-some k e)
    at (Some f) is e =
        let same : hung_at f r.low t ≡ k = same_Some (hung_at f r.low t) k e in
        record { fork = is ∙ ap (λ (z : Hung). Some z.fork) same; low = ap (λ (z : Hung). z.low) same; top = ap (λ (z : Hung). z.top) (sym same) }

module _ (runs : RunMap) (hung : List (Hung × Unit {0})) (h : IsIndex hung_cmp hung_of runs hung) (f : Rev) where
  hung_there : (t : Rev) (r : Run) → get runs t ≡ Some r → r.fork ≡ Some f → is_some (find hung_cmp (hung_at f r.low t) hung) ≡ true
  hung_there t r is fork = (h.has (hung_at f r.low t)).1 (record { top = t; run = r; is = is; key = ap (option_map (λ g. hung_at g r.low t)) fork })

  pub hung_none : ((k : Hung) → is_some (find hung_cmp k hung) ≡ true → is_le (hung_cmp (least_hung f) k) ≡ false) → (t : Rev) → HangsUnder runs f t → ⊥
  hung_none none t e = true≢false (sym (least_hung_below f e.run.low t) ∙ none (hung_at f e.run.low t) (hung_there t e.run e.is e.fork))

  module _ (k : Hung) (a : IsFirstFrom hung_cmp (least_hung f) hung k) where
    least_low : (t : Rev) (r : Run) → get runs t ≡ Some r → r.fork ≡ Some f → k.fork ≡ f → k.low ≤ r.low
    least_low t r is fork same =
        let below : is_le (hung_cmp k (hung_at f r.low t)) ≡ true = a.least (hung_at f r.low t) (hung_there t r is fork) (least_hung_below f r.low t) in
        let forks : rev_cmp k.fork f ≡ Equal = ap (λ z. rev_cmp z f) same ∙ tied_itself rev_total f in
        le_from_is_le k.low r.low (ap (λ o. is_le (ordering_then o (nat_cmp k.low r.low))) (sym forks) ∙ le_head (ordering_then (rev_cmp k.fork f) (nat_cmp k.low r.low)) _ below)

    pub hung_some : (t : Rev) → k.fork ≡ f → k.top ≡ Some t → IsNearestUnder runs f t
    hung_some t same top =
        let g = (h.has k).0 a.has in
        let p = parts_of g.top g.run k g.key in
        let tops : g.top ≡ t = same_Some g.top t (sym p.top ∙ top) in
        record {
          run = g.run;
          is = ap (get runs) (sym tops) ∙ g.is;
          fork = p.fork ∙ ap (λ z. Some z) same;
          least = λ u r is fork. let le = least_low u r is fork same in omega (arith, le, p.low);
        }

    pub hung_found : k.fork ≡ f → IfSome k.top (λ t. IsNearestUnder runs f t)
    hung_found is = at k.top refl
      where
        at : (o : Option Rev) → k.top ≡ o → IfSome o (λ t. IsNearestUnder runs f t)
        at None e = tt
        at (Some t) e = hung_some t is e

    pub hung_other : (k.fork ≡ f → ⊥) → (t : Rev) → HangsUnder runs f t → ⊥
    hung_other apart t e = apart (both_le rev_cmp rev_total rev_exact k.fork f
        (le_head (rev_cmp k.fork f) _ (le_head (ordering_then (rev_cmp k.fork f) (nat_cmp k.low e.run.low)) _ (a.least (hung_at f e.run.low t) (hung_there t e.run e.is e.fork) (least_hung_below f e.run.low t))))
        (le_head (rev_cmp f k.fork) _ (le_head (ordering_then (rev_cmp f k.fork) (nat_cmp 0 k.low)) _ a.from)))

    pub hung_top : k.top ≡ None → ⊥
    hung_top none = let g = (h.has k).0 a.has in none-some g.top (sym none ∙ (parts_of g.top g.run k g.key).top)

-- ---- by the steps above the nearest leaf

abbrev pub deep_at : Rev → Run → Deep
deep_at t r = record { steps = steps_of t r; top = t }

pub record IsDeepKey (t : Rev) (r : Run) (k : Deep) : Type 0 where
  pub above : t.generation < r.low
  pub same : deep_at t r ≡ k

pub deep_key_of : (t : Rev) (r : Run) (k : Deep) → deep_of t r ≡ Some k → IsDeepKey t r k
deep_key_of t r k e = by_cases (nat_lt t.generation r.low)
    (λ holds. record { above = ltb-true t.generation r.low holds; same = same_Some (deep_at t r) k (sym (ap (λ b. cond b (Some (deep_at t r)) None) holds) ∙ e) })
    (λ fails. absurd (none-some k (sym (ap (λ b. cond b (Some (deep_at t r)) None) fails) ∙ e)))

module _ (runs : RunMap) (deep : List (Deep × Unit {0})) (h : IsIndex deep_cmp deep_of runs deep) where
  deep_there : (t : Rev) (r : Run) → get runs t ≡ Some r → nat_lt t.generation r.low ≡ true → is_some (find deep_cmp (deep_at t r) deep) ≡ true
  deep_there t r is holds = (h.has (deep_at t r)).1 (record { top = t; run = r; is = is; key = ap (λ b. cond b (Some (deep_at t r)) None) holds })

  pub deep_none : deep ≡ [] → (t : Rev) (r : Run) → get runs t ≡ Some r → r.low ≤ t.generation
  deep_none none t r is = by_cases (nat_lt t.generation r.low)
      (λ holds. absurd (true≢false (sym (deep_there t r is holds) ∙ ap (λ es. is_some (find deep_cmp (deep_at t r) es)) none)))
      (λ fails. ltb-false t.generation r.low fails)

  pub deep_some : (k : Deep) → IsFirst deep_cmp deep k → IsDeepest runs k.top
  deep_some k a =
      let g = (h.has k).0 a.has in
      let p = deep_key_of g.top g.run k g.key in
      let steps : steps_of g.top g.run ≡ k.steps = ap (λ (z : Deep). z.steps) p.same in
      let tops : g.top ≡ k.top = ap (λ (z : Deep). z.top) p.same in
      let gens : g.top.generation ≡ k.top.generation = ap (λ (z : Rev). z.generation) tops in
      record {
        run = g.run;
        is = ap (get runs) (sym tops) ∙ g.is;
        above = omega (arith, p.above, gens);
        most = λ t r is. by_cases (nat_lt t.generation r.low)
            (λ holds.
            let below = le_head (nat_cmp (steps_of t r) k.steps) _ (a.least (deep_at t r) (deep_there t r is holds)) in
            let le : steps_of t r ≤ k.steps = le_from_is_le (steps_of t r) k.steps below in
            omega (arith, le, steps, gens))
            (λ fails. let le = ltb-false t.generation r.low fails in omega (arith, le));
      }
