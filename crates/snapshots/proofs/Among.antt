-- What changed of some documents: one more of them is one more look-up, and a walk gives them in order.
use Rattle.std.specs.Prelude.{◌≡◌, ◌+◌, ◌<◌, ◌≤◌, ◌&&◌, ◌||◌, ◌++◌, ℕ, zero, suc, Bool, true, false, cond, T, List, [], ◌∷◌, length, map, take, filter, nat_lt, Option, Some, None, option_and_then, refl}
use Rattle.std.specs.declared.cmp.Ordering.TheVariants.{Less, Equal, Greater}
use Rattle.std.specs.Ordering.{nat_cmp, is_eq}
use Rattle.std.specs.Cmp.{nat_cmp_is}
use Rattle.std.specs.Int.{from_bool}
use Rattle.std.specs.FinMap.Entries as listed
use Rattle.std.specs.FinMap.Entries.{by_order, find, is_sorted, is_sorted-put, find-put, same_entries}
use Rattle.std.specs.List.{list_any}
use Rattle.std.proofs.Common.{get_or, sym, ap, subst, ◌∙◌, arith, ltb-true, lt-ltb}
use Rattle.std.proofs.lemmas.Bool.{true≢false, false_from_ne_true}
use Rattle.std.proofs.lemmas.List.{length-append}
use Rattle.std.proofs.lemmas.List.Folds.{list_any-append}
use Rattle.std.proofs.lemmas.Option.{none-some, same_Some}
use Rattle.model.specs.Map.{Order, IsRising, entries, get, refine_list, sorted-refined, get-refine, same_key, same_key-equal, same_key_itself}
use Rattle.model.specs.Command.{Id, names, numbers}
use Rattle.model.specs.Database.{Database, Record, IsNumbered}
use Rattle.model.specs.Changes.{at_numbers, by_seq, changed_since, wanted_by}
use Rattle.model.proofs.ListLaws.{by_cases, AllPairs-head, AllPairs-tail}
use Rattle.model.proofs.MapLaws.{same_key-apart}
use Rattle.model.proofs.IndexLaws.{of_number, at_number}
use Rattle.model.proofs.RisingLaws.{Rising}
use Rattle.model.proofs.TouchedLaws.{Update, number}
use Rattle.snapshots.specs.Among.{is_above, with_change}

-- ---- a filter of the index

module _ (O : Order) {X : Type 0} (p : O.key × X → Bool) where
  abbrev passing : O.key → X → Option X
  passing k x = cond (p (k, x)) (Some x) None

  filter-refined : (es : List (O.key × X)) → filter p es ≡ refine_list O passing es
  filter-refined [] = refl
  filter-refined (e ∷ es) = elim (p e) as (λ b. cond b (e ∷ filter p es) (filter p es) ≡ elim (cond b (Some e.1) None) [ None ↦ refine_list O passing es | Some y ↦ (e.0, y) ∷ refine_list O passing es ]) [
    | true ↦ ap (λ ys. e ∷ ys) (filter-refined es)
    | false ↦ filter-refined es
  ]

module _ (d : Database) (since : ℕ) (w : Id → Bool) where
  abbrev pub passes : Update → Bool
  passes e = nat_lt since e.0 && w e.1.0

  abbrev pub chosen : ℕ → Option (Id × Record) → Option (Id × Record)
  chosen k o = option_and_then (λ e. cond (passes (k, e)) (Some e) None) o

  pub changed-at : (k : ℕ) → find nat_cmp k (changed_since w d since) ≡ chosen k (get (at_numbers d) k)
  unfolding by_seq
  changed-at k = ap (find nat_cmp k) (filter-refined numbers passes (entries (at_numbers d))) ∙ get-refine (passing numbers passes) (at_numbers d) k

  pub changed-sorted : T (is_sorted nat_cmp (changed_since w d since))
  unfolding by_seq
  changed-sorted = subst (λ es. T (is_sorted nat_cmp es)) (sym (filter-refined numbers passes (entries (at_numbers d)))) (sorted-refined numbers (passing numbers passes) (entries (at_numbers d)) (at_numbers d).sorted)

and-false : (b : Bool) → (b && false) ≡ false
and-false true = refl
and-false false = refl

-- ---- one more document

module _ (d : Database) (num : IsNumbered d) (since : ℕ) (w v : Id → Bool) (id : Id) (more : (q : Id) → v q ≡ (w q || same_key names q id)) where
  -- at a number that no change of this document has
  same_at : (k : ℕ) → ((e : Id × Record) → get (at_numbers d) k ≡ Some e → since < k → same_key names e.0 id ≡ false) → find nat_cmp k (changed_since w d since) ≡ find nat_cmp k (changed_since v d since)
  same_at k other = changed-at d since w k ∙ at (get (at_numbers d) k) refl ∙ sym (changed-at d since v k)
    where
      at : (o : Option (Id × Record)) → get (at_numbers d) k ≡ o → chosen d since w k o ≡ chosen d since v k o
      at None is = refl
      at (Some e) is = by_cases (nat_lt since k)
          (λ less. ap (λ b. cond (nat_lt since k && b) (Some e) None) (or-false (w e.0) ∙ ap (λ b. w e.0 || b) (sym (other e is (ltb-true since k less))) ∙ sym (more e.0)))
          (λ most. ap (λ b. cond (b && w e.0) (Some e) None) most ∙ sym (ap (λ b. cond (b && v e.0) (Some e) None) most))
        where
          or-false : (b : Bool) → b ≡ (b || false)
          or-false true = refl
          or-false false = refl

  unknown : get d.docs id ≡ None → changed_since w d since ≡ changed_since v d since
  unknown none = same_entries nat_cmp numbers.total numbers.exact _ _ (changed-sorted d since w) (changed-sorted d since v) (λ k. same_at k (λ e is less. false_from_ne_true _ (λ same.
      none-some e.1 (sym none ∙ ap (get d.docs) (sym (same_key-equal names e.0 id same)) ∙ (of_number d k e.0 e.1 is).0))))

  module _ (r : Record) (has : get d.docs id ≡ Some r) where
    -- its own number is its record's
    own : (k : ℕ) (e : Id × Record) → get (at_numbers d) k ≡ Some e → same_key names e.0 id ≡ true → r.seq ≡ k
    own k e is same =
        let was = of_number d k e.0 e.1 is in
        ap (λ (x : Record). x.seq) (same_Some r e.1 (sym has ∙ ap (get d.docs) (sym (same_key-equal names e.0 id same)) ∙ was.0)) ∙ was.1

    earlier : nat_lt since r.seq ≡ false → changed_since w d since ≡ changed_since v d since
    earlier most = same_entries nat_cmp numbers.total numbers.exact _ _ (changed-sorted d since w) (changed-sorted d since v) (λ k. same_at k (λ e is less. false_from_ne_true _ (λ same.
        true≢false (sym (lt-ltb since r.seq (subst (λ n. since < n) (sym (own k e is same)) less)) ∙ most))))

    later : nat_lt since r.seq ≡ true → listed.put nat_cmp r.seq (id, r) (changed_since w d since) ≡ changed_since v d since
    later less = same_entries nat_cmp numbers.total numbers.exact _ _ (is_sorted-put nat_cmp numbers.total r.seq (id, r) _ (changed-sorted d since w)) (changed-sorted d since v) (λ k. find-put nat_cmp numbers.total k r.seq (id, r) (changed_since w d since) ∙ by_cases (same_key numbers k r.seq) (here k) (there k))
      where
        wanted : v id ≡ true
        wanted = more id ∙ ap (λ b. w id || b) (same_key_itself names id) ∙ or-true (w id)
          where
            or-true : (b : Bool) → (b || true) ≡ true
            or-true true = refl
            or-true false = refl

        at_own : find nat_cmp r.seq (changed_since v d since) ≡ Some (id, r)
        at_own = changed-at d since v r.seq ∙ ap (chosen d since v r.seq) (at_number d id r num has) ∙ (λ i. cond (less i && wanted i) (Some (id, r)) None)

        here : (k : ℕ) → same_key numbers k r.seq ≡ true → cond (same_key numbers k r.seq) (Some (id, r)) (find nat_cmp k (changed_since w d since)) ≡ find nat_cmp k (changed_since v d since)
        here k same = ap (λ b. cond b (Some (id, r)) (find nat_cmp k (changed_since w d since))) same ∙ sym at_own ∙ ap (λ n. find nat_cmp n (changed_since v d since)) (sym (same_key-equal numbers k r.seq same))

        there : (k : ℕ) → same_key numbers k r.seq ≡ false → cond (same_key numbers k r.seq) (Some (id, r)) (find nat_cmp k (changed_since w d since)) ≡ find nat_cmp k (changed_since v d since)
        there k apart = ap (λ b. cond b (Some (id, r)) (find nat_cmp k (changed_since w d since))) apart ∙ same_at k (λ e is lt. false_from_ne_true _ (λ same.
            true≢false (sym (subst (λ n. same_key numbers k n ≡ true) (sym (own k e is same)) (same_key_itself numbers k)) ∙ apart)))

  pub with_change-more : with_change since id (get d.docs id) (changed_since w d since) ≡ changed_since v d since
  with_change-more = at (get d.docs id) refl
    where
      at : (o : Option Record) → get d.docs id ≡ o → with_change since id o (changed_since w d since) ≡ changed_since v d since
      at None is = unknown is
      at (Some r) is = by_cases (nat_lt since r.seq)
          (λ less. ap (λ b. cond b (listed.put nat_cmp r.seq (id, r) (changed_since w d since)) (changed_since w d since)) less ∙ later r is less)
          (λ most. ap (λ b. cond b (listed.put nat_cmp r.seq (id, r) (changed_since w d since)) (changed_since w d since)) most ∙ earlier r is most)

-- ---- how many more

length-put : {X : Type 0} (k : ℕ) (x : X) (es : List (ℕ × X)) → find nat_cmp k es ≡ None → length (listed.put nat_cmp k x es) ≡ suc (length es)
length-put k x [] none = refl
length-put k x (e ∷ es) none = elim (nat_cmp k e.0) as (λ o. cond (is_eq o) (Some e.1) (find nat_cmp k es) ≡ None → length (by_order o ((k, x) ∷ e ∷ es) ((e.0, x) ∷ es) (e ∷ listed.put nat_cmp k x es)) ≡ suc (suc (length es))) [
  | Less ↦ λ h. refl
  | Equal ↦ λ h. absurd (none-some e.1 (sym h))
  | Greater ↦ λ h. ap suc (length-put k x es h)
] none

-- of a document that is none of them
module _ (d : Database) (num : IsNumbered d) (since : ℕ) (w : Id → Bool) (id : Id) (new : w id ≡ false) where
  is_free : (r : Record) → get d.docs id ≡ Some r → find nat_cmp r.seq (changed_since w d since) ≡ None
  is_free r has =
      changed-at d since w r.seq
      ∙ ap (chosen d since w r.seq) (at_number d id r num has)
      ∙ ap (λ b. cond (nat_lt since r.seq && b) (Some (id, r)) None) new
      ∙ ap (λ b. cond b (Some (id, r)) None) (and-false (nat_lt since r.seq))

  pub length-with_change : length (with_change since id (get d.docs id) (changed_since w d since)) ≡ cond (is_above since (get d.docs id)) (suc (length (changed_since w d since))) (length (changed_since w d since))
  length-with_change = at (get d.docs id) refl
    where
      es : List Update
      es = changed_since w d since

      at : (o : Option Record) → get d.docs id ≡ o → length (with_change since id o es) ≡ cond (is_above since o) (suc (length es)) (length es)
      at None is = refl
      at (Some r) is = elim (nat_lt since r.seq) as (λ b. length (cond b (listed.put nat_cmp r.seq (id, r) es) es) ≡ cond b (suc (length es)) (length es)) [
        | true ↦ length-put r.seq (id, r) es (is_free r is)
        | false ↦ refl
      ]

-- the next of rising ones is none of those before
pub not_yet : (ids : List Id) (n : ℕ) (id : Id) → IsRising names ids → n < length ids → id ≡ get_or ids n id → list_any (same_key names id) (take n ids) ≡ false
not_yet [] n id h lt is = absurd (omega (arith, lt))
not_yet (x ∷ ids) zero id h lt is = refl
not_yet (x ∷ ids) (suc n) id h lt is =
    let Less_than : Id → Id → Type 0 = λ a b. names.cmp a b ≡ Less in
    let within : n < length ids = omega (arith, lt) in
    let apart : same_key names id x ≡ false = same_key-apart names x id (subst (λ q. names.cmp x q ≡ Less) (sym is) (AllPairs-head Less_than x ids h n id within)) in
    λ i. apart i || not_yet ids n id (AllPairs-tail Less_than x ids h) within is i

pub wanted-more : (ids : List Id) (id q : Id) → list_any (same_key names q) (ids ++ id ∷ []) ≡ (list_any (same_key names q) ids || same_key names q id)
wanted-more ids id q = list_any-append (same_key names q) ids (id ∷ []) ∙ ap (λ b. list_any (same_key names q) ids || b) (or-false (same_key names q id))
  where
    or-false : (b : Bool) → (b || false) ≡ b
    or-false true = refl
    or-false false = refl

module _ (d : Database) (num : IsNumbered d) (since : ℕ) (ids : List Id) (id : Id) where
  pub with_change-next : with_change since id (get d.docs id) (changed_since (wanted_by (Some ids)) d since) ≡ changed_since (wanted_by (Some (ids ++ id ∷ []))) d since
  with_change-next = with_change-more d num since (wanted_by (Some ids)) (wanted_by (Some (ids ++ id ∷ []))) id (wanted-more ids id)

  pub count-next : list_any (same_key names id) ids ≡ false → length (changed_since (wanted_by (Some (ids ++ id ∷ []))) d since) ≡ cond (is_above since (get d.docs id)) (suc (length (changed_since (wanted_by (Some ids)) d since))) (length (changed_since (wanted_by (Some ids)) d since))
  count-next new = ap length (sym with_change-next) ∙ length-with_change d num since (wanted_by (Some ids)) id new

-- ---- none, and all of them

filter_none : {X : Type 0} (p : X → Bool) (xs : List X) → ((x : X) → p x ≡ false) → filter p xs ≡ []
filter_none p [] none = refl
filter_none p (x ∷ xs) none = ap (λ b. cond b (x ∷ filter p xs) (filter p xs)) (none x) ∙ filter_none p xs none

pub changed-none : (d : Database) (since : ℕ) → changed_since (λ q. false) d since ≡ []
changed-none d since = filter_none _ (by_seq d) (λ e. and-false (nat_lt since e.0))

pub changed-wanted : (d : Database) (since : ℕ) (w : Id → Bool) → filter (λ (e : Update). w e.1.0) (changed_since (λ q. true) d since) ≡ changed_since w d since
changed-wanted d since w = twice (by_seq d)
  where
    twice : (es : List Update) → filter (λ e. w e.1.0) (filter (λ e. nat_lt since e.0 && true) es) ≡ filter (λ e. nat_lt since e.0 && w e.1.0) es
    twice [] = refl
    twice (e ∷ es) = elim (nat_lt since e.0) as (λ b. filter (λ (f : Update). w f.1.0) (cond (b && true) (e ∷ filter (λ f. nat_lt since f.0 && true) es) (filter (λ f. nat_lt since f.0 && true) es)) ≡ cond (b && w e.1.0) (e ∷ filter (λ f. nat_lt since f.0 && w f.1.0) es) (filter (λ f. nat_lt since f.0 && w f.1.0) es)) [
      | true ↦ ap (λ ys. cond (w e.1.0) (e ∷ ys) ys) (twice es)
      | false ↦ twice es
    ]

-- ---- one more of a walk

module _ {A X : Type 0} (p : X → Bool) (f : A → X) where
  pub filter-next : (xs : List A) (x : A) (b : Bool) → p (f x) ≡ b → filter p (map f (xs ++ x ∷ [])) ≡ cond b (filter p (map f xs) ++ f x ∷ []) (filter p (map f xs))
  filter-next [] x b is = ap (λ t. cond t (f x ∷ []) []) is
  filter-next (y ∷ ys) x b is = elim (p (f y)) as (λ t. cond t (f y ∷ filter p (map f (ys ++ x ∷ []))) (filter p (map f (ys ++ x ∷ []))) ≡ cond b (cond t (f y ∷ filter p (map f ys)) (filter p (map f ys)) ++ f x ∷ []) (cond t (f y ∷ filter p (map f ys)) (filter p (map f ys)))) [
    | true ↦ ap (λ zs. f y ∷ zs) (filter-next ys x b is) ∙ over b
    | false ↦ filter-next ys x b is
  ]
    where
      over : (t : Bool) → f y ∷ cond t (filter p (map f ys) ++ f x ∷ []) (filter p (map f ys)) ≡ cond t (f y ∷ filter p (map f ys) ++ f x ∷ []) (f y ∷ filter p (map f ys))
      over true = refl
      over false = refl

  pub wanted-next : (xs : List A) (x : A) (b : Bool) → p (f x) ≡ b → (n : ℕ) → n ≡ length (filter p (map f xs)) → n + from_bool b ≡ length (filter p (map f (xs ++ x ∷ [])))
  wanted-next xs x b is n counted = at b ∙ sym (ap length (filter-next xs x b is))
    where
      kept : List X
      kept = filter p (map f xs)

      at : (t : Bool) → n + from_bool t ≡ length (cond t (kept ++ f x ∷ []) kept)
      at true = omega (arith, counted, length-append kept (f x ∷ []))
      at false = omega (arith, counted)

-- ---- what is counted

pub one_at_most : (b : Bool) → from_bool b ≤ 1
one_at_most true = omega arith
one_at_most false = omega arith

pub counted-next : (d : Database) (num : IsNumbered d) (since : ℕ) (ids : List Id) (id : Id) → list_any (same_key names id) ids ≡ false → (n : ℕ) → n ≡ length (changed_since (wanted_by (Some ids)) d since)
    → n + from_bool (is_above since (get d.docs id)) ≡ length (changed_since (wanted_by (Some (ids ++ id ∷ []))) d since)
counted-next d num since ids id new n is = at (is_above since (get d.docs id)) ∙ sym (count-next d num since ids id new)
  where
    at : (b : Bool) → n + from_bool b ≡ cond b (suc (length (changed_since (wanted_by (Some ids)) d since))) (length (changed_since (wanted_by (Some ids)) d since))
    at true = omega (arith, is)
    at false = omega (arith, is)

-- ---- the next of a walk goes last

above_at : (low n : ℕ) (es : List Update) (e : Update) → Rising number low es → n < length es → low < number (get_or es n e)
above_at low n [] e h lt = absurd (omega (arith, lt))
above_at low zero (x ∷ es) e h lt = h.0
above_at low (suc n) (x ∷ es) e h lt = omega (arith, h.0, above_at x.0 n es e h.1 (omega (arith, lt)))

pub put-next : (p : Update → Bool) (low n : ℕ) (es : List Update) (e : Update) → Rising number low es → n < length es → e ≡ get_or es n e → listed.put nat_cmp e.0 e.1 (filter p (take n es)) ≡ filter p (take n es) ++ e ∷ []
put-next p low n [] e h lt is = absurd (omega (arith, lt))
put-next p low zero (x ∷ es) e h lt is = refl
put-next p low (suc n) (x ∷ es) e h lt is =
    let kept = filter p (take n es) in
    let less : x.0 < e.0 = omega (arith, above_at x.0 n es e h.1 (omega (arith, lt)), ap number is) in
    let rest : listed.put nat_cmp e.0 e.1 kept ≡ kept ++ e ∷ [] = put-next p x.0 n es e h.1 (omega (arith, lt)) is in
    elim (p x) as (λ b. listed.put nat_cmp e.0 e.1 (cond b (x ∷ kept) kept) ≡ cond b (x ∷ kept) kept ++ e ∷ []) [
      | true ↦ ap (λ o. by_order o ((e.0, e.1) ∷ x ∷ kept) ((x.0, e.1) ∷ kept) (x ∷ listed.put nat_cmp e.0 e.1 kept)) (sym (nat_cmp_is e.0 x.0 Greater less)) ∙ ap (λ ys. x ∷ ys) rest
      | false ↦ rest
    ]
