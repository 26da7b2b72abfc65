-- The index by update numbers after a document's record is put, and after it is removed.
use Rattle.std.specs.Prelude.{◌≡◌, ◌≢◌, ◌<◌, ◌≤◌, ◌⊎◌, ℕ, true, false, cond, not, List, T, Option, Some, None, option_map, refl}
use Rattle.std.specs.Ordering.{nat_cmp, eq_by_cmp}
use Rattle.std.specs.FinMap.Entries as listed
use Rattle.std.specs.FinMap.Entries.{find, is_sorted, is_sorted-put, find-put, is_sorted-where_key, find-where_key, same_entries}
use Rattle.std.proofs.Common.{sym, ap, subst, ◌∙◌, inl, inr, arith}
use Rattle.std.proofs.lemmas.Option.{none-some, same_Some}
use Rattle.cow_index.specs.Entries.{without}
use Rattle.model.specs.Map.{entries, get, put, without as without_key, same_key, same_key-equal, same_key_itself}
use Rattle.model.specs.Command.{Id, names, numbers}
use Rattle.model.specs.Database.{Database, Record, IsNumbered}
use Rattle.model.specs.Changes.{at_numbers, by_seq}
use Rattle.model.proofs.ListLaws.{by_cases}
use Rattle.model.proofs.LookupLaws.{apart, get-put_same, get-put_other, get-without_same, get-without_other, put-cases, without-some}
use Rattle.model.proofs.IndexLaws.{of_number, at_its_number}
use Rattle.snapshots.specs.Listing.{IsFree}
use Rattle.snapshots.specs.Replaced.{replaced, replaced_at, without_replaced}
use Rattle.snapshots.specs.declared.records.replaced.Replaced.{Replaced}
use Rattle.snapshots.proofs.MapLists.{same_option}

abbrev Numbered : Type 0
Numbered = List (ℕ × (Id × Record))

-- ---- an index without a number

pub sorted-without_replaced : (o : Option Replaced) (es : Numbered) → T (is_sorted nat_cmp es) → T (is_sorted nat_cmp (without_replaced o es))
sorted-without_replaced None es s = s
sorted-without_replaced (Some r) es s = is_sorted-where_key nat_cmp (λ k. not (eq_by_cmp nat_cmp r.seq k)) es s

find-without : (n q : ℕ) (es : Numbered) → find nat_cmp q (without nat_cmp n es) ≡ cond (not (same_key numbers n q)) (find nat_cmp q es) None
find-without n q es = find-where_key nat_cmp (λ k. not (same_key numbers n k)) q (λ x tied. ap (λ k. not (same_key numbers n k)) (sym (numbers.exact q x tied))) es

-- of what is found with a number left out, the number is another
found-without : (n q : ℕ) (es : Numbered) (e : Id × Record) → find nat_cmp q (without nat_cmp n es) ≡ Some e → (n ≢ q) × (find nat_cmp q es ≡ Some e)
found-without n q es e is = by_cases (same_key numbers n q)
    (λ t. absurd (none-some e (sym (find-without n q es ∙ ap (λ b. cond (not b) (find nat_cmp q es) None) t) ∙ is)))
    (λ f. (λ same. other f same, sym (find-without n q es ∙ ap (λ b. cond (not b) (find nat_cmp q es) None) f) ∙ is))
  where
    other : same_key numbers n q ≡ false → n ≡ q → ⊥
    other f same = let itself : same_key numbers n q ≡ true = subst (λ k. same_key numbers n k ≡ true) same (same_key_itself numbers n) in cc

kept-without : (n q : ℕ) (es : Numbered) (e : Id × Record) → n ≢ q → find nat_cmp q es ≡ Some e → find nat_cmp q (without nat_cmp n es) ≡ Some e
kept-without n q es e ne is = by_cases (same_key numbers n q)
    (λ t. absurd (ne (same_key-equal numbers n q t)))
    (λ f. find-without n q es ∙ ap (λ b. cond (not b) (find nat_cmp q es) None) f ∙ is)

-- ---- what is kept of an index without the number of a record

module _ (d : Database) (id : Id) (h : IsNumbered d) where
  from_old : (q : ℕ) (es : Numbered) (o : Option Record) (e : Id × Record) → get d.docs id ≡ o → find nat_cmp q (without_replaced (option_map replaced o) es) ≡ Some e → ((r : Record) → get d.docs id ≡ Some r → r.seq ≢ q) × (find nat_cmp q es ≡ Some e)
  from_old q es None e at is = (λ r some. absurd (none-some r (sym at ∙ some)), is)
  from_old q es (Some o) e at is =
      let f = found-without o.seq q es e is in
      (λ r some same. f.0 (ap (λ x. x.seq) (same_Some o r (sym at ∙ some)) ∙ same), f.1)

  to_old : (q : ℕ) (es : Numbered) (o : Option Record) (e : Id × Record) → get d.docs id ≡ o → ((r : Record) → get d.docs id ≡ Some r → r.seq ≢ q) → find nat_cmp q es ≡ Some e → find nat_cmp q (without_replaced (option_map replaced o) es) ≡ Some e
  to_old q es None e at ne is = is
  to_old q es (Some o) e at ne is = kept-without o.seq q es e (ne o at) is

  abbrev left : Numbered
  left = without_replaced (replaced_at d.docs id) (entries (at_numbers d))

  left_sorted : T (is_sorted nat_cmp left)
  left_sorted = sorted-without_replaced (replaced_at d.docs id) _ (at_numbers d).sorted

  -- a record of another document is where it was
  kept_left : (q : ℕ) (e : Id × Record) → same_key names e.0 id ≡ false → get d.docs e.0 ≡ Some e.1 → e.1.seq ≡ q → find nat_cmp q left ≡ Some e
  kept_left q e apart old seq =
      to_old q (entries (at_numbers d)) (get d.docs id) e refl
      (λ r at its. let one = h.distinct id e.0 r e.1 at old (its ∙ sym seq) in let itself : same_key names e.0 id ≡ true = subst (λ k. same_key names e.0 k ≡ true) (sym one) (same_key_itself names e.0) in cc)
      (at_its_number d q e.0 e.1 h (old, seq))

  of_left : (q : ℕ) (e : Id × Record) → find nat_cmp q left ≡ Some e → (same_key names e.0 id ≡ false) × (get d.docs e.0 ≡ Some e.1) × (e.1.seq ≡ q)
  of_left q e is =
      let f = from_old q (entries (at_numbers d)) (get d.docs id) e refl is in
      let was = of_number d q e.0 e.1 f.1 in
      by_cases (same_key names e.0 id)
      (λ same. absurd (f.0 e.1 (ap (get d.docs) (sym (same_key-equal names e.0 id same)) ∙ was.0) was.1))
      (λ apart. (apart, was.0, was.1))

  -- ---- the index after a record is put

  module _ (r : Record) (n : ℕ) (more : d.update_seq ≤ n) (low : 0 < r.seq) (high : r.seq ≤ n) (free : IsFree d.docs id r.seq) where
    abbrev with_record : Database
    with_record = record d { docs = put d.docs id r; update_seq = n }

    abbrev NewOrOld : Id → Record → Type 0
    NewOrOld a s = ((a ≡ id) × (r ≡ s)) ⊎ (get d.docs a ≡ Some s)

    pub IsNumbered-put : IsNumbered with_record
    IsNumbered-put = record { within = λ a s e. within a s (put-cases d.docs id r a s e); distinct = λ a b s t e f same. distinct a b s t same (put-cases d.docs id r a s e) (put-cases d.docs id r b t f) }
      where
        within : (a : Id) (s : Record) → NewOrOld a s → (0 < s.seq) × (s.seq ≤ n)
        within a s (inl new) = let m = ap (λ (x : Record). x.seq) new.1 in (omega arith, omega arith)
        within a s (inr old) = let w = h.within a s old in (w.0, omega (arith, w.1))

        distinct : (a b : Id) (s t : Record) → s.seq ≡ t.seq → NewOrOld a s → NewOrOld b t → a ≡ b
        distinct a b s t e (inl x) (inl y) = x.0 ∙ sym y.0
        distinct a b s t e (inr x) (inr y) = h.distinct a b s t x y e
        distinct a b s t e (inl x) (inr y) = x.0 ∙ sym (free b t y (sym e ∙ sym (ap (λ (z : Record). z.seq) x.1)))
        distinct a b s t e (inr x) (inl y) = free a s x (e ∙ sym (ap (λ (z : Record). z.seq) y.1)) ∙ sym y.0

    -- at another number is what was there, if it is of another document
    module _ (q : ℕ) (other : q ≢ r.seq) where
      down : (e : Id × Record) → get (at_numbers with_record) q ≡ Some e → find nat_cmp q left ≡ Some e
      down e is =
          let was = of_number with_record q e.0 e.1 is in
          by_cases (same_key names e.0 id)
          (λ same. absurd (other (sym was.1 ∙ ap (λ (x : Record). x.seq) (sym (same_Some r e.1 (sym (get-put_same d.docs id r e.0 same) ∙ was.0))))))
          (λ apart. kept_left q e apart (sym (get-put_other d.docs id r e.0 apart) ∙ was.0) was.1)

      up : (e : Id × Record) → find nat_cmp q left ≡ Some e → get (at_numbers with_record) q ≡ Some e
      up e is = let was = of_left q e is in at_its_number with_record q e.0 e.1 IsNumbered-put (get-put_other d.docs id r e.0 was.0 ∙ was.1, was.2)

    found-after : (q : ℕ) → get (at_numbers with_record) q ≡ find nat_cmp q (listed.put nat_cmp r.seq (id, r) left)
    found-after q =
        by_cases (same_key numbers q r.seq)
        (λ same. at_its_number with_record q id r IsNumbered-put (get-put_same d.docs id r id (same_key_itself names id), sym (same_key-equal numbers q _ same)) ∙ sym (find-put nat_cmp numbers.total q r.seq (id, r) left ∙ ap (λ b. cond b (Some (id, r)) (find nat_cmp q left)) same))
        (λ apart.
        let ne : q ≢ r.seq = λ e. let itself : same_key numbers q r.seq ≡ true = subst (λ k. same_key numbers q k ≡ true) e (same_key_itself numbers q) in cc in
        same_option (get (at_numbers with_record) q) (find nat_cmp q left) (down q ne) (up q ne) ∙ sym (find-put nat_cmp numbers.total q r.seq (id, r) left ∙ ap (λ b. cond b (Some (id, r)) (find nat_cmp q left)) apart))

    pub by_seq-put : by_seq with_record ≡ listed.put nat_cmp r.seq (id, r) (without_replaced (replaced_at d.docs id) (by_seq d))
    unfolding by_seq
    by_seq-put =
        let m = at_numbers with_record in
        same_entries nat_cmp numbers.total numbers.exact m.list (listed.put nat_cmp r.seq (id, r) left) m.sorted
        (is_sorted-put nat_cmp numbers.total r.seq (id, r) left left_sorted) found-after

  -- ---- the index after a record is removed

  abbrev without_record : Database
  without_record = record d { docs = without_key d.docs id }

  pub IsNumbered-removed : IsNumbered without_record
  IsNumbered-removed = record {
    within = λ a s e. h.within a s (without-some d.docs id a s e);
    distinct = λ a b s t e f same. h.distinct a b s t (without-some d.docs id a s e) (without-some d.docs id b t f) same;
  }

  down_removed : (q : ℕ) (e : Id × Record) → get (at_numbers without_record) q ≡ Some e → find nat_cmp q left ≡ Some e
  down_removed q e is =
      let was = of_number without_record q e.0 e.1 is in
      by_cases (same_key names e.0 id)
      (λ same. absurd (none-some e.1 (sym (get-without_same d.docs id e.0 same) ∙ was.0)))
      (λ apart. kept_left q e apart (without-some d.docs id e.0 e.1 was.0) was.1)

  up_removed : (q : ℕ) (e : Id × Record) → find nat_cmp q left ≡ Some e → get (at_numbers without_record) q ≡ Some e
  up_removed q e is = let was = of_left q e is in at_its_number without_record q e.0 e.1 IsNumbered-removed (get-without_other d.docs id e.0 was.0 ∙ was.1, was.2)

  pub by_seq-removed : by_seq without_record ≡ without_replaced (replaced_at d.docs id) (by_seq d)
  unfolding by_seq
  by_seq-removed =
      let m = at_numbers without_record in
      same_entries nat_cmp numbers.total numbers.exact m.list left m.sorted left_sorted
      (λ q. same_option (get m q) (find nat_cmp q left) (down_removed q) (up_removed q))
