-- What is read from the documents and their index.
use Rattle.std.specs.Prelude.{◌≡◌, ◌+◌, ◌<◌, ◌≤◌, ◌⊎◌, ◌&&◌, ℕ, min, not, Bool, true, false, cond, List, [], ◌∷◌, length, filter, nat_lt, All, Contains, refl}
use Rattle.std.specs.Ordering.{nat_cmp, is_le}
use Rattle.std.specs.declared.cmp.Ordering.TheVariants.{Less, Equal, Greater}
use Rattle.std.specs.Cmp.{nat_cmp_is}
use Rattle.std.proofs.Common.{ap, sym, ◌∙◌, inl, inr, arith, ltb-true, ltb-false}
use Rattle.std.proofs.lemmas.Bool.{cases_order}
use Rattle.std.proofs.lemmas.List.Elements.{All-head, All-tail, All-weaker, All-contains_itself}
use Rattle.std.proofs.lemmas.List.Filters.{length-filter_both}
use Rattle.cow_index.specs.Entries.{entries_from}
use Rattle.model.specs.Map.{entries}
use Rattle.model.specs.Command.{Id, names}
use Rattle.model.specs.Database.{Database, Record, IsNumbered}
use Rattle.model.specs.Changes.{by_seq, changed_since, every_id}
use Rattle.model.specs.Answers.{counts, is_live}
use Rattle.model.proofs.ListLaws.{by_cases}
use Rattle.model.proofs.IndexLaws.{listed_number}
use Rattle.snapshots.specs.Listing.{Listing, IsIndexed, database_of, listing_of, live_count}
use Rattle.snapshots.proofs.MapLists.{entries-from_list}

-- ---- the index from a number on

filter_same : {X : Type 0} (p q : X → Bool) (xs : List X) → All (λ x. p x ≡ q x) xs → filter p xs ≡ filter q xs
filter_same p q [] h = refl
filter_same p q (x ∷ xs) h =
    ap (λ b. cond b (x ∷ filter p xs) (filter p xs)) (All-head (λ y. p y ≡ q y) x xs h)
    ∙ ap (λ ys. cond (q x) (x ∷ ys) ys) (filter_same p q xs (All-tail (λ y. p y ≡ q y) x xs h))

is_le-le : (a b : ℕ) → a ≤ b → is_le (nat_cmp a b) ≡ true
is_le-le a b le = at (cases_order a b)
  where
    at : (a ≡ b) ⊎ ((a < b) ⊎ (b < a)) → is_le (nat_cmp a b) ≡ true
    at (inl same) = ap is_le (sym (nat_cmp_is a b Equal same))
    at (inr (inl less)) = ap is_le (sym (nat_cmp_is a b Less less))
    at (inr (inr more)) = absurd (omega arith)

is_le-above : (a b : ℕ) → b < a → is_le (nat_cmp a b) ≡ false
is_le-above a b more = ap is_le (sym (nat_cmp_is a b Greater more))

module _ (d : Database) (h : IsNumbered d) (since k : ℕ) (first : k ≡ min since d.update_seq + 1) where
  above_alike : (e : ℕ × (Id × Record)) → Contains (by_seq d) e → is_le (nat_cmp k e.0) ≡ (nat_lt since e.0 && every_id e.1.0)
  above_alike e c =
      let was = listed_number d e c in
      let most = (h.within e.1.0 e.1.1 was.0).1 in
      by_cases (nat_lt since e.0)
      (λ t. is_le-le k e.0 (omega (arith, ltb-true since e.0 t, first)) ∙ sym (ap (λ b. b && true) t))
      (λ f. is_le-above k e.0 (omega (arith, ltb-false since e.0 f, most, was.1, first)) ∙ sym (ap (λ b. b && true) f))

  entries_from-by_seq : entries_from nat_cmp k (by_seq d) ≡ changed_since every_id d since
  entries_from-by_seq = filter_same (λ e. is_le (nat_cmp k e.0)) (λ e. nat_lt since e.0 && every_id e.1.0) (by_seq d) (All-weaker (Contains (by_seq d)) _ above_alike (by_seq d) (All-contains_itself (by_seq d)))

module _ (es : List (Id × Record)) (numbered : List (ℕ × (Id × Record))) (count n : ℕ) (l : Listing) (h : IsIndexed es numbered count n) (is : listing_of es n ≡ l) where
  pub changed-since : (since k : ℕ) → k ≡ min since n + 1 → entries_from nat_cmp k numbered ≡ changed_since every_id (database_of l) since
  changed-since since k first =
      ap (entries_from nat_cmp k) h.by_number
      ∙ entries_from-by_seq (database_of (listing_of es n)) h.numbers since k first
      ∙ ap (λ m. changed_since every_id (database_of m) since) is

  -- ---- documents and counts

  pub entries-listed : es ≡ entries l.docs
  entries-listed = sym (entries-from_list names es h.sorted) ∙ ap (λ (m : Listing). entries m.docs) is

  pub live-counted : count ≡ (counts (database_of l)).doc_count
  live-counted = h.live ∙ ap live_count entries-listed

  pub both-counted : count + (counts (database_of l)).doc_del_count ≡ length es
  both-counted = omega (arith, h.live, length-filter_both (λ (e : Id × Record). is_live e.1) (λ (e : Id × Record). not (is_live e.1)) (λ e. refl) es, ap (λ fs. length (filter (λ (e : Id × Record). not (is_live e.1)) fs)) entries-listed)
