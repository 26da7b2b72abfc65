-- The index and the count, where no document is, where one is put and where one is removed.
use Rattle.std.specs.Prelude.{◌≡◌, ◌+◌, ◌-◌, ◌<◌, ◌≤◌, ℕ, not, List, [], length, T, Option, Some, option_map, refl}
use Rattle.std.specs.Ordering.{nat_cmp, eq_by_cmp}
use Rattle.std.specs.FinMap.Entries as listed
use Rattle.std.specs.FinMap.Entries.{find, is_sorted, is_sorted-put, is_sorted-where_key}
use Rattle.std.proofs.Common.{sym, ap, subst, ◌∙◌, arith}
use Rattle.std.proofs.lemmas.Option.{none-some}
use Rattle.cow_index.specs.Entries.{without}
use Rattle.model.specs.Map.{Map, put, without as without_key, get-from_list}
use Rattle.model.specs.Command.{Id, names}
use Rattle.model.specs.Database.{Database, Record, IsNumbered}
use Rattle.model.specs.Changes.{by_seq}
use Rattle.snapshots.specs.Listing.{Listing, IsFree, IsIndexed, database_of, listing_of, live_count, placed}
use Rattle.snapshots.specs.Replaced.{replaced, live_of, without_replaced}
use Rattle.snapshots.proofs.MapLists.{entries-from_list, from_list-put, from_list-without}
use Rattle.snapshots.proofs.Numbered.{IsNumbered-put, by_seq-put, IsNumbered-removed, by_seq-removed}
use Rattle.snapshots.proofs.Counted.{live_of-le, live_count-put, live_count-without, live_count-few}
use Rattle.snapshots.proofs.Few.{few-records}

pub IsIndexed-empty : IsIndexed [] [] 0 0
unfolding by_seq
IsIndexed-empty = record {
  sorted = tt;
  numbers = record { within = λ id r e. absurd (none-some r e); distinct = λ a b r s e f n. absurd (none-some r e) };
  by_number = refl;
  live = refl;
  few = omega arith;
}

-- of as many as there are
few-live : (es : List (Id × Record)) (n : ℕ) → T (is_sorted names.cmp es) → IsNumbered (database_of (listing_of es n)) → live_count es ≤ n
few-live es n s h = omega (arith, live_count-few es, ap length (entries-from_list names es s), few-records (database_of (listing_of es n)) h)

module _ (es : List (Id × Record)) (n : ℕ) (id : Id) (r : Record) (m : ℕ) where
  abbrev before : Database
  before = database_of (listing_of es n)

  same_database : database_of (listing_of (listed.put names.cmp id r es) m) ≡ record before { docs = put before.docs id r; update_seq = m }
  same_database = ap (λ (docs : Map names Record). database_of (record { docs = docs; update_seq = m })) (from_list-put names id r es)

  pub listing-placed : (l : Listing) (later : List (Id × Record)) → listing_of es n ≡ l → later ≡ listed.put names.cmp id r es → listing_of later m ≡ placed l id r m
  listing-placed l later is new =
      ap (λ fs. listing_of fs m) new
      ∙ ap (λ (docs : Map names Record). record { docs = docs; update_seq = m }) (from_list-put names id r es)
      ∙ ap (λ k. placed k id r m) is

  module _ (numbered : List (ℕ × (Id × Record))) (count : ℕ) (h : IsIndexed es numbered count n) (more : n ≤ m) (low : 0 < r.seq) (high : r.seq ≤ m) (free : IsFree before.docs id r.seq) where
    same_index : listed.put nat_cmp r.seq (id, r) (without_replaced (option_map replaced (find names.cmp id es)) numbered) ≡ by_seq (database_of (listing_of (listed.put names.cmp id r es) m))
    same_index =
        ap (λ ns. listed.put nat_cmp r.seq (id, r) (without_replaced (option_map replaced (find names.cmp id es)) ns)) h.by_number
        ∙ ap (λ (o : Option Record). listed.put nat_cmp r.seq (id, r) (without_replaced (option_map replaced o) (by_seq before))) (sym (get-from_list names es id))
        ∙ sym (by_seq-put before id h.numbers r m more low high free)
        ∙ ap by_seq (sym same_database)

    sorted_after : T (is_sorted names.cmp (listed.put names.cmp id r es))
    sorted_after = is_sorted-put names.cmp names.total id r es h.sorted

    numbers_after : IsNumbered (database_of (listing_of (listed.put names.cmp id r es) m))
    numbers_after = subst IsNumbered (sym same_database) (IsNumbered-put before id h.numbers r m more low high free)

    pub live-placed : (was is : ℕ) → was ≡ live_of (option_map replaced (find names.cmp id es)) → is ≡ live_of (Some (replaced r)) → (was ≤ count) × (count - was + is ≡ live_count (listed.put names.cmp id r es)) × (count - was + is ≤ m)
    live-placed was is old_live new_live =
        let counted = live_count-put id r es h.sorted in
        let few = few-live (listed.put names.cmp id r es) m sorted_after numbers_after in
        let at_most = live_of-le id es in
        (omega (arith, h.live, old_live, at_most), omega (arith, counted, h.live, old_live, new_live, at_most), omega (arith, counted, few, h.live, old_live, new_live, at_most))

    pub IsIndexed-placed : (later : List (Id × Record)) (renumbered : List (ℕ × (Id × Record))) (was is : ℕ) → later ≡ listed.put names.cmp id r es → renumbered ≡ listed.put nat_cmp r.seq (id, r) (without_replaced (option_map replaced (find names.cmp id es)) numbered) → was ≡ live_of (option_map replaced (find names.cmp id es)) → is ≡ live_of (Some (replaced r)) → IsIndexed later renumbered (count - was + is) m
    IsIndexed-placed later renumbered was is put_new renumber old_live new_live =
        let live = live-placed was is old_live new_live in
        subst (λ fs. IsIndexed fs renumbered (count - was + is) m) (sym put_new) (record {
          sorted = sorted_after;
          numbers = numbers_after;
          by_number = renumber ∙ same_index;
          live = live.1;
          few = live.2;
        })

module _ (es : List (Id × Record)) (n : ℕ) (id : Id) where
  abbrev had : Database
  had = database_of (listing_of es n)

  database-removed : database_of (listing_of (without names.cmp id es) n) ≡ record had { docs = without_key had.docs id }
  database-removed = ap (λ (docs : Map names Record). database_of (record { docs = docs; update_seq = n })) (from_list-without names id es)

  pub listing-removed : (l : Listing) (later : List (Id × Record)) → listing_of es n ≡ l → later ≡ without names.cmp id es → listing_of later n ≡ record l { docs = without_key l.docs id }
  listing-removed l later is fewer =
      ap (λ fs. listing_of fs n) fewer
      ∙ ap (λ (docs : Map names Record). record { docs = docs; update_seq = n }) (from_list-without names id es)
      ∙ ap (λ (k : Listing). record k { docs = without_key k.docs id }) is

  module _ (numbered : List (ℕ × (Id × Record))) (count : ℕ) (h : IsIndexed es numbered count n) where
    pub live-removed : (was : ℕ) → was ≡ live_of (option_map replaced (find names.cmp id es)) → was ≤ count
    live-removed was old_live = omega (arith, live_of-le id es, h.live, old_live)

    pub IsIndexed-removed : (later : List (Id × Record)) (renumbered : List (ℕ × (Id × Record))) (was : ℕ) → later ≡ without names.cmp id es → renumbered ≡ without_replaced (option_map replaced (find names.cmp id es)) numbered → was ≡ live_of (option_map replaced (find names.cmp id es)) → IsIndexed later renumbered (count - was) n
    IsIndexed-removed later renumbered was fewer renumber old_live =
        let counted = live_count-without id es h.sorted in
        subst (λ fs. IsIndexed fs renumbered (count - was) n) (sym fewer) (record {
          sorted = is_sorted-where_key names.cmp (λ k. not (eq_by_cmp names.cmp id k)) es h.sorted;
          numbers = subst IsNumbered (sym database-removed) (IsNumbered-removed had id h.numbers);
          by_number = renumber
              ∙ ap (without_replaced (option_map replaced (find names.cmp id es))) h.by_number
              ∙ ap (λ (o : Option Record). without_replaced (option_map replaced o) (by_seq had)) (sym (get-from_list names es id))
              ∙ sym (by_seq-removed had id h.numbers)
              ∙ ap by_seq (sym database-removed);
          live = omega (arith, counted, h.live, old_live);
          few = omega (arith, h.few);
        })

-- the same documents under a larger number
pub IsIndexed-up_to : (es : List (Id × Record)) (numbered : List (ℕ × (Id × Record))) (count n m : ℕ) → n ≤ m → IsIndexed es numbered count n → IsIndexed es numbered count m
unfolding by_seq
IsIndexed-up_to es numbered count n m more h = record {
  sorted = h.sorted;
  numbers = record { within = λ id r e. let w = h.numbers.within id r e in (w.0, omega (arith, w.1)); distinct = h.numbers.distinct };
  by_number = h.by_number;
  live = h.live;
  few = omega (arith, h.few);
}
