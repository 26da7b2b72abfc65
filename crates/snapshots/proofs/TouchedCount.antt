-- How many purges and updates lie above marks.
use Rattle.std.specs.Prelude.{◌≡◌, ◌+◌, ◌-◌, ◌≤◌, ◌&&◌, ℕ, true, List, [], ◌∷◌, length, filter, map, nat_lt, All}
use Rattle.std.proofs.Common.{arith, ltb-true}
use Rattle.std.proofs.Math.ListN.{length-map}
use Rattle.std.proofs.lemmas.Bool.{and_parts}
use Rattle.std.proofs.lemmas.List.{length-append}
use Rattle.std.proofs.lemmas.List.Elements.{All-head, All-tail, All-filter}
use Rattle.std.proofs.lemmas.List.Sums.{length-filter, count_by-le-length}
use Rattle.model.specs.PurgeLog.{PurgeInfo, AreNumbered, purges_since}
use Rattle.model.specs.Database.{Database, IsNumbered}
use Rattle.model.specs.Changes.{every_id, by_seq, changed_since}
use Rattle.model.specs.Compaction.{Marks, of_purge, of_update, touched}
use Rattle.model.proofs.RisingLaws.{Rising}
use Rattle.model.proofs.TouchedLaws.{Update, number, passing_rises, numbers_within}

few-rising : {X : Type 0} (num : X → ℕ) (low high : ℕ) (xs : List X) → Rising num low xs → All (λ x. num x ≤ high) xs → length xs ≤ high - low
few-rising num low high [] r h = omega arith
few-rising num low high (x ∷ xs) r h = omega (arith, r.0, All-head (λ y. num y ≤ high) x xs h, few-rising num (num x) high xs r.1 (All-tail (λ y. num y ≤ high) x xs h))

few-logged : (n : ℕ) (ps : List PurgeInfo) → AreNumbered n ps → length ps ≤ n
few-logged n [] h = omega arith
few-logged n (p ∷ ps) h = omega (arith, h.0, h.1)

module _ (d : Database) (m : Marks) where
  pub touched-count : length (touched d m) ≡ length (purges_since d.purges m.purge) + length (changed_since every_id d m.update)
  touched-count = omega (arith, length-append (map of_purge (purges_since d.purges m.purge)) (map of_update (changed_since every_id d m.update)), length-map (purges_since d.purges m.purge) of_purge, length-map (changed_since every_id d m.update) of_update)

  pub few-purges : AreNumbered d.purges.purge_seq d.purges.infos → length (purges_since d.purges m.purge) ≤ d.purges.purge_seq
  few-purges h = omega (arith, few-logged d.purges.purge_seq d.purges.infos h, length-filter (λ (p : PurgeInfo). nat_lt m.purge p.seq) d.purges.infos, count_by-le-length (λ (p : PurgeInfo). nat_lt m.purge p.seq) d.purges.infos)

  pub few-updates : IsNumbered d → length (changed_since every_id d m.update) ≤ d.update_seq
  few-updates num =
      let test = λ (e : Update). nat_lt m.update e.0 && true in
      omega (arith, few-rising number m.update d.update_seq (filter test (by_seq d)) (passing_rises d m.update test (λ e h. ltb-true m.update e.0 (and_parts (nat_lt m.update e.0) true h).0)) (All-filter test (λ e. e.0 ≤ d.update_seq) (by_seq d) (numbers_within d num)))
