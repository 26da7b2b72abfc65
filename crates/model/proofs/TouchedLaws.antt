-- What is touched after the marks have passed the first of it is the rest.
use Rattle.std.specs.Prelude.{◌≡◌, ℕ, zero, suc, ◌-◌, ◌<◌, ◌≤◌, Bool, true, ◌&&◌, List, [], ◌∷◌, ◌++◌, length, take, drop, map, filter, nat_lt, All, Contains, refl}
use Rattle.std.specs.declared.cmp.Ordering.TheVariants.{Less}
use Rattle.std.specs.Ordering.{nat_cmp}
use Rattle.std.specs.Cmp.{ranked}
use Rattle.std.proofs.Common.{sym, ap, subst, ◌∙◌, arith, ltb-true}
use Rattle.std.proofs.Math.Bool.{and-true}
use Rattle.std.proofs.Math.ListN.{length-map}
use Rattle.std.proofs.lemmas.List.{take-map, drop-map}
use Rattle.std.proofs.lemmas.List.Elements.{filter_agree, filter_passes, All-nil, All-cons, All-weaker, All-filter, All-contains_itself}
use Rattle.std.proofs.lemmas.List.Kept.{AllPairs-filter}
use Rattle.model.specs.Command.{Id}
use Rattle.model.specs.PurgeLog.{PurgeInfo, AreNumbered, purges_since}
use Rattle.model.specs.Database.{Database, Record, IsNumbered}
use Rattle.model.specs.Changes.{every_id, by_seq, changed_since}
use Rattle.model.specs.Compaction.{Marks, Touched, of_purge, of_update, touched, past, passed}
use Rattle.model.proofs.IndexLaws.{listed_number, numbers_rise}
use Rattle.model.proofs.RisingLaws.{AllPairs-map, Rising, Rising-lower, Rising-pairs, last_number, above, Rising-above, last_number-le, last_number-most, above-last_number, above-above}

abbrev pub Update : Type 0
Update = ℕ × (Id × Record)

abbrev pub number : Update → ℕ
number e = e.0

-- ---- the purges and the updates above the marks rise

log_rises : (n : ℕ) (ps : List PurgeInfo) → AreNumbered n ps → Rising (λ p. p.seq) (n - length ps) ps
log_rises n [] h = tt
log_rises n (p ∷ ps) h = (omega (arith, h.0, h.1), Rising-lower (λ p. p.seq) p.seq (n - length ps) ps (omega (arith, h.0)) (log_rises n ps h.2))

-- the updates that pass a test, which lets none pass up to the mark
pub passing_rises : (d : Database) (mark : ℕ) (test : Update → Bool) → ((e : Update) → test e ≡ true → mark < e.0) → Rising number mark (filter test (by_seq d))
passing_rises d mark test high =
    Rising-pairs number mark (filter test (by_seq d))
    (All-weaker (λ e. test e ≡ true) (λ e. mark < e.0) high _ (filter_passes test (by_seq d)))
    (AllPairs-filter (λ e f. e.0 < f.0) test (by_seq d) (λ i j e less lt. ranked _ _ Less (sym (AllPairs-map (λ m n. nat_cmp m n ≡ Less) number (by_seq d) (numbers_rise d) i j e less lt))))

changed_rises : (d : Database) (mark : ℕ) → Rising number mark (above number mark (by_seq d))
changed_rises d mark = passing_rises d mark (λ e. nat_lt mark e.0) (λ e h. ltb-true mark e.0 h)

-- ---- numbers are at most the database's

purges_within : (n : ℕ) (ps : List PurgeInfo) → AreNumbered n ps → All (λ p. p.seq ≤ n) ps
purges_within n [] h = All-nil _
purges_within n (p ∷ ps) h = All-cons (λ q. q.seq ≤ n) p ps (omega (arith, h.0)) (purges_within n ps h.2)

pub numbers_within : (d : Database) → IsNumbered d → All (λ e. e.0 ≤ d.update_seq) (by_seq d)
numbers_within d num = All-weaker (Contains (by_seq d)) (λ e. e.0 ≤ d.update_seq) (λ e c. let at = listed_number d e c in let w = num.within e.1.0 e.1.1 at.0 in omega (arith, at.1, w.1)) (by_seq d) (All-contains_itself (by_seq d))

-- ---- the marks after the first n touched

pub passed-append : (m : Marks) (ts us : List Touched) → passed m (ts ++ us) ≡ passed (passed m ts) us
passed-append m [] us = refl
passed-append m (t ∷ ts) us = passed-append (past m t) ts us

passed-purges : (m : Marks) (ps : List PurgeInfo) → passed m (map of_purge ps) ≡ record m { purge = last_number (λ p. p.seq) m.purge ps }
passed-purges m [] = refl
passed-purges m (p ∷ ps) = passed-purges (record m { purge = p.seq }) ps

passed-updates : (m : Marks) (es : List Update) → passed m (map of_update es) ≡ record m { update = last_number number m.update es }
passed-updates m [] = refl
passed-updates m (e ∷ es) = passed-updates (record m { update = e.0 }) es

pub take-append : {X : Type 0} (n k : ℕ) (xs ys : List X) → k ≡ n - length xs → take n (xs ++ ys) ≡ take n xs ++ take k ys
take-append zero k [] ys e = let same : 0 ≡ k = omega arith in ap (λ j. take j ys) same
take-append (suc n) k [] ys e = let same : suc n ≡ k = omega arith in ap (λ j. take j ys) same
take-append zero k (x ∷ xs) ys e = let same : 0 ≡ k = omega arith in ap (λ j. take j ys) same
take-append (suc n) k (x ∷ xs) ys e = ap (λ zs. x ∷ zs) (take-append n k xs ys (omega arith))

drop-append : {X : Type 0} (n k : ℕ) (xs ys : List X) → k ≡ n - length xs → drop n (xs ++ ys) ≡ drop n xs ++ drop k ys
drop-append zero k [] ys e = let same : 0 ≡ k = omega arith in ap (λ j. drop j ys) same
drop-append (suc n) k [] ys e = let same : suc n ≡ k = omega arith in ap (λ j. drop j ys) same
drop-append zero k (x ∷ xs) ys e = let same : 0 ≡ k = omega arith in ap (λ j. x ∷ (xs ++ drop j ys)) same
drop-append (suc n) k (x ∷ xs) ys e = drop-append n k xs ys (omega arith)

module _ (d : Database) (m : Marks) (n : ℕ) where
  abbrev purges : List PurgeInfo
  purges = purges_since d.purges m.purge

  abbrev updates : List Update
  updates = above number m.update (by_seq d)

  changed-above : (mark : ℕ) → changed_since every_id d mark ≡ above number mark (by_seq d)
  changed-above mark = filter_agree (λ e. nat_lt mark e.0 && true) (λ e. nat_lt mark e.0) (λ e. and-true (nat_lt mark e.0)) (by_seq d)

  touched-above : (m : Marks) → touched d m ≡ map of_purge (purges_since d.purges m.purge) ++ map of_update (above number m.update (by_seq d))
  touched-above m = ap (λ es. map of_purge (purges_since d.purges m.purge) ++ map of_update es) (changed-above m.update)

  abbrev then : Marks
  then = record { update = last_number number m.update (take (n - length purges) updates); purge = last_number (λ p. p.seq) m.purge (take n purges) }

  take-items : take n (map of_purge purges ++ map of_update updates) ≡ map of_purge (take n purges) ++ map of_update (take (n - length purges) updates)
  take-items = take-append n (n - length purges) (map of_purge purges) (map of_update updates) (omega (arith, length-map purges of_purge)) ∙ (λ i. take-map of_purge n purges i ++ take-map of_update (n - length purges) updates i)

  drop-items : drop n (map of_purge purges ++ map of_update updates) ≡ map of_purge (drop n purges) ++ map of_update (drop (n - length purges) updates)
  drop-items = drop-append n (n - length purges) (map of_purge purges) (map of_update updates) (omega (arith, length-map purges of_purge)) ∙ (λ i. drop-map of_purge n purges i ++ drop-map of_update (n - length purges) updates i)

  passed-first : passed m (take n (touched d m)) ≡ then
  passed-first =
      ap (λ ts. passed m (take n ts)) (touched-above m) ∙ ap (passed m) take-items
      ∙ passed-append m (map of_purge (take n purges)) (map of_update (take (n - length purges) updates))
      ∙ ap (λ k. passed k (map of_update (take (n - length purges) updates))) (passed-purges m (take n purges))
      ∙ passed-updates _ (take (n - length purges) updates)

  module _ (h : AreNumbered d.purges.purge_seq d.purges.infos) where
    purges_rise : Rising (λ p. p.seq) m.purge purges
    purges_rise = Rising-above (λ p. p.seq) m.purge _ d.purges.infos (log_rises d.purges.purge_seq d.purges.infos h)

    rest_of_purges : purges_since d.purges then.purge ≡ drop n purges
    rest_of_purges = sym (above-above (λ p. p.seq) m.purge then.purge d.purges.infos (last_number-le (λ p. p.seq) m.purge n purges purges_rise)) ∙ above-last_number (λ p. p.seq) m.purge n purges purges_rise

    rest_of_updates : above number then.update (by_seq d) ≡ drop (n - length purges) updates
    rest_of_updates = let rise = changed_rises d m.update in sym (above-above number m.update then.update (by_seq d) (last_number-le number m.update (n - length purges) updates rise)) ∙ above-last_number number m.update (n - length purges) updates rise

    pub touched-rest : touched d (passed m (take n (touched d m))) ≡ drop n (touched d m)
    touched-rest =
        ap (touched d) passed-first ∙ touched-above then ∙ (λ i. map of_purge (rest_of_purges i) ++ map of_update (rest_of_updates i))
        ∙ sym drop-items ∙ ap (drop n) (sym (touched-above m))

    -- the marks rise, and stay at most the database's numbers
    pub passed-rises : (m.update ≤ (passed m (take n (touched d m))).update) × (m.purge ≤ (passed m (take n (touched d m))).purge)
    passed-rises = subst (λ k. (m.update ≤ k.update) × (m.purge ≤ k.purge)) (sym passed-first)
        (last_number-le number m.update (n - length purges) updates (changed_rises d m.update), last_number-le (λ p. p.seq) m.purge n purges purges_rise)

    pub passed-most : IsNumbered d → m.update ≤ d.update_seq → m.purge ≤ d.purges.purge_seq → ((passed m (take n (touched d m))).update ≤ d.update_seq) × ((passed m (take n (touched d m))).purge ≤ d.purges.purge_seq)
    passed-most num u p = subst (λ k. (k.update ≤ d.update_seq) × (k.purge ≤ d.purges.purge_seq)) (sym passed-first) (
      last_number-most number m.update d.update_seq (n - length purges) updates u (All-filter _ (λ e. e.0 ≤ d.update_seq) (by_seq d) (numbers_within d num)),
      last_number-most (λ p. p.seq) m.purge d.purges.purge_seq n purges p (All-filter _ (λ p. p.seq ≤ d.purges.purge_seq) d.purges.infos (purges_within d.purges.purge_seq d.purges.infos h)),
    )
