-- There are no more records than update numbers.
use Rattle.std.specs.Prelude.{◌≡◌, ◌≢◌, ◌-◌, ◌<◌, ◌≤◌, ℕ, true, List, [], length, map}
use Rattle.std.specs.List.{IsDistinct, list_any}
use Rattle.std.specs.declared.cmp.Ordering.TheVariants.{Less}
use Rattle.std.specs.Ordering.{is_eq}
use Rattle.std.specs.Cmp.{tied_itself}
use Rattle.std.proofs.Common.{ap, sym, subst, ◌∙◌, arith, eqb, get_or, eqb-true}
use Rattle.std.proofs.Math.ListN.{length-map}
use Rattle.std.proofs.lemmas.Bool.{ne_eqb, true≢false}
use Rattle.std.proofs.lemmas.List.{get_or-map, get_or_default}
use Rattle.std.proofs.lemmas.Map.Keys.{IsDistinct-from_apart}
use Rattle.std.proofs.lemmas.Map.Steps.{length-le_from_distinct_below}
use Rattle.model.specs.Map.{entries, empty}
use Rattle.model.specs.Command.{Id, names}
use Rattle.model.specs.Database.{Database, Record, IsNumbered}
use Rattle.model.proofs.ListLaws.{source_of, passing_of}
use Rattle.model.proofs.MapLaws.{Contains-entries, IsRising-keys}
use Rattle.model.proofs.RisingLaws.{AllPairs-map}

module _ (d : Database) (h : IsNumbered d) where
  abbrev es : List (Id × Record)
  es = entries d.docs

  -- numbers from 0
  abbrev place : Id × Record → ℕ
  place e = e.1.seq - 1

  abbrev nothing : Id × Record
  nothing = ([], record { tree = empty; seq = 0 })

  abbrev element : ℕ → Id × Record
  element i = get_or es i nothing

  within : (i : ℕ) → i < length es → (0 < (element i).1.seq) × ((element i).1.seq ≤ d.update_seq)
  within i lt = let e = element i in h.within e.0 e.1 ((Contains-entries names d.docs e.0 e.1).0 (i, lt, get_or_default es i e nothing lt))

  apart : (i j : ℕ) → i < j → j < length es → place (element i) ≢ place (element j)
  apart i j less lt same =
      let a = element i in
      let b = element j in
      let one = (Contains-entries names d.docs a.0 a.1).0 (i, omega arith, get_or_default es i a nothing (omega arith)) in
      let two = (Contains-entries names d.docs b.0 b.1).0 (j, lt, get_or_default es j b nothing lt) in
      let ids : a.0 ≡ b.0 = h.distinct a.0 b.0 a.1 b.1 one two (omega (arith, same, within i (omega arith), within j lt)) in
      let rise : names.cmp a.0 b.0 ≡ Less = AllPairs-map (λ k q. names.cmp k q ≡ Less) (λ (e : Id × Record). e.0) es (IsRising-keys names d.docs) i j nothing less lt in
      true≢false (sym (ap is_eq (tied_itself names.total b.0)) ∙ ap is_eq (subst (λ k. names.cmp k b.0 ≡ Less) ids rise))

  distinct : IsDistinct eqb (map place es)
  distinct = IsDistinct-from_apart eqb (map place es) (λ i j d0 less lt.
      let upto : j < length es = omega (arith, length-map es place) in
      let ne : get_or (map place es) i d0 ≢ get_or (map place es) j d0 = λ same. apart i j less upto (sym (get_or-map place es i nothing d0 (omega arith)) ∙ same ∙ get_or-map place es j nothing d0 upto) in
      ne_eqb _ _ ne)

  below : (q : ℕ) → list_any (eqb q) (map place es) ≡ true → q < d.update_seq
  below q any =
      let p = passing_of (eqb q) (map place es) any in
      let s = source_of place es p.element p.listed in
      let e = s.element in
      let w = h.within e.0 e.1 ((Contains-entries names d.docs e.0 e.1).0 s.listed) in
      omega (arith, eqb-true q p.element p.passes, s.gives, w)

  pub few-records : length es ≤ d.update_seq
  few-records = omega (arith, length-map es place, length-le_from_distinct_below (map place es) d.update_seq distinct below)
