-- The index of records by their update numbers has just the records, each at its number.
use Rattle.std.specs.Prelude.{◌≡◌, ℕ, true, map, Option, Some, None, Contains, is_some, refl}
use Rattle.std.proofs.Common.{sym, ap, subst, ◌∙◌}
use Rattle.std.proofs.lemmas.Bool.{true≢false}
use Rattle.std.proofs.lemmas.Option.{same_Some}
use Rattle.model.specs.Map.{IsRising, get, entries, get-from_list}
use Rattle.model.specs.Command.{Id, names, numbers}
use Rattle.model.specs.Database.{Database, Record, IsNumbered}
use Rattle.model.specs.Changes.{at_numbers, by_seq}
use Rattle.model.proofs.ListLaws.{source_of, Contains-map}
use Rattle.model.proofs.MapLaws.{found_listed, Contains-entries, Contains-keys, Contains-keys-from_list, IsRising-keys}

abbrev numbered : Id × Record → ℕ × (Id × Record)
numbered e = (e.1.seq, e)

pub of_number : (d : Database) (n : ℕ) (id : Id) (r : Record) → get (at_numbers d) n ≡ Some (id, r) → (get d.docs id ≡ Some r) × (r.seq ≡ n)
of_number d n id r e =
    let listed = found_listed numbers (map numbered (entries d.docs)) n (id, r) (sym (get-from_list numbers (map numbered (entries d.docs)) n) ∙ e) in
    let s = source_of numbered (entries d.docs) (n, (id, r)) listed in
    let one : s.element ≡ (id, r) = ap (λ (p : ℕ × (Id × Record)). p.1) s.gives in
    ((Contains-entries names d.docs id r).0 (subst (Contains (entries d.docs)) one s.listed), sym (ap (λ (p : ℕ × (Id × Record)). p.1.1.seq) s.gives) ∙ ap (λ (p : ℕ × (Id × Record)). p.0) s.gives)

pub at_number : (d : Database) (id : Id) (r : Record) → IsNumbered d → get d.docs id ≡ Some r → get (at_numbers d) r.seq ≡ Some (id, r)
at_number d id r num has = from (get (at_numbers d) r.seq) refl known
  where
    known : is_some (get (at_numbers d) r.seq) ≡ true
    known =
        let listed = Contains-map numbered (entries d.docs) (id, r) ((Contains-entries names d.docs id r).1 has) in
        (Contains-keys numbers (at_numbers d) r.seq).0 ((Contains-keys-from_list numbers (map numbered (entries d.docs)) r.seq).1 (Contains-map (λ e. e.0) (map numbered (entries d.docs)) (r.seq, (id, r)) listed))

    from : (o : Option (Id × Record)) → get (at_numbers d) r.seq ≡ o → is_some (get (at_numbers d) r.seq) ≡ true → get (at_numbers d) r.seq ≡ Some (id, r)
    from None e some = absurd (true≢false (sym some ∙ ap is_some e))
    from (Some f) e some =
        let was = of_number d r.seq f.0 f.1 e in
        let one : f.0 ≡ id = num.distinct f.0 id f.1 r was.0 has was.1 in
        let two : f.1 ≡ r = same_Some f.1 r (sym was.0 ∙ ap (get d.docs) one ∙ has) in
        e ∙ (λ i. Some (one i, two i))

-- ---- as a list

pub at_its_number : (d : Database) (n : ℕ) (id : Id) (r : Record) → IsNumbered d → (get d.docs id ≡ Some r) × (r.seq ≡ n) → get (at_numbers d) n ≡ Some (id, r)
at_its_number d n id r num h = subst (λ k. get (at_numbers d) k ≡ Some (id, r)) h.1 (at_number d id r num h.0)

pub listed_number : (d : Database) (e : ℕ × (Id × Record)) → Contains (by_seq d) e → (get d.docs e.1.0 ≡ Some e.1.1) × (e.1.1.seq ≡ e.0)
unfolding by_seq
listed_number d e c = of_number d e.0 e.1.0 e.1.1 ((Contains-entries numbers (at_numbers d) e.0 e.1).0 c)

pub number_listed : (d : Database) (n : ℕ) (id : Id) (r : Record) → IsNumbered d → (get d.docs id ≡ Some r) × (r.seq ≡ n) → Contains (by_seq d) (n, (id, r))
unfolding by_seq
number_listed d n id r num h = (Contains-entries numbers (at_numbers d) n (id, r)).1 (at_its_number d n id r num h)

pub numbers_rise : (d : Database) → IsRising numbers (map (λ e. e.0) (by_seq d))
unfolding by_seq
numbers_rise d = IsRising-keys numbers (at_numbers d)
