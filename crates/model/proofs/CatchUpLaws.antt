-- Taking over touched documents keeps a copy in agreement, and once nothing is touched it has the strip of each record.
use Rattle.std.specs.Prelude.{◌≡◌, ℕ, ◌⊎◌, true, false, cond, ◌&&◌, List, [], take, drop, map, nat_lt, Contains, Option, Some, None, option_map, unwrap_or, refl}
use Rattle.std.specs.List.{list_any}
use Rattle.std.specs.Cmp.{eq_by_cmp_equiv}
use Rattle.std.proofs.Common.{sym, ap, subst, ◌∙◌, inl, inr, ⊎_elim}
use Rattle.std.proofs.lemmas.Bool.{true≢false, and_parts, and_from}
use Rattle.std.proofs.lemmas.List.{take-append-drop}
use Rattle.std.proofs.lemmas.List.Elements.{Contains-append_left, Contains-append_right, Contains-append_cases}
use Rattle.std.proofs.lemmas.Map.Views.{list_any-from_Contains}
use Rattle.model.specs.Map.{get, same_key, same_key-equal, same_key_itself}
use Rattle.model.specs.Command.{Id, names}
use Rattle.model.specs.PurgeLog.{AreNumbered, purges_since, is_overrun}
use Rattle.model.specs.Database.{Database, Record, IsNumbered}
use Rattle.model.specs.Changes.{every_id, by_seq, changed_since}
use Rattle.model.specs.Compaction.{Marks, Touched, WasUpdated, of_purge, of_update, touched, touched_id, passed, is_logged, is_updated, strip_at, Agrees, taken_over}
use Rattle.model.proofs.ListLaws.{by_cases, Source, source_of, Contains-map, passing_of, any_passing, Contains-filter}
use Rattle.model.proofs.IndexLaws.{listed_number, number_listed}
use Rattle.model.proofs.TouchedLaws.{Update, touched-rest}

-- ---- a document is touched exactly where it was updated or purged after the marks

module _ (d : Database) (m : Marks) (id : Id) where
  abbrev WasTouched : Type 0
  WasTouched = Source touched_id (touched d m) id

  logged-touched : is_logged d m.purge id ≡ true → WasTouched
  logged-touched h =
      let purges = purges_since d.purges m.purge in
      let p = passing_of (λ p. same_key names p.id id) purges h in
      record { element = of_purge p.element; listed = Contains-append_left _ _ _ (Contains-map of_purge purges p.element p.listed); gives = same_key-equal names p.element.id id p.passes }

  updated-touched : IsNumbered d → is_updated d m.update id ≡ true → WasTouched
  updated-touched num h = at (get d.docs id) refl h
    where
      at : (o : Option Record) → get d.docs id ≡ o → unwrap_or (option_map (λ r. nat_lt m.update r.seq) o) false ≡ true → WasTouched
      at None e h = absurd (true≢false (sym h))
      at (Some r) e h =
          let update : Update = (r.seq, (id, r)) in
          let listed : Contains (by_seq d) update = number_listed d r.seq id r num (e, refl) in
          let changed : Contains (changed_since every_id d m.update) update = (Contains-filter (λ e. nat_lt m.update e.0 && true) (by_seq d) update).1 (listed, and_from _ true h refl) in
          record { element = WasUpdated r.seq id; listed = Contains-append_right _ _ _ (Contains-map of_update (changed_since every_id d m.update) update changed); gives = refl }

  of_touched : WasTouched → (is_updated d m.update id ≡ true) ⊎ (is_logged d m.purge id ≡ true)
  of_touched t = ⊎_elim purged updated (Contains-append_cases _ _ _ t.listed)
    where
      purged : Contains (map of_purge (purges_since d.purges m.purge)) t.element → (is_updated d m.update id ≡ true) ⊎ (is_logged d m.purge id ≡ true)
      purged c =
          let s = source_of of_purge (purges_since d.purges m.purge) t.element c in
          let its : s.element.id ≡ id = ap touched_id s.gives ∙ t.gives in
          inr (any_passing (λ p. same_key names p.id id) (purges_since d.purges m.purge) s.element s.listed (subst (λ k. same_key names s.element.id k ≡ true) its (same_key_itself names s.element.id)))

      updated : Contains (map of_update (changed_since every_id d m.update)) t.element → (is_updated d m.update id ≡ true) ⊎ (is_logged d m.purge id ≡ true)
      updated c =
          let s = source_of of_update (changed_since every_id d m.update) t.element c in
          let e = s.element in
          let its : e.1.0 ≡ id = ap touched_id s.gives ∙ t.gives in
          let kept = (Contains-filter (λ e. nat_lt m.update e.0 && true) (by_seq d) e).0 s.listed in
          let was = listed_number d e kept.0 in
          let got : get d.docs id ≡ Some e.1.1 = ap (get d.docs) (sym its) ∙ was.0 in
          inl (ap (λ o. unwrap_or (option_map (λ r. nat_lt m.update r.seq) o) false) got ∙ ap (nat_lt m.update) was.1 ∙ (and_parts (nat_lt m.update e.0) true kept.1).0)

-- ---- taking over

module _ (copy : Id → Option Record) (d : Database) where
  taken : (ts : List Touched) (id : Id) (t : Source touched_id ts id) → taken_over copy d (map touched_id ts) id ≡ strip_at d id
  taken ts id t =
      let listed : Contains (map touched_id ts) id = subst (Contains (map touched_id ts)) t.gives (Contains-map touched_id ts t.element t.listed) in
      ap (λ b. cond b (strip_at d id) (copy id)) (list_any-from_Contains (eq_by_cmp_equiv names.total) id (map touched_id ts) listed)

  taken_same : (ids : List Id) (id : Id) → copy id ≡ strip_at d id → taken_over copy d ids id ≡ strip_at d id
  taken_same ids id e = by_cases (list_any (same_key names id) ids) (λ t. ap (λ b. cond b (strip_at d id) (copy id)) t) (λ f. ap (λ b. cond b (strip_at d id) (copy id)) f ∙ e)

  module _ (m : Marks) (num : IsNumbered d) (within : is_overrun d.purges m.purge ≡ false) where
    -- what agreement says of one document
    agreed : (id : Id) → Agrees copy m d → (copy id ≡ strip_at d id) ⊎ Source touched_id (touched d m) id
    agreed id (inl over) = absurd (true≢false (sym over ∙ within))
    agreed id (inr each) = at (each id)
      where
        at : (copy id ≡ strip_at d id) ⊎ ((is_updated d m.update id ≡ true) ⊎ (is_logged d m.purge id ≡ true)) → (copy id ≡ strip_at d id) ⊎ Source touched_id (touched d m) id
        at (inl e) = inl e
        at (inr (inl u)) = inr (updated-touched d m id num u)
        at (inr (inr l)) = inr (logged-touched d m id l)

    -- the first n are taken over and passed
    pub Agrees-passed : (n : ℕ) → AreNumbered d.purges.purge_seq d.purges.infos → Agrees copy m d → Agrees (taken_over copy d (map touched_id (take n (touched d m)))) (passed m (take n (touched d m))) d
    Agrees-passed n h a = inr (λ id. ⊎_elim (λ e. inl (taken_same _ id e)) (split id) (agreed id a))
      where
        split : (id : Id) → Source touched_id (touched d m) id → (taken_over copy d (map touched_id (take n (touched d m))) id ≡ strip_at d id) ⊎ ((is_updated d (passed m (take n (touched d m))).update id ≡ true) ⊎ (is_logged d (passed m (take n (touched d m))).purge id ≡ true))
        split id t = ⊎_elim
            (λ c. inl (taken (take n (touched d m)) id (record { element = t.element; listed = c; gives = t.gives })))
            (λ c. inr (of_touched d (passed m (take n (touched d m))) id (record { element = t.element; listed = subst (λ ts. Contains ts t.element) (sym (touched-rest d m n h)) c; gives = t.gives })))
            (Contains-append_cases (take n (touched d m)) (drop n (touched d m)) t.element (subst (λ ts. Contains ts t.element) (sym (take-append-drop n (touched d m))) t.listed))

    -- all are taken over
    pub taken_all : Agrees copy m d → (id : Id) → taken_over copy d (map touched_id (touched d m)) id ≡ strip_at d id
    taken_all a id = ⊎_elim (taken_same _ id) (taken (touched d m) id) (agreed id a)

    pub caught_up : touched d m ≡ [] → Agrees copy m d → (id : Id) → copy id ≡ strip_at d id
    caught_up none a id = ap (λ ts. taken_over copy d (map touched_id ts) id) (sym none) ∙ taken_all a id
