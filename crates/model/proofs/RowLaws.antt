-- The rows of a feed are those of the wanted documents with a later update, each once, in rising order.
use Rattle.std.specs.Prelude.{◌≡◌, ◌↔◌, ℕ, ◌<◌, Bool, true, ◌&&◌, List, [], ◌∷◌, map, nat_lt, All, AllPairs, Contains, Some, refl}
use Rattle.std.proofs.Common.{sym, subst, arith, ltb-true, lt-ltb}
use Rattle.std.proofs.lemmas.Bool.{and_parts, and_from}
use Rattle.std.proofs.lemmas.List.Elements.{All-nil, All-cons, All-map, All-weaker, All-contains_itself, All-filter}
use Rattle.std.proofs.lemmas.List.Kept.{AllPairs-cons}
use Rattle.model.specs.Map.{get}
use Rattle.model.specs.Command.{Id}
use Rattle.model.specs.Query.{Style, Row}
use Rattle.model.specs.Database.{Database, Record, IsNumbered}
use Rattle.model.specs.Changes.{by_seq, changed_since, row, rows_since, IsRowOf}
use Rattle.model.proofs.ListLaws.{Source, source_of, Contains-map, Contains-filter}
use Rattle.model.proofs.IndexLaws.{listed_number, number_listed}
use Rattle.model.proofs.RisingLaws.{Rising}
use Rattle.model.proofs.TouchedLaws.{Update, number, passing_rises}

-- an update that the database has
abbrev pub IsListed : Database → Update → Type 0
IsListed d e = (get d.docs e.1.0 ≡ Some e.1.1) × (e.1.1.seq ≡ e.0)

abbrev pub update_of : Id → Record → Update
update_of id r = (r.seq, (id, r))

module _ (wanted : Id → Bool) (d : Database) (since : ℕ) where
  abbrev pub passes : Update → Bool
  passes e = nat_lt since e.0 && wanted e.1.0

  pub above_since : Rising number since (changed_since wanted d since)
  above_since = passing_rises d since passes (λ e h. ltb-true since e.0 (and_parts _ _ h).0)

  pub all_listed : All (IsListed d) (changed_since wanted d since)
  all_listed = All-weaker (Contains (by_seq d)) (IsListed d) (listed_number d) (changed_since wanted d since) (All-filter passes (Contains (by_seq d)) (by_seq d) (All-contains_itself (by_seq d)))

  pub each_listed : IsNumbered d → (id : Id) (r : Record) → get d.docs id ≡ Some r → wanted id ≡ true → since < r.seq → Contains (changed_since wanted d since) (update_of id r)
  each_listed num id r has w less = (Contains-filter passes (by_seq d) (update_of id r)).1 (number_listed d r.seq id r num (has, refl), and_from _ _ (lt-ltb since r.seq less) w)

  module _ (style : Style) where
    row_of : (r : Row) → Source (row style) (changed_since wanted d since) r → IsRowOf wanted d since style r
    row_of r s =
        let c = (Contains-filter passes (by_seq d) s.element).0 s.listed in
        let p = and_parts (nat_lt since s.element.0) (wanted s.element.1.0) c.1 in
        let h = listed_number d s.element c.0 in
        subst (IsRowOf wanted d since style) s.gives (record { document = s.element.1.1; known = h.0; is_wanted = p.1; above = omega (arith, ltb-true since s.element.0 p.0, h.1); tells = λ i. row style (sym h.1 i, s.element.1) })

    pub Contains-rows : IsNumbered d → (r : Row) → Contains (rows_since wanted d since style) r ↔ IsRowOf wanted d since style r
    Contains-rows num r = (
      λ c. row_of r (source_of (row style) (changed_since wanted d since) r c),
      λ h. subst (Contains (rows_since wanted d since style)) (sym h.tells) (Contains-map (row style) (changed_since wanted d since) (update_of r.id h.document) (each_listed num r.id h.document h.known h.is_wanted h.above)),
    )

    pub rows_rise : AllPairs (λ q r. q.seq < r.seq) (rows_since wanted d since style)
    rows_rise = rise since (changed_since wanted d since) above_since
      where
        beyond : (low : ℕ) (es : List Update) → Rising number low es → All (λ e. low < e.0) es
        beyond low [] h = All-nil _
        beyond low (e ∷ es) h = All-cons (λ f. low < f.0) e es h.0 (All-weaker (λ f. e.0 < f.0) (λ f. low < f.0) (λ f less. omega (arith, h.0)) es (beyond e.0 es h.1))

        rise : (low : ℕ) (es : List Update) → Rising number low es → AllPairs (λ (q r : Row). q.seq < r.seq) (map (row style) es)
        rise low [] h = λ i j d less lt. absurd (omega arith)
        rise low (e ∷ es) h = AllPairs-cons (λ (q r : Row). q.seq < r.seq) (row style e) (map (row style) es) (All-map (λ (r : Row). e.0 < r.seq) (row style) es (beyond e.0 es h.1)) (rise e.0 es h.1)
