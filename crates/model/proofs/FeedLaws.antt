-- A follower's map stays right: after the rows that it takes, up to the last of them, or up to the update number where none is left.
use Rattle.std.specs.Prelude.{◌≡◌, ℕ, ◌<◌, ◌≤◌, ◌⊎◌, Bool, true, false, ◌&&◌, List, [], ◌∷◌, length, map, take, drop, nat_lt, Some, All, Contains, refl}
use Rattle.std.specs.List.{take-map}
use Rattle.std.proofs.Common.{sym, ap, subst, ◌∙◌, inl, inr, arith, ltb-true, ltb-false}
use Rattle.std.proofs.Math.ListN.{length-map}
use Rattle.std.proofs.lemmas.Option.{same_Some}
use Rattle.std.proofs.lemmas.Bool.{cond-true, cond-false}
use Rattle.std.proofs.lemmas.List.{take-append-drop, take_all}
use Rattle.std.proofs.lemmas.List.Elements.{All-head, All-tail, All-map, All-take, All-weaker, All-filter, Contains-append_cases}
use Rattle.model.specs.Map.{Map, get, put, get-put, same_key, same_key-equal, same_key_itself}
use Rattle.model.specs.Command.{Id, names}
use Rattle.model.specs.Query.{Style, Row}
use Rattle.model.specs.Database.{Database, Record, IsNumbered}
use Rattle.model.specs.Changes.{by_seq, changed_since, row, rows_since, last_seq_of, IsRightFeed, fed}
use Rattle.model.proofs.ListLaws.{by_cases, Contains-cons_cases, Contains-map, Contains-filter}
use Rattle.model.proofs.RisingLaws.{last_number, last_number-le, last_number-most, above, above-last_number}
use Rattle.model.proofs.TouchedLaws.{Update, number, numbers_within}
use Rattle.model.proofs.RowLaws.{IsListed, update_of, above_since, all_listed, each_listed}

-- ---- the rows of a follower's map

-- rows of which those of one document are one row
fed_gives : (m : Map names Row) (rows : List Row) (id : Id) (v : Row) → All (λ r. r.id ≡ id → r ≡ v) rows → (get m id ≡ Some v) ⊎ Contains rows v → v.id ≡ id → get (fed m rows) id ≡ Some v
fed_gives m [] id v one (inl has) own = has
fed_gives m [] id v one (inr c) own = absurd (omega (arith, c.1))
fed_gives m (r ∷ rows) id v one h own = fed_gives (put m r.id r) rows id v (All-tail (λ q. q.id ≡ id → q ≡ v) r rows one) (by_cases (same_key names id r.id) (λ t. inl (here t)) (λ f. there f h)) own
  where
    here : same_key names id r.id ≡ true → get (put m r.id r) id ≡ Some v
    here t = get-put m r.id r id ∙ cond-true _ _ _ t ∙ ap Some (All-head (λ q. q.id ≡ id → q ≡ v) r rows one (sym (same_key-equal names id r.id t)))

    there : same_key names id r.id ≡ false → (get m id ≡ Some v) ⊎ Contains (r ∷ rows) v → (get (put m r.id r) id ≡ Some v) ⊎ Contains rows v
    there f (inl has) = inl (get-put m r.id r id ∙ cond-false _ _ _ f ∙ has)
    there f (inr c) = elim (Contains-cons_cases r rows v c) [
      | inl is ↦ inl (here (ap (same_key names id) (ap (λ q. q.id) is ∙ own) ∙ same_key_itself names id))
      | inr later ↦ inr later
    ]

module _ (style : Style) (d : Database) where
  -- a listed update of a document is that of its record
  one_row : (id : Id) (r : Record) (e : Update) → get d.docs id ≡ Some r → IsListed d e → (row style e).id ≡ id → row style e ≡ row style (update_of id r)
  one_row id r e has h own =
      let x : e.1.1 ≡ r = same_Some e.1.1 r (sym h.0 ∙ ap (get d.docs) own ∙ has) in
      let n : e.0 ≡ r.seq = sym h.1 ∙ ap (λ (y : Record). y.seq) x in
      λ i. row style (n i, (own i, x i))

  -- some listed updates, with all the wanted ones above c and at most up to
  IsRightFeed-fed : (wanted : Id → Bool) (m : Map names Row) (s c upto : ℕ) (given : List Update) → All (IsListed d) given
      → ((id : Id) (r : Record) → get d.docs id ≡ Some r → wanted id ≡ true → c < r.seq → r.seq ≤ upto → Contains given (update_of id r))
      → IsRightFeed wanted style m s c d → IsRightFeed wanted style (fed m (map (row style) given)) s upto d
  IsRightFeed-fed wanted m s c upto given listed each right id r has w above le =
      let v = row style (update_of id r) in
      fed_gives m (map (row style) given) id v
      (All-map (λ q. q.id ≡ id → q ≡ v) (row style) given (All-weaker (IsListed d) (λ e. (row style e).id ≡ id → row style e ≡ v) (λ e h own. one_row id r e has h own) given listed))
      (by_cases (nat_lt c r.seq) (λ t. inr (Contains-map (row style) given (update_of id r) (each id r has w (ltb-true c r.seq t) le))) (λ f. inl (right id r has w above (ltb-false c r.seq f))))
      refl

-- ---- the first updates above a number

module _ (style : Style) (wanted : Id → Bool) (d : Database) (c : ℕ) where
  abbrev updates : List Update
  updates = changed_since wanted d c

  -- what is at most the last of the first n is one of them
  among_first : (n : ℕ) (e : Update) → Contains updates e → e.0 ≤ last_number number c (take n updates) → Contains (take n updates) e
  among_first n e listed le = elim (Contains-append_cases (take n updates) (drop n updates) e (subst (λ es. Contains es e) (sym (take-append-drop n updates)) listed)) [
    | inl first ↦ first
    | inr rest ↦ absurd (beyond (subst (λ es. Contains es e) (sym (above-last_number number c n updates (above_since wanted d c))) rest))
  ]
    where
      beyond : Contains (above number (last_number number c (take n updates)) updates) e → ⊥
      beyond rest = let past = ltb-true _ e.0 ((Contains-filter (λ f. nat_lt (last_number number c (take n updates)) f.0) updates e).0 rest).1 in omega (arith, past, le)

  last-rows : (low : ℕ) (es : List Update) → last_seq_of low (map (row style) es) ≡ last_number number low es
  last-rows low [] = refl
  last-rows low (e ∷ es) = last-rows e.0 es

  rows-first : (n : ℕ) → take n (rows_since wanted d c style) ≡ map (row style) (take n updates)
  rows-first n = take-map (row style) n updates

  last-first : (n : ℕ) → last_seq_of c (take n (rows_since wanted d c style)) ≡ last_number number c (take n updates)
  last-first n = ap (last_seq_of c) (rows-first n) ∙ last-rows c (take n updates)

  -- the cursor moves on, and not past the update number
  pub cursor_rises : (n : ℕ) → c ≤ last_seq_of c (take n (rows_since wanted d c style))
  cursor_rises n = omega (arith, last-first n, last_number-le number c n updates (above_since wanted d c))

  pub cursor_within : (n : ℕ) → IsNumbered d → c ≤ d.update_seq → last_seq_of c (take n (rows_since wanted d c style)) ≤ d.update_seq
  cursor_within n num le =
      let within = All-filter (λ e. nat_lt c e.0 && wanted e.1.0) (λ e. e.0 ≤ d.update_seq) (by_seq d) (numbers_within d num) in
      omega (arith, last-first n, last_number-most number c d.update_seq n updates le within)

  -- ---- a map and the first rows

  module _ (m : Map names Row) (s n : ℕ) (num : IsNumbered d) (right : IsRightFeed wanted style m s c d) where
    abbrev Right : List Row → ℕ → Type 0
    Right rows upto = IsRightFeed wanted style (fed m rows) s upto d

    -- up to the last of them
    pub IsRightFeed-first : Right (take n (rows_since wanted d c style)) (last_seq_of c (take n (rows_since wanted d c style)))
    IsRightFeed-first =
        let upto = last_number number c (take n updates) in
        let fits = IsRightFeed-fed style d wanted m s c upto (take n updates) (All-take (IsListed d) n updates (all_listed wanted d c)) (λ id r has w less le. among_first n (update_of id r) (each_listed wanted d c num id r has w less) le) right in
        subst (Right (take n (rows_since wanted d c style))) (sym (last-first n)) (subst (λ rows. Right rows upto) (sym (rows-first n)) fits)

    -- and where these are all, up to the update number
    pub IsRightFeed-all : length (rows_since wanted d c style) ≤ n → Right (take n (rows_since wanted d c style)) d.update_seq
    IsRightFeed-all le =
        let whole = take_all n updates (omega (arith, length-map updates (row style), le)) in
        let fits = IsRightFeed-fed style d wanted m s c d.update_seq (take n updates) (All-take (IsListed d) n updates (all_listed wanted d c)) (λ id r has w less _. subst (λ es. Contains es (update_of id r)) (sym whole) (each_listed wanted d c num id r has w less)) right in
        subst (λ rows. Right rows d.update_seq) (sym (rows-first n)) fits
