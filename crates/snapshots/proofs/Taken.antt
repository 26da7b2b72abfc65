-- Taking the strips of documents over, one after another.
use Rattle.std.specs.Prelude.{◌≡◌, ◌<◌, ◌≤◌, ◌||◌, ℕ, length, Bool, true, false, cond, List, [], ◌∷◌, ◌++◌, map, Option, Some, None, option_map, refl}
use Rattle.std.specs.List.{list_any}
use Rattle.std.specs.Cmp.{eq_by_cmp_equiv}
use Rattle.std.proofs.Common.{sym, ap, subst, ◌∙◌, ◌⊎◌, inl, inr, arith, get_or}
use Rattle.std.proofs.lemmas.List.{map-append}
use Rattle.std.proofs.lemmas.Option.{none-some}
use Rattle.std.proofs.lemmas.Map.Views.{list_any-from_Contains}
use Rattle.model.specs.Map.{Map, empty, entries, get, put, without, refine, same_key, same_key-equal, same_map}
use Rattle.model.specs.Command.{Id, names}
use Rattle.model.specs.Database.{Database, Record, IsNumbered, stripped}
use Rattle.model.specs.Compaction.{strip_at, taken_over}
use Rattle.model.proofs.ListLaws.{by_cases, Contains-map}
use Rattle.model.proofs.MapLaws.{Contains-entries, get-refine_all}
use Rattle.model.proofs.LookupLaws.{get-put_same, get-put_other, get-without_same, get-without_other, put-cases, without-some}
use Rattle.model.proofs.LastLaws.{Lasts, Lasts-before}
use Rattle.snapshots.specs.Listing.{IsFree}
use Rattle.snapshots.specs.Taken.{put_or_not, taken_one, taken_all, ids_of, IsCoherent}

-- ---- what is there after some were taken over

module _ (docs : Map names Record) (id : Id) (q : Id) where
  taken_there : (o : Option Record) → same_key names q id ≡ true → get (put_or_not docs id o) q ≡ o
  taken_there None same = get-without_same docs id q same
  taken_there (Some r) same = get-put_same docs id r q same

  taken_elsewhere : (o : Option Record) → same_key names q id ≡ false → get (put_or_not docs id o) q ≡ get docs q
  taken_elsewhere None other = get-without_other docs id q other
  taken_elsewhere (Some r) other = get-put_other docs id r q other

get-taken_one : (docs : Map names Record) (d : Database) (id q : Id) → get (taken_one docs d id) q ≡ cond (same_key names q id) (strip_at d q) (get docs q)
get-taken_one docs d id q = by_cases (same_key names q id)
    (λ same. taken_there docs id q (strip_at d id) same ∙ ap (strip_at d) (sym (same_key-equal names q id same)) ∙ sym (ap (λ b. cond b (strip_at d q) (get docs q)) same))
    (λ other. taken_elsewhere docs id q (strip_at d id) other ∙ sym (ap (λ b. cond b (strip_at d q) (get docs q)) other))

pub get-taken_all : (docs : Map names Record) (d : Database) (ids : List Id) (q : Id) → get (taken_all docs d ids) q ≡ taken_over (get docs) d ids q
get-taken_all docs d [] q = refl
get-taken_all docs d (id ∷ ids) q =
    get-taken_all (taken_one docs d id) d ids q
    ∙ ap (cond (list_any (same_key names q) ids) (strip_at d q)) (get-taken_one docs d id q)
    ∙ either (same_key names q id) (list_any (same_key names q) ids)
  where
    either : (a b : Bool) → cond b (strip_at d q) (cond a (strip_at d q) (get docs q)) ≡ cond (a || b) (strip_at d q) (get docs q)
    either true true = refl
    either true false = refl
    either false true = refl
    either false false = refl

pub taken_all-push : (docs : Map names Record) (d : Database) (ids : List Id) (id : Id) → taken_all docs d (ids ++ id ∷ []) ≡ taken_one (taken_all docs d ids) d id
taken_all-push docs d [] id = refl
taken_all-push docs d (i ∷ ids) id = taken_all-push (taken_one docs d i) d ids id

pub taken_all-append : (docs : Map names Record) (d : Database) (ids more : List Id) → taken_all docs d (ids ++ more) ≡ taken_all (taken_all docs d ids) d more
taken_all-append docs d [] more = refl
taken_all-append docs d (i ∷ ids) more = taken_all-append (taken_one docs d i) d ids more

-- of a document that is there
pub taken-there : (docs : Map names Record) (d : Database) (id : Id) (r : Record) → get d.docs id ≡ Some r → taken_one docs d id ≡ put docs id (stripped r)
taken-there docs d id r is = ap (λ o. put_or_not docs id (option_map stripped o)) is

pub taken-gone : (docs : Map names Record) (d : Database) (id : Id) → get d.docs id ≡ None → taken_one docs d id ≡ without docs id
taken-gone docs d id is = ap (λ o. put_or_not docs id (option_map stripped o)) is

-- all documents taken over are all of their strips
pub taken-each : (d : Database) → taken_all empty d (ids_of d.docs) ≡ refine (λ id r. Some (stripped r)) d.docs
taken-each d = same_map {O = names} (taken_all empty d (ids_of d.docs)) (refine (λ id r. Some (stripped r)) d.docs) (λ q.
    get-taken_all empty d (ids_of d.docs) q ∙ at q (get d.docs q) refl ∙ sym (get-refine_all (λ _ r. stripped r) d.docs q))
  where
    at : (q : Id) (o : Option Record) → get d.docs q ≡ o → taken_over (get {O = names} {X = Record} empty) d (ids_of d.docs) q ≡ option_map stripped (get d.docs q)
    at q None is = by_cases (list_any (same_key names q) (ids_of d.docs))
        (λ t. ap (λ b. cond b (strip_at d q) None) t)
        (λ f. ap (λ b. cond b (strip_at d q) None) f ∙ sym (ap (option_map stripped) is))
    at q (Some r) is =
        let listed = Contains-map (λ (e : Id × Record). e.0) (entries d.docs) (q, r) ((Contains-entries names d.docs q r).1 is) in
        ap (λ b. cond b (strip_at d q) None) (list_any-from_Contains (eq_by_cmp_equiv names.total) q (ids_of d.docs) listed)

-- ---- numbers

pub IsCoherent-empty : (d : Database) → IsCoherent empty d
IsCoherent-empty d = record { within = λ id r e. absurd (none-some r e); own = λ id other r s e f same. absurd (none-some r e) }

pub IsCoherent-later : (docs : Map names Record) (d e : Database) → Lasts d e → IsCoherent docs d → IsCoherent docs e
IsCoherent-later docs d e last h = record {
  within = λ id r has. let w = h.within id r has in (w.0, omega (arith, w.1, last.updates));
  own = λ id other r s has there same.
      let w = h.within id r has in
      let b = Lasts-before d e other s last there (omega (arith, w.1, same)) in
      h.own id other r b.was has b.has (ap (λ (x : Record). x.seq) b.same ∙ same);
}

module _ (docs : Map names Record) (d : Database) (h : IsCoherent docs d) (num : IsNumbered d) (id : Id) where
  pub free-there : (r : Record) → get d.docs id ≡ Some r → IsFree docs id r.seq
  free-there r there other s has same = sym (h.own other id s r has there (sym same))

  abbrev NewOrOld : Record → Id → Record → Type 0
  NewOrOld n a r = ((a ≡ id) × (stripped n ≡ r)) ⊎ (get docs a ≡ Some r)

  of_taken : (o : Option Record) → get d.docs id ≡ o → IsCoherent (put_or_not docs id (option_map stripped o)) d
  of_taken None is = record {
    within = λ a r e. h.within a r (without-some docs id a r e);
    own = λ a b r s e f same. h.own a b r s (without-some docs id a r e) f same;
  }
  of_taken (Some n) is = record { within = λ a r e. within a r (put-cases docs id (stripped n) a r e); own = λ a b r s e f same. own a b r s (put-cases docs id (stripped n) a r e) f same }
    where
      within : (a : Id) (r : Record) → NewOrOld n a r → (0 < r.seq) × (r.seq ≤ d.update_seq)
      within a r (inl new) = let w = num.within id n is in let m = ap (λ (x : Record). x.seq) new.1 in (omega (arith, w.0), omega (arith, w.1))
      within a r (inr old) = h.within a r old

      own : (a b : Id) (r s : Record) → NewOrOld n a r → get d.docs b ≡ Some s → s.seq ≡ r.seq → b ≡ a
      own a b r s (inl new) there same = num.distinct b id s n there is (same ∙ sym (ap (λ (x : Record). x.seq) new.1)) ∙ sym new.0
      own a b r s (inr old) there same = h.own a b r s old there same

  pub IsCoherent-taken : IsCoherent (taken_one docs d id) d
  IsCoherent-taken = of_taken (get d.docs id) refl

-- ---- a walk over records

pub walked-there : (m : Map names Record) (e : Id × Record) (i : ℕ) → i < length (entries m) → e ≡ get_or (entries m) i e → get m e.0 ≡ Some e.1
walked-there m e i lt is = (Contains-entries names m e.0 e.1).0 (i, lt, sym is)

pub map-push : {A B C : Type 0} (g : B → C) (f : A → B) (xs : List A) (x : A) → map g (map f (xs ++ x ∷ [])) ≡ map g (map f xs) ++ g (f x) ∷ []
map-push g f xs x = ap (map g) (map-append f xs (x ∷ [])) ∙ map-append g (map f xs) (f x ∷ [])

module _ (docs later : Map names Record) (d : Database) (ids : List Id) (id : Id) (r : Record) (so_far : docs ≡ taken_all empty d ids) (there : get d.docs id ≡ Some r) (more : later ≡ put docs id (stripped r)) where
  pub taken-step : later ≡ taken_all empty d (ids ++ id ∷ [])
  taken-step = more ∙ sym (taken-there docs d id r there) ∙ ap (λ m. taken_one m d id) so_far ∙ sym (taken_all-push empty d ids id)

  pub IsCoherent-step : IsCoherent docs d → IsNumbered d → IsCoherent later d
  IsCoherent-step h num = subst (λ m. IsCoherent m d) (sym (more ∙ sym (taken-there docs d id r there))) (IsCoherent-taken docs d h num id)
