-- Of the documents that are wanted is what a readable page, a readable difference and a readable answer bring.
use Rattle.std.proofs.Common.{◌≡◌, ℕ, zero, suc, ◌+◌, ◌<◌, List, [], ◌∷◌, ◌++◌, length, take, drop, map, refl, ap, sym, subst, ◌∙◌, arith, Bool, true, false, cond}
use Rattle.std.specs.Prelude.{All, ◌&&◌, nat_le, Option, None, Some, unwrap_or, Result, Ok, Err}
use Rattle.std.specs.List.{fold, list_all, list_any, prefix_len, take_while}
use Rattle.std.proofs.lemmas.List.Elements.{All-append, All-cons, All-drop, All-head, All-map, All-nil}
use Rattle.model.specs.Map.{Map, empty, entries, get, get-put, same_key, same_key-equal}
use Rattle.model.specs.Command.{Id, Merge, names}
use Rattle.model.specs.Query.{ChangesPage, Difference, Row}
use Rattle.model.specs.Revision.{Rev}
use Rattle.replicator.specs.Asked.{Asked, asked_in, revs_asked, with_row}
use Rattle.replicator.specs.Due.{AsksNext}
use Rattle.replicator.specs.Readable.{are_wanted, asked_about, is_among, is_of, is_readable_difference, is_readable_opened, is_readable_page, last_number, rises_above, tells_of}
use Rattle.replicator.specs.Stage.{Pass}
use Rattle.replicator.specs.Wanted.{given_in, max_revs, wanted_in}

both-true : (a b : Bool) → (a && b) ≡ true → (a ≡ true) × (b ≡ true)
both-true true b e = (refl, e)
both-true false b e = absurd (cc)

last-true : (a b c d : Bool) → (a && b && c && d) ≡ true → d ≡ true
last-true true true true d e = e
last-true true true false d e = absurd (cc)
last-true true false c d e = absurd (cc)
last-true false b c d e = absurd (cc)

any-some : {X : Type 0} (p : X → Bool) (xs : List X) → list_any p xs ≡ true → 0 < length xs
any-some p [] e = absurd (cc)
any-some p (x ∷ xs) e = omega arith

every : {X : Type 0} (P : X → Type 0) → ((x : X) → P x) → (xs : List X) → All P xs
every P holds [] = All-nil P
every P holds (x ∷ xs) = All-cons P x xs (holds x) (every P holds xs)

module _ (wanted : Id → Bool) where
  -- ---- what is asked of the rows

  -- each document of which revisions are asked about is wanted
  abbrev AsksWanted : Asked → Type 0
  AsksWanted asked = (id : Id) → 0 < length (revs_asked asked id) → wanted id ≡ true

  none-asked : AsksWanted (empty {O = names})
  none-asked id some = absurd (omega (arith, some))

  one-more : (asked : Asked) (row : Row) → AsksWanted asked → wanted row.id ≡ true → AsksWanted (with_row asked row)
  one-more asked row before here id some =
      let revs = revs_asked asked row.id ++ row.changes in
      elim (same_key names id row.id) as (λ b. same_key names id row.id ≡ b → 0 < length (unwrap_or (cond b (Some revs) (get {O = names} asked id)) []) → wanted id ≡ true) [
        | true ↦ λ same _. ap wanted (same_key-equal names id row.id same) ∙ here
        | false ↦ λ _ left. before id left
      ] refl (subst (λ (o : Option (List Rev)). 0 < length (unwrap_or o [])) (get-put {O = names} asked row.id revs id) some)

  rows-ask : (rows : List Row) (asked : Asked) → AsksWanted asked → list_all (λ row. wanted row.id) rows ≡ true → AsksWanted (fold with_row asked rows)
  rows-ask [] asked before all = before
  rows-ask (row ∷ rows) asked before all =
      let parts = both-true (wanted row.id) (list_all (λ r. wanted r.id) rows) all in
      rows-ask rows (with_row asked row) (one-more asked row before parts.0) parts.1

  -- ---- what the target lacks of that

  abbrev IsWantedRev : Id × Rev → Type 0
  IsWantedRev lacked = wanted lacked.0 ≡ true

  missing-wanted : (asked : Asked) (id : Id) (missing : List Rev) → AsksWanted asked → list_all (is_among (asked_about asked id)) missing ≡ true
      → All IsWantedRev (map (λ rev. (id, rev)) missing)
  missing-wanted asked id [] asks all = All-nil IsWantedRev
  missing-wanted asked id (rev ∷ revs) asks all =
      let first = both-true (is_among (asked_about asked id) rev) (list_all (is_among (asked_about asked id)) revs) all in
      let is_wanted : wanted id ≡ true = asks id (any-some _ (asked_about asked id) first.0) in
      All-map IsWantedRev (λ (r : Rev). (id, r)) (rev ∷ revs) (every (λ (r : Rev). wanted id ≡ true) (λ r. is_wanted) (rev ∷ revs))

  lacking-wanted : (asked : Asked) (ds : List (Id × Difference)) → AsksWanted asked
      → list_all (λ d. list_all (is_among (asked_about asked d.0)) d.1.missing) ds ≡ true → All IsWantedRev (wanted_in ds)
  lacking-wanted asked [] asks all = All-nil IsWantedRev
  lacking-wanted asked (d ∷ ds) asks all =
      let parts = both-true (list_all (is_among (asked_about asked d.0)) d.1.missing) (list_all (λ e. list_all (is_among (asked_about asked e.0)) e.1.missing) ds) all in
      All-append IsWantedRev (map (λ (rev : Rev). (d.0, rev)) d.1.missing) (wanted_in ds) (missing-wanted asked d.0 d.1.missing asks parts.0) (lacking-wanted asked ds asks parts.1)

  pub differences-wanted : (rows : List Row) (differences : Map names Difference) → list_all (λ row. wanted row.id) rows ≡ true
      → is_readable_difference (asked_in rows) differences ≡ true → All IsWantedRev (wanted_in (entries differences))
  differences-wanted rows differences all readable = lacking-wanted (asked_in rows) (entries differences) (rows-ask rows (empty {O = names}) none-asked all) readable

  -- ---- what is asked for next

  first-asked : (id : Id) (n : ℕ) (xs : List (Id × Rev)) → All IsWantedRev xs
      → 0 < length (map (λ w. w.1) (take_while (λ w. same_key names w.0 id) (take n xs))) → wanted id ≡ true
  first-asked id zero xs all some = absurd (omega (arith, some))
  first-asked id (suc n) [] all some = absurd (omega (arith, some))
  first-asked id (suc n) (x ∷ xs) all some =
      elim (same_key names x.0 id) as (λ b. same_key names x.0 id ≡ b
      → 0 < length (map (λ (w : Id × Rev). w.1) (take (cond b (1 + prefix_len (λ (w : Id × Rev). same_key names w.0 id) (take n xs)) 0) (x ∷ take n xs))) → wanted id ≡ true) [
        | true ↦ λ same _. ap wanted (sym (same_key-equal names x.0 id same)) ∙ All-head IsWantedRev x xs all
        | false ↦ λ _ none. absurd (omega (arith, none))
      ] refl some

  pub next-wanted : (p : Pass) (id : Id) (revs : List Rev) → AsksNext p id revs → All IsWantedRev (wanted_in (entries p.differences)) → wanted id ≡ true
  next-wanted p id revs asks all =
      first-asked id max_revs (drop p.asked (wanted_in (entries p.differences))) (All-drop IsWantedRev p.asked (wanted_in (entries p.differences)) all)
      (subst (λ (rs : List Rev). 0 < length rs) asks.next asks.some)

  -- ---- what is given for that

  abbrev IsWantedMerge : Merge → Type 0
  IsWantedMerge document = wanted document.id ≡ true

  given-wanted : (id : Id) (opened : List (Result Merge Rev)) → wanted id ≡ true → list_all (is_of id) opened ≡ true → All IsWantedMerge (given_in opened)
  given-wanted id [] is_wanted all = All-nil IsWantedMerge
  given-wanted id (Ok document ∷ opened) is_wanted all =
      let parts = both-true (same_key names document.id id) (list_all (is_of id) opened) all in
      All-cons IsWantedMerge document (given_in opened) (ap wanted (same_key-equal names document.id id parts.0) ∙ is_wanted) (given-wanted id opened is_wanted parts.1)
  given-wanted id (Err missing ∷ opened) is_wanted all = given-wanted id opened is_wanted all

  pub opened-wanted : (id : Id) (revs : List Rev) (opened : List (Result Merge Rev)) → wanted id ≡ true → is_readable_opened id revs opened ≡ true → All IsWantedMerge (given_in opened)
  opened-wanted id revs opened is_wanted readable =
      given-wanted id opened is_wanted (both-true (list_all (λ rev. list_any (tells_of rev) opened) revs) (list_all (is_of id) opened) readable).1

-- the rows of a readable page
pub page-wanted : (ids : Option (List Id)) (since limit : ℕ) (page : ChangesPage) → is_readable_page ids since limit page ≡ true → are_wanted ids page.rows ≡ true
page-wanted ids since limit page readable = last-true (rises_above since page.rows) (nat_le (length page.rows) limit) (nat_le (last_number since page.rows) page.last_seq) (are_wanted ids page.rows) readable

-- where none are named, each row is of a document that is wanted
pub all-wanted : (rows : List Row) → are_wanted None rows ≡ true
all-wanted [] = refl
all-wanted (row ∷ rows) = all-wanted rows
