-- No session's place goes back: the places of its completed calls, and then its view, never fall.
use Rattle.std.specs.Prelude.{◌≡◌, ℕ, ◌+◌, ◌≤◌, true, false, List, [], ◌∷◌, ◌++◌, length, Some, None, refl}
use Rattle.std.specs.List.{cons_option}
use Rattle.std.proofs.Common.{sym, ap, subst, ◌∙◌, arith, length-append}
use Rattle.std.proofs.lemmas.Bool.{or_parts, cond-true, cond-false}
use Rattle.std.proofs.lemmas.List.{append-nil}
use Rattle.std.proofs.lemmas.List.Elements.{filter_map-append}
use Rattle.model.specs.Map.{Map, same_key-equal}
use Rattle.model.specs.Command.{numbers, Job}
use Rattle.model.specs.Query.{Query}
use Rattle.model.specs.Database.{Database}
use Rattle.model.specs.History.{entry_of}
use Rattle.model.specs.World.{Config, Event, Completed, WroteAt, View, World, OpenCopy, place_in, database_of, commit, commit_all, put_batch, give_up, abort, start_world, step, run}
use Rattle.model.specs.Told.{place_for, places_of, NoneFalls}
use Rattle.model.proofs.ListLaws.{by_cases}
use Rattle.model.proofs.ViewLaws.{same, has_job, place-own, place-rises, place-at, place-all_at, place-all_freed}
use Rattle.model.proofs.EventLaws.{asked, looked, answered, started, last_job, swapped, Change, none, asks, takes, puts, gives_up, looks, reads, starts, goes_on, aborts, swaps, change-step}
use Rattle.model.proofs.RunLaws.{IsRunning, IsRunning-start, IsRunning-step}

-- ---- numbers that never fall

NoneFalls-front : (low : ℕ) (ps qs : List ℕ) → NoneFalls low (ps ++ qs) → NoneFalls low ps
NoneFalls-front low [] qs h = tt
NoneFalls-front low (p ∷ ps) qs h = (h.0, NoneFalls-front p ps qs h.1)

-- the last may be greater
NoneFalls-raise : (low : ℕ) (ps : List ℕ) (m n : ℕ) → m ≤ n → NoneFalls low (ps ++ m ∷ []) → NoneFalls low (ps ++ n ∷ [])
NoneFalls-raise low [] m n le h = (omega (arith, h.0), tt)
NoneFalls-raise low (p ∷ ps) m n le h = (h.0, NoneFalls-raise p ps m n le h.1)

-- and come twice
NoneFalls-again : (low : ℕ) (ps : List ℕ) (n : ℕ) → NoneFalls low (ps ++ n ∷ []) → NoneFalls low ((ps ++ n ∷ []) ++ n ∷ [])
NoneFalls-again low [] n h = (h.0, (omega arith, tt))
NoneFalls-again low (p ∷ ps) n h = (h.0, NoneFalls-again p ps n h.1)

module _ (base : Database) (s : ℕ) where
  -- the places so far, and n after them
  abbrev UpTo : ℕ → List Completed → Type 0
  UpTo n cs = NoneFalls 0 (places_of s cs ++ n ∷ [])

  places-own : (cs : List Completed) (c : Completed) (p : ℕ) → place_for s c ≡ Some p → places_of s (cs ++ c ∷ []) ≡ places_of s cs ++ p ∷ []
  places-own cs c p is = filter_map-append (place_for s) cs (c ∷ []) ∙ ap (λ o. places_of s cs ++ cons_option o []) is

  places-other : (cs : List Completed) (c : Completed) → place_for s c ≡ None → places_of s (cs ++ c ∷ []) ≡ places_of s cs
  places-other cs c is = filter_map-append (place_for s) cs (c ∷ []) ∙ ap (λ o. places_of s cs ++ cons_option o []) is ∙ append-nil (places_of s cs)

  -- one more call, at a place that has been reached
  UpTo-own : (cs : List Completed) (c : Completed) (m n : ℕ) → place_for s c ≡ Some n → m ≤ n → UpTo m cs → UpTo n (cs ++ c ∷ [])
  UpTo-own cs c m n is le h = subst (λ ps. NoneFalls 0 (ps ++ n ∷ [])) (sym (places-own cs c n is)) (NoneFalls-again 0 (places_of s cs) n (NoneFalls-raise 0 (places_of s cs) m n le h))

  UpTo-other : (cs : List Completed) (c : Completed) (m n : ℕ) → place_for s c ≡ None → m ≤ n → UpTo m cs → UpTo n (cs ++ c ∷ [])
  UpTo-other cs c m n is le h = subst (λ ps. NoneFalls 0 (ps ++ n ∷ [])) (sym (places-other cs c is)) (NoneFalls-raise 0 (places_of s cs) m n le h)

  -- ---- entries

  UpTo-commit : (w : World) (j : Job) → UpTo (length w.history) w.completed → UpTo (length (commit base w j).history) (commit base w j).completed
  UpTo-commit w j h =
      let e = entry_of (database_of base w) j.seat j.command in
      let c = WroteAt j.seat j.command (length w.history + 1) e.reply in
      subst (λ n. UpTo n (w.completed ++ c ∷ [])) (sym (length-append w.history (e ∷ []))) (by_cases (same s j.seat.session)
      (λ t. UpTo-own w.completed c (length w.history) (length w.history + 1) (cond-true _ _ _ t) (omega arith) h)
      (λ f. UpTo-other w.completed c (length w.history) (length w.history + 1) (cond-false _ _ _ f) (omega arith) h))

  UpTo-commit_all : (w : World) (js : List Job) → UpTo (length w.history) w.completed → UpTo (length (commit_all base w js).history) (commit_all base w js).completed
  UpTo-commit_all w [] h = h
  UpTo-commit_all w (j ∷ js) h = UpTo-commit_all (commit base w j) js (UpTo-commit w j h)

  places-commit_all : (w : World) (js : List Job) → has_job js s ≡ false → places_of s (commit_all base w js).completed ≡ places_of s w.completed
  places-commit_all w [] f = refl
  places-commit_all w (j ∷ js) f = let p = or_parts _ _ f in places-commit_all (commit base w j) js p.1 ∙ places-other w.completed _ (cond-false _ _ _ p.0)

  -- ---- each change

  abbrev IsPlaced : World → Type 0
  IsPlaced w = UpTo (place_in w.views s) w.completed

  raised : (w : World) (vs : Map numbers View) → place_in w.views s ≤ place_in vs s → IsPlaced w → UpTo (place_in vs s) w.completed
  raised w vs le h = NoneFalls-raise 0 (places_of s w.completed) _ _ le h

  put_placed : (w : World) → IsRunning base w → IsPlaced w → IsPlaced (put_batch base w)
  put_placed w r h =
      let after = commit_all base w w.batch in
      by_cases (has_job w.batch s)
      (λ t. subst (λ n. UpTo n after.completed) (sym (place-at w.views (length after.history) w.batch s t)) (UpTo-commit_all w w.batch (NoneFalls-raise 0 (places_of s w.completed) _ _ (r.seen s) h)))
      (λ f. subst (λ n. UpTo n after.completed) (sym (place-all_at w.views (length after.history) w.batch s f)) (subst (λ ps. NoneFalls 0 (ps ++ place_in w.views s ∷ [])) (sym (places-commit_all w w.batch f)) h))

  answered_placed : (w : World) (q : ℕ) (query : Query) → IsPlaced w → IsPlaced (answered base w q query)
  answered_placed w q query h = by_cases (same s q)
      (λ t. UpTo-own w.completed _ (place_in w.views s) (place_in w.views s) (cond-true _ _ _ t ∙ ap (λ x. Some (place_in w.views x)) (sym (same_key-equal numbers s q t))) (omega arith) h)
      (λ f. UpTo-other w.completed _ (place_in w.views s) (place_in w.views s) (cond-false _ _ _ f) (omega arith) h)

  swapped_placed : (w : World) (k : OpenCopy) → IsRunning base w → IsPlaced w → IsPlaced (swapped base w k)
  swapped_placed w k r h =
      let place = length w.history + 1 in
      let done = (commit base w (last_job base w k)).completed in
      by_cases (same s k.session)
      (λ t. subst (λ n. UpTo n done) (sym (place-own w.views k.session place true s t)) (UpTo-own w.completed _ (place_in w.views s) place (cond-true _ _ _ t) (omega (arith, r.seen s)) h))
      (λ f. UpTo-other w.completed _ (place_in w.views s) _ (cond-false _ _ _ f) (place-rises w.views k.session place true s (omega (arith, r.seen k.session))) h)

  IsPlaced-change : (w u : World) → Change base w u → IsRunning base w → IsPlaced w → IsPlaced u
  IsPlaced-change w _ (none _) r h = h
  IsPlaced-change w _ (asks _ q command free) r h = raised w (asked base w q command).views (place-rises w.views q _ false s (omega arith)) h
  IsPlaced-change w _ (takes _ n e) r h = h
  IsPlaced-change w _ (puts _) r h = put_placed w r h
  IsPlaced-change w _ (gives_up _) r h = raised w (give_up base w).views (omega (arith, place-all_freed w.views w.batch s)) h
  IsPlaced-change w _ (looks _ q free) r h = raised w (looked base w q).views (place-rises w.views q _ true s (r.seen q)) h
  IsPlaced-change w _ (reads _ q query) r h = answered_placed w q query h
  IsPlaced-change w _ (starts _ k free) r h = raised w (started base w k).views (place-rises w.views k.session _ false s (omega arith)) h
  IsPlaced-change w _ (goes_on _ k l is one) r h = h
  IsPlaced-change w _ (aborts _ k is) r h = raised w (abort base w k).views (place-rises w.views k.session _ true s (omega arith)) h
  IsPlaced-change w _ (swaps _ k is) r h = swapped_placed w k r h

  IsPlaced-run : (c : Config) (w : World) (es : List Event) → IsRunning base w → IsPlaced w → IsPlaced (run base c w es)
  IsPlaced-run c w [] r h = h
  IsPlaced-run c w (e ∷ es) r h = IsPlaced-run c (step base c w e) es (IsRunning-step base c w e r) (IsPlaced-change w (step base c w e) (change-step base c w e) r h)

  pub places_never_fall : (c : Config) (es : List Event) → NoneFalls 0 (places_of s (run base c (start_world c) es).completed)
  places_never_fall c es = NoneFalls-front 0 _ _ (IsPlaced-run c (start_world c) es (IsRunning-start base c) (omega arith, tt))
