-- The views of the sessions, as a list and as a map.
use Rattle.std.specs.Prelude.{◌≡◌, ℕ, zero, suc, ◌+◌, ◌<◌, Bool, true, false, List, [], ◌∷◌, length, map, replicate, slice_get, slice_set, All, Option, Some, None, option_map, unwrap_or, refl}
use Rattle.std.specs.List.{range_with_len}
use Rattle.std.proofs.Common.{sym, ap, subst, ◌∙◌, arith}
use Rattle.std.proofs.lemmas.Bool.{cond-true, cond-false, false_from_ne_true}
use Rattle.std.proofs.lemmas.List.{length-set}
use Rattle.std.proofs.lemmas.List.Elements.{All-set}
use Rattle.model.specs.Map.{Map, get, put, from_list, get-put, same_key-equal, same_key_itself}
use Rattle.model.specs.Command.{numbers, Job}
use Rattle.model.specs.History.{Chronicle}
use Rattle.model.specs.World.{Config, View, start_world, viewing, all_at, all_freed}
use Rattle.model.proofs.LookupLaws.{put_again}
use Rattle.model.proofs.ViewLaws.{same}
use Rattle.machine.specs.declared.views.SessionView.{SessionView}
use Rattle.machine.specs.declared.views.Seen.{Seen}
use Rattle.machine.specs.Views.{view_of, views_from, views_of, seeing, all_seeing, seen_by, freed_one, all_free}
use Rattle.machine.specs.States.{IsOfSession}
use Rattle.machine.proofs.PutTwice.{put_apart, put_alike, freed, freed_alike}

apart : (a b : ℕ) → a < b → same a b ≡ false
apart a b lt = false_from_ne_true _ (λ t. absurd (omega (arith, lt, same_key-equal numbers a b t)))

apart' : (a b : ℕ) → a < b → same b a ≡ false
apart' a b lt = false_from_ne_true _ (λ t. absurd (omega (arith, lt, same_key-equal numbers b a t)))

-- ---- one session's view

pub get-views_from : (vs : List SessionView) (n k q : ℕ) → q ≡ n + k → get (views_from n vs) q ≡ option_map view_of (slice_get vs k)
get-views_from [] n k q is = refl
get-views_from (v ∷ vs) n zero q is = get-put (views_from (n + 1) vs) n (view_of v) q ∙ cond-true _ _ _ (ap (same q) (omega (arith, is)) ∙ same_key_itself numbers q)
get-views_from (v ∷ vs) n (suc k) q is =
    get-put (views_from (n + 1) vs) n (view_of v) q ∙ cond-false _ _ _ (apart' n q (omega (arith, is))) ∙ get-views_from vs (n + 1) k q (omega (arith, is))

pub get-views_of : (vs : List SessionView) (q : ℕ) → get (views_of vs) q ≡ option_map view_of (slice_get vs q)
get-views_of vs q = get-views_from vs 0 q q (omega arith)

views_from-set : (vs : List SessionView) (n s q : ℕ) (v : SessionView) → q ≡ n + s → s < length vs → views_from n (slice_set vs s v) ≡ put (views_from n vs) q (view_of v)
views_from-set [] n s q v is lt = absurd (omega (arith, lt))
views_from-set (x ∷ vs) n zero q v is lt = sym (ap (λ k. put (put (views_from (n + 1) vs) n (view_of x)) k (view_of v)) (omega (arith, is)) ∙ put_again (views_from (n + 1) vs) n (view_of x) (view_of v))
views_from-set (x ∷ vs) n (suc s) q v is lt =
    ap (λ m. put m n (view_of x)) (views_from-set vs (n + 1) s q v (omega (arith, is)) (omega (arith, lt)))
    ∙ put_apart (views_from (n + 1) vs) q n (view_of v) (view_of x) (apart n q (omega (arith, is)))

pub views_of-set : (vs : List SessionView) (s : ℕ) (v : SessionView) → s < length vs → views_of (slice_set vs s v) ≡ put (views_of vs) s (view_of v)
views_of-set vs s v = views_from-set vs 0 s s v (omega arith)

-- ---- sessions see a version

pub length-seeing : (vs : List SessionView) (s : Seen) → length (seeing vs s) ≡ length vs
length-seeing vs s = length-set vs s.session _

pub length-all_seeing : (vs : List SessionView) (ss : List Seen) → length (all_seeing vs ss) ≡ length vs
length-all_seeing vs [] = refl
length-all_seeing vs (s ∷ ss) = length-all_seeing (seeing vs s) ss ∙ length-seeing vs s

pub views_of-seeing : (vs : List SessionView) (session : ℕ) (c : Chronicle) → session < length vs → views_of (seeing vs (record { session = session; version = c })) ≡ viewing (views_of vs) session (length c.entries) true
views_of-seeing vs session c lt = views_of-set vs session _ lt

all_at-viewing : (m : Map numbers View) (place : ℕ) (js : List Job) (s : ℕ) → all_at (viewing m s place true) place js ≡ viewing (all_at m place js) s place true
all_at-viewing m place [] s = refl
all_at-viewing m place (j ∷ js) s = ap (λ n. viewing n j.seat.session place true) (all_at-viewing m place js s) ∙ put_alike (all_at m place js) s j.seat.session _

All-head : {X : Type 0} (P : X → Type 0) (x : X) (xs : List X) → All P (x ∷ xs) → P x
All-head P x xs all = all zero x (omega arith)

pub All-tail : {X : Type 0} (P : X → Type 0) (x : X) (xs : List X) → All P (x ∷ xs) → All P xs
All-tail P x xs all = λ k d lt. all (suc k) d (omega (arith, lt))

pub views_of-all_seeing : (vs : List SessionView) (c : Chronicle) (js : List Job) → All (IsOfSession (length vs)) js → views_of (all_seeing vs (seen_by c js)) ≡ all_at (views_of vs) (length c.entries) js
views_of-all_seeing vs c [] all = refl
views_of-all_seeing vs c (j ∷ js) all =
    let one : Seen = record { session = j.seat.session; version = c } in
    views_of-all_seeing (seeing vs one) c js (subst (λ n. All (IsOfSession n) js) (sym (length-seeing vs one)) (All-tail (IsOfSession (length vs)) j js all))
    ∙ ap (λ m. all_at m (length c.entries) js) (views_of-seeing vs j.seat.session c (All-head (IsOfSession (length vs)) j js all))
    ∙ all_at-viewing (views_of vs) (length c.entries) js j.seat.session

pub All-seeing : (P : SessionView → Type 0) (vs : List SessionView) (s : Seen) → P (record { version = s.version; free = true }) → All P vs → All P (seeing vs s)
All-seeing P vs s p all = All-set P vs s.session _ p all

pub All-all_seeing : (P : SessionView → Type 0) (vs : List SessionView) (c : Chronicle) (js : List Job) → P (record { version = c; free = true }) → All P vs → All P (all_seeing vs (seen_by c js))
All-all_seeing P vs c [] p all = all
All-all_seeing P vs c (j ∷ js) p all = let one : Seen = record { session = j.seat.session; version = c } in All-all_seeing P (seeing vs one) c js p (All-seeing P vs one p all)

-- ---- sessions are free or not

module _ (vs : List SessionView) (s : ℕ) (free : Bool) where
  as_found : (o : Option SessionView) → slice_get vs s ≡ o → length (unwrap_or (option_map (λ v. slice_set vs s (record { version = v.version; free = free })) o) vs) ≡ length vs
  as_found None is = refl
  as_found (Some v) is = length-set vs s _

  pub length-freed_one : length (freed_one vs s free) ≡ length vs
  length-freed_one = as_found (slice_get vs s) refl

  from_found : s < length vs → (o : Option SessionView) → slice_get vs s ≡ o → views_of (unwrap_or (option_map (λ v. slice_set vs s (record { version = v.version; free = free })) o) vs) ≡ freed (views_of vs) s free
  from_found lt None is = absurd (within vs s lt is)
    where
      within : (xs : List SessionView) (k : ℕ) → k < length xs → slice_get xs k ≡ None → ⊥
      within [] k lt none = omega (arith, lt)
      within (x ∷ xs) zero lt none = some_none x (sym none)
        where
          some_none : (y : SessionView) → None ≡ Some y → ⊥
          some_none y e = cc
      within (x ∷ xs) (suc k) lt none = within xs k (omega (arith, lt)) none
  from_found lt (Some v) is =
      views_of-set vs s _ lt ∙ ap (λ p. viewing (views_of vs) s p free) (sym (ap (λ o. unwrap_or (option_map (λ w. w.place) o) 0) (get-views_of vs s ∙ ap (option_map view_of) is)))

  pub views_of-freed_one : s < length vs → views_of (freed_one vs s free) ≡ freed (views_of vs) s free
  views_of-freed_one lt = from_found lt (slice_get vs s) refl

  kept_found : (P : Chronicle → Type 0) → All (λ v. P v.version) vs → (o : Option SessionView) → slice_get vs s ≡ o → All (λ v. P v.version) (unwrap_or (option_map (λ v. slice_set vs s (record { version = v.version; free = free })) o) vs)
  kept_found P all None is = all
  kept_found P all (Some v) is = All-set (λ v. P v.version) vs s _ (at vs s all is) all
    where
      at : (xs : List SessionView) (k : ℕ) → All (λ v. P v.version) xs → slice_get xs k ≡ Some v → P v.version
      at [] k all e = absurd (cc)
      at (x ∷ xs) zero all e = subst (λ o. P (unwrap_or o x).version) e (All-head (λ v. P v.version) x xs all)
      at (x ∷ xs) (suc k) all e = at xs k (All-tail (λ v. P v.version) x xs all) e

  pub All-freed_one : (P : Chronicle → Type 0) → All (λ v. P v.version) vs → All (λ v. P v.version) (freed_one vs s free)
  All-freed_one P all = kept_found P all (slice_get vs s) refl

pub length-all_free : (vs : List SessionView) (js : List Job) → length (all_free vs js) ≡ length vs
length-all_free vs [] = refl
length-all_free vs (j ∷ js) = length-all_free (freed_one vs j.seat.session true) js ∙ length-freed_one vs j.seat.session true

pub All-all_free : (P : Chronicle → Type 0) (vs : List SessionView) (js : List Job) → All (λ v. P v.version) vs → All (λ v. P v.version) (all_free vs js)
All-all_free P vs [] all = all
All-all_free P vs (j ∷ js) all = All-all_free P (freed_one vs j.seat.session true) js (All-freed_one vs j.seat.session true P all)

all_freed-freed : (m : Map numbers View) (js : List Job) (s : ℕ) → all_freed (freed m s true) js ≡ freed (all_freed m js) s true
all_freed-freed m [] s = refl
all_freed-freed m (j ∷ js) s = ap (λ n. freed n j.seat.session true) (all_freed-freed m js s) ∙ freed_alike (all_freed m js) s j.seat.session true

pub views_of-all_free : (vs : List SessionView) (js : List Job) → All (IsOfSession (length vs)) js → views_of (all_free vs js) ≡ all_freed (views_of vs) js
views_of-all_free vs [] all = refl
views_of-all_free vs (j ∷ js) all =
    views_of-all_free (freed_one vs j.seat.session true) js (subst (λ n. All (IsOfSession n) js) (sym (length-freed_one vs j.seat.session true)) (All-tail (IsOfSession (length vs)) j js all))
    ∙ ap (λ m. all_freed m js) (views_of-freed_one vs j.seat.session true (All-head (IsOfSession (length vs)) j js all))
    ∙ all_freed-freed (views_of vs) js j.seat.session

-- ---- the first views

first_from : (k n : ℕ) (c : Chronicle) → length c.entries ≡ 0 → views_from k (replicate n (record { version = c; free = true })) ≡ from_list {O = numbers} (map (λ s. (s, record { place = 0; free = true })) (range_with_len k n))
first_from k zero c none = refl
first_from k (suc n) c none =
    ap (λ m. put m k (record { place = length c.entries; free = true })) (first_from (k + 1) n c none)
    ∙ ap (λ p. put (from_list {O = numbers} (map (λ s. (s, record { place = 0; free = true })) (range_with_len (k + 1) n))) k (record { place = p; free = true })) none

pub first_views_of : (config : Config) (c : Chronicle) → length c.entries ≡ 0 → views_of (replicate config.sessions (record { version = c; free = true })) ≡ (start_world config).views
first_views_of config c none = first_from 0 config.sessions c none
