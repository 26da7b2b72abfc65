-- Jobs that are ready: each has its session's next call, for which the session waits, and no session has two.
use Rattle.std.specs.Prelude.{◌≡◌, ℕ, ◌+◌, Bool, true, false, ◌||◌, List, [], ◌∷◌, ◌++◌, ⊤, refl}
use Rattle.std.proofs.Common.{sym, ap, ◌∙◌}
use Rattle.std.proofs.lemmas.Bool.{false_from_ne_true, true≢false, false≢true, or_parts, or_from, or_right}
use Rattle.std.proofs.lemmas.List.Folds.{list_any-append}
use Rattle.model.specs.Map.{Map, same_key-equal, same_key_itself}
use Rattle.model.specs.Command.{numbers, Job}
use Rattle.model.specs.Database.{Database, act, calls_of}
use Rattle.model.specs.World.{View, free_in, viewing}
use Rattle.model.proofs.ListLaws.{by_cases}
use Rattle.model.proofs.CallLaws.{calls-other}
use Rattle.model.proofs.ViewLaws.{same, has_job, free-other}

abbrev pub AreReady : Database → Map numbers View → List Job → Type 0
AreReady d views [] = ⊤
AreReady d views (j ∷ js) = (j.seat.call ≡ calls_of d j.seat.session + 1) × (free_in views j.seat.session ≡ false) × (has_job js j.seat.session ≡ false) × AreReady d views js

-- ---- sessions with a job

pub has_job-append : (js ks : List Job) (s : ℕ) → has_job (js ++ ks) s ≡ (has_job js s || has_job ks s)
has_job-append js ks s = list_any-append (λ j. same s j.seat.session) js ks

pub same-apart : (a b : ℕ) → same a b ≡ false → same b a ≡ false
same-apart a b f = false_from_ne_true _ (λ t. false≢true (sym f ∙ ap (same a) (same_key-equal numbers b a t) ∙ same_key_itself numbers a))

-- a session with a job is none without one
pub jobs-apart : (js : List Job) (s q : ℕ) → has_job js s ≡ false → has_job js q ≡ true → same q s ≡ false
jobs-apart js s q none some = false_from_ne_true _ (λ t. true≢false (sym some ∙ ap (has_job js) (same_key-equal numbers q s t) ∙ none))

-- a busy session is no free one
pub views-apart : (vs : Map numbers View) (a b : ℕ) → free_in vs a ≡ false → free_in vs b ≡ true → same a b ≡ false
views-apart vs a b busy free = false_from_ne_true _ (λ t. true≢false (sym free ∙ ap (free_in vs) (sym (same_key-equal numbers a b t)) ∙ busy))

-- ---- what else may change

-- a session has the same number of calls, and is free or not as before
record SeenAlike (d e : Database) (vs us : Map numbers View) (s : ℕ) : Type 0 where
  calls : calls_of e s ≡ calls_of d s
  free : free_in us s ≡ free_in vs s

AreReady-alike : (d e : Database) (vs us : Map numbers View) (js : List Job) → ((s : ℕ) → has_job js s ≡ true → SeenAlike d e vs us s) → AreReady d vs js → AreReady e us js
AreReady-alike d e vs us [] alike r = tt
AreReady-alike d e vs us (j ∷ js) alike r =
    let own = alike j.seat.session (ap (λ b. b || has_job js j.seat.session) (same_key_itself numbers j.seat.session)) in
    (r.0 ∙ ap (λ n. n + 1) (sym own.calls), own.free ∙ r.1, r.2, AreReady-alike d e vs us js (λ s t. alike s (or_right _ _ t)) r.3)

-- other views of sessions with no job
pub AreReady-views : (d : Database) (vs us : Map numbers View) (js : List Job) → ((s : ℕ) → has_job js s ≡ true → free_in us s ≡ free_in vs s) → AreReady d vs js → AreReady d us js
AreReady-views d vs us js alike = AreReady-alike d d vs us js (λ s t. record { calls = refl; free = alike s t })

pub AreReady-viewing : (d : Database) (vs : Map numbers View) (js : List Job) (s place : ℕ) (free : Bool) → has_job js s ≡ false → AreReady d vs js → AreReady d (viewing vs s place free) js
AreReady-viewing d vs js s place free none = AreReady-views d vs (viewing vs s place free) js (λ q t. free-other vs s place free q (jobs-apart js s q none t))

-- ---- more jobs and fewer

pub busy_with_job : (d : Database) (vs : Map numbers View) (js : List Job) (s : ℕ) → AreReady d vs js → has_job js s ≡ true → free_in vs s ≡ false
busy_with_job d vs [] s r t = absurd (false≢true t)
busy_with_job d vs (j ∷ js) s r t = by_cases (same s j.seat.session)
    (λ own. ap (free_in vs) (same_key-equal numbers s j.seat.session own) ∙ r.1)
    (λ other. busy_with_job d vs js s r.3 (sym (ap (λ b. b || has_job js s) other) ∙ t))

pub none_when_free : (d : Database) (vs : Map numbers View) (js : List Job) (s : ℕ) → AreReady d vs js → free_in vs s ≡ true → has_job js s ≡ false
none_when_free d vs js s r free = false_from_ne_true _ (λ t. true≢false (sym free ∙ busy_with_job d vs js s r t))

pub AreReady-push : (d : Database) (vs : Map numbers View) (js : List Job) (j : Job) → AreReady d vs js → j.seat.call ≡ calls_of d j.seat.session + 1 → free_in vs j.seat.session ≡ false → has_job js j.seat.session ≡ false → AreReady d vs (js ++ j ∷ [])
AreReady-push d vs [] j r call busy none = (call, busy, refl, tt)
AreReady-push d vs (i ∷ js) j r call busy none =
    let p = or_parts _ _ none in
    (r.0, r.1, has_job-append js (j ∷ []) i.seat.session ∙ or_from _ _ r.2 (or_from _ _ (same-apart j.seat.session i.seat.session p.0) refl), AreReady-push d vs js j r.3 call busy p.1)

pub AreReady-rest : (d : Database) (vs : Map numbers View) (js ks : List Job) → AreReady d vs (js ++ ks) → AreReady d vs ks
AreReady-rest d vs [] ks r = r
AreReady-rest d vs (j ∷ js) ks r = AreReady-rest d vs js ks r.3

-- no session with a later job has an earlier one
pub has_job-apart : (d : Database) (vs : Map numbers View) (js ks : List Job) (s : ℕ) → AreReady d vs (js ++ ks) → has_job ks s ≡ true → has_job js s ≡ false
has_job-apart d vs [] ks s r t = refl
has_job-apart d vs (j ∷ js) ks s r t =
    let none = (or_parts _ _ (sym (has_job-append js ks j.seat.session) ∙ r.2)).1 in
    or_from _ _ (jobs-apart ks j.seat.session s none t) (has_job-apart d vs js ks s r.3 t)

-- the first job's entry leaves the others ready
pub AreReady-committed : (d : Database) (vs : Map numbers View) (j : Job) (js : List Job) → AreReady d vs (j ∷ js) → AreReady (act d j.seat j.command) vs js
AreReady-committed d vs j js r = AreReady-alike d (act d j.seat j.command) vs vs js (λ s t. record { calls = calls-other d j.seat j.command s (jobs-apart js j.seat.session s r.2 t); free = refl }) r.3
