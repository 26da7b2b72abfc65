-- What holds of a world after every list of events: its history is legal, records each completed call and holds no other entry.
use Rattle.std.specs.Prelude.{◌≡◌, ℕ, ◌+◌, ◌≤◌, true, false, List, [], ◌∷◌, ◌++◌, length, take, drop, filter_map, Some, refl}
use Rattle.std.proofs.Common.{sym, ap, subst, ◌∙◌, arith, append_assoc, length-append}
use Rattle.std.proofs.lemmas.Option.{none-some, same_Some}
use Rattle.std.proofs.lemmas.Bool.{or_parts, or_from}
use Rattle.std.proofs.lemmas.List.{append-nil, take-append-drop, nil_from_length}
use Rattle.std.proofs.lemmas.List.Elements.{filter_map-append}
use Rattle.model.specs.Map.{same_key_itself}
use Rattle.model.specs.Command.{numbers, Command, Entry, Job}
use Rattle.model.specs.Query.{Query}
use Rattle.model.specs.Database.{Database, act, calls_of}
use Rattle.model.specs.History.{IsLegal, entry_of}
use Rattle.model.specs.World.{Config, Event, Completed, World, OpenCopy, free_in, place_in, viewing, all_at, all_freed, database_of, next_seat, commit, commit_all, put_batch, give_up, abort, start_world, step, run}
use Rattle.model.specs.Told.{AllTold, wrote}
use Rattle.model.proofs.HistoryLaws.{replay-push, IsLegal-push, IsNext-entry_of}
use Rattle.model.proofs.TellLaws.{AllTold-append, AllTold-push, Tells-last}
use Rattle.model.proofs.ViewLaws.{has_job, free-own, free-other, place-within, place-start, free-all_at, all_at-within, free-all_freed, place-all_freed}
use Rattle.model.proofs.JobLaws.{AreReady, has_job-append, views-apart, AreReady-views, AreReady-viewing, none_when_free, AreReady-push, AreReady-rest, has_job-apart, AreReady-committed}
use Rattle.model.proofs.EventLaws.{asked, taken, looked, answered, started, last_job, swapped, Change, none, asks, takes, puts, gives_up, looks, reads, starts, goes_on, aborts, swaps, change-step}

module _ (base : Database) where
  -- a legal history and the completed calls that it records
  pub record IsTold (h : List Entry) (cs : List Completed) : Type 0 where
    pub legal : IsLegal base h
    pub told : AllTold base h cs
    pub only : filter_map wrote cs ≡ h

  abbrev jobs_of : World → List Job
  jobs_of w = w.batch ++ w.waiting

  pub record IsRunning (w : World) : Type 0 where
    pub calls : IsTold w.history w.completed
    pub ready : AreReady (database_of base w) w.views (jobs_of w)
    pub copying : (k : OpenCopy) → w.copy ≡ Some k → (free_in w.views k.session ≡ false) × (has_job (jobs_of w) k.session ≡ false)
    pub seen : (s : ℕ) → place_in w.views s ≤ length w.history

  -- ---- an entry more

  IsTold-commit : (w : World) (j : Job) → j.seat.call ≡ calls_of (database_of base w) j.seat.session + 1 → IsTold w.history w.completed → IsTold (commit base w j).history (commit base w j).completed
  IsTold-commit w j call t =
      let e = entry_of (database_of base w) j.seat j.command in
      record {
        legal = (IsLegal-push base w.history e).1 (t.legal, IsNext-entry_of (database_of base w) j.seat j.command call);
        told = AllTold-push base (w.history ++ e ∷ []) w.completed _ (AllTold-append base w.history (e ∷ []) w.completed t.told) (Tells-last base w.history e);
        only = filter_map-append wrote w.completed _ ∙ ap (λ h. h ++ e ∷ []) t.only;
      }

  database-commit : (w : World) (j : Job) → database_of base (commit base w j) ≡ act (database_of base w) j.seat j.command
  database-commit w j = replay-push base w.history (entry_of (database_of base w) j.seat j.command)

  -- while the jobs js are put and others wait
  record IsPutting (w : World) (js : List Job) : Type 0 where
    calls : IsTold w.history w.completed
    ready : AreReady (database_of base w) w.views js

  putting : (w : World) (js ks : List Job) → IsPutting w (js ++ ks) → IsPutting (commit_all base w js) ks
  putting w [] ks p = p
  putting w (j ∷ js) ks p = putting (commit base w j) js ks (record {
    calls = IsTold-commit w j p.ready.0 p.calls;
    ready = subst (λ d. AreReady d w.views (js ++ ks)) (sym (database-commit w j)) (AreReady-committed (database_of base w) w.views j (js ++ ks) p.ready);
  })

  -- entries change nothing but the history and the completed calls
  record IsLonger (w u : World) : Type 0 where
    waiting : u.waiting ≡ w.waiting
    views : u.views ≡ w.views
    copy : u.copy ≡ w.copy
    longer : length w.history ≤ length u.history

  IsLonger-commit_all : (w : World) (js : List Job) → IsLonger w (commit_all base w js)
  IsLonger-commit_all w [] = record { waiting = refl; views = refl; copy = refl; longer = omega arith }
  IsLonger-commit_all w (j ∷ js) =
      let l = IsLonger-commit_all (commit base w j) js in
      record { waiting = l.waiting; views = l.views; copy = l.copy; longer = omega (arith, l.longer, length-append w.history (entry_of (database_of base w) j.seat j.command ∷ [])) }

  -- ---- each change

  put_running : (w : World) → IsRunning w → IsRunning (put_batch base w)
  put_running w h =
      let after = commit_all base w w.batch in
      let views = all_at w.views (length after.history) w.batch in
      let p = putting w w.batch w.waiting (record { calls = h.calls; ready = h.ready }) in
      let l = IsLonger-commit_all w w.batch in
      record {
        calls = p.calls;
        ready = subst (AreReady (database_of base after) views) (sym l.waiting)
            (AreReady-views (database_of base after) w.views views w.waiting
            (λ s t. free-all_at w.views (length after.history) w.batch s (has_job-apart (database_of base w) w.views w.batch w.waiting s h.ready t))
            (subst (λ vs. AreReady (database_of base after) vs w.waiting) l.views p.ready));
        copying = λ k is.
            let old = h.copying k (sym l.copy ∙ is) in
            let parts = or_parts _ _ (sym (has_job-append w.batch w.waiting k.session) ∙ old.1) in
            (free-all_at w.views (length after.history) w.batch k.session parts.0 ∙ old.0, ap (λ js. has_job js k.session) l.waiting ∙ parts.1);
        seen = λ s. all_at-within w.views (length after.history) w.batch s (omega (arith, h.seen s, l.longer));
      }

  give_up_running : (w : World) → IsRunning w → IsRunning (give_up base w)
  give_up_running w h =
      let d = database_of base w in
      record {
        calls = h.calls;
        ready = AreReady-views d w.views (all_freed w.views w.batch) w.waiting
            (λ s t. free-all_freed w.views w.batch s (has_job-apart d w.views w.batch w.waiting s h.ready t))
            (AreReady-rest d w.views w.batch w.waiting h.ready);
        copying = λ k is.
            let old = h.copying k is in
            let parts = or_parts _ _ (sym (has_job-append w.batch w.waiting k.session) ∙ old.1) in
            (free-all_freed w.views w.batch k.session parts.0 ∙ old.0, parts.1);
        seen = λ s. omega (arith, place-all_freed w.views w.batch s, h.seen s);
      }

  abort_running : (w : World) (k : OpenCopy) → w.copy ≡ Some k → IsRunning w → IsRunning (abort base w k)
  abort_running w k is h = record {
    calls = h.calls;
    ready = AreReady-viewing (database_of base w) w.views (jobs_of w) k.session _ true (h.copying k is).1 h.ready;
    copying = λ l e. absurd (none-some l e);
    seen = λ s. place-within w.views k.session _ true s (length w.history) (h.seen k.session) (h.seen s);
  }

  goes_on_running : (w : World) (k l : OpenCopy) → w.copy ≡ Some k → l.session ≡ k.session → IsRunning w → IsRunning (record w { copy = Some l })
  goes_on_running w k l is one h = record {
    calls = h.calls;
    ready = h.ready;
    copying = λ m e.
        let same : m.session ≡ k.session = ap (λ x. x.session) (sym (same_Some l m e)) ∙ one in
        let old = h.copying k is in
        (ap (free_in w.views) same ∙ old.0, ap (has_job (jobs_of w)) same ∙ old.1);
    seen = h.seen;
  }

  asked_running : (w : World) (s : ℕ) (command : Command) → free_in w.views s ≡ true → IsRunning w → IsRunning (asked base w s command)
  asked_running w s command free h =
      let d = database_of base w in
      let j : Job = record { seat = next_seat base w s; command = command } in
      let place = place_in w.views s in
      let views = viewing w.views s place false in
      let none = none_when_free d w.views (jobs_of w) s h.ready free in
      let assoc = append_assoc w.batch w.waiting (j ∷ []) in
      record {
        calls = h.calls;
        ready = subst (AreReady d views) assoc
            (AreReady-push d views (jobs_of w) j (AreReady-viewing d w.views (jobs_of w) s place false none h.ready) refl (free-own w.views s place false s (same_key_itself numbers s)) none);
        copying = λ k is.
            let old = h.copying k is in
            let other = views-apart w.views k.session s old.0 free in (
              free-other w.views s place false k.session other ∙ old.0,
              ap (λ js. has_job js k.session) (sym assoc) ∙ has_job-append (jobs_of w) (j ∷ []) k.session ∙ or_from _ _ old.1 (or_from _ _ other refl),
            );
        seen = λ q. place-within w.views s place false q (length w.history) (h.seen s) (h.seen q);
      }

  started_running : (w : World) (k : OpenCopy) → free_in w.views k.session ≡ true → IsRunning w → IsRunning (started base w k)
  started_running w k free h =
      let d = database_of base w in
      let place = place_in w.views k.session in
      let none = none_when_free d w.views (jobs_of w) k.session h.ready free in
      record {
        calls = h.calls;
        ready = AreReady-viewing d w.views (jobs_of w) k.session place false none h.ready;
        copying = λ l e.
            let same : l.session ≡ k.session = ap (λ x. x.session) (sym (same_Some k l e)) in
            (ap (free_in (viewing w.views k.session place false)) same ∙ free-own w.views k.session place false k.session (same_key_itself numbers k.session), ap (has_job (jobs_of w)) same ∙ none);
        seen = λ q. place-within w.views k.session place false q (length w.history) (h.seen k.session) (h.seen q);
      }

  looked_running : (w : World) (s : ℕ) → free_in w.views s ≡ true → IsRunning w → IsRunning (looked base w s)
  looked_running w s free h = record {
    calls = h.calls;
    ready = AreReady-viewing (database_of base w) w.views (jobs_of w) s _ true (none_when_free (database_of base w) w.views (jobs_of w) s h.ready free) h.ready;
    copying = λ k is. let old = h.copying k is in (free-other w.views s _ true k.session (views-apart w.views k.session s old.0 free) ∙ old.0, old.1);
    seen = λ q. place-within w.views s _ true q (length w.history) (omega arith) (h.seen q);
  }

  answered_running : (w : World) (s : ℕ) (q : Query) → IsRunning w → IsRunning (answered base w s q)
  answered_running w s q h = record {
    calls = record {
      legal = h.calls.legal;
      told = AllTold-push base w.history w.completed _ h.calls.told (h.seen s, refl);
      only = filter_map-append wrote w.completed _ ∙ append-nil (filter_map wrote w.completed) ∙ h.calls.only;
    };
    ready = h.ready;
    copying = h.copying;
    seen = h.seen;
  }

  swapped_running : (w : World) (k : OpenCopy) → w.copy ≡ Some k → IsRunning w → IsRunning (swapped base w k)
  swapped_running w k is h =
      let d = database_of base w in
      let j = last_job base w k in
      let old = h.copying k is in
      let longer = length-append w.history (entry_of d j.seat j.command ∷ []) in
      record {
        calls = IsTold-commit w j refl h.calls;
        ready = subst (λ e. AreReady e (viewing w.views k.session (length w.history + 1) true) (jobs_of w)) (sym (database-commit w j))
            (AreReady-viewing (act d j.seat j.command) w.views (jobs_of w) k.session _ true old.1 (AreReady-committed d w.views j (jobs_of w) (refl, old.0, old.1, h.ready)));
        copying = λ l e. absurd (none-some l e);
        seen = λ q. place-within w.views k.session _ true q _ (omega (arith, longer)) (omega (arith, h.seen q, longer));
      }

  taken_running : (w : World) (n : ℕ) → length w.batch ≡ 0 → IsRunning w → IsRunning (taken base w n)
  taken_running w n e h =
      let same : jobs_of w ≡ take n w.waiting ++ drop n w.waiting = ap (λ js. js ++ w.waiting) (nil_from_length w.batch e) ∙ sym (take-append-drop n w.waiting) in
      record {
        calls = h.calls;
        ready = subst (AreReady (database_of base w) w.views) same h.ready;
        copying = λ k is. let old = h.copying k is in (old.0, ap (λ js. has_job js k.session) (sym same) ∙ old.1);
        seen = h.seen;
      }

  -- ---- every list of events

  IsRunning-change : (w u : World) → Change base w u → IsRunning w → IsRunning u
  IsRunning-change w _ (none _) h = h
  IsRunning-change w _ (asks _ s command free) h = asked_running w s command free h
  IsRunning-change w _ (takes _ n e) h = taken_running w n e h
  IsRunning-change w _ (puts _) h = put_running w h
  IsRunning-change w _ (gives_up _) h = give_up_running w h
  IsRunning-change w _ (looks _ s free) h = looked_running w s free h
  IsRunning-change w _ (reads _ s q) h = answered_running w s q h
  IsRunning-change w _ (starts _ k free) h = started_running w k free h
  IsRunning-change w _ (goes_on _ k l is one) h = goes_on_running w k l is one h
  IsRunning-change w _ (aborts _ k is) h = abort_running w k is h
  IsRunning-change w _ (swaps _ k is) h = swapped_running w k is h

  module _ (c : Config) where
    pub IsRunning-start : IsRunning (start_world c)
    IsRunning-start = record { calls = record { legal = tt; told = tt; only = refl }; ready = tt; copying = λ k e. absurd (none-some k e); seen = λ s. omega (arith, place-start c s) }

    pub IsRunning-step : (w : World) (e : Event) → IsRunning w → IsRunning (step base c w e)
    IsRunning-step w e = IsRunning-change w (step base c w e) (change-step base c w e)

    IsRunning-run : (w : World) (es : List Event) → IsRunning w → IsRunning (run base c w es)
    IsRunning-run w [] h = h
    IsRunning-run w (e ∷ es) h = IsRunning-run (step base c w e) es (IsRunning-step w e h)

    pub each_run : (es : List Event) → IsRunning (run base c (start_world c) es)
    each_run es = IsRunning-run (start_world c) es IsRunning-start
