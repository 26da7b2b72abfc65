-- The machine before any event.
use Rattle.std.specs.Prelude.{◌≡◌, ℕ, ◌≤◌, true, List, [], length, replicate, Option, None, IfOk, All}
use Rattle.std.proofs.Common.{sym, ap, subst, ◌∙◌}
use Rattle.std.specs.declared.result.Result.{Result}
use Rattle.std.proofs.lemmas.Result.{IfOk-weaker}
use Rattle.std.proofs.lemmas.List.{length-replicate}
use Rattle.std.proofs.lemmas.List.Elements.{All-nil, All-replicate}
use Rattle.model.specs.Map.{Map}
use Rattle.model.specs.Command.{numbers, Job, Entry}
use Rattle.model.specs.Database.{Database}
use Rattle.model.specs.History.{Chronicle, Extends}
use Rattle.model.specs.World.{Config, IsConfig, View, start_world}
use Rattle.model.proofs.HistoryLaws.{Extends-itself}
use Rattle.machine.specs.declared.completed.Completed.{Completed}
use Rattle.machine.specs.declared.views.SessionView.{SessionView}
use Rattle.machine.specs.States.{State, state_of, start_state, IsReached, IsOfSession, IsMachine}
use Rattle.machine.proofs.Reached.{reached_start}
use Rattle.machine.proofs.ViewLists.{first_views_of}

module _ (c : Config) (v : Chronicle) (n : ℕ) (w b : List Job) (vs : List SessionView) (cs : List Completed) (none : v.entries ≡ []) (count : n ≡ c.sessions) (views : vs ≡ replicate n (record { version = v; free = true })) (no_waiting : w ≡ []) (no_batch : b ≡ []) (no_calls : cs ≡ []) where
  abbrev first : List Entry → Map numbers View → State
  first es m = record { base = v.base; config = c; world = record { waiting = []; batch = []; history = es; views = m; copy = None; completed = [] } }

  counted : vs ≡ replicate c.sessions (record { version = v; free = true })
  counted = views ∙ ap (λ k. replicate k (record { version = v; free = true })) count

  pub start_of : state_of v c w b vs None cs ≡ start_state v.base c
  start_of =
      (λ i. state_of v c (no_waiting i) (no_batch i) (counted i) None (no_calls i))
      ∙ ap (λ (m : Map numbers View). first v.entries m) (first_views_of c v (ap length none))
      ∙ ap (λ (es : List Entry). first es (start_world c).views) none

  pub start_machine : IsConfig c → IsMachine v (state_of v c w b vs None cs) vs None
  start_machine h = record {
    reached = subst IsReached (sym start_of) (reached_start v.base c);
    few = subst (λ k. k ≤ 64) (sym (ap (λ (xs : List SessionView). length xs) counted ∙ length-replicate c.sessions (record { version = v; free = true }))) h.sessions_in.1;
    places = h.max_places_in.1;
    waiting = subst (All (IsOfSession (length vs))) (sym no_waiting) (All-nil (IsOfSession (length vs)));
    batch = subst (All (IsOfSession (length vs))) (sym no_batch) (All-nil (IsOfSession (length vs)));
    seen = subst (All (λ x. Extends v x.version)) (sym counted) (All-replicate (λ x. Extends v x.version) c.sessions (record { version = v; free = true }) (Extends-itself v));
    copying = tt;
  }

-- a machine over a version that is known
pub start_over : {E : Type 0} (r : Result State E) (base : Option Database) (c : Config) (v : Chronicle) → v ≡ record { base = base; entries = [] } → IfOk r (λ (m : State). m ≡ start_state v.base c) → IfOk r (λ (m : State). m ≡ start_state base c)
start_over r base c v begun = IfOk-weaker r (λ (m : State). m ≡ start_state v.base c) (λ (m : State). m ≡ start_state base c) (λ m is. is ∙ ap (λ (x : Chronicle). start_state x.base c) begun)
