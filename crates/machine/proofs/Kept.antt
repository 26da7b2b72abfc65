-- What each event leaves of what a machine is made of.
use Rattle.std.specs.Prelude.{◌≡◌, ℕ, ◌+◌, ◌==◌, ◌<◌, ◌&&◌, true, false, not, min, nat_lt, nat_le, List, [], ◌∷◌, ◌++◌, length, map, take, drop, slice_get, All, Option, Some, None, option_map, unwrap_or, IfSome, refl}
use Rattle.std.proofs.Common.{sym, ap, subst, ◌∙◌, arith}
use Rattle.std.proofs.lemmas.Bool.{lt-ltb, false≢true}
use Rattle.std.proofs.lemmas.Option.{slice_get_within}
use Rattle.std.proofs.lemmas.List.{append-nil, map-append}
use Rattle.std.proofs.Math.Seq.{take-append_seam}
use Rattle.model.specs.Map.{Map}
use Rattle.model.specs.Command.{numbers, Command, Job}
use Rattle.model.specs.Query.{Query}
use Rattle.model.specs.Database.{calls_of}
use Rattle.model.specs.History.{Chronicle, Extends, base_of, now, extended, replay, batch_entries}
use Rattle.model.specs.Answers.{answer_to}
use Rattle.model.specs.World as model
use Rattle.model.specs.World.{Config, Event, Ask, Take, Put, GiveUp, Look, Read, World, View, free_in, place_in, viewing, all_at, is_compact}
use Rattle.machine.specs.declared.completed.Completed.{Completed}
use Rattle.machine.specs.declared.copying.Copying.{Copying}
use Rattle.machine.specs.declared.views.SessionView.{SessionView}
use Rattle.machine.specs.Events.{completed_of, wrote_from}
use Rattle.machine.specs.Views.{view_of, views_of, seeing, all_seeing, seen_by, freed_one, all_free}
use Rattle.machine.specs.States.{State, stepped, state_of, open_copy, IsOfSession, IsUnderWay, IsMachine}
use Rattle.machine.proofs.ViewLists.{get-views_of, views_of-seeing, views_of-all_seeing, views_of-freed_one, views_of-all_free}
use Rattle.machine.proofs.Committed.{commit_all-entries}
use Rattle.machine.proofs.Reached.{reached_by}
use Rattle.machine.proofs.Steps.{with_world, ask_some, take_some, put_some, give_up_none, give_up_some, look_some, read_some}

-- a session that is free is one of them
pub free-within : (vs : List SessionView) (n : ℕ) → free_in (views_of vs) n ≡ true → n < length vs
free-within vs n free = from (slice_get vs n) refl
  where
    from : (o : Option SessionView) → slice_get vs n ≡ o → n < length vs
    from None is = absurd (false≢true (sym (ap (λ (x : Option View). unwrap_or (option_map (λ v. v.free) x) false) (get-views_of vs n ∙ ap (option_map view_of) is)) ∙ free))
    from (Some v) is = slice_get_within vs n v is

pub free_found : (vs : List SessionView) (n : ℕ) (x : SessionView) → Some x ≡ slice_get vs n → x.free ≡ free_in (views_of vs) n
free_found vs n x at = sym (ap (λ (o : Option View). unwrap_or (option_map (λ v. v.free) o) false) (get-views_of vs n ∙ ap (option_map view_of) (sym at)))

pub free_missing : (vs : List SessionView) (n : ℕ) → None ≡ slice_get vs n → false ≡ free_in (views_of vs) n
free_missing vs n at = sym (ap (λ (o : Option View). unwrap_or (option_map (λ v. v.free) o) false) (get-views_of vs n ∙ ap (option_map view_of) (sym at)))

pub Extends-itself : (v : Chronicle) → Extends v v
Extends-itself v = record { base = refl; more = []; entries = sym (append-nil v.entries) }

module _ (v : Chronicle) (c : Config) (w b : List Job) (vs : List SessionView) (k : Option Copying) (cs : List Completed) where
  abbrev state_with : Chronicle → Map numbers View → List model.Completed → State
  state_with x m ys = record { base = x.base; config = c; world = record { waiting = w; batch = []; history = x.entries; views = m; copy = option_map open_copy k; completed = ys } }

  abbrev pub st : State
  st = state_of v c w b vs k cs

  pub next_machine : (v2 : Chronicle) (w2 b2 : List Job) (us : List SessionView) (k2 : Option Copying) (cs2 : List Completed) (e : Event) → state_of v2 c w2 b2 us k2 cs2 ≡ stepped st e → length us ≡ length vs → All (IsOfSession (length vs)) w2 → All (IsOfSession (length vs)) b2 → All (λ x. Extends v2 x.version) us → IfSome k2 (IsUnderWay v2 (length vs)) → IsMachine v st vs k → IsMachine v2 (state_of v2 c w2 b2 us k2 cs2) us k2
  next_machine v2 w2 b2 us k2 cs2 e is len waiting batch seen copying m = record {
    reached = reached_by st (state_of v2 c w2 b2 us k2 cs2) e is m.reached;
    few = omega (arith, len, m.few);
    places = m.places;
    waiting = subst (λ l. All (IsOfSession l) w2) (sym len) waiting;
    batch = subst (λ l. All (IsOfSession l) b2) (sym len) batch;
    seen = seen;
    copying = subst (λ l. IfSome k2 (IsUnderWay v2 l)) (sym len) copying;
  }

  pub look_stepped : (n : ℕ) (us : List SessionView) → free_in (views_of vs) n ≡ true → us ≡ seeing vs (record { session = n; version = v }) → state_of v c w b us k cs ≡ stepped st (Look n)
  look_stepped n us free is =
      ap (λ (xs : List SessionView). state_of v c w b xs k cs) is
      ∙ ap (λ (m : Map numbers View). with_world st (record st.world { views = m })) (views_of-seeing vs n v (free-within vs n free))
      ∙ sym (look_some st n free)

  pub ask_stepped : (n : ℕ) (command : Command) (job : Job) (w2 : List Job) (us : List SessionView) → (free_in (views_of vs) n && not (is_compact command) && nat_lt (length w) c.queue) ≡ true → n < length vs → job ≡ record { seat = record { session = n; call = calls_of (now v) n + 1 }; command = command } → w2 ≡ w ++ job ∷ [] → us ≡ freed_one vs n false → state_of v c w2 b us k cs ≡ stepped st (Ask n command)
  ask_stepped n command job w2 us may lt is waits frees =
      ap (λ (xs : List SessionView). state_of v c w2 b xs k cs) frees
      ∙ ap (λ (m : Map numbers View). with_world st (record st.world { waiting = w2; views = m })) (views_of-freed_one vs n false lt)
      ∙ ap (λ (js : List Job). with_world st (record st.world { waiting = js; views = viewing (views_of vs) n (place_in (views_of vs) n) false })) (waits ∙ ap (λ (j : Job). w ++ j ∷ []) is)
      ∙ sym (ask_some st n command may)

  pub take_stepped : (n m : ℕ) (w2 b2 : List Job) → (length b == 0) ≡ true → b2 ≡ take (min n c.gather) w → w2 ≡ drop (min n c.gather) w → state_of v c w2 b2 vs k cs ≡ stepped st (Take n)
  take_stepped n m w2 b2 none batch waiting =
      (λ i. state_of v c (waiting i) (batch i) vs k cs) ∙ sym (take_some st n none)

  pub put_stepped : (v2 : Chronicle) (b2 : List Job) (us : List SessionView) (calls cs2 : List Completed) → (nat_lt 0 (length b) && nat_le (length v.entries + length b) c.max_places) ≡ true → All (IsOfSession (length vs)) b → v2 ≡ extended v (batch_entries (now v) b) → map completed_of calls ≡ wrote_from (length v.entries) (batch_entries (now v) b) → cs2 ≡ cs ++ calls → us ≡ all_seeing vs (seen_by v2 b) → b2 ≡ [] → state_of v2 c w b2 us k cs2 ≡ stepped st Put
  put_stepped v2 b2 us calls cs2 may all version wrote appended sees none =
      let es = batch_entries (now v) b in
      let u : World = record st.world { history = v.entries ++ es; batch = []; completed = map completed_of cs ++ wrote_from (length v.entries) es } in
      (λ i. state_of v2 c w (none i) (sees i) k (appended i))
      ∙ ap (λ (m : Map numbers View). state_with v2 m (map completed_of (cs ++ calls))) (views_of-all_seeing vs v2 b all)
      ∙ ap (λ (ys : List model.Completed). state_with v2 (all_at (views_of vs) (length v2.entries) b) ys) (map-append completed_of cs calls ∙ ap (λ (ys : List model.Completed). map completed_of cs ++ ys) wrote)
      ∙ ap (λ (x : Chronicle). state_with x (all_at (views_of vs) (length x.entries) b) u.completed) version
      ∙ sym (put_some st may ∙ ap (λ (x : World). with_world st (record x { batch = []; views = all_at (views_of vs) (length x.history) b })) (commit_all-entries (base_of v.base) st.world b))

  pub give_up_stepped : (b2 : List Job) (us : List SessionView) → All (IsOfSession (length vs)) b → us ≡ all_free vs b → b2 ≡ [] → state_of v c w b2 us k cs ≡ stepped st GiveUp
  give_up_stepped b2 us all frees none =
      (λ i. state_of v c w (none i) (frees i) k cs)
      ∙ ap (λ (m : Map numbers View). with_world st (record st.world { batch = []; views = m })) (views_of-all_free vs b all)
      ∙ by_batch b refl
    where
      by_batch : (js : List Job) → b ≡ js → with_world st (record st.world { batch = []; views = model.all_freed (views_of vs) b }) ≡ stepped st GiveUp
      by_batch [] is = (λ i. with_world st (record st.world { batch = is' i; views = model.all_freed (views_of vs) (is i) })) ∙ sym (give_up_none st (ap (λ (js : List Job). nat_lt 0 (length js)) is))
        where
          is' : [] ≡ b
          is' = sym is
      by_batch (j ∷ js) is = sym (give_up_some st (lt-ltb 0 (length b) (omega (arith, ap length is))))

  pub read_stepped : (n : ℕ) (q : Query) (x : SessionView) (call : Completed) (cs2 : List Completed) → free_in (views_of vs) n ≡ true → slice_get vs n ≡ Some x → Extends v x.version → completed_of call ≡ model.Asked n q (length x.version.entries) (answer_to (now x.version) q) → cs2 ≡ cs ++ call ∷ [] → state_of v c w b vs k cs2 ≡ stepped st (Read n q)
  read_stepped n q x call cs2 free at seen is appended =
      let place : place_in (views_of vs) n ≡ length x.version.entries = ap (λ (o : Option View). unwrap_or (option_map (λ y. y.place) o) 0) (get-views_of vs n ∙ ap (option_map view_of) at) in
      let begun : take (length x.version.entries) v.entries ≡ x.version.entries = ap (take (length x.version.entries)) seen.entries ∙ take-append_seam x.version.entries seen.more in
      let told : answer_to (now x.version) q ≡ answer_to (replay (base_of v.base) (take (place_in (views_of vs) n) v.entries)) q =
      (λ i. answer_to (replay (base_of (sym seen.base i)) (sym begun i)) q) ∙ ap (λ p. answer_to (replay (base_of v.base) (take p v.entries)) q) (sym place) in
      ap (λ (ys : List Completed). state_of v c w b vs k ys) appended
      ∙ ap (λ (ys : List model.Completed). with_world st (record st.world { completed = ys })) (map-append completed_of cs (call ∷ []) ∙ ap (λ (y : model.Completed). map completed_of cs ++ y ∷ []) (is ∙ (λ i. model.Asked n q (sym place i) (told i))))
      ∙ sym (read_some st n q free)
