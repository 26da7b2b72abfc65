-- Each event leads from a machine to a machine.
use Rattle.std.specs.Prelude.{◌≡◌, ℕ, zero, suc, ◌+◌, ◌==◌, ◌<◌, ◌&&◌, true, false, not, min, nat_lt, nat_le, List, [], ◌∷◌, ◌++◌, length, map, take, drop, slice_get, All, Option, Some, None, IfSome, refl}
use Rattle.std.proofs.Common.{sym, ap, subst, ◌∙◌, arith}
use Rattle.std.proofs.lemmas.Bool.{and_parts}
use Rattle.std.proofs.lemmas.Option.{none-some, same_Some}
use Rattle.std.proofs.lemmas.List.Elements.{All-nil, All-head, All-tail, All-push, All-take, All-drop, All-weaker}
use Rattle.model.specs.Command.{Command, Job}
use Rattle.model.specs.Query.{Query}
use Rattle.model.specs.Database.{calls_of}
use Rattle.model.specs.History.{Chronicle, Extends, now, extended, batch_entries}
use Rattle.model.specs.Answers.{answer_to}
use Rattle.model.specs.World as model
use Rattle.model.specs.World.{Config, Ask, Take, Put, GiveUp, Read, free_in, is_compact}
use Rattle.model.proofs.HistoryLaws.{Extends-itself, Extends-through, Extends-extended}
use Rattle.machine.specs.declared.completed.Completed.{Completed}
use Rattle.machine.specs.declared.copying.Copying.{Copying}
use Rattle.machine.specs.declared.views.SessionView.{SessionView}
use Rattle.machine.specs.Events.{completed_of, wrote_from}
use Rattle.machine.specs.Views.{views_of, all_seeing, seen_by, freed_one, all_free}
use Rattle.machine.specs.States.{state_of, IsOfSession, IsUnderWay, IsMachine}
use Rattle.machine.proofs.ViewLists.{length-all_seeing, All-all_seeing, length-freed_one, All-freed_one, length-all_free, All-all_free}
use Rattle.machine.proofs.Kept.{free-within, next_machine, ask_stepped, take_stepped, put_stepped, give_up_stepped, read_stepped}

-- what follows a version follows an earlier one
pub under_way-later : (u v : Chronicle) (n : ℕ) (k : Option Copying) → Extends u v → IfSome k (IsUnderWay v n) → IfSome k (IsUnderWay u n)
under_way-later u v n None later h = tt
under_way-later u v n (Some x) later h = record { session = h.session; follows = Extends-through u v x.compaction.seen later h.follows }

-- what the version that a session sees extends
pub seen_by_view : (v : Chronicle) (vs : List SessionView) (n : ℕ) (x : SessionView) → slice_get vs n ≡ Some x → All (λ y. Extends v y.version) vs → Extends v x.version
seen_by_view v [] n x at all = absurd (none-some x at)
seen_by_view v (y ∷ vs) zero x at all = subst (λ z. Extends v z.version) (same_Some y x at) (All-head (λ z. Extends v z.version) y vs all)
seen_by_view v (y ∷ vs) (suc n) x at all = seen_by_view v vs n x at (All-tail (λ z. Extends v z.version) y vs all)

module _ (v : Chronicle) (c : Config) (w b : List Job) (vs : List SessionView) (k : Option Copying) (cs : List Completed) where
  abbrev IsNow : Type 0
  IsNow = IsMachine v (state_of v c w b vs k cs) vs k

  pub ask_next : (n : ℕ) (command : Command) (job : Job) (w2 : List Job) (us : List SessionView) → (free_in (views_of vs) n && not (is_compact command) && nat_lt (length w) c.queue) ≡ true → job ≡ record { seat = record { session = n; call = calls_of (now v) n + 1 }; command = command } → w2 ≡ w ++ job ∷ [] → us ≡ freed_one vs n false → IsNow → IsMachine v (state_of v c w2 b us k cs) us k
  ask_next n command job w2 us may is waits frees m =
      let lt : n < length vs = free-within vs n (and_parts _ _ (and_parts _ _ may).0).0 in
      let own : job.seat.session ≡ n = ap (λ (j : Job). j.seat.session) is in
      next_machine v c w b vs k cs v w2 b us k cs (Ask n command)
      (ask_stepped v c w b vs k cs n command job w2 us may lt is waits frees)
      (ap (λ (xs : List SessionView). length xs) frees ∙ length-freed_one vs n false)
      (subst (All (IsOfSession (length vs))) (sym waits) (All-push (IsOfSession (length vs)) w job m.waiting (omega (arith, own, lt))))
      m.batch
      (subst (All (λ x. Extends v x.version)) (sym frees) (All-freed_one vs n false (Extends v) m.seen))
      m.copying m

  pub take_next : (n : ℕ) (w2 b2 : List Job) → (length b == 0) ≡ true → b2 ≡ take (min n c.gather) w → w2 ≡ drop (min n c.gather) w → IsNow → IsMachine v (state_of v c w2 b2 vs k cs) vs k
  take_next n w2 b2 none batch waiting m =
      next_machine v c w b vs k cs v w2 b2 vs k cs (Take n)
      (take_stepped v c w b vs k cs n n w2 b2 none batch waiting)
      refl
      (subst (All (IsOfSession (length vs))) (sym waiting) (All-drop (IsOfSession (length vs)) (min n c.gather) w m.waiting))
      (subst (All (IsOfSession (length vs))) (sym batch) (All-take (IsOfSession (length vs)) (min n c.gather) w m.waiting))
      m.seen m.copying m

  pub put_next : (v2 : Chronicle) (b2 : List Job) (us : List SessionView) (calls cs2 : List Completed) → (nat_lt 0 (length b) && nat_le (length v.entries + length b) c.max_places) ≡ true → v2 ≡ extended v (batch_entries (now v) b) → map completed_of calls ≡ wrote_from (length v.entries) (batch_entries (now v) b) → cs2 ≡ cs ++ calls → us ≡ all_seeing vs (seen_by v2 b) → b2 ≡ [] → IsNow → IsMachine v2 (state_of v2 c w b2 us k cs2) us k
  put_next v2 b2 us calls cs2 may version wrote appended sees none m =
      let later : Extends v2 v = subst (λ u. Extends u v) (sym version) (Extends-extended v (batch_entries (now v) b)) in
      next_machine v c w b vs k cs v2 w b2 us k cs2 Put
      (put_stepped v c w b vs k cs v2 b2 us calls cs2 may m.batch version wrote appended sees none)
      (ap (λ (xs : List SessionView). length xs) sees ∙ length-all_seeing vs (seen_by v2 b))
      m.waiting
      (subst (All (IsOfSession (length vs))) (sym none) (All-nil (IsOfSession (length vs))))
      (subst (All (λ x. Extends v2 x.version)) (sym sees) (All-all_seeing (λ x. Extends v2 x.version) vs v2 b (Extends-itself v2)
      (All-weaker (λ x. Extends v x.version) (λ x. Extends v2 x.version) (λ x h. Extends-through v2 v x.version later h) vs m.seen)))
      (under_way-later v2 v (length vs) k later m.copying) m

  pub give_up_next : (b2 : List Job) (us : List SessionView) → us ≡ all_free vs b → b2 ≡ [] → IsNow → IsMachine v (state_of v c w b2 us k cs) us k
  give_up_next b2 us frees none m =
      next_machine v c w b vs k cs v w b2 us k cs GiveUp
      (give_up_stepped v c w b vs k cs b2 us m.batch frees none)
      (ap (λ (xs : List SessionView). length xs) frees ∙ length-all_free vs b)
      m.waiting
      (subst (All (IsOfSession (length vs))) (sym none) (All-nil (IsOfSession (length vs))))
      (subst (All (λ x. Extends v x.version)) (sym frees) (All-all_free (Extends v) vs b m.seen))
      m.copying m

  pub read_next : (n : ℕ) (q : Query) (x : SessionView) (call : Completed) (cs2 : List Completed) → free_in (views_of vs) n ≡ true → slice_get vs n ≡ Some x → Extends v x.version → completed_of call ≡ model.Asked n q (length x.version.entries) (answer_to (now x.version) q) → cs2 ≡ cs ++ call ∷ [] → IsNow → IsMachine v (state_of v c w b vs k cs2) vs k
  read_next n q x call cs2 free at seen is appended m =
      next_machine v c w b vs k cs v w b vs k cs2 (Read n q)
      (read_stepped v c w b vs k cs n q x call cs2 free at seen is appended)
      refl m.waiting m.batch m.seen m.copying m
