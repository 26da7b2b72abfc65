-- Each event of a compaction leads from a machine to a machine.
use Rattle.std.specs.Prelude.{◌≡◌, ℕ, ◌+◌, ◌-◌, ◌==◌, ◌<◌, ◌&&◌, true, false, List, [], ◌∷◌, ◌++◌, length, map, take, All, Option, Some, None, is_none, option_map, IfSome, refl}
use Rattle.std.proofs.Common.{sym, ap, subst, ◌∙◌}
use Rattle.std.proofs.lemmas.Bool.{and_parts}
use Rattle.std.proofs.lemmas.List.Elements.{All-weaker}
use Rattle.model.specs.Map.{entries}
use Rattle.model.specs.Command.{Job}
use Rattle.model.specs.PurgeLog.{is_overrun}
use Rattle.model.specs.History.{Chronicle, Extends, now, extended}
use Rattle.model.specs.Compaction.{marks_of, touched, passed}
use Rattle.model.specs.World as model
use Rattle.model.specs.World.{Config, Start, Slice, CatchUp, Swap, Abort, free_in}
use Rattle.model.proofs.HistoryLaws.{Extends-itself, Extends-through, Extends-extended}
use Rattle.machine.specs.declared.completed.Completed.{Completed}
use Rattle.machine.specs.declared.copying.Copying.{Copying}
use Rattle.machine.specs.declared.views.SessionView.{SessionView}
use Rattle.machine.specs.Events.{completed_of, wrote_at}
use Rattle.machine.specs.Views.{views_of, seeing, freed_one}
use Rattle.machine.specs.States.{stepped, swapped_in, state_of, open_copy, compact_entry, IsReached, IsUnderWay, IsMachine}
use Rattle.machine.proofs.ViewLists.{length-seeing, All-seeing, length-freed_one, All-freed_one}
use Rattle.machine.proofs.Kept.{free-within, next_machine}
use Rattle.machine.proofs.KeptCopies.{start_stepped, slice_stepped, catch_up_stepped, abort_stepped, swap_stepped}

module _ (v : Chronicle) (c : Config) (w b : List Job) (vs : List SessionView) (k : Option Copying) (cs : List Completed) where
  abbrev IsNow : Type 0
  IsNow = IsMachine v (state_of v c w b vs k cs) vs k

  -- what is known of the compaction that is under way
  pub under_way : (x : Copying) → k ≡ Some x → IsNow → IsUnderWay v (length vs) x
  under_way x is m = subst (λ o. IfSome o (IsUnderWay v (length vs))) is m.copying

  -- a compaction of the same session, which has seen a beginning of the history
  same_views : (e : model.Event) (x : Copying) → state_of v c w b vs (Some x) cs ≡ stepped (state_of v c w b vs k cs) e → IsUnderWay v (length vs) x → IsNow → IsMachine v (state_of v c w b vs (Some x) cs) vs (Some x)
  same_views e x is under m = next_machine v c w b vs k cs v w b vs (Some x) cs e is refl m.waiting m.batch m.seen under m

  pub start_next : (n : ℕ) (x : Copying) (k2 : Option Copying) (us : List SessionView) → (is_none (option_map open_copy k) && free_in (views_of vs) n) ≡ true → open_copy x ≡ record { session = n; left = length (entries (now v).docs); marks = marks_of (now v) } → x.compaction.seen ≡ v → k2 ≡ Some x → us ≡ freed_one vs n false → IsNow → IsMachine v (state_of v c w b us k2 cs) us k2
  start_next n x k2 us may opened seen begun frees m =
      let lt : n < length vs = free-within vs n (and_parts (is_none (option_map open_copy k)) _ may).1 in
      let own : x.session ≡ n = ap (λ (o : model.OpenCopy). o.session) opened in
      next_machine v c w b vs k cs v w b us k2 cs (Start n)
      (start_stepped v c w b vs k cs n x k2 us may lt opened begun frees)
      (ap (λ (xs : List SessionView). length xs) frees ∙ length-freed_one vs n false)
      m.waiting m.batch
      (subst (All (λ y. Extends v y.version)) (sym frees) (All-freed_one vs n false (Extends v) m.seen))
      (subst (λ o. IfSome o (IsUnderWay v (length vs))) (sym begun) (record { session = subst (λ s. s < length vs) (sym own) lt; follows = subst (Extends v) (sym seen) (Extends-itself v) }))
      m

  pub slice_next : (n : ℕ) (x y : Copying) → k ≡ Some x → open_copy y ≡ record (open_copy x) { left = x.compaction.left - n } → y.compaction.seen ≡ x.compaction.seen → IsNow → IsMachine v (state_of v c w b vs (Some y) cs) vs (Some y)
  slice_next n x y is sliced seen m =
      let h = under_way x is m in
      let own : y.session ≡ x.session = ap (λ (o : model.OpenCopy). o.session) sliced in
      same_views (Slice n) y (slice_stepped v c w b vs k cs n x y is sliced) (record { session = subst (λ s. s < length vs) (sym own) h.session; follows = subst (Extends v) (sym seen) h.follows }) m

  pub catch_up_next : (n : ℕ) (x y : Copying) → k ≡ Some x → (x.compaction.left == 0) ≡ true → is_overrun (now v).purges x.compaction.marks.purge ≡ false → open_copy y ≡ record (open_copy x) { marks = passed x.compaction.marks (take n (touched (now v) x.compaction.marks)) } → Extends v y.compaction.seen → IsNow → IsMachine v (state_of v c w b vs (Some y) cs) vs (Some y)
  catch_up_next n x y is none not_over passes follows m =
      let h = under_way x is m in
      let own : y.session ≡ x.session = ap (λ (o : model.OpenCopy). o.session) passes in
      same_views (CatchUp n) y (catch_up_stepped v c w b vs k cs n x y is none not_over passes) (record { session = subst (λ s. s < length vs) (sym own) h.session; follows = follows }) m

  -- where nothing of the compaction changed but what it has seen
  pub same_next : (x y : Copying) → k ≡ Some x → open_copy y ≡ open_copy x → Extends v y.compaction.seen → IsNow → IsMachine v (state_of v c w b vs (Some y) cs) vs (Some y)
  same_next x y is same follows m =
      let h = under_way x is m in
      let own : y.session ≡ x.session = ap (λ (o : model.OpenCopy). o.session) same in
      record {
        reached = subst (λ o. IsReached (record (state_of v c w b vs k cs) { world = record (state_of v c w b vs k cs).world { copy = o } })) (ap (option_map open_copy) is ∙ ap (λ (o : model.OpenCopy). Some o) (sym same)) m.reached;
        few = m.few;
        places = m.places;
        waiting = m.waiting;
        batch = m.batch;
        seen = m.seen;
        copying = record { session = subst (λ s. s < length vs) (sym own) h.session; follows = follows };
      }

  pub abort_next : (x : Copying) (k2 : Option Copying) (us : List SessionView) → k ≡ Some x → k2 ≡ None → us ≡ freed_one vs x.session true → IsNow → IsMachine v (state_of v c w b us k2 cs) us k2
  abort_next x k2 us is ended frees m =
      let h = under_way x is m in
      next_machine v c w b vs k cs v w b us k2 cs Abort
      (abort_stepped v c w b vs k cs x k2 us is h.session ended frees)
      (ap (λ (xs : List SessionView). length xs) frees ∙ length-freed_one vs x.session true)
      m.waiting m.batch
      (subst (All (λ y. Extends v y.version)) (sym frees) (All-freed_one vs x.session true (Extends v) m.seen))
      (subst (λ o. IfSome o (IsUnderWay v (length vs))) (sym ended) tt)
      m

  pub swap_next : (n : ℕ) (v2 : Chronicle) (calls cs2 : List Completed) (k2 : Option Copying) (us : List SessionView) → n < length vs → v2 ≡ extended v (compact_entry v n ∷ []) → map completed_of calls ≡ wrote_at (length v.entries + 1) (compact_entry v n) ∷ [] → cs2 ≡ cs ++ calls → k2 ≡ None → us ≡ seeing vs (record { session = n; version = v2 }) → stepped (state_of v c w b vs k cs) Swap ≡ swapped_in (state_of v c w b vs k cs) n → IsNow → IsMachine v2 (state_of v2 c w b us k2 cs2) us k2
  swap_next n v2 calls cs2 k2 us lt version wrote appended ended sees event m =
      let later : Extends v2 v = subst (λ u. Extends u v) (sym version) (Extends-extended v (compact_entry v n ∷ [])) in
      next_machine v c w b vs k cs v2 w b us k2 cs2 Swap
      (swap_stepped v c w b vs k cs n v2 calls cs2 k2 us lt version wrote appended ended sees ∙ sym event)
      (ap (λ (xs : List SessionView). length xs) sees ∙ length-seeing vs (record { session = n; version = v2 }))
      m.waiting m.batch
      (subst (All (λ y. Extends v2 y.version)) (sym sees) (All-seeing (λ y. Extends v2 y.version) vs (record { session = n; version = v2 }) (Extends-itself v2)
      (All-weaker (λ y. Extends v y.version) (λ y. Extends v2 y.version) (λ y h. Extends-through v2 v y.version later h) vs m.seen)))
      (subst (λ o. IfSome o (IsUnderWay v2 (length vs))) (sym ended) tt)
      m
