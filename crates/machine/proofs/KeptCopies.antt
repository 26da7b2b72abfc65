-- What the events of a compaction leave of what a machine is made of.
use Rattle.std.specs.Prelude.{◌≡◌, ℕ, ◌+◌, ◌-◌, ◌==◌, ◌<◌, ◌&&◌, true, false, List, [], ◌∷◌, ◌++◌, length, map, take, Option, Some, None, is_none, option_map}
use Rattle.std.proofs.Common.{sym, ap, ◌∙◌, length-append}
use Rattle.std.proofs.lemmas.List.{map-append}
use Rattle.model.specs.Map.{Map, entries}
use Rattle.model.specs.Command.{numbers, Job}
use Rattle.model.specs.PurgeLog.{is_overrun}
use Rattle.model.specs.History.{Chronicle, now, extended}
use Rattle.model.specs.Compaction.{marks_of, touched, passed}
use Rattle.model.specs.World as model
use Rattle.model.specs.World.{Config, Start, Slice, CatchUp, Abort, View, OpenCopy, free_in, place_in, viewing}
use Rattle.machine.specs.declared.completed.Completed.{Completed}
use Rattle.machine.specs.declared.copying.Copying.{Copying}
use Rattle.machine.specs.declared.views.SessionView.{SessionView}
use Rattle.machine.specs.Events.{completed_of, wrote_at}
use Rattle.machine.specs.Views.{views_of, seeing, freed_one}
use Rattle.machine.specs.States.{State, stepped, swapped_in, state_of, open_copy, compact_entry}
use Rattle.machine.proofs.ViewLists.{views_of-seeing, views_of-freed_one}
use Rattle.machine.proofs.Steps.{with_world, start_some, slice_some, catch_up_some, abort_some}

module _ (v : Chronicle) (c : Config) (w b : List Job) (vs : List SessionView) (k : Option Copying) (cs : List Completed) where
  abbrev swapped_with : Chronicle → Map numbers View → List model.Completed → State
  swapped_with x m ys = record { base = x.base; config = c; world = record { waiting = w; batch = b; history = x.entries; views = m; copy = None; completed = ys } }

  abbrev st : State
  st = state_of v c w b vs k cs

  pub start_stepped : (n : ℕ) (x : Copying) (k2 : Option Copying) (us : List SessionView) → (is_none (option_map open_copy k) && free_in (views_of vs) n) ≡ true → n < length vs → open_copy x ≡ record { session = n; left = length (entries (now v).docs); marks = marks_of (now v) } → k2 ≡ Some x → us ≡ freed_one vs n false → state_of v c w b us k2 cs ≡ stepped st (Start n)
  start_stepped n x k2 us may lt opened begun frees =
      (λ i. state_of v c w b (frees i) (begun i) cs)
      ∙ ap (λ (m : Map numbers View). with_world st (record st.world { views = m; copy = Some (open_copy x) })) (views_of-freed_one vs n false lt)
      ∙ ap (λ (o : OpenCopy). with_world st (record st.world { views = viewing (views_of vs) n (place_in (views_of vs) n) false; copy = Some o })) opened
      ∙ sym (start_some st n may)

  pub slice_stepped : (n : ℕ) (x y : Copying) → k ≡ Some x → open_copy y ≡ record (open_copy x) { left = x.compaction.left - n } → state_of v c w b vs (Some y) cs ≡ stepped st (Slice n)
  slice_stepped n x y is sliced = ap (λ (o : OpenCopy). with_world st (record st.world { copy = Some o })) sliced ∙ sym (slice_some st n (open_copy x) (ap (option_map open_copy) is))

  pub catch_up_stepped : (n : ℕ) (x y : Copying) → k ≡ Some x → (x.compaction.left == 0) ≡ true → is_overrun (now v).purges x.compaction.marks.purge ≡ false → open_copy y ≡ record (open_copy x) { marks = passed x.compaction.marks (take n (touched (now v) x.compaction.marks)) } → state_of v c w b vs (Some y) cs ≡ stepped st (CatchUp n)
  catch_up_stepped n x y is none not_over passes = ap (λ (o : OpenCopy). with_world st (record st.world { copy = Some o })) passes ∙ sym (catch_up_some st n (open_copy x) (ap (option_map open_copy) is) none not_over)

  pub abort_stepped : (x : Copying) (k2 : Option Copying) (us : List SessionView) → k ≡ Some x → x.session < length vs → k2 ≡ None → us ≡ freed_one vs x.session true → state_of v c w b us k2 cs ≡ stepped st Abort
  abort_stepped x k2 us is lt ended frees =
      (λ i. state_of v c w b (frees i) (ended i) cs)
      ∙ ap (λ (m : Map numbers View). with_world st (record st.world { views = m; copy = None })) (views_of-freed_one vs x.session true lt)
      ∙ sym (abort_some st (open_copy x) (ap (option_map open_copy) is))

  pub swap_stepped : (n : ℕ) (v2 : Chronicle) (calls cs2 : List Completed) (k2 : Option Copying) (us : List SessionView) → n < length vs → v2 ≡ extended v (compact_entry v n ∷ []) → map completed_of calls ≡ wrote_at (length v.entries + 1) (compact_entry v n) ∷ [] → cs2 ≡ cs ++ calls → k2 ≡ None → us ≡ seeing vs (record { session = n; version = v2 }) → state_of v2 c w b us k2 cs2 ≡ swapped_in st n
  swap_stepped n v2 calls cs2 k2 us lt version wrote appended ended sees =
      (λ i. state_of v2 c w b (sees i) (ended i) (appended i))
      ∙ ap (λ (m : Map numbers View). swapped_with v2 m (map completed_of (cs ++ calls))) (views_of-seeing vs n v2 lt)
      ∙ ap (λ (ys : List model.Completed). swapped_with v2 (viewing (views_of vs) n (length v2.entries) true) ys) (map-append completed_of cs calls ∙ ap (λ (ys : List model.Completed). map completed_of cs ++ ys) wrote)
      ∙ ap (λ (x : Chronicle). swapped_with x (viewing (views_of vs) n (length x.entries) true) (map completed_of cs ++ wrote_at (length v.entries + 1) (compact_entry v n) ∷ [])) version
      ∙ ap (λ l. swapped_with (extended v (compact_entry v n ∷ [])) (viewing (views_of vs) n l true) (map completed_of cs ++ wrote_at (length v.entries + 1) (compact_entry v n) ∷ [])) (length-append v.entries (compact_entry v n ∷ []))
