-- What each event does, by whether its condition holds.
use Rattle.std.specs.Prelude.{◌≡◌, ℕ, ◌+◌, ◌-◌, ◌==◌, ◌&&◌, true, false, not, min, nat_lt, nat_le, length, take, Some, None, is_none, option_map, unwrap_or}
use Rattle.std.proofs.Common.{sym, ap, ◌∙◌}
use Rattle.std.proofs.lemmas.Bool.{cond-true, cond-false}
use Rattle.model.specs.Map.{entries}
use Rattle.model.specs.Command.{Command}
use Rattle.model.specs.Query.{Query}
use Rattle.model.specs.PurgeLog.{is_overrun}
use Rattle.model.specs.History.{base_of}
use Rattle.model.specs.Compaction.{marks_of, touched, passed}
use Rattle.model.specs.World.{Ask, Take, Put, GiveUp, Look, Read, Start, Slice, CatchUp, Swap, Abort, World, OpenCopy, free_in, is_compact, database_of, put_batch, give_up, abort, step}
use Rattle.model.proofs.EventLaws.{asked, taken, looked, answered, started}
use Rattle.machine.specs.States.{State, stepped, swapped_in}

-- a state with another world
abbrev pub with_world : State → World → State
with_world s w = record s { world = w }

module _ (s : State) where
  abbrev w : World
  w = s.world

  pub ask_none : (n : ℕ) (command : Command) → (free_in w.views n && not (is_compact command) && nat_lt (length w.waiting) s.config.queue) ≡ false → stepped s (Ask n command) ≡ s
  unfolding step
  ask_none n command f = ap (with_world s) (cond-false _ _ _ f)

  pub ask_some : (n : ℕ) (command : Command) → (free_in w.views n && not (is_compact command) && nat_lt (length w.waiting) s.config.queue) ≡ true → stepped s (Ask n command) ≡ with_world s (asked (base_of s.base) w n command)
  unfolding step
  ask_some n command t = ap (with_world s) (cond-true _ _ _ t)

  pub take_none : (n : ℕ) → (length w.batch == 0) ≡ false → stepped s (Take n) ≡ s
  unfolding step
  take_none n f = ap (with_world s) (cond-false _ _ _ f)

  pub take_some : (n : ℕ) → (length w.batch == 0) ≡ true → stepped s (Take n) ≡ with_world s (taken (base_of s.base) w (min n s.config.gather))
  unfolding step
  take_some n t = ap (with_world s) (cond-true _ _ _ t)

  pub put_none : (nat_lt 0 (length w.batch) && nat_le (length w.history + length w.batch) s.config.max_places) ≡ false → stepped s Put ≡ s
  unfolding step
  put_none f = ap (with_world s) (cond-false _ _ _ f)

  pub put_some : (nat_lt 0 (length w.batch) && nat_le (length w.history + length w.batch) s.config.max_places) ≡ true → stepped s Put ≡ with_world s (put_batch (base_of s.base) w)
  unfolding step
  put_some t = ap (with_world s) (cond-true _ _ _ t)

  pub give_up_none : nat_lt 0 (length w.batch) ≡ false → stepped s GiveUp ≡ s
  unfolding step
  give_up_none f = ap (with_world s) (cond-false _ _ _ f)

  pub give_up_some : nat_lt 0 (length w.batch) ≡ true → stepped s GiveUp ≡ with_world s (give_up (base_of s.base) w)
  unfolding step
  give_up_some t = ap (with_world s) (cond-true _ _ _ t)

  pub look_none : (n : ℕ) → free_in w.views n ≡ false → stepped s (Look n) ≡ s
  unfolding step
  look_none n f = ap (with_world s) (cond-false _ _ _ f)

  pub look_some : (n : ℕ) → free_in w.views n ≡ true → stepped s (Look n) ≡ with_world s (looked (base_of s.base) w n)
  unfolding step
  look_some n t = ap (with_world s) (cond-true _ _ _ t)

  pub read_none : (n : ℕ) (q : Query) → free_in w.views n ≡ false → stepped s (Read n q) ≡ s
  unfolding step
  read_none n q f = ap (with_world s) (cond-false _ _ _ f)

  pub read_some : (n : ℕ) (q : Query) → free_in w.views n ≡ true → stepped s (Read n q) ≡ with_world s (answered (base_of s.base) w n q)
  unfolding step
  read_some n q t = ap (with_world s) (cond-true _ _ _ t)

  pub start_none : (n : ℕ) → (is_none w.copy && free_in w.views n) ≡ false → stepped s (Start n) ≡ s
  unfolding step
  start_none n f = ap (with_world s) (cond-false _ _ _ f)

  pub start_some : (n : ℕ) → (is_none w.copy && free_in w.views n) ≡ true → stepped s (Start n) ≡ with_world s (started (base_of s.base) w (record { session = n; left = length (entries (database_of (base_of s.base) w).docs); marks = marks_of (database_of (base_of s.base) w) }))
  unfolding step
  start_some n t = ap (with_world s) (cond-true _ _ _ t)

  with_some : (f : OpenCopy → World) (k : OpenCopy) → w.copy ≡ Some k → unwrap_or (option_map f w.copy) w ≡ f k
  with_some f k is = ap (λ o. unwrap_or (option_map f o) w) is

  with_none : (f : OpenCopy → World) → w.copy ≡ None → unwrap_or (option_map f w.copy) w ≡ w
  with_none f is = ap (λ o. unwrap_or (option_map f o) w) is

  pub slice_none : (n : ℕ) → w.copy ≡ None → stepped s (Slice n) ≡ s
  unfolding step
  slice_none n is = ap (with_world s) (with_none _ is)

  pub slice_some : (n : ℕ) (k : OpenCopy) → w.copy ≡ Some k → stepped s (Slice n) ≡ with_world s (record w { copy = Some (record k { left = k.left - n }) })
  unfolding step
  slice_some n k is = ap (with_world s) (with_some _ k is)

  pub abort_none : w.copy ≡ None → stepped s Abort ≡ s
  unfolding step
  abort_none is = ap (with_world s) (with_none _ is)

  pub abort_some : (k : OpenCopy) → w.copy ≡ Some k → stepped s Abort ≡ with_world s (abort (base_of s.base) w k)
  unfolding step
  abort_some k is = ap (with_world s) (with_some _ k is)

  pub catch_up_none : (n : ℕ) → w.copy ≡ None → stepped s (CatchUp n) ≡ s
  unfolding step
  catch_up_none n is = ap (with_world s) (with_none _ is)

  pub catch_up_left : (n : ℕ) (k : OpenCopy) → w.copy ≡ Some k → (k.left == 0) ≡ false → stepped s (CatchUp n) ≡ s
  unfolding step
  catch_up_left n k is f = ap (with_world s) (with_some _ k is ∙ cond-false _ _ _ f)

  pub catch_up_overrun : (n : ℕ) (k : OpenCopy) → w.copy ≡ Some k → (k.left == 0) ≡ true → is_overrun (database_of (base_of s.base) w).purges k.marks.purge ≡ true → stepped s (CatchUp n) ≡ stepped s Abort
  unfolding step
  catch_up_overrun n k is t over = ap (with_world s) (with_some _ k is ∙ cond-true _ _ _ t ∙ cond-true _ _ _ over ∙ sym (with_some _ k is))

  pub catch_up_some : (n : ℕ) (k : OpenCopy) → w.copy ≡ Some k → (k.left == 0) ≡ true → is_overrun (database_of (base_of s.base) w).purges k.marks.purge ≡ false → stepped s (CatchUp n) ≡ with_world s (record w { copy = Some (record k { marks = passed k.marks (take n (touched (database_of (base_of s.base) w) k.marks)) }) })
  unfolding step
  catch_up_some n k is t not_over = ap (with_world s) (with_some _ k is ∙ cond-true _ _ _ t ∙ cond-false _ _ _ not_over)

  pub swap_none : w.copy ≡ None → stepped s Swap ≡ s
  unfolding step
  swap_none is = ap (with_world s) (with_none _ is)

  pub swap_early : (k : OpenCopy) → w.copy ≡ Some k → ((k.left == 0) && nat_lt (length w.history) s.config.max_places) ≡ false → stepped s Swap ≡ s
  unfolding step
  swap_early k is f = ap (with_world s) (with_some _ k is ∙ cond-false _ _ _ f)

  pub swap_overrun : (k : OpenCopy) → w.copy ≡ Some k → ((k.left == 0) && nat_lt (length w.history) s.config.max_places) ≡ true → is_overrun (database_of (base_of s.base) w).purges k.marks.purge ≡ true → stepped s Swap ≡ stepped s Abort
  unfolding step
  swap_overrun k is t over = ap (with_world s) (with_some _ k is ∙ cond-true _ _ _ t ∙ cond-true _ _ _ over ∙ sym (with_some _ k is))

  pub swap_behind : (k : OpenCopy) → w.copy ≡ Some k → ((k.left == 0) && nat_lt (length w.history) s.config.max_places) ≡ true → is_overrun (database_of (base_of s.base) w).purges k.marks.purge ≡ false → nat_lt s.config.slack (length (touched (database_of (base_of s.base) w) k.marks)) ≡ true → stepped s Swap ≡ s
  unfolding step
  swap_behind k is t not_over behind = ap (with_world s) (with_some _ k is ∙ cond-true _ _ _ t ∙ cond-false _ _ _ not_over ∙ cond-true _ _ _ behind)

  pub swap_some : (k : OpenCopy) → w.copy ≡ Some k → ((k.left == 0) && nat_lt (length w.history) s.config.max_places) ≡ true → is_overrun (database_of (base_of s.base) w).purges k.marks.purge ≡ false → nat_lt s.config.slack (length (touched (database_of (base_of s.base) w) k.marks)) ≡ false → stepped s Swap ≡ swapped_in s k.session
  unfolding step
  swap_some k is t not_over few = ap (with_world s) (with_some _ k is ∙ cond-true _ _ _ t ∙ cond-false _ _ _ not_over ∙ cond-false _ _ _ few)
