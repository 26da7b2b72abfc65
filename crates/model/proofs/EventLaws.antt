-- What an event does to a world: nothing, or one of ten changes.
use Rattle.std.specs.Prelude.{◌≡◌, ℕ, ◌+◌, ◌-◌, ◌==◌, min, not, Bool, true, false, cond, ◌&&◌, [], ◌∷◌, ◌++◌, length, take, drop, nat_lt, nat_le, Some, None, is_none, option_map, unwrap_or, if◌then◌else◌, refl}
use Rattle.std.proofs.Common.{eqb-true}
use Rattle.std.proofs.lemmas.Bool.{and_parts}
use Rattle.model.specs.Map.{entries}
use Rattle.model.specs.Command.{Command, Compact, Job}
use Rattle.model.specs.Query.{Query}
use Rattle.model.specs.PurgeLog.{is_overrun}
use Rattle.model.specs.Database.{Database}
use Rattle.model.specs.History.{replay}
use Rattle.model.specs.Answers.{answer_to}
use Rattle.model.specs.Compaction.{marks_of, touched, passed}
use Rattle.model.specs.World.{Config, Event, Ask, Take, Put, GiveUp, Look, Read, Start, Slice, CatchUp, Swap, Abort, Asked, World, OpenCopy, free_in, place_in, viewing, is_compact, database_of, next_seat, commit, put_batch, give_up, abort, busy, swap, catch_up, step}

module _ (base : Database) where
  abbrev pub asked : World → ℕ → Command → World
  asked w s command = record (busy base w s) { waiting = w.waiting ++ record { seat = next_seat base w s; command = command } ∷ [] }

  abbrev pub taken : World → ℕ → World
  taken w n = record w { batch = take n w.waiting; waiting = drop n w.waiting }

  abbrev pub looked : World → ℕ → World
  looked w s = record w { views = viewing w.views s (length w.history) true }

  abbrev pub answered : World → ℕ → Query → World
  answered w s q = record w { completed = w.completed ++ Asked s q (place_in w.views s) (answer_to (replay base (take (place_in w.views s) w.history)) q) ∷ [] }

  abbrev pub started : World → OpenCopy → World
  started w k = record (busy base w k.session) { copy = Some k }

  abbrev pub last_job : World → OpenCopy → Job
  last_job w k = record { seat = next_seat base w k.session; command = Compact }

  abbrev pub swapped : World → OpenCopy → World
  swapped w k = record (commit base w (last_job w k)) { copy = None; views = viewing w.views k.session (length w.history + 1) true }

  pub data Change : World → World → Type 0 where
    none : (w : World) → Change w w
    asks : (w : World) (s : ℕ) (command : Command) → free_in w.views s ≡ true → Change w (asked w s command)
    takes : (w : World) (n : ℕ) → length w.batch ≡ 0 → Change w (taken w n)
    puts : (w : World) → Change w (put_batch base w)
    gives_up : (w : World) → Change w (give_up base w)
    looks : (w : World) (s : ℕ) → free_in w.views s ≡ true → Change w (looked w s)
    reads : (w : World) (s : ℕ) (q : Query) → Change w (answered w s q)
    starts : (w : World) (k : OpenCopy) → free_in w.views k.session ≡ true → Change w (started w k)
    -- the copy of the same session, with less left or later marks
    goes_on : (w : World) (k l : OpenCopy) → w.copy ≡ Some k → l.session ≡ k.session → Change w (record w { copy = Some l })
    aborts : (w : World) (k : OpenCopy) → w.copy ≡ Some k → Change w (abort base w k)
    swaps : (w : World) (k : OpenCopy) → w.copy ≡ Some k → Change w (swapped w k)

  module _ (c : Config) (w : World) where
    when : (b : Bool) (u v : World) → (b ≡ true → Change w u) → Change w v → Change w (if b then u else v)
    when b u v f g = elim b as (λ t. b ≡ t → Change w (cond t u v)) [ true ↦ f | false ↦ λ _. g ] refl

    with_copy_change : (f : OpenCopy → World) → ((k : OpenCopy) → w.copy ≡ Some k → Change w (f k)) → Change w (unwrap_or (option_map f w.copy) w)
    with_copy_change f each = elim w.copy as (λ o. w.copy ≡ o → Change w (unwrap_or (option_map f o) w)) [ None ↦ λ _. none w | Some k ↦ each k ] refl

    catch_up_change : (k : OpenCopy) (n : ℕ) → w.copy ≡ Some k → Change w (catch_up base w k n)
    catch_up_change k n is = when (is_overrun (database_of base w).purges k.marks.purge) (abort base w k) _ (λ _. aborts w k is) (goes_on w k (record k { marks = passed k.marks (take n (touched (database_of base w) k.marks)) }) is refl)

    swap_change : (k : OpenCopy) → w.copy ≡ Some k → Change w (swap base c.slack w k)
    swap_change k is = when (is_overrun (database_of base w).purges k.marks.purge) (abort base w k) _ (λ _. aborts w k is) (when (nat_lt c.slack (length (touched (database_of base w) k.marks))) w (swapped w k) (λ _. none w) (swaps w k is))

    pub change-step : (e : Event) → Change w (step base c w e)
    unfolding step
    change-step (Ask s command) = when (free_in w.views s && not (is_compact command) && nat_lt (length w.waiting) c.queue) (asked w s command) w (λ t. asks w s command (and_parts _ _ (and_parts _ _ t).0).0) (none w)
    change-step (Take n) = when (length w.batch == 0) (taken w (min n c.gather)) w (λ t. takes w (min n c.gather) (eqb-true (length w.batch) 0 t)) (none w)
    change-step Put = when (nat_lt 0 (length w.batch) && nat_le (length w.history + length w.batch) c.max_places) (put_batch base w) w (λ _. puts w) (none w)
    change-step GiveUp = when (nat_lt 0 (length w.batch)) (give_up base w) w (λ _. gives_up w) (none w)
    change-step (Look s) = when (free_in w.views s) (looked w s) w (looks w s) (none w)
    change-step (Read s q) = when (free_in w.views s) (answered w s q) w (λ _. reads w s q) (none w)
    change-step (Start s) = let k : OpenCopy = record { session = s; left = length (entries (database_of base w).docs); marks = marks_of (database_of base w) } in
        when (is_none w.copy && free_in w.views s) (started w k) w (λ t. starts w k (and_parts (is_none w.copy) _ t).1) (none w)
    change-step (Slice n) = with_copy_change (λ k. record w { copy = Some (record k { left = k.left - n }) }) (λ k is. goes_on w k (record k { left = k.left - n }) is refl)
    change-step (CatchUp n) = with_copy_change (λ k. if k.left == 0 then catch_up base w k n else w) (λ k is. when (k.left == 0) (catch_up base w k n) w (λ _. catch_up_change k n is) (none w))
    change-step Swap = with_copy_change (λ k. if (k.left == 0) && nat_lt (length w.history) c.max_places then swap base c.slack w k else w) (λ k is. when ((k.left == 0) && nat_lt (length w.history) c.max_places) (swap base c.slack w k) w (λ _. swap_change k is) (none w))
    change-step Abort = with_copy_change (abort base w) (λ k is. aborts w k is)
