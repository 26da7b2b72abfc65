-- A session as the updater serves it.
use Rattle.std.specs.Prelude.{ℕ, zero, suc, ◌+◌, ◌-◌, ◌^◌, min, Result, Ok, Err, if◌then◌else◌}
use Rattle.job_queue.specs.Turns.{Turn}
use Rattle.updater_state.specs.Answers.{Stands}
use Rattle.updater_state.specs.Outcomes.{Fate, has_entry}
use Rattle.updater_state.specs.declared.fault.SwapFault.{SwapFault}
use Rattle.updater_state.specs.declared.fault.SwapFault.TheVariants as fault
use Rattle.updater_state.specs.declared.trying.Swapped.{Swapped}
use Rattle.updater_state.specs.declared.trying.Swapped.TheVariants as swapped

-- its end of the queue, how many entries of its calls it has learned of, and how often its compactions were behind
pub record CallerView : Type 0 where
  pub turn : Turn
  pub entered : ℕ
  pub behind : ℕ

-- a count of 64 bits that rose so many times, and stops at the largest
abbrev pub risen : ℕ → ℕ → ℕ
risen count zero = count
risen count (suc times) = min (risen count times + 1) (2 ^ 64 - 1)

-- how many entries it has learned of, with what became of its job
abbrev pub entered_with : ℕ → Fate → ℕ
entered_with entered fate = if has_entry fate then entered + 1 else entered

-- it has learned of one entry more
abbrev pub with_entry : CallerView → CallerView
with_entry c = record c { entered = c.entered + 1 }

-- its compaction was behind once more
abbrev pub with_behind : CallerView → CallerView
with_behind c = record c { behind = risen c.behind 1 }

-- after its copy was not swapped in
abbrev pub after_fault : CallerView → SwapFault → CallerView
after_fault c fault.Behind = with_behind c
after_fault c fault.Full = c
after_fault c fault.Overrun = c
after_fault c fault.Memory = c

-- after its copy was swapped in, or not
abbrev pub after_swapping : CallerView → Result Stands SwapFault → CallerView
after_swapping c (Ok s) = with_entry c
after_swapping c (Err e) = after_fault c e

-- after a try of its compaction
abbrev pub after_trying : {J : Type 0} → CallerView → Swapped J → CallerView
after_trying c (swapped.Stood s) = with_entry c
after_trying c swapped.Behind = with_behind c
after_trying c (swapped.Full found) = c
after_trying c swapped.Overrun = c
after_trying c swapped.Memory = c
after_trying c swapped.Lost = c
