-- Every interleaving of sessions, updater and compactor, as lists of events.
use Rattle.std.specs.Prelude.{◌≡◌, ◌≤◌, ℕ, ◌+◌, ◌-◌, ◌==◌, min, Bool, true, false, not, ◌&&◌, List, [], ◌∷◌, ◌++◌, length, take, drop, map, nat_lt, nat_le, Option, Some, None, is_none, option_map, unwrap_or, if◌then◌else◌}
use Rattle.std.specs.List.{range_with_len}
use Rattle.model.specs.Map.{Map, entries, get, put, from_list}
use Rattle.model.specs.Command.{numbers, Command, Compact, Reply, Seat, Job, Entry}
use Rattle.model.specs.Query.{Query, Answer}
use Rattle.model.specs.PurgeLog.{is_overrun}
use Rattle.model.specs.Database.{Database, compacted, counted, calls_of}
use Rattle.model.specs.History.{replay, entry_of}
use Rattle.model.specs.Answers.{answer_to}
use Rattle.model.specs.Compaction.{Marks, marks_of, touched, passed}

-- how many sessions there are, jobs that may wait, jobs of a batch, records of a slice, touched documents that a
-- compaction may still take over at its end, attempts of a compaction, and entries of a history
pub record Config : Type 0 where
  pub sessions : ℕ
  pub queue : ℕ
  pub gather : ℕ
  pub slice : ℕ
  pub slack : ℕ
  pub tries : ℕ
  pub max_places : ℕ

abbrev pub IsFromTo : ℕ → ℕ → ℕ → Type 0
IsFromTo low high n = (low ≤ n) × (n ≤ high)

pub record IsConfig (c : Config) : Type 0 where
  pub sessions_in : IsFromTo 1 64 c.sessions
  pub queue_in : IsFromTo 1 1024 c.queue
  pub gather_in : IsFromTo 1 64 c.gather
  pub slice_in : IsFromTo 1 4096 c.slice
  pub slack_in : IsFromTo 0 64 c.slack
  pub tries_in : IsFromTo 1 64 c.tries
  pub max_places_in : IsFromTo 1 4294967295 c.max_places

pub data Event : Type 0 where
  -- a session's command joins the jobs that wait
  Ask : ℕ → Command → Event
  -- the updater's batch: at most so many jobs are taken, put into the history, or given up
  Take : ℕ → Event
  Put : Event
  GiveUp : Event
  -- a session looks at the last version, or reads at the one that it saw
  Look : ℕ → Event
  Read : ℕ → Query → Event
  -- a session's compaction: its start, the copying of so many records, catching up with so many, and its end
  Start : ℕ → Event
  Slice : ℕ → Event
  CatchUp : ℕ → Event
  Swap : Event
  Abort : Event

-- a call that was answered: a command at its place, or a query at the place of its session's view
pub data Completed : Type 0 where
  WroteAt : Seat → Command → ℕ → Reply → Completed
  Asked : ℕ → Query → ℕ → Answer → Completed

-- the place that a session saw last, and whether it has no open call
-- CouchDB: "Technical Overview", "ACID Properties"
pub record View : Type 0 where
  pub place : ℕ
  pub free : Bool

-- an open compaction: whose it is, how many records it has yet to copy, and up to where it has taken all over
-- CouchDB: "Technical Overview", "Compaction"
pub record OpenCopy : Type 0 where
  pub session : ℕ
  pub left : ℕ
  pub marks : Marks

pub record World : Type 0 where
  pub waiting : List Job
  pub batch : List Job
  pub history : List Entry
  pub views : Map numbers View
  pub copy : Option OpenCopy
  pub completed : List Completed

abbrev pub start_world : Config → World
start_world c = record { waiting = []; batch = []; history = []; views = from_list (map (λ s. (s, record { place = 0; free = true })) (range_with_len 0 c.sessions)); copy = None; completed = [] }

abbrev pub free_in : Map numbers View → ℕ → Bool
free_in views s = unwrap_or (option_map (λ v. v.free) (get views s)) false

abbrev pub place_in : Map numbers View → ℕ → ℕ
place_in views s = unwrap_or (option_map (λ v. v.place) (get views s)) 0

abbrev pub viewing : Map numbers View → ℕ → ℕ → Bool → Map numbers View
viewing views s place free = put views s (record { place = place; free = free })

-- the jobs' sessions are free, at that place or where they were
abbrev pub all_at : Map numbers View → ℕ → List Job → Map numbers View
all_at views place [] = views
all_at views place (j ∷ js) = viewing (all_at views place js) j.seat.session place true

abbrev pub all_freed : Map numbers View → List Job → Map numbers View
all_freed views [] = views
all_freed views (j ∷ js) = let others = all_freed views js in viewing others j.seat.session (place_in others j.seat.session) true

abbrev pub is_compact : Command → Bool
is_compact Compact = true
is_compact _ = false

module _ (base : Database) where
  abbrev pub database_of : World → Database
  database_of w = replay base w.history

  abbrev pub next_seat : World → ℕ → Seat
  next_seat w s = record { session = s; call = calls_of (database_of w) s + 1 }

  -- the job's entry goes last, and its call is completed
  abbrev pub commit : World → Job → World
  commit w j =
      let e = entry_of (database_of w) j.seat j.command in
      record w { history = w.history ++ e ∷ []; completed = w.completed ++ WroteAt j.seat j.command (length w.history + 1) e.reply ∷ [] }

  abbrev pub commit_all : World → List Job → World
  commit_all w [] = w
  commit_all w (j ∷ js) = commit_all (commit w j) js

  abbrev pub put_batch : World → World
  put_batch w =
      let after = commit_all w w.batch in
      record after { batch = []; views = all_at w.views (length after.history) w.batch }

  abbrev pub give_up : World → World
  give_up w = record w { batch = []; views = all_freed w.views w.batch }

  abbrev pub abort : World → OpenCopy → World
  abort w k = record w { copy = None; views = viewing w.views k.session (place_in w.views k.session) true }

  -- the session's call is open
  abbrev pub busy : World → ℕ → World
  busy w s = record w { views = viewing w.views s (place_in w.views s) false }

  -- one Compact entry, unless too much is left to take over or a purge was lost
  -- CouchDB: "Technical Overview", "Compaction"
  abbrev pub swap : ℕ → World → OpenCopy → World
  swap slack w k =
      if is_overrun (database_of w).purges k.marks.purge then abort w k
      else if nat_lt slack (length (touched (database_of w) k.marks)) then w
      else record (commit w (record { seat = next_seat w k.session; command = Compact })) { copy = None; views = viewing w.views k.session (length w.history + 1) true }

  -- CouchDB: "Technical Overview", "Compaction"
  abbrev pub catch_up : World → OpenCopy → ℕ → World
  catch_up w k n =
      if is_overrun (database_of w).purges k.marks.purge then abort w k
      else record w { copy = Some (record k { marks = passed k.marks (take n (touched (database_of w) k.marks)) }) }

  -- nothing happens where no copy is open
  abbrev pub with_copy : World → (OpenCopy → World) → World
  with_copy w f = unwrap_or (option_map f w.copy) w

  -- from w to u the open copy's session gets one Compact entry, which strips the database and changes nothing else
  pub record AddsCompact (w u : World) : Type 0 where
    pub copy : OpenCopy
    pub was_open : w.copy ≡ Some copy
    pub entry : u.history ≡ w.history ++ entry_of (database_of w) (next_seat w copy.session) Compact ∷ []
    pub database : database_of u ≡ counted (compacted (database_of w)) copy.session

  module _ (c : Config) where
    -- an event whose condition fails does nothing
    unfoldable pub step : World → Event → World
    step w (Ask s command) =
        if free_in w.views s && not (is_compact command) && nat_lt (length w.waiting) c.queue
        then record (busy w s) { waiting = w.waiting ++ record { seat = next_seat w s; command = command } ∷ [] }
        else w
    step w (Take n) =
        let k = min n c.gather in
        if length w.batch == 0 then record w { batch = take k w.waiting; waiting = drop k w.waiting } else w
    step w Put = if nat_lt 0 (length w.batch) && nat_le (length w.history + length w.batch) c.max_places then put_batch w else w
    step w GiveUp = if nat_lt 0 (length w.batch) then give_up w else w
    step w (Look s) = if free_in w.views s then record w { views = viewing w.views s (length w.history) true } else w
    step w (Read s q) =
        let place = place_in w.views s in
        if free_in w.views s then record w { completed = w.completed ++ Asked s q place (answer_to (replay base (take place w.history)) q) ∷ [] } else w
    step w (Start s) =
        if is_none w.copy && free_in w.views s then record (busy w s) { copy = Some (record { session = s; left = length (entries (database_of w).docs); marks = marks_of (database_of w) }) } else w
    step w (Slice n) = with_copy w (λ k. record w { copy = Some (record k { left = k.left - n }) })
    step w (CatchUp n) = with_copy w (λ k. if k.left == 0 then catch_up w k n else w)
    step w Swap = with_copy w (λ k. if (k.left == 0) && nat_lt (length w.history) c.max_places then swap c.slack w k else w)
    step w Abort = with_copy w (abort w)

    abbrev pub run : World → List Event → World
    run w [] = w
    run w (e ∷ es) = run (step w e) es
