-- At most one job of each session waits for the updater.
use Rattle.std.specs.Prelude.{refl, ◌≡◌, ℕ, ◌+◌, ◌<◌, ◌≤◌, ◌==◌, if◌then◌else◌, true, false, List, [], ◌∷◌, ◌++◌}
use Rattle.std.specs.Coded.{Coded, code_by, coded×, coded_ℕ}
use Rattle.atomic_table.specs.Seated.{TableId, table_id_coded}
use mathlib.Core.Option.{some}
use lib.ListN.{get_elem?}
use Rattle.model.specs.Command.{Job}
use Rattle.job_queue.specs.declared.rule.Hand.{Hand}

-- how many jobs are of this session
abbrev pub count : ℕ → List Job → ℕ
count session [] = 0
count session (x ∷ xs) = if x.seat.session == session then count session xs + 1 else count session xs

-- the updater, which took these and made passes for so many sessions, of so many that there will be
abbrev pub updater : List Job → ℕ → ℕ → Hand
updater taken made bound = record { takes = true; taken = taken; made = made; pushes = false; number = 0; pushed = 0; gone = 0; notes = false; bound = bound }

-- a session that pushed so many jobs, and knows that so many are taken
abbrev pub pusher : ℕ → ℕ → ℕ → ℕ → Hand
pusher number pushed gone bound = record { takes = false; taken = []; made = 0; pushes = true; number = number; pushed = pushed; gone = gone; notes = false; bound = bound }

-- the note that these were taken
abbrev pub note : List Job → Hand
note taken = record { takes = false; taken = taken; made = 0; pushes = false; number = 0; pushed = 0; gone = 0; notes = true; bound = 0 }

abbrev pub nobody : Hand
nobody = record { takes = false; taken = []; made = 0; pushes = false; number = 0; pushed = 0; gone = 0; notes = false; bound = 0 }

-- what the view of a pass says is so
pub record Fits (bound updater_at made : ℕ) (session_at : ℕ → ℕ) (taken items : List Job) (pass : ℕ) (v : Hand) : Type 0 where
  pub takes : v.takes ≡ true → (pass ≡ updater_at) × (v.taken ≡ taken) × (v.made ≡ made) × (v.bound ≡ bound)
  pub pushes : v.pushes ≡ true → (session_at v.number ≡ pass) × (v.number < made) × (count v.number taken + count v.number items ≡ v.pushed) × (v.gone ≤ count v.number taken) × (v.bound ≡ bound)
  pub notes : v.notes ≡ true → (s : ℕ) → count s v.taken ≤ count s taken

-- one pass takes, and knows what was taken. Each session has one pass, of whose jobs at most one waits
pub record Turns (items : List Job) (views : List Hand) : Type 0 where
  -- how many sessions there will be, which pass takes, and for how many sessions it made passes
  pub bound : ℕ
  pub updater_at : ℕ
  pub made : ℕ
  -- which pass each session has, and the jobs that were taken
  pub session_at : ℕ → ℕ
  pub taken : List Job
  pub few : made ≤ bound
  pub one_waits : (s : ℕ) → count s items ≤ 1
  pub none_else : (s : ℕ) → made ≤ s → count s (taken ++ items) ≡ 0
  pub fits : (pass : ℕ) (v : Hand) → get_elem? views pass ≡ some v → Fits bound updater_at made session_at taken items pass v

-- ---- what contracts see

-- a queue that has no name yet: the table of its passes, its places, and the sessions that it is for
pub record Places : Type 0 where
  pub table : TableId
  pub capacity : ℕ
  pub sessions : ℕ

abbrev pub coded_places : Coded Places
coded_places = code_by (TableId × (ℕ × ℕ)) (coded× table_id_coded (coded× coded_ℕ coded_ℕ)) (λ p. (p.table, (p.capacity, p.sessions))) (λ t. record { table = t.0; capacity = t.1.0; sessions = t.1.1 }) (λ _. refl)

-- a session's number, how many jobs it pushed, and how many of these it knows to be taken
pub record Turn : Type 0 where
  pub number : ℕ
  pub pushed : ℕ
  pub gone : ℕ

-- how many jobs of a session were taken
pub record Gone : Type 0 where
  pub number : ℕ
  pub gone : ℕ

-- what the updater took, and for how many sessions it made tickets
pub record Counter : Type 0 where
  pub taken : List Job
  pub made : ℕ

-- some table
abbrev pub no_table : TableId
no_table = record { words = 0; slots = 0; views_name = 0; atom = 0; block = 0; offset = 0; slot_names = [] }
