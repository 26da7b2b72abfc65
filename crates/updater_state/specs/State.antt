-- What the updater holds under its lock, and how that changes.
use Rattle.std.specs.Prelude.{◌≡◌, ℕ, ◌+◌, ◌<◌, ◌≤◌, if◌then◌else◌, List, [], ◌∷◌, ◌++◌, length, slice_set, Option, None, Some, refl}
use Rattle.std.specs.Coded.{Coded, code_by, coded×, coded_list, coded_option}
use Rattle.model.specs.Command.{Entry, Job}
use Rattle.model.specs.Database.{Database}
use Rattle.model.specs.History.{replay, batch_entries, base_of}
use Rattle.model.specs.World.{Config}
use Rattle.version_log.specs.Histories.{newest}
use Rattle.updater.specs.Batches.{joins}
use Rattle.updater_state.specs.Answers.{Stands}
use Rattle.updater_state.specs.Outcomes.{Fate, coded_fate, LeftOut, told, outcome_of, all_stand, GivesUp}

-- the published histories, all jobs that were popped, the batch, and of each session what became of its last job, until that is taken
pub record State : Type 0 where
  pub published : List (List Entry)
  pub popped : List Job
  pub batch : List Job
  pub outcomes : List (Option Fate)

-- a state as the tuple of its parts, by which a model's value may be one
abbrev pub coded_state : Coded Stands → Coded (List (List Entry)) → Coded (List Job) → Coded State
coded_state stands published jobs = code_by (List (List Entry) × (List Job × (List Job × List (Option Fate))))
    (coded× published (coded× jobs (coded× jobs (coded_list (coded_option (coded_fate stands published))))))
    (λ s. (s.published, (s.popped, (s.batch, s.outcomes)))) (λ t. record { published = t.0; popped = t.1.0; batch = t.1.1.0; outcomes = t.1.1.1 }) (λ _. refl)

-- the database after what was published last
abbrev pub database_of : Option Database → State → Database
database_of base s = replay (base_of base) (newest s.published)

-- a popped job goes last in the batch, or is dropped
abbrev pub batch_after : Database → List Job → Job → List Job
batch_after d batch job = if joins d batch job then batch ++ job ∷ [] else batch

abbrev pub outcomes_after : Database → List Job → Job → List (Option Fate) → List (Option Fate)
outcomes_after d batch job outcomes = if joins d batch job then outcomes else told outcomes job.seat.session LeftOut

abbrev pub after_pop : Option Database → State → Job → State
after_pop base s job = record s {
  popped = s.popped ++ job ∷ [];
  batch = batch_after (database_of base s) s.batch job;
  outcomes = outcomes_after (database_of base s) s.batch job s.outcomes;
}

-- a job is popped into a batch that may have one more; its session has a place for its outcome
pub record Pops (base : Option Database) (config : Config) (old new : State) : Type 0 where
  pub job : Job
  pub few : length old.batch < config.gather
  pub known : job.seat.session < length old.outcomes
  pub popped : new ≡ after_pop base old job

-- the entries of jobs, after what was published last
abbrev pub entries_after : Option Database → List (List Entry) → List Job → List Entry
entries_after base published jobs = batch_entries (replay (base_of base) (newest published)) jobs

-- one publication more, whose history gains the entries of the jobs
abbrev pub published_with : Option Database → List (List Entry) → List Job → List (List Entry)
published_with base published jobs = published ++ (newest published ++ entries_after base published jobs) ∷ []

-- the batch is published: its entries are in the history
abbrev pub after_put : Option Database → State → State
after_put base s = record s {
  published = published_with base s.published s.batch;
  batch = [];
  outcomes = all_stand (published_with base s.published s.batch) (length (newest s.published)) s.outcomes (entries_after base s.published s.batch);
}

-- a batch that is not empty, and leaves no place missing, is published
pub record Puts (base : Option Database) (max_places : ℕ) (old new : State) : Type 0 where
  pub some : 0 < length old.batch
  pub room : length (newest old.published) + length old.batch ≤ max_places
  pub put : new ≡ after_put base old

-- the batch is given up, with no entry
pub record GivesUpBatch (max_places : ℕ) (old new : State) : Type 0 where
  pub outcomes : GivesUp max_places old.published old.batch old.outcomes new.outcomes
  pub others : new ≡ record old { batch = []; outcomes = new.outcomes }

-- a session's outcome is taken
abbrev pub after_taking : State → ℕ → State
after_taking s session = record s { outcomes = slice_set s.outcomes session None }

-- pops into a batch that may have one more, publications of a batch that is not empty and leaves no place missing, and batches given up
pub data Goes (base : Option Database) (config : Config) : State → State → Type 0 where
  stays : (s : State) → Goes base config s s
  pops : (s t : State) (job : Job) → Goes base config s t → length t.batch < config.gather → Goes base config s (after_pop base t job)
  puts : (s t : State) → Goes base config s t → 0 < length t.batch → length (newest t.published) + length t.batch ≤ config.max_places → Goes base config s (after_put base t)
  gives_up : (s t u : State) → Goes base config s t → GivesUpBatch config.max_places t u → Goes base config s u

-- such steps, at the end of which this session's outcome is taken, if there is one, and no other's
pub record Serves (base : Option Database) (config : Config) (session : ℕ) (old new : State) : Type 0 where
  pub before : State
  pub goes : Goes base config old before
  pub taken : new ≡ after_taking before session

-- at the end of such steps this session's outcome is taken, which is this one
pub record Takes (base : Option Database) (config : Config) (session : ℕ) (old new : State) (outcome : Fate) : Type 0 where
  pub before : State
  pub goes : Goes base config old before
  pub found : outcome_of before.outcomes session ≡ Some outcome
  pub taken : new ≡ after_taking before session
