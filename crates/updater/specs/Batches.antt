-- Batches of jobs for a database.
use Rattle.std.specs.Prelude.{◌≡◌, ℕ, ◌+◌, ◌==◌, ◌&&◌, Bool, not, List, [], ◌∷◌, ⊤}
use Rattle.std.specs.List.{list_any}
use Rattle.model.specs.Command.{Job}
use Rattle.model.specs.Database.{Database, act, calls_of}

-- each job is its session's next call, after those before it
abbrev pub MayFollow : Database → List Job → Type 0
MayFollow d [] = ⊤
MayFollow d (j ∷ js) = (j.seat.call ≡ calls_of d j.seat.session + 1) × MayFollow (act d j.seat j.command) js

-- one of the jobs is of this session
abbrev pub has_job_of : ℕ → List Job → Bool
has_job_of session jobs = list_any (λ j. j.seat.session == session) jobs

-- the job may go last in a batch: it is its session's next call, and the session has no job there
abbrev pub joins : Database → List Job → Job → Bool
joins d batch job = (job.seat.call == calls_of d job.seat.session + 1) && not (has_job_of job.seat.session batch)
