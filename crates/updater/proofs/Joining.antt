-- A batch with one job more.
use Rattle.std.proofs.Common.{◌≡◌, ℕ, ◌+◌, ◌==◌, ◌||◌, Bool, true, false, List, [], ◌∷◌, ◌++◌, sym, ap, ◌∙◌, arith}
use Rattle.std.proofs.lemmas.Bool.{false_from_ne_true}
use Rattle.std.proofs.lemmas.Bool.Decides.{nat_tests}
use Rattle.model.specs.Map.{same_key, same_key-equal}
use Rattle.model.specs.Command.{numbers, Job}
use Rattle.model.specs.Database.{Database, act, calls_of}
use Rattle.model.proofs.CallLaws.{calls-other}
use Rattle.updater.specs.Batches.{MayFollow, has_job_of}

-- a session's next call may go last, where the session is in no job
pub MayFollow-push : (d : Database) (jobs : List Job) (j : Job) → MayFollow d jobs → has_job_of j.seat.session jobs ≡ false → j.seat.call ≡ calls_of d j.seat.session + 1 → MayFollow d (jobs ++ j ∷ [])
MayFollow-push d [] j may none next = (next, tt)
MayFollow-push d (x ∷ xs) j may none next =
    let parts : ((x.seat.session == j.seat.session) ≡ false) × (has_job_of j.seat.session xs ≡ false) = or_false (x.seat.session == j.seat.session) (has_job_of j.seat.session xs) none in
    let other : same_key numbers j.seat.session x.seat.session ≡ false = false_from_ne_true _ (λ t. apart x.seat.session j.seat.session parts.0 (sym (same_key-equal numbers j.seat.session x.seat.session t))) in
    (may.0, MayFollow-push (act d x.seat x.command) xs j may.1 parts.1 (next ∙ ap (λ k. k + 1) (sym (calls-other d x.seat x.command j.seat.session other))))
  where
    or_false : (a b : Bool) → (a || b) ≡ false → (a ≡ false) × (b ≡ false)
    or_false false b h = (λ _. false, h)
    or_false true b h = cc

    apart : (a b : ℕ) → (a == b) ≡ false → a ≡ b → ⊥
    apart a b f is = grind (arith, nat_tests)
