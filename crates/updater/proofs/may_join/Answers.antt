use Rattle.std.proofs.Common.{rules, ◌≡◌, ◌+◌, Bool, true, false, not, sym, ap, ◌∙◌}
use Rattle.std.specs.Prelude.{IsTrue}
use Rattle.model.specs.Database.{calls_of}
use Rattle.model.specs.History.{now}
use Rattle.updater.specs.Batches.{has_job_of}
use Rattle.updater.proofs.Joining.{MayFollow-push}
use Rattle.updater.proofs.may_join.Goals as goal

is_false : (b : Bool) → IsTrue (not b) → b ≡ false
is_false true t = sym t
is_false false t = λ _. false

pub returns-then-is_next-clause-follows : goal.returns-then-is_next-clause-follows
returns-then-is_next-clause-follows c =
    let job = c.args.job.now in
    let d = now c.args.version.now in
    let own : c.session-session.result ≡ job.seat.session = search rules in
    let called : c.call.result ≡ job.seat.call = search rules in
    let next : c.call.result ≡ c.next_call.result = search rules in
    λ t. MayFollow-push d c.args.batch.now job c.requires
    (ap (λ s. has_job_of s c.args.batch.now) (sym own) ∙ sym c.has_session.ensures ∙ is_false c.has_session.result t)
    (sym called ∙ next ∙ c.next_call.ensures ∙ ap (λ s. calls_of d s + 1) own)
