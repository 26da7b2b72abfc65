use Rattle.std.proofs.Common.{rules, ◌≡◌, ◌+◌, ◌<◌, [], ◌∷◌, ◌++◌, length, sym, ap, ◌∙◌, arith, length-append, length-set}
use Rattle.crossbeam_queue.specs.Passes.{view as known}
use Rattle.job_queue.specs.declared.rule.Hand.{Hand}
use Rattle.job_queue.specs.Turns.{updater}
use Rattle.job_queue.proofs.Counted.{count_le, counts_more}
use Rattle.job_queue.proofs.consumer.Consumer.pop.Goals as goal

pub overflow_add-index_mut : goal.overflow_add-index_mut
overflow_add-index_mut g c =
    let inv = c.self.invariant in
    let s = c.session.result in
    let lt : s < length c.self.inside.popped.items = search rules in
    omega (arith, c.index_mut.ensures.value, inv.4 s c.index_mut.result.now lt, count_le s (known c.self.inside.pass).taken, inv.3, c.if-self.false)

pub invariant_of-self-2 : goal.invariant_of-self-2
invariant_of-self-2 g c =
    let inv = c.self.invariant in
    let k = c.session.result in
    let n = c.index_mut.result.now in
    let ns = c.self.inside.popped.items in
    let old = known c.self.inside.pass in
    let job = c.in_ok-job.job in
    let lt : k < length ns = search rules in
    let own : k ≡ job.seat.session = search rules in
    let now = c.in_ok-job.ensures.taken.0 in
    let long = length-set ns k (n + 1) in
    let taken : (known c.pop.new.pass).taken ≡ old.taken ++ job ∷ [] = ap (λ (v : Hand). v.taken) now in
    let made : old.made ≡ length ns = ap (λ (v : Hand). v.made) inv.2 in
    let bound : old.bound ≡ g.J.Queued.sessions = ap (λ (v : Hand). v.bound) inv.2 in (
      c.in_ok-job.ensures.queue.0 ∙ sym (search rules) ∙ inv.0,
      c.in_ok-job.ensures.queue.1,
      now ∙ (λ i. updater (sym taken i) ((made ∙ sym long) i) (bound i)),
      omega (arith, ap length taken, length-append old.taken (job ∷ []), inv.3),
      counts_more ns old.taken (known c.pop.new.pass).taken job k n inv.4 taken own lt c.index_mut.ensures.value,
    )
