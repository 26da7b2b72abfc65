use Rattle.std.proofs.Common.{rules, ◌≡◌, ◌+◌, ◌∷◌, ◌∙◌, List, Option, drop, sym, subst, ap}
use Rattle.std.proofs.lemmas.List.{drop_more, drop_all}
use Rattle.model.specs.Command.{Job}
use Rattle.updater_state.specs.Outcomes.{Fate, told, GivesUp, none_left, next}
use Rattle.updater_state.proofs.outcomes.give_up_all.Goals as goal

pub loop-job-preserved : goal.loop-job-preserved
loop-job-preserved g c =
    let jobs = c.args.jobs.now in
    let i = c.loop-job.job-index in
    let job = c.job-item.result in
    let old = c.loop-job.outcomes.items in
    let own : c.session.result ≡ job.seat.session = search rules in
    let split : drop i jobs ≡ job ∷ drop (i + 1) jobs = drop_more jobs i job c.loop-job-test.true ∙ ap (λ (j : Job). j ∷ drop (i + 1) jobs) (sym c.job-item.is) in
    let now : c.tell.new.outcomes.items ≡ told old job.seat.session c.given_up.result = c.tell.ensures ∙ ap (λ s. told old s c.given_up.result) own in
    λ last rest. c.loop-job.invariant last (subst (λ (js : List Job). GivesUp g.J.Opening.config.max_places c.args.current.now js old last) (sym split)
    (next job (drop (i + 1) jobs) c.given_up.result old last c.given_up.ensures (subst (λ (o : List (Option Fate)). GivesUp g.J.Opening.config.max_places c.args.current.now (drop (i + 1) jobs) o last) now rest)))

pub returns : goal.returns
returns g c =
    let last = c.loop-job.outcomes.items in
    c.loop-job.invariant last (subst (λ (js : List Job). GivesUp g.J.Opening.config.max_places c.args.current.now js last last) (sym (drop_all c.loop-job.job-index c.args.jobs.now c.loop-job-test.false)) (none_left last))
