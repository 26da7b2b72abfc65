use Rattle.std.proofs.Common.{rules, ◌≡◌, ◌+◌, ◌∷◌, ◌∙◌, List, drop, sym, ap}
use Rattle.std.specs.Prelude.{true}
use Rattle.std.proofs.lemmas.List.{drop_more, drop_all}
use Rattle.model.specs.Command.{Job}
use Rattle.machine.specs.declared.views.SessionView.{SessionView}
use Rattle.machine.specs.Views.{all_free, freed_one}
use Rattle.machine.proofs.views.free_all.Goals as goal

pub loop-job-preserved : goal.loop-job-preserved
loop-job-preserved c =
    let jobs = c.args.jobs.now in
    let i = c.loop-job.job-index in
    let job = c.job-item.result in
    let old = c.loop-job.views.items in
    let own : c.session.result ≡ job.seat.session = search rules in
    let split : drop i jobs ≡ job ∷ drop (i + 1) jobs = drop_more jobs i job c.loop-job-test.true ∙ ap (λ (j : Job). j ∷ drop (i + 1) jobs) (sym c.job-item.is) in
    ap (λ (vs : List SessionView). all_free vs (drop (i + 1) jobs)) (c.set_free.ensures ∙ ap (λ s. freed_one old s true) own)
    ∙ ap (λ (js : List Job). all_free old js) (sym split) ∙ c.loop-job.invariant

pub returns : goal.returns
returns c = ap (λ (js : List Job). all_free c.loop-job.views.items js) (sym (drop_all c.loop-job.job-index c.args.jobs.now c.loop-job-test.false)) ∙ c.loop-job.invariant
