use Rattle.std.proofs.Common.{◌≡◌, ◌∙◌, sym, ap, arith}
use Rattle.std.proofs.lemmas.Option.{same_Some}
use Rattle.revision_runs.specs.declared.run.Run.{Run}
use Rattle.revision_tree.proofs.noted.due_top.Goals as goal

pub returns-then-saturating_sub-limit-clause-none : goal.returns-then-saturating_sub-limit-clause-none
returns-then-saturating_sub-limit-clause-none c = λ none t r is.
    let d = c.in-Some.ensures.some in
    let same : c.run_at-run.result ≡ d.run = same_Some c.run_at-run.result d.run (sym c.run_at-run.ensures ∙ d.is) in
    let low = ap (λ (x : Run). x.low) same in
    let most = d.most t r is in
    omega (arith, most, low, c.saturating_sub.ensures, c.if-saturating_sub-limit.true, c.generation.ensures.value, c.requires)
