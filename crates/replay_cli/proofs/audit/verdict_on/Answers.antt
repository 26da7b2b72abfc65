use Rattle.std.proofs.Common.{sym, ap, ◌∙◌}
use Rattle.replay_cli.specs.declared.verdict.Verdict.TheVariants as verdict
use Rattle.replay_cli.proofs.Verdicts.{legal-only}
use Rattle.replay_cli.proofs.audit.verdict_on.Goals as goal

pub returns-in-Ok-clause-only : goal.returns-in-Ok-clause-only
returns-in-Ok-clause-only c = λ other is.
    let found = rw c.in-Ok.is at c.in_ok-last.ensures.last in
    let only = rw c.in-Ok.is at c.in_ok-last.ensures.only_last in
    legal-only c.args.dump.now c.in-Ok.last found.dump only found.legal other is ∙ ap verdict.Legal (sym c.place.ensures.place)
