use Rattle.replay_cli.specs.declared.verdict.Verdict.TheVariants as verdict
use Rattle.replay_cli.proofs.Verdicts.{exact_each}
use Rattle.replay_cli.proofs.audit.check.Goals as goal

pub returns-clause-legal : goal.returns-clause-legal
returns-clause-legal c = exact_each c.args.dump.now c.verdict_on.result verdict.Legal c.verdict_on.ensures.verdict c.verdict_on.ensures.only

pub returns-clause-wrong : goal.returns-clause-wrong
returns-clause-wrong c = exact_each c.args.dump.now c.verdict_on.result verdict.WrongAt c.verdict_on.ensures.verdict c.verdict_on.ensures.only

pub returns-clause-unreadable : goal.returns-clause-unreadable
returns-clause-unreadable c = exact_each c.args.dump.now c.verdict_on.result verdict.UnreadableLine c.verdict_on.ensures.verdict c.verdict_on.ensures.only
