use Rattle.origin_policy.proofs.Decisions.{asked, not_asked}
use Rattle.origin_policy.proofs.judging.admit_page.Goals as goal

pub returns-then-is_preflight : goal.returns-then-is_preflight
returns-then-is_preflight c =
    asked c.args.method.now c.args.bytes.now c.args.origin.now c.args.headers.now c.is_preflight.result c.is_preflight.ensures c.if-is_preflight.true

pub returns : goal.returns
returns c =
    not_asked c.args.method.now c.args.bytes.now c.args.origin.now c.args.headers.now c.is_preflight.result c.is_preflight.ensures c.if-is_preflight.false
