use Rattle.origin_policy.specs.Verdict.{decision_of}
use Rattle.origin_policy.proofs.Decisions.{forbids-host, forbids-origin, forbids-site, passes}
use Rattle.origin_policy.proofs.judging.judge_head.Goals as goal

pub returns-then-has_foreign_origin : goal.returns-then-has_foreign_origin
returns-then-has_foreign_origin c =
    forbids-origin c.args.policy.now c.args.method.now c.args.bytes.now c.args.headers.now c.has_foreign_origin.result c.has_foreign_origin.ensures c.if-has_foreign_origin.true

pub returns-then-is_unsaid_site : goal.returns-then-is_unsaid_site
returns-then-is_unsaid_site c =
    forbids-site c.args.policy.now c.args.method.now c.args.bytes.now c.args.headers.now c.has_foreign_origin.result c.is_unsaid_site.result c.has_foreign_origin.ensures c.if-has_foreign_origin.false
    c.is_unsaid_site.ensures c.if-is_unsaid_site.true

pub returns-then-has_foreign_host : goal.returns-then-has_foreign_host
returns-then-has_foreign_host c =
    forbids-host c.args.policy.now c.args.method.now c.args.bytes.now c.args.headers.now c.has_foreign_origin.result c.is_unsaid_site.result c.has_foreign_host.result
    c.has_foreign_origin.ensures c.if-has_foreign_origin.false c.is_unsaid_site.ensures c.if-is_unsaid_site.false c.has_foreign_host.ensures c.if-has_foreign_host.true

pub returns : goal.returns
returns c =
    passes c.args.policy.now c.args.method.now c.args.bytes.now c.args.headers.now c.has_foreign_origin.result c.is_unsaid_site.result c.has_foreign_host.result (decision_of c.admit.result)
    c.has_foreign_origin.ensures c.if-has_foreign_origin.false c.is_unsaid_site.ensures c.if-is_unsaid_site.false c.has_foreign_host.ensures c.if-has_foreign_host.false c.admit.ensures
