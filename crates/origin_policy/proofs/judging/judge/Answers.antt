use Rattle.std.proofs.Common.{◌∙◌, List, ℕ, [], subst, sym, ap, arith, rules, append-nil}
use Rattle.httparse.specs.Grammar.{HasNoRequest, ReadsRequest, RequestHead}
use Rattle.httparse.specs.Spans.{RequestOverflows}
use Rattle.httparse.proofs.GrammarLemmas.{request_unique}
use Rattle.http_framing.specs.Headers.{headers_of}
use Rattle.http_framing.specs.Request.{header_limit}
use Rattle.origin_policy.specs.Verdict.{decide}
use Rattle.origin_policy.proofs.judging.judge.Goals as goal

-- the bytes begin with a head, so one is found
pub unreachable-requires : goal.unreachable-requires
unreachable-requires c =
    let none : HasNoRequest c.args.bytes.now = search rules in
    none c.requires.0 c.requires.1 c.requires.2.reads

-- which has no more headers than there is room for
pub unreachable-requires-in-Err : goal.unreachable-requires-in-Err
unreachable-requires-in-Err c =
    let many : RequestOverflows header_limit c.args.bytes.now = search rules in
    let reads = subst (λ (b : List ℕ). ReadsRequest b c.requires.0 c.requires.1) (sym (append-nil c.args.bytes.now)) c.requires.2.reads in
    omega (arith, many [] c.requires.0 c.requires.1 reads, c.requires.2.headers)

pub returns : goal.returns
returns c = λ head after begins.
    let found = rw c.in-Ok-Complete.field-0-is at c.in-Ok-Complete.ensures.complete in
    let same = request_unique c.args.bytes.now found.0 head _ _ found.1.reads begins.reads in
    c.judge_head.ensures ∙ (λ i. decide c.args.policy.now ((c.of.ensures ∙ found.1.method) i) (found.1.fields i))
    ∙ ap (λ (h : RequestHead). decide c.args.policy.now h.method (headers_of h)) same.0
