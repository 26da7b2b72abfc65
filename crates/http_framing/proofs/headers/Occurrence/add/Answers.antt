use Rattle.std.proofs.Common.{sym, ◌∙◌}
use Rattle.httparse.specs.Spans.{header_bytes}
use Rattle.http_framing.proofs.Values.{occurs-other, occurs-first, occurs-often}
use Rattle.http_framing.proofs.headers.Occurrence.add.Goals as goal

pub returns-then-not-is_named : goal.returns-then-not-is_named
returns-then-not-is_named c =
    occurs-other c.args.self c.args.name.now (header_bytes c.args.bytes.now c.args.header.now) (sym c.is_named.ensures ∙ c.if-not-is_named.true)

pub returns-in-Never : goal.returns-in-Never
returns-in-Never c =
    occurs-first c.args.self c.of.result c.args.name.now (header_bytes c.args.bytes.now c.args.header.now)
    (sym c.is_named.ensures ∙ c.if-not-is_named.false) c.in-Never.is c.of.ensures

pub returns-in_default : goal.returns-in_default
returns-in_default c =
    occurs-often c.args.self c.args.name.now (header_bytes c.args.bytes.now c.args.header.now)
    (sym c.is_named.ensures ∙ c.if-not-is_named.false) c.in_default.not-Never
