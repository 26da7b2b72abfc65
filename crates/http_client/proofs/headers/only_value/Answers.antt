use Rattle.std.proofs.Common.{ap, sym, ◌∙◌, Some}
use Rattle.http_framing.proofs.Values.{no_header}
use Rattle.http_client.proofs.Values.{only-absent, only-many, only-one}
use Rattle.http_client.proofs.headers.only_value.Goals as goal

pub returns-in_default : goal.returns-in_default
returns-in_default c =
    only-absent c.args.bytes.now c.args.name.now c.args.headers.now (sym c.position_named.ensures ∙ c.in_default.is)

pub returns-then-is_there_behind : goal.returns-then-is_there_behind
returns-then-is_there_behind c =
    only-many c.args.bytes.now c.args.name.now c.args.headers.now c.in-Some.first no_header (sym c.position_named.ensures ∙ c.in-Some.is)
    (sym c.is_there_behind.ensures ∙ c.if-is_there_behind.true)

pub returns : goal.returns
returns c =
    ap Some c.of.ensures ∙ only-one c.args.bytes.now c.args.name.now c.args.headers.now c.in-Some.first no_header (sym c.position_named.ensures ∙ c.in-Some.is)
    (sym c.is_there_behind.ensures ∙ c.if-is_there_behind.false)
