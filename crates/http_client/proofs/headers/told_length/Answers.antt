use Rattle.std.proofs.Common.{sym, ◌∙◌, Some, None}
use Rattle.http_client.proofs.Values.{told-coded, told-plain}
use Rattle.http_client.proofs.headers.told_length.Goals as goal

pub returns-then-is_there : goal.returns-then-is_there
returns-then-is_there c = told-coded c.args.bytes.now c.args.headers.now (sym c.is_there.ensures ∙ c.if-is_there.true)

pub returns-in_default : goal.returns-in_default
returns-in_default c = told-plain c.args.bytes.now c.args.headers.now None (sym c.is_there.ensures ∙ c.if-is_there.false) c.in_default.ensures

pub returns : goal.returns
returns c =
    c.parse_length.ensures ∙ told-plain c.args.bytes.now c.args.headers.now (Some c.in-Some.value.now) (sym c.is_there.ensures ∙ c.if-is_there.false) c.in-Some.ensures
