use Rattle.std.proofs.Common.{◌∙◌}
use Rattle.http_framing.proofs.Values.{body_length-coded, body_length-never, body_length-once, body_length-often}
use Rattle.http_framing.proofs.headers.body_length.Goals as goal

pub returns-in_default : goal.returns-in_default
returns-in_default c = body_length-coded _ _ c.in_default.not-Never c.find_header.ensures

pub returns-in-Never-find_header : goal.returns-in-Never-find_header
returns-in-Never-find_header c = body_length-never _ c.in-Never.ensures c.in-Never-find_header.ensures

pub returns-in-Once : goal.returns-in-Once
returns-in-Once c = c.length_said.ensures ∙ body_length-once _ _ c.in-Never.ensures c.in-Once.ensures

pub returns-in-Often : goal.returns-in-Often
returns-in-Often c = body_length-often _ c.in-Never.ensures c.in-Often.ensures
