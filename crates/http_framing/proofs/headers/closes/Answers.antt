use Rattle.std.proofs.Common.{◌∙◌}
use Rattle.http_framing.proofs.Values.{closes_after-later}
use Rattle.http_framing.proofs.headers.closes.Goals as goal

pub returns-else-version-eq0 : goal.returns-else-version-eq0
returns-else-version-eq0 c =
    c.asks_close.ensures ∙ closes_after-later c.args.version c.args.bytes.now c.args.headers.now c.if-version-eq0.false
