use Rattle.std.proofs.Common.{subst}
use Rattle.http_framing.specs.Occurs.{Occurs}
use Rattle.http_framing.proofs.Values.{values_named-nil, values_more, no_header}
use Rattle.http_framing.proofs.headers.find_header.Goals as goal

pub loop-header-init : goal.loop-header-init
loop-header-init c = values_named-nil _

pub loop-header-preserved : goal.loop-header-preserved
loop-header-preserved c =
    subst (Occurs c.add-found.result)
    (values_more c.args.bytes.now c.args.name.now c.args.headers.now c.loop-header.header-index no_header c.loop-header-test.true)
    (c.add-found.ensures _ c.loop-header.invariant)
