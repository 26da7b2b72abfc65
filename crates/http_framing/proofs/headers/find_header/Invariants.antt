use Rattle.std.proofs.Common.{map, take}
use Rattle.httparse.specs.Spans.{header_bytes}
use Rattle.http_framing.specs.Headers.{values_named}
use Rattle.http_framing.specs.Occurs.{Occurs}
use Rattle.http_framing.proofs.headers.find_header.Given as goal

abbrev pub invariant-loop-header : goal.invariant-loop-header
invariant-loop-header l = Occurs l.found (values_named l.name (map (header_bytes l.bytes) (take l.header-index l.headers)))
