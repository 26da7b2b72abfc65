-- How much of its response a request takes.
use Rattle.std.specs.Prelude.{codes, if◌then◌else◌}
use Rattle.std.specs.Str.{bytes_eq}
use Rattle.http_framing.specs.Request.{Request}
use Rattle.http_request.specs.declared.extent.Extent.{Extent}
use Rattle.http_request.specs.declared.extent.Extent.TheVariants as extent

-- the response to a request of HEAD ends with its head, whatever its status
-- RFC 9110, 9.3.2 "HEAD"; RFC 9112, 6.3 "Message Body Length"
abbrev pub extent_of : Request → Extent
extent_of request = if bytes_eq request.method (codes "HEAD") then extent.HeadAlone else extent.Whole
