use Rattle.std.proofs.Common.{◌∙◌, sym}
use Rattle.http_guard.proofs.FirstLines.{first_place, no_place}
use Rattle.http_guard.proofs.places.up_to_line_feed.Goals as goal

pub returns-in-Some : goal.returns-in-Some
returns-in-Some c = first_place c.args.bytes.now c.in-Some.end (sym c.line_feed_at.ensures.first ∙ c.in-Some.is)

pub returns-in-None : goal.returns-in-None
returns-in-None c = no_place c.args.bytes.now (sym c.line_feed_at.ensures.first ∙ c.in-None.is)
