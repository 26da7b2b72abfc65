use Rattle.std.proofs.Common.{None, Some}
use Rattle.session_calls.proofs.Seen.{page_over}
use Rattle.session_calls.proofs.session.SharedSessionCoreReplica.changes.Goals as goal

pub returns-in-Some : goal.returns-in-Some
returns-in-Some g c = record {
  page = page_over c.seen.result.now _ c.seen.ensures.seen c.args.ids.now (Some c.in-Some.ids) c.in-Some.is c.args.since c.args.limit c.args.style c.changes_among.result c.changes_among.ensures.page;
}

pub returns-in-None : goal.returns-in-None
returns-in-None g c = record {
  page = page_over c.seen-in-None.result.now _ c.seen-in-None.ensures.seen c.args.ids.now None c.in-None.is c.args.since c.args.limit c.args.style c.changes.result c.changes.ensures.page;
}
