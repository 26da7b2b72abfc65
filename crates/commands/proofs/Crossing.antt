-- What may cross threads: a job and an entry, as the bodies in them may.
use denote.Param.Send.{IsSend, IsSync, sendable}
use Rattle.commands.specs.contracts.entry.Entry as Entry
use Rattle.commands.specs.contracts.entry.Job as Job
use Rattle.commands.specs.contracts.reply.Reply as Reply
use Rattle.document_id.proofs.Crossing as ids
use Rattle.json_profile.proofs.Crossing as bodies
use Rattle.std.proofs.Crossing as std

ruleset parts = (bodies.crosses, ids.crosses, std.crosses, sendable)

pub reply-send : IsSend Reply.the_row
reply-send = search parts depth 60

pub job-send : IsSend Job.the_row
job-send = search parts depth 60 fits 20000

pub entry-send : IsSend Entry.the_row
entry-send = search parts depth 60 fits 20000

pub entry-sync : IsSync Entry.the_row
entry-sync = search parts depth 60 fits 20000

pub ruleset crosses = (reply-send, job-send, entry-send, entry-sync)
