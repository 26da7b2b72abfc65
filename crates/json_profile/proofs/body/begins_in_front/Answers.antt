use Rattle.std.proofs.Common.{◌∙◌, ap}
use Rattle.json_profile.specs.Joined.{is_front}
use Rattle.json_profile.proofs.Sides.{first_front}
use Rattle.json_profile.proofs.body.begins_in_front.Goals as goal

pub returns-in-Some : goal.returns-in-Some
returns-in-Some c = c.is_front.ensures ∙ ap is_front c.as_bytes.ensures.value ∙ first_front c.args.members.now.entries (c.in-Some.name.now, c.in-Some._member.now) c.in-Some.ensures.first
