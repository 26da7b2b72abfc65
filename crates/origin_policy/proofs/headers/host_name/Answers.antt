use Rattle.std.proofs.Common.{◌∙◌, sym}
use Rattle.origin_policy.specs.Names.{is_colon}
use Rattle.origin_policy.proofs.Places.{before_none, before_place}
use Rattle.origin_policy.proofs.headers.host_name.Goals as goal

pub returns-in-Some : goal.returns-in-Some
returns-in-Some c = before_place is_colon c.args.value.now c.in-Some.end (sym c.colon_at.ensures.first ∙ c.in-Some.is)

pub returns-in-None : goal.returns-in-None
returns-in-None c = before_none is_colon c.args.value.now (sym c.colon_at.ensures.first ∙ c.in-None.is)
