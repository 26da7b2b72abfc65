use Rattle.std.proofs.Common.{◌≡◌}
use Rattle.serde_json.specs.View.{members_view}
use Rattle.json_profile.specs.Objects.{has_special as some_special}
use Rattle.json_profile.proofs.members.has_special.Given as goal

abbrev pub invariant-loop-name : goal.invariant-loop-name
invariant-loop-name l = some_special (members_view l.name-iterator) ≡ some_special (members_view l.members.entries)
