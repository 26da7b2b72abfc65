use Rattle.std.proofs.Common.{◌≡◌, ◌++◌, map}
use Rattle.serde_json.specs.Data.{object}
use Rattle.serde_json.specs.View.{view, members_of, members_view}
use Rattle.json_profile.specs.Profiled.{IsProfiled}
use Rattle.json_profile.proofs.object.Object.into_members.Given as goal

abbrev pub invariant-loop-name : goal.invariant-loop-name
invariant-loop-name l =
    IsProfiled (object (members_view l.name-iterator))
    × (members_of (map (λ m. (m.name, m.value)) l.list.items ++ map (λ m. (m.0, view m.1)) l.name-iterator) ≡ members_view l.initial.name-iterator)
