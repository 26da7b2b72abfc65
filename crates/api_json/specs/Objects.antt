-- A JSON object of named values.
use Rattle.std.specs.Prelude.{ℕ, List, [], ◌∷◌}
use Rattle.serde_json.specs.Data.{Data, Members, no_members, member}

-- a name and the value under it
abbrev pub Named : Type 0
Named = List ℕ × Data

-- named values as members
-- RFC 8259, 4 "Objects"
abbrev pub members_from : List Named → Members
members_from [] = no_members
members_from (m ∷ ms) = member m.0 m.1 (members_from ms)
