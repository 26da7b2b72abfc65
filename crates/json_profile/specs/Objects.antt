-- The members of an object: one that is taken out, and those whose names begin with `_`.
use Rattle.std.specs.Prelude.{ℕ, List, Bool, false, ◌||◌, if◌then◌else◌}
use Rattle.std.specs.Ordering.{is_eq, nat_cmp}
use Rattle.std.specs.Cmp.Lexicographic.{slice_cmp}
use Rattle.serde_json.specs.Data.{Data, null, boolean, number, string, array, object, Members, no_members, member}
use Rattle.model.specs.Profile.{is_special}

-- none of what is no object
abbrev pub members_in : Data → Members
members_in null = no_members
members_in (boolean b) = no_members
members_in (number n) = no_members
members_in (string s) = no_members
members_in (array ds) = no_members
members_in (object ms) = ms

-- the members without the one of this name
abbrev pub without : List ℕ → Members → Members
without name no_members = no_members
without name (member k d ms) = if is_eq (slice_cmp nat_cmp name k) then ms else member k d (without name ms)

-- some name begins with `_`
-- CouchDB: GET /{db}/{docid}, the members that begin with "_"
abbrev pub has_special : Members → Bool
has_special no_members = false
has_special (member k d ms) = is_special k || has_special ms
