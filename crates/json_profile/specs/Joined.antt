-- The text of an object, by the texts of parts of its members.
use Rattle.std.specs.Prelude.{ℕ, suc, length, List, [], ◌∷◌, ◌++◌, Bool, true, false, nat_lt, ◌&&◌, not, if◌then◌else◌}
use Rattle.serde_json.specs.Data.{Members, no_members, member}
use Rattle.serde_json.specs.Written.{comma_if, compact_text}
use Rattle.model.specs.Profile.{is_special}
use Rattle.json.specs.Print.{quoted}

abbrev pub join : Members → Members → Members
join no_members ns = ns
join (member k d ms) ns = member k d (join ms ns)

-- whether there is a member
abbrev pub has_member : Members → Bool
has_member no_members = false
has_member (member k d ms) = true

-- the members' text with no brackets
abbrev pub bare_text : Bool → Members → List ℕ
bare_text later no_members = []
bare_text later (member k d ms) = comma_if later ++ (quoted k ++ 58 ∷ (compact_text d ++ bare_text true ms))

-- the name comes before every name that begins with `_`
abbrev pub is_front : List ℕ → Bool
is_front [] = true
is_front (c ∷ rest) = nat_lt c 95

abbrev pub front_of : Members → Members
front_of no_members = no_members
front_of (member k d ms) = if is_front k then member k d (front_of ms) else no_members

abbrev pub back_of : Members → Members
back_of no_members = no_members
back_of (member k d ms) = if is_front k then back_of ms else member k d ms

abbrev pub all_front : Members → Bool
all_front no_members = true
all_front (member k d ms) = is_front k && all_front ms

-- every name comes after those that begin with `_`
abbrev pub all_back : Members → Bool
all_back no_members = true
all_back (member k d ms) = (not (is_front k) && not (is_special k)) && all_back ms

-- the special members between those that come before them and the others
abbrev pub between : Members → Members → Members
between body special = join (front_of body) (join special (back_of body))

-- where special members go in the text
abbrev pub split_of : Members → ℕ
split_of ms = suc (length (bare_text false (front_of ms)))
