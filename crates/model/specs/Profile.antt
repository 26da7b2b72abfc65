-- The profile of JSON: values whose numbers are whole numbers of `i64`, whose names and texts are UTF-8, and whose objects
-- have their members in order.
use Rattle.std.specs.Prelude.{◌≡◌, ◌&&◌, ◌==◌, ◌^◌, ℕ, pos, negsuc, nat_lt, List, [], ◌∷◌, Bool, true, false, Some, IsUtf8, if◌then◌else◌}
use Rattle.std.specs.Ordering.{is_lt, nat_cmp}
use Rattle.std.specs.Str.{is_utf8}
use Rattle.std.specs.Cmp.Lexicographic.{slice_cmp}
use Rattle.serde_json.specs.Data.{Num, unsigned, negative, float, Data, null, boolean, number, string, array, object, Items, no_items, item, Members, no_members, member}
use Rattle.serde_json.specs.Read.{read}

-- a whole number of `i64`, in the one form that its text is read as: `unsigned` from 0 on, `negative` below, where
-- `negsuc n` is -(n + 1)
-- RFC 8259, 6 "Numbers"
abbrev pub is_whole_number : Num → Bool
is_whole_number (unsigned n) = nat_lt n (2 ^ 63)
is_whole_number (negative (pos n)) = false
is_whole_number (negative (negsuc n)) = nat_lt n (2 ^ 63)
is_whole_number (float x) = false

-- every number in the value is such a number
-- RFC 8259, 6 "Numbers"
abbrev mutual
  pub is_whole : Data → Bool
  is_whole null = true
  is_whole (boolean b) = true
  is_whole (number n) = is_whole_number n
  is_whole (string s) = true
  is_whole (array ds) = items_whole ds
  is_whole (object ms) = members_whole ms

  pub items_whole : Items → Bool
  items_whole no_items = true
  items_whole (item d ds) = is_whole d && items_whole ds

  pub members_whole : Members → Bool
  members_whole no_members = true
  members_whole (member k d ms) = is_whole d && members_whole ms

-- every text in the value is UTF-8, and every name
-- RFC 8259, 8.1 "Character Encoding"
abbrev mutual
  pub has_utf8 : Data → Bool
  has_utf8 null = true
  has_utf8 (boolean b) = true
  has_utf8 (number n) = true
  has_utf8 (string s) = is_utf8 s
  has_utf8 (array ds) = items_have_utf8 ds
  has_utf8 (object ms) = members_have_utf8 ms

  pub items_have_utf8 : Items → Bool
  items_have_utf8 no_items = true
  items_have_utf8 (item d ds) = has_utf8 d && items_have_utf8 ds

  pub members_have_utf8 : Members → Bool
  members_have_utf8 no_members = true
  members_have_utf8 (member k d ms) = is_utf8 k && has_utf8 d && members_have_utf8 ms

-- the name comes before the first of the members
abbrev pub is_before : List ℕ → Members → Bool
is_before k no_members = true
is_before k (member l d ms) = is_lt (slice_cmp nat_cmp k l)

-- in every object the names rise by their bytes
-- RFC 8259, 4 "Objects"
abbrev mutual
  pub is_ordered : Data → Bool
  is_ordered null = true
  is_ordered (boolean b) = true
  is_ordered (number n) = true
  is_ordered (string s) = true
  is_ordered (array ds) = items_ordered ds
  is_ordered (object ms) = members_ordered ms

  pub items_ordered : Items → Bool
  items_ordered no_items = true
  items_ordered (item d ds) = is_ordered d && items_ordered ds

  pub members_ordered : Members → Bool
  members_ordered no_members = true
  members_ordered (member k d ms) = is_before k ms && is_ordered d && members_ordered ms

-- the value of some bytes, by `serde_json`: of a repeated member the last
-- RFC 8259, 4 "Objects", 9 "Parsers"
abbrev pub IsTextOf : Data → List ℕ → Type 0
IsTextOf d bytes = IsUtf8 bytes × (read bytes ≡ Some d)

-- a member's name begins with `_`
-- CouchDB: GET /{db}/{docid}, the members that begin with "_"
abbrev pub is_special : List ℕ → Bool
is_special [] = false
is_special (c ∷ rest) = c == 95

-- the members whose names do not begin with `_`
-- CouchDB: GET /{db}/{docid}, the members that begin with "_"
abbrev pub without_specials : Members → Members
without_specials no_members = no_members
without_specials (member k d ms) = if is_special k then without_specials ms else member k d (without_specials ms)

-- the deepest nesting of a value, and of a body
-- RFC 8259, 9 "Parsers"
abbrev pub max_nesting : ℕ
max_nesting = 72

-- RFC 8259, 9 "Parsers"
abbrev pub max_body_nesting : ℕ
max_body_nesting = 64
