-- What is known of each value that was read.
use Rattle.std.specs.Prelude.{◌≡◌, ◌≤◌, true}
use Rattle.serde_json.specs.Data.{Data, Members, depth}
use Rattle.model.specs.Profile.{is_whole, has_utf8, is_ordered, members_whole, members_have_utf8, members_ordered, without_specials, max_nesting}

-- whole numbers of `i64`, texts and names in UTF-8, members in order, and at most so many arrays and objects round one another
-- RFC 8259, 6 "Numbers", 8.1 "Character Encoding", 9 "Parsers"
pub record IsProfiled (d : Data) : Type 0 where
  pub whole : is_whole d ≡ true
  pub utf8 : has_utf8 d ≡ true
  pub ordered : is_ordered d ≡ true
  pub nests : depth d ≤ max_nesting

-- members that are a body, if they nest no deeper than one may
pub record ArePlain (ms : Members) : Type 0 where
  pub whole : members_whole ms ≡ true
  pub utf8 : members_have_utf8 ms ≡ true
  pub ordered : members_ordered ms ≡ true
  pub plain : without_specials ms ≡ ms
