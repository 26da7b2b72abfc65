-- The text that a body keeps: that of its members, and no byte where there are none.
use Rattle.std.specs.Prelude.{◌≡◌, ℕ, List, [], unwrap_or, Some}
use Rattle.serde_json.specs.Data.{null, object, Members, no_members, member}
use Rattle.serde_json.specs.Read.{read}
use Rattle.model.specs.Body.{IsBody, body_text}
use Rattle.json_profile.specs.Joined.{split_of}
use Rattle.json_profile.specs.Objects.{members_in}

-- the members that a text has
abbrev pub members_read : List ℕ → Members
members_read text = members_in (unwrap_or (read text) null)

abbrev pub kept_text : Members → List ℕ
kept_text no_members = []
kept_text (member k d ms) = body_text (member k d ms)

-- the text is the one that is kept of these members
pub record IsKept (text : List ℕ) (ms : Members) : Type 0 where
  pub kept : text ≡ kept_text ms
  pub body : IsBody ms
  pub reads_back : read (body_text ms) ≡ Some (object ms)

-- and this is where special members go in it
pub record IsSplit (split : ℕ) (text : List ℕ) (ms : Members) : Type 0 where
  pub whole : IsKept text ms
  pub at : split ≡ split_of ms
