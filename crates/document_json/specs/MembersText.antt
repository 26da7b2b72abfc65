-- The members of an object, as they are written one after another.
use Rattle.std.specs.Prelude.{◌≡◌, ◌++◌, ℕ, List, Bool, false}
use Rattle.serde_json.specs.Data.{Members}
use Rattle.json_profile.specs.Joined.{bare_text, has_member, join}

-- what is written, and whether a member is
pub record MembersView : Type 0 where
  pub text : List ℕ
  pub has_members : Bool

-- these members are behind that text
-- RFC 8259, 4 "Objects"
pub record IsMembersAfter (before : List ℕ) (written : MembersView) (members : Members) : Type 0 where
  pub text : written.text ≡ before ++ bare_text false members
  pub later : written.has_members ≡ has_member members

-- more members are written, behind those that are
abbrev pub Writes : MembersView → MembersView → Members → Type 0
Writes old new more = (before : List ℕ) (members : Members) → IsMembersAfter before old members → IsMembersAfter before new (join members more)
