-- The body of a revision: the members of a JSON object.
use Rattle.std.specs.Prelude.{◌≡◌, ◌≤◌, ℕ, ◌==◌, Bool, true, false, ◌&&◌, List}
use Rattle.std.specs.Coded.{Coded}
use base.Stored.{Gv, gnil, gnum, gcons}
use Rattle.serde_json.specs.Data.{Members, object, depth}
use Rattle.serde_json.specs.Written.{compact_text}
use Rattle.model.specs.JsonCode.{members_code, coded_members}
use Rattle.model.specs.Profile.{members_whole, members_have_utf8, members_ordered, without_specials, max_body_nesting}

-- CouchDB: "Technical Overview", "Document Storage"
abbrev pub Body : Type 0
Body = Members

abbrev pub coded_body : Coded Body
coded_body = coded_members

-- what a document can have as its body: numbers of the profile, texts and names in UTF-8, members in order, no name that
-- begins with `_`. So its text reads back as the body, and no two bodies have one text.
-- CouchDB: "Technical Overview", "Document Storage"
pub record IsBody (body : Body) : Type 0 where
  pub whole : members_whole body ≡ true
  pub utf8 : members_have_utf8 body ≡ true
  pub ordered : members_ordered body ≡ true
  pub plain : without_specials body ≡ body
  pub nests : depth (object body) ≤ max_body_nesting

-- its text, with no space
abbrev pub body_text : Body → List ℕ
body_text body = compact_text (object body)

abbrev pub same_code : Gv → Gv → Bool
same_code gnil gnil = true
same_code (gnum m) (gnum n) = m == n
same_code (gcons a b) (gcons c d) = same_code a c && same_code b d
same_code x y = false

-- whether two bodies are equal, by their codes
unfoldable pub same_body : Body → Body → Bool
same_body a b = same_code (members_code a) (members_code b)
