-- A document as the body of a request writes it.
use Rattle.std.specs.Prelude.{ℕ, ◌&&◌, Bool, true, false, List, [], ◌∷◌, Option, Some, None, Ok, is_some, not, option_and_then, unwrap_or, codes, nat_le}
use Rattle.std.specs.Option.{option_map_or}
use Rattle.std.specs.Str.{bytes_eq}
use Rattle.serde_json.specs.Data.{Data, object, depth, Members}
use Rattle.serde_json.specs.Find.{as_bool, as_object, as_str, get_member}
use Rattle.json_profile.specs.Objects.{without, has_special}
use Rattle.model.specs.Command.{Id, Edit}
use Rattle.model.specs.Profile.{without_specials, max_body_nesting}
use Rattle.model.specs.Revision.{Rev, same_rev}
use Rattle.document_json.specs.Steps.{Checked, and_then, check, refused}
use Rattle.document_json.specs.Revisions.{rev_of}
use Rattle.document_json.specs.Text.{json_of}
use Rattle.document_json.specs.declared.document.Parts.{Parts}
use Rattle.document_json.specs.declared.fault.Reason.TheVariants as reason

-- the special members that a document may have, beside its id
abbrev pub others_listed : List (List ℕ)
others_listed =
    codes "_rev" ∷ codes "_deleted" ∷ codes "_revisions" ∷ codes "_local_seq" ∷ codes "_revs_info"
    ∷ codes "_conflicts" ∷ codes "_deleted_conflicts" ∷ []

-- the special members that a document may have
-- CouchDB: GET /{db}/{docid}, the members that begin with "_"
abbrev pub listed_members : List (List ℕ)
listed_members = codes "_id" ∷ others_listed

abbrev pub without_all : List (List ℕ) → Members → Members
without_all [] members = members
without_all (name ∷ names) members = without_all names (without name members)

-- the special members that count, whether one is left that is not listed, and the body
-- CouchDB: GET /{db}/{docid}, the members that begin with "_"
abbrev pub parts_of : Members → Parts
parts_of members = record {
  id = get_member (codes "_id") members;
  rev = get_member (codes "_rev") members;
  deleted = get_member (codes "_deleted") members;
  revisions = get_member (codes "_revisions") members;
  has_other = has_special (without_all listed_members members);
  body = without_specials members;
}

-- the same of what is left behind the id
abbrev pub parts_after : Option Data → Members → Parts
parts_after id members = record {
  id = id;
  rev = get_member (codes "_rev") members;
  deleted = get_member (codes "_deleted") members;
  revisions = get_member (codes "_revisions") members;
  has_other = has_special (without_all others_listed members);
  body = without_specials members;
}

abbrev pub without_ignored : Members → Members
without_ignored = without_all (codes "_local_seq" ∷ codes "_revs_info" ∷ codes "_conflicts" ∷ codes "_deleted_conflicts" ∷ [])

-- the parts of a document, whose body may not nest too deep
abbrev pub nesting_parts : Parts → Checked Parts
nesting_parts parts = and_then (check (nat_le (depth (object parts.body)) max_body_nesting) reason.Depth) (λ _. Ok parts)

-- the parts of an object
abbrev pub parts_found : Option Members → Checked (Option Parts)
parts_found None = Ok None
parts_found (Some members) = and_then (nesting_parts (parts_of members)) (λ parts. Ok (Some parts))

abbrev pub parts_in : Data → Checked (Option Parts)
parts_in value = parts_found (as_object value)

-- what is there is a text
abbrev pub is_text : Option Data → Bool
is_text None = true
is_text (Some value) = is_some (as_str value)

-- what is there is a truth value
abbrev pub is_flag : Option Data → Bool
is_flag None = true
is_flag (Some value) = is_some (as_bool value)

abbrev pub has_shape : Parts → Bool
has_shape parts = is_text parts.id && is_text parts.rev && is_flag parts.deleted

-- an object of the shape of a document
abbrev pub document_in : Option Parts → Checked Parts
document_in None = refused reason.Shape
document_in (Some parts) = and_then (check (has_shape parts) reason.Shape) (λ _. Ok parts)

-- a document with no special member that is unknown
abbrev pub known_document_in : Option Parts → Checked Parts
known_document_in found =
    and_then (document_in found) (λ parts.
    and_then (check (not parts.has_other) reason.Member) (λ _.
    Ok parts))

abbrev pub text_of : Option Data → Option (List ℕ)
text_of value = option_and_then as_str value

-- the id is this one, where there is one
abbrev pub names_no_other : Id → Option (List ℕ) → Bool
names_no_other id text = option_map_or (bytes_eq id) text true

-- what is named in two places, where both name the same
abbrev pub named_once : {A : Type 0} → (A → A → Bool) → Option A → Option A → Checked (Option A)
named_once same first None = Ok first
named_once same None second = Ok second
named_once same (Some first) (Some second) = and_then (check (same first second) reason.Revision) (λ _. Ok (Some first))

abbrev pub flag_in : Option Data → Bool
flag_in value = unwrap_or (option_and_then as_bool value) false

-- the revision that a parameter and the document name, where the document has this id
-- CouchDB: PUT /{db}/{docid}, "rev"
abbrev pub revision_of : Id → Option Rev → Parts → Checked (Option Rev)
revision_of id rev parts =
    and_then (check (names_no_other id (text_of parts.id)) reason.Id) (λ _.
    and_then (rev_of (text_of parts.rev)) (λ own.
    named_once same_rev rev own))

-- the edit of the document that was found, if it is one
abbrev pub edit_found : Id → Option Rev → Checked (Option Parts) → Checked Edit
edit_found id rev found =
    and_then (and_then found (λ parts. known_document_in parts)) (λ parts.
    and_then (revision_of id rev parts) (λ named.
    Ok (record { id = id; named = named; deleted = flag_in parts.deleted; body = parts.body })))

-- the edit of the document that the path and the parameters name
-- CouchDB: PUT /{db}/{docid}
abbrev pub edit_of : Id → Option Rev → List ℕ → Checked Edit
edit_of id rev body = and_then (json_of body) (λ value. edit_found id rev (parts_in value))
