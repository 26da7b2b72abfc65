-- Local documents, as bodies write them.
use Rattle.std.specs.Prelude.{ℕ, ◌==◌, ◌++◌, Bool, false, List, [], ◌∷◌, Option, Some, None, Ok, codes, option_and_then, if◌then◌else◌}
use Rattle.std.specs.List.{before_first, after_first}
use Rattle.std.specs.Str.{bytes_eq}
use Rattle.serde_json.specs.Data.{Members}
use Rattle.serde_json.specs.Find.{as_object, get_member}
use Rattle.decimals.specs.Number.{number}
use Rattle.json_profile.specs.Objects.{without, has_special}
use Rattle.model.specs.Command.{Command, Id, PutLocal, last_counter}
use Rattle.model.specs.Profile.{without_specials}
use Rattle.document_json.specs.Steps.{Checked, and_then, or_refused, check}
use Rattle.document_json.specs.Document.{known_document_in, named_once, names_no_other, nesting_parts, text_of}
use Rattle.document_json.specs.Numbers.{from_one}
use Rattle.document_json.specs.Revisions.{is_dash}
use Rattle.document_json.specs.Text.{json_of}
use Rattle.document_json.specs.declared.document.Parts.{Parts}
use Rattle.document_json.specs.declared.fault.Reason.TheVariants as reason

-- ---- revisions

abbrev pub begins_with_zero : List ℕ → Bool
begins_with_zero [] = false
begins_with_zero (digit ∷ digits) = digit == 48

-- a number from 1 to the last, without leading zeros
abbrev pub counter_of : List ℕ → Option ℕ
counter_of digits = if begins_with_zero digits then None else option_and_then (from_one last_counter) (number digits)

-- the number of the revision of this text, which is `0-` and the number
-- CouchDB: PUT /{db}/_local/{docid}, "rev"
abbrev pub counter_named : List ℕ → Option ℕ
counter_named text = if bytes_eq (before_first is_dash text) (codes "0") then counter_of (after_first is_dash text) else None

-- a revision's number, if it is given
abbrev pub counter_in : Option (List ℕ) → Checked (Option ℕ)
counter_in None = Ok None
counter_in (Some text) = and_then (or_refused (counter_named text) reason.Revision) (λ counter. Ok (Some counter))

-- ---- bodies

-- `_local/ID`, as bodies and answers write it
-- CouchDB: PUT /{db}/_local/{docid}
abbrev pub local_id : Id → List ℕ
local_id id = codes "_local/" ++ id

-- the special members that count, whether there is another one, and the body
abbrev pub local_parts_of : Members → Parts
local_parts_of members = record {
  id = get_member (codes "_id") members;
  rev = get_member (codes "_rev") members;
  deleted = None;
  revisions = None;
  has_other = has_special (without (codes "_rev") (without (codes "_id") members));
  body = without_specials members;
}

-- the parts of an object
abbrev pub local_parts_found : Option Members → Checked (Option Parts)
local_parts_found None = Ok None
local_parts_found (Some members) = and_then (nesting_parts (local_parts_of members)) (λ parts. Ok (Some parts))

-- the document of a body, with no special member but `_id` and `_rev`
-- CouchDB: PUT /{db}/_local/{docid}
abbrev pub local_document_of : List ℕ → Checked Parts
local_document_of body =
    and_then (json_of body) (λ value.
    and_then (local_parts_found (as_object value)) (λ found.
    known_document_in found))

-- the revision that a parameter and the document name, where the document has this id
-- CouchDB: PUT /{db}/_local/{docid}, "rev"
abbrev pub counter_over : Id → Option ℕ → Parts → Checked (Option ℕ)
counter_over id counter parts =
    and_then (check (names_no_other (local_id id) (text_of parts.id)) reason.Id) (λ _.
    and_then (counter_in (text_of parts.rev)) (λ own.
    named_once (◌==◌) counter own))

-- the write of a body over a revision, where one is named
-- CouchDB: PUT /{db}/_local/{docid}
abbrev pub local_edit_of : Id → Option (List ℕ) → List ℕ → Checked Command
local_edit_of id rev body =
    and_then (counter_in rev) (λ counter.
    and_then (local_document_of body) (λ parts.
    and_then (counter_over id counter parts) (λ named.
    Ok (PutLocal id named (Some parts.body)))))
