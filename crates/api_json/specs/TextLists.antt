-- Lists of texts, and of the revisions of texts.
use Rattle.std.specs.Prelude.{ℕ, Bool, List, Option, Some, None, Ok, Err, is_some, option_map, option_and_then, if◌then◌else◌}
use Rattle.std.specs.List.{list_all}
use Rattle.serde_json.specs.Data.{Data}
use Rattle.serde_json.specs.Find.{as_array, as_str}
use Rattle.model.specs.Revision.{Rev}
use Rattle.document_json.specs.Lists.{values_of}
use Rattle.document_json.specs.Steps.{Checked, or_refused}
use Rattle.document_json.specs.Revisions.{rev_named}
use Rattle.document_json.specs.Text.{json_of}
use Rattle.document_json.specs.declared.fault.Reason.TheVariants as reason

abbrev pub are_texts : List Data → Bool
are_texts = list_all (λ value. is_some (as_str value))

-- a list of texts
abbrev pub texts_in : Data → Option (List Data)
texts_in value = option_and_then (λ values. if are_texts values then Some values else None) (option_map values_of (as_array value))

abbrev pub texts_found : Checked Data → Option (List Data)
texts_found (Ok value) = texts_in value
texts_found (Err why) = None

-- the list of texts that a JSON text is, if it is one
-- CouchDB: GET /{db}/{docid}, "open_revs"
abbrev pub text_list_of : List ℕ → Option (List Data)
text_list_of bytes = texts_found (json_of bytes)

-- the revision of a text
abbrev pub rev_in : Data → Checked Rev
rev_in value = or_refused (option_and_then rev_named (as_str value)) reason.Revision
