-- What is under a name.
use Rattle.std.specs.Prelude.{ℕ, List, option_and_then, option_map}
use Rattle.serde_json.specs.Data.{Data}
use Rattle.serde_json.specs.Find.{as_array, as_number, as_object, as_str, as_u64, get, get_member}
use Rattle.model.specs.Command.{Id}
use Rattle.model.specs.Revision.{Rev}
use Rattle.document_json.specs.Each.{each}
use Rattle.document_json.specs.Identity.{id_named}
use Rattle.document_json.specs.Lists.{values_of}
use Rattle.document_json.specs.Revisions.{rev_named}
use Rattle.document_json.specs.Steps.{Checked, and_then, or_refused}
use Rattle.document_json.specs.declared.fault.Reason.TheVariants as reason
use Rattle.api_json.specs.TextLists.{rev_in, texts_in}

-- a number from 0
abbrev pub number_under : List ℕ → Data → Checked ℕ
number_under name value = or_refused (option_and_then as_u64 (option_and_then as_number (get name value))) reason.Shape

abbrev pub text_under : List ℕ → Data → Checked (List ℕ)
text_under name value = or_refused (option_and_then as_str (get name value)) reason.Shape

-- the id of a document
abbrev pub id_under : List ℕ → Data → Checked Id
id_under name value = and_then (text_under name value) id_named

-- a revision
abbrev pub rev_under : List ℕ → Data → Checked Rev
rev_under name value = and_then (text_under name value) (λ text. or_refused (rev_named text) reason.Revision)

-- the values of a list
abbrev pub list_under : List ℕ → Data → Checked (List Data)
list_under name value =
    or_refused (option_map values_of (option_and_then as_array (option_and_then (get_member name) (as_object value)))) reason.Shape

-- the revisions of a list of their texts
abbrev pub revs_in : Data → Checked (List Rev)
revs_in value = and_then (or_refused (texts_in value) reason.Shape) (each rev_in)
