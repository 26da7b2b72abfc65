-- The body of a request, as JSON.
use Rattle.std.specs.Prelude.{ℕ, Bool, List, Option, None, Ok, nat_le, ◌==◌, ◌&&◌, not, if◌then◌else◌}
use Rattle.std.specs.Str.{is_utf8}
use Rattle.serde_json.specs.Data.{Data, depth}
use Rattle.serde_json.specs.Read.{read}
use Rattle.model.specs.Profile.{is_whole, max_nesting}
use Rattle.document_json.specs.Steps.{Checked, and_then, or_refused, check}
use Rattle.json_profile.specs.declared.fault.JsonFault.{JsonFault}
use Rattle.json_profile.specs.declared.fault.JsonFault.TheVariants as json
use Rattle.document_json.specs.declared.fault.Fault.{Fault}
use Rattle.document_json.specs.declared.fault.Fault.TheVariants.{Refused, Memory}
use Rattle.document_json.specs.declared.fault.Reason.TheVariants as reason

-- what a text, or the value of one, is refused by
abbrev pub fault_of : JsonFault → Fault
fault_of json.Malformed = Refused reason.Json
fault_of json.Number = Refused reason.Number
fault_of json.Depth = Refused reason.Depth
fault_of json.NotAnObject = Refused reason.Shape
fault_of json.Memory = Memory

-- the value of a text
-- RFC 8259, 2 "JSON Grammar", 8.1 "Character Encoding"
abbrev pub value_of : List ℕ → Option Data
value_of bytes = if is_utf8 bytes then read bytes else None

-- a value of whole numbers that does not nest too deep
-- RFC 8259, 9 "Parsers"
abbrev pub in_profile : Data → Checked Data
in_profile value =
    and_then (check (is_whole value) reason.Number) (λ _.
    and_then (check (nat_le (depth value) max_nesting) reason.Depth) (λ _.
    Ok value))

-- the value of a body
unfoldable pub json_of : List ℕ → Checked Data
json_of bytes = and_then (or_refused (value_of bytes) reason.Json) in_profile

-- JSON lets the byte be in a string
-- RFC 8259, 7 "Strings"
abbrev pub is_unescaped : ℕ → Bool
is_unescaped byte = (nat_le 32 byte && not (byte == 34)) && not (byte == 92)
