-- Revisions, as requests write them.
use Rattle.std.specs.Prelude.{ℕ, ◌==◌, ◌&&◌, Bool, List, [], length, nat_lt, nat_le, Option, Some, None, Ok, if◌then◌else◌}
use Rattle.std.specs.List.{before_first, after_first, list_all}
use Rattle.std.specs.Result.{result_unwrap_or}
use Rattle.std.specs.Str.{bytes_eq}
use Rattle.std.specs.Str.Parse.{digits_value}
use Rattle.hex.specs.Hex.{decode_of, encode_lower}
use Rattle.model.specs.Revision.{Rev, rev_text, last_generation}
use Rattle.document_json.specs.Steps.{Checked, and_then, or_refused}
use Rattle.document_json.specs.declared.fault.Reason.TheVariants as reason

abbrev pub is_dash : ℕ → Bool
is_dash byte = byte == 45

-- the number before the first dash, and the bytes whose digits come after it
abbrev pub spelled : List ℕ → Rev
spelled text = record {
  generation = digits_value 10 (before_first is_dash text);
  hash = result_unwrap_or (decode_of (after_first is_dash text)) [];
}

-- this generation, and the bytes whose digits these are
abbrev pub hashed : ℕ → List ℕ → Rev
hashed generation text = record { generation = generation; hash = result_unwrap_or (decode_of text) [] }

-- CouchDB: "CouchDB Replication Protocol", "Definitions"
abbrev pub is_rev : Rev → Bool
is_rev r = nat_lt 0 r.generation && nat_le r.generation last_generation && (length r.hash == 16) && list_all (λ byte. nat_lt byte 256) r.hash

abbrev pub rev_if : Bool → Rev → Option Rev
rev_if test r = if test then Some r else None

-- the revision of this text, if there is one
-- CouchDB: "CouchDB Replication Protocol", "Definitions"
unfoldable pub rev_named : List ℕ → Option Rev
rev_named text = rev_if (is_rev (spelled text) && bytes_eq (rev_text (spelled text)) text) (spelled text)

-- the revision of this generation whose hash has this text, if there is one
-- CouchDB: "CouchDB Replication Protocol", "Definitions"
unfoldable pub rev_with : ℕ → List ℕ → Option Rev
rev_with generation text = rev_if (is_rev (hashed generation text) && bytes_eq (encode_lower (hashed generation text).hash) text) (hashed generation text)

-- a revision, if it is given
abbrev pub rev_of : Option (List ℕ) → Checked (Option Rev)
rev_of None = Ok None
rev_of (Some text) = and_then (or_refused (rev_named text) reason.Revision) (λ rev. Ok (Some rev))
