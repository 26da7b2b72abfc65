-- What the checkpoints of a replication are called where no id is given.
use Rattle.std.specs.Prelude.{ℕ, Bool, true, false, List, [], ◌++◌, length, codes, decimal, Option, Some, None}
use Rattle.std.specs.List.{flat_map}
use Rattle.hex.specs.Hex.{encode_lower}
use Rattle.md5.specs.Md5.{md5}
use Rattle.model.specs.Command.{Id}

-- a text behind its length, so that no two lists of texts are one
abbrev pub measured : List ℕ → List ℕ
measured text = decimal (length text) ++ (codes ":" ++ text)

-- the documents of a list, and nothing where all are brought
abbrev pub listed : Option (List Id) → List ℕ
listed None = []
listed (Some ids) = codes "ids:" ++ flat_map measured ids

-- a line where documents are skipped
abbrev pub skip_line : Bool → List ℕ
skip_line false = []
skip_line true = codes "skip\n"

-- the places of both ends, each in a line, the source's first, whether documents are skipped, and the documents
abbrev pub replication_text : List ℕ → List ℕ → Option (List Id) → Bool → List ℕ
replication_text source target ids skips = source ++ (codes "\n" ++ (target ++ (codes "\n" ++ (skip_line skips ++ listed ids))))

-- its digest, in hex
-- CouchDB: "CouchDB Replication Protocol", "Generate Replication ID"
abbrev pub checkpoint_id : List ℕ → List ℕ → Option (List Id) → Bool → List ℕ
checkpoint_id source target ids skips = encode_lower (md5 (replication_text source target ids skips))
