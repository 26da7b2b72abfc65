-- All documents, as an answer writes them.
use Rattle.std.specs.Prelude.{List, length, map, codes}
use Rattle.serde_json.specs.Data.{Data, unsigned, number, string, array, object, no_members, member}
use Rattle.serde_json.specs.View.{items_of}
use Rattle.model.specs.Command.{Id}
use Rattle.model.specs.Revision.{Rev}
use Rattle.api_json.specs.Changes.{named_rev_data}

-- `{"id":i,"key":i,"value":{"rev":r}}`
-- CouchDB: GET /{db}/_all_docs, "rows"
abbrev pub listed_data : Id × Rev → Data
listed_data listed =
    object (member (codes "id") (string listed.0) (member (codes "key") (string listed.0) (member (codes "value") (named_rev_data listed.1) no_members)))

-- `[row,..]`
-- CouchDB: GET /{db}/_all_docs, "rows"
abbrev pub all_listed_data : List (Id × Rev) → Data
all_listed_data documents = array (items_of (map listed_data documents))

-- `{"offset":0,"rows":[..],"total_rows":n}`
-- CouchDB: GET /{db}/_all_docs, "offset", "rows", "total_rows"
abbrev pub all_docs_data : List (Id × Rev) → Data
all_docs_data documents =
    object (member (codes "offset") (number (unsigned 0)) (member (codes "rows") (all_listed_data documents)
    (member (codes "total_rows") (number (unsigned (length documents))) no_members)))
