-- How much the database holds, as an answer writes it.
use Rattle.std.specs.Prelude.{codes}
use Rattle.serde_json.specs.Data.{Data, unsigned, number, string, object, no_members, member}
use Rattle.model.specs.Query.{Counts}

-- `{"db_name":"db","doc_count":n,"doc_del_count":n,"purge_seq":n,"update_seq":n}`
-- CouchDB: GET /{db}, "db_name", "doc_count", "doc_del_count", "purge_seq", "update_seq"
abbrev pub counts_data : Counts → Data
counts_data c =
    object (member (codes "db_name") (string (codes "db")) (member (codes "doc_count") (number (unsigned c.doc_count))
    (member (codes "doc_del_count") (number (unsigned c.doc_del_count)) (member (codes "purge_seq") (number (unsigned c.purge_seq))
    (member (codes "update_seq") (number (unsigned c.update_seq)) no_members)))))
