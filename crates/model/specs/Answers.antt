-- What each query answers.
use Rattle.std.specs.Prelude.{Bool, not, List, length, filter, Option, None, option_map, if◌then◌else◌}
use Rattle.std.specs.List.{filter_map}
use Rattle.model.specs.Map.{entries, get}
use Rattle.model.specs.Revision.{Rev}
use Rattle.model.specs.Tree.{winner}
use Rattle.model.specs.Command.{Id}
use Rattle.model.specs.Query.{Query, Get, OpenRevs, RevsDiff, Changes, AllDocuments, Info, GetLocal, RevsLimit, PurgedInfosLimit, Counts, Answer, Found, Opened, Differences, Changed, Documents, Counted, FoundLocal, Limit}
use Rattle.model.specs.Database.{Database, Record}
use Rattle.model.specs.Documents.{found, opened, differences}
use Rattle.model.specs.Changes.{wanted_by, has_deleted_winner, changes_page}

abbrev pub is_live : Record → Bool
is_live r = not (has_deleted_winner r.tree)

-- CouchDB: GET /{db}/_all_docs
abbrev pub live_document : Id × Record → Option (Id × Rev)
live_document e = if is_live e.1 then option_map (λ l. (e.0, l.rev)) (winner e.1.tree) else None

-- the documents whose winner is not deleted, by the bytes of their ids
-- CouchDB: GET /{db}/_all_docs
abbrev pub live_documents : Database → List (Id × Rev)
live_documents d = filter_map live_document (entries d.docs)

-- CouchDB: GET /{db}
abbrev pub counts : Database → Counts
counts d = record {
  doc_count = length (filter (λ e. is_live e.1) (entries d.docs));
  doc_del_count = length (filter (λ e. not (is_live e.1)) (entries d.docs));
  update_seq = d.update_seq;
  purge_seq = d.purges.purge_seq;
}

unfoldable pub answer_to : Database → Query → Answer
answer_to d (Get id r options) = Found (found d id r options)
answer_to d (OpenRevs id asked options) = Opened (opened d id asked options)
answer_to d (RevsDiff asked) = Differences (differences d asked)
answer_to d (Changes since limit style ids) = Changed (changes_page (wanted_by ids) d since limit style)
answer_to d AllDocuments = Documents (live_documents d)
answer_to d Info = Counted (counts d)
answer_to d (GetLocal id) = FoundLocal (option_map (λ l. (l.counter, l.body)) (get d.locals id))
answer_to d RevsLimit = Limit d.revs_limit
answer_to d PurgedInfosLimit = Limit d.purges.limit
