-- What is shown of one document: a revision, several, or which revisions it lacks.
use Rattle.std.specs.Prelude.{◌&&◌, ℕ, max, not, List, [], ◌∷◌, map, drop, filter, flat_map, nat_lt, Option, Some, None, is_none, option_map, option_and_then, unwrap_or, ok_or, Result, Err, if◌then◌else◌}
use Rattle.model.specs.Lists.{first_of, each_once}
use Rattle.model.specs.Map.{Map, entries, empty, refine, from_list}
use Rattle.model.specs.Body.{Body}
use Rattle.model.specs.Revision.{Rev, revs, same_rev}
use Rattle.model.specs.Tree.{Tree, Leaf, knows, body_of, is_deleted, among, leaves, winner, revs_of, path_of}
use Rattle.model.specs.Command.{Id, names}
use Rattle.model.specs.Query.{Options, Status, Available, IsDeleted, NoBody, Document, Absent, IsMissing, WasDeleted, Difference}
use Rattle.model.specs.Database.{Database, tree_at}

-- CouchDB: GET /{db}/{docid}, "revs_info"
abbrev pub status_of : Tree → Rev → Status
status_of t r = if is_none (body_of t r) then NoBody else (if is_deleted t r then IsDeleted else Available)

-- the leaves other than the winner
abbrev pub losers : Tree → List Leaf
losers t = drop 1 (leaves t)

-- CouchDB: GET /{db}/{docid}, "_revisions", "_revs_info", "_conflicts", "_deleted_conflicts"
unfoldable pub document : Id → Tree → Options → Rev → Body → Document
document id t options r body = record {
  id = id;
  rev = r;
  deleted = is_deleted t r;
  body = body;
  revisions = if options.revs then Some (path_of t r) else None;
  revs_info = if options.revs_info then Some (map (λ a. (a, status_of t a)) (path_of t r)) else None;
  conflicts = if options.conflicts then revs_of (filter (λ l. not l.deleted) (losers t)) else [];
  deleted_conflicts = if options.deleted_conflicts then revs_of (filter (λ l. l.deleted) (losers t)) else [];
}

-- a revision whose body is there
abbrev pub stored : Id → Tree → Options → Rev → Option Document
stored id t options r = option_map (document id t options r) (body_of t r)

-- the leaves that descend from r, itself if it is one, in the winner's order
-- CouchDB: GET /{db}/{docid}, "latest"
abbrev pub latest_of : Tree → Rev → List Rev
latest_of t r = revs_of (filter (λ l. among (path_of t l.rev) r) (leaves t))

-- ---- get

-- CouchDB: GET /{db}/{docid}
abbrev pub of_winner : Id → Tree → Options → Option Leaf → Result Document Absent
of_winner id t options None = Err IsMissing
of_winner id t options (Some w) = if w.deleted then Err WasDeleted else ok_or (stored id t options w.rev) IsMissing

-- CouchDB: GET /{db}/{docid}, "latest"
abbrev pub named_by : Tree → Options → Rev → Option Rev
named_by t options r = if options.latest then first_of (latest_of t r) else Some r

-- CouchDB: GET /{db}/{docid}, "rev"
abbrev pub found_in : Id → Options → Option Rev → Tree → Result Document Absent
found_in id options None t = of_winner id t options (winner t)
found_in id options (Some r) t = ok_or (option_and_then (stored id t options) (named_by t options r)) IsMissing

-- CouchDB: GET /{db}/{docid}
abbrev pub found : Database → Id → Option Rev → Options → Result Document Absent
found d id r options = unwrap_or (option_map (found_in id options r) (tree_at d id)) (Err IsMissing)

-- ---- open_revs

-- CouchDB: GET /{db}/{docid}, "open_revs"
abbrev pub opened_at : Id → Tree → Options → Rev → Result Document Rev
opened_at id t options r = ok_or (stored id t options r) r

-- a known revision stands for its latest ones
-- CouchDB: GET /{db}/{docid}, "latest"
abbrev pub latest_or_itself : Tree → Rev → List Rev
latest_or_itself t r = if knows t r then latest_of t r else r ∷ []

-- with `latest` each leaf is given once
-- CouchDB: GET /{db}/{docid}, "open_revs"
abbrev pub asked_of : Tree → Options → Option (List Rev) → List Rev
asked_of t options None = revs_of (leaves t)
asked_of t options (Some rs) = if options.latest then each_once (λ a b. knows t a && same_rev a b) (flat_map (latest_or_itself t) rs) else rs

-- CouchDB: GET /{db}/{docid}, "open_revs"
abbrev pub opened_in : Id → Options → Option (List Rev) → Tree → List (Result Document Rev)
opened_in id options asked t = map (opened_at id t options) (asked_of t options asked)

-- of an unknown document: all leaves are none, and what is listed is missing
-- CouchDB: GET /{db}/{docid}, "open_revs"
abbrev pub opened_unknown : Option (List Rev) → List (Result Document Rev)
opened_unknown None = []
opened_unknown (Some rs) = map Err rs

-- CouchDB: GET /{db}/{docid}, "open_revs"
abbrev pub opened : Database → Id → Option (List Rev) → Options → List (Result Document Rev)
opened d id asked options = unwrap_or (option_map (opened_in id options asked) (tree_at d id)) (opened_unknown asked)

-- ---- _revs_diff

-- the revisions asked for that are not known, in the order asked
-- CouchDB: POST /{db}/_revs_diff, "missing"
abbrev pub missing_from : Tree → List Rev → List Rev
missing_from t asked = each_once same_rev (filter (λ r. not (knows t r)) asked)

abbrev pub largest_generation : List Rev → ℕ
largest_generation [] = 0
largest_generation (r ∷ rs) = max r.generation (largest_generation rs)

-- in rising order
abbrev pub in_order : List Rev → List Rev
in_order rs = map (λ e. e.0) (entries (from_list {O = revs} (map (λ r. (r, tt {0})) rs)))

-- with the leaves of a generation below the largest missing one
-- CouchDB: POST /{db}/_revs_diff, "missing", "possible_ancestors"
abbrev pub difference_of : Tree → List Rev → Option Difference
difference_of t [] = None
difference_of t (r ∷ rs) = Some (record { missing = r ∷ rs; possible_ancestors = in_order (filter (λ l. nat_lt l.generation (largest_generation (r ∷ rs))) (revs_of (leaves t))) })

-- CouchDB: POST /{db}/_revs_diff
abbrev pub difference : Database → Id → List Rev → Option Difference
difference d id asked = let t = unwrap_or (tree_at d id) empty in difference_of t (missing_from t asked)

-- of the documents asked for those that lack something
-- CouchDB: POST /{db}/_revs_diff
abbrev pub differences : Database → Map names (List Rev) → Map names Difference
differences d asked = refine (difference d) asked
