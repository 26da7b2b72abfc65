-- Which route a path has, and which methods a route takes.
use Rattle.std.specs.Prelude.{ℕ, ◌&&◌, ◌||◌, ◌==◌, Bool, false, List, [], ◌∷◌, length, take, drop, not, nat_lt, Option, option_map, codes}
use Rattle.std.specs.List.{find, list_any}
use Rattle.std.specs.Str.{bytes_eq}
use Rattle.http_routing.specs.declared.routes.Route.{Route}
use Rattle.http_routing.specs.declared.routes.Route.TheVariants as route
use Rattle.http_routing.specs.declared.routes.Method.{Method}
use Rattle.http_routing.specs.declared.routes.Method.TheVariants as method

-- the paths of a route: one path, or all that go on after a front with the segment of an id
pub data Pattern : Type 0 where
  Plain : List ℕ → Pattern
  WithId : List ℕ → Pattern

-- the routes with their paths; where a path fits several, the first counts
-- CouchDB: "API Reference": "Server", "Databases", "Documents", "Local (non-replicating) Documents"
abbrev pub routes : List (Pattern × Route)
routes =
    (Plain (codes "/db/_all_docs"), route.AllDocs)
    ∷ (Plain (codes "/db/_bulk_docs"), route.BulkDocs)
    ∷ (Plain (codes "/db/_changes"), route.Changes)
    ∷ (Plain (codes "/db/_compact"), route.Compact)
    ∷ (WithId (codes "/db/_local/"), route.Local)
    ∷ (Plain (codes "/db/_purged_infos_limit"), route.PurgedInfosLimit)
    ∷ (Plain (codes "/db/_purge"), route.Purge)
    ∷ (Plain (codes "/db/_revs_diff"), route.RevsDiff)
    ∷ (Plain (codes "/db/_revs_limit"), route.RevsLimit)
    ∷ (WithId (codes "/db/"), route.Document)
    ∷ (Plain (codes "/db/"), route.DatabaseSlash)
    ∷ (Plain (codes "/db"), route.Database)
    ∷ (Plain (codes "/"), route.Root) ∷ []

-- the methods of a route, in the order in which a response lists them
-- CouchDB: "API Reference": "Server", "Databases", "Documents", "Local (non-replicating) Documents"
abbrev pub methods_of : Route → List Method
methods_of route.Root = method.Get ∷ []
methods_of route.Database = method.Get ∷ []
methods_of route.DatabaseSlash = method.Get ∷ []
methods_of route.AllDocs = method.Get ∷ []
methods_of route.BulkDocs = method.Post ∷ []
methods_of route.Changes = method.Get ∷ method.Post ∷ []
methods_of route.Compact = method.Post ∷ []
methods_of route.Local = method.Get ∷ method.Put ∷ method.Delete ∷ []
methods_of route.Purge = method.Post ∷ []
methods_of route.PurgedInfosLimit = method.Get ∷ method.Put ∷ []
methods_of route.RevsDiff = method.Post ∷ []
methods_of route.RevsLimit = method.Get ∷ method.Put ∷ []
methods_of route.Document = method.Get ∷ method.Put ∷ method.Delete ∷ []

-- the name of a method
-- RFC 9110, 9.3 "Method Definitions"
abbrev pub name_of : Method → List ℕ
name_of method.Get = codes "GET"
name_of method.Put = codes "PUT"
name_of method.Post = codes "POST"
name_of method.Delete = codes "DELETE"

-- b'/'
abbrev pub slash : ℕ
slash = 47

-- one segment that is not empty: there are bytes, and no slash among them
-- RFC 3986, 3.3 "Path"
abbrev pub is_segment : List ℕ → Bool
is_segment text = nat_lt 0 (length text) && not (list_any (λ byte. byte == slash) text)

-- the path is one of the pattern's
abbrev pub fits : Pattern → List ℕ → Bool
fits (Plain text) path = bytes_eq text path
fits (WithId front) path = bytes_eq front (take (length front) path) && is_segment (drop (length front) path)

-- the route of a path
abbrev pub route_of : List ℕ → Option Route
route_of path = option_map (λ row. row.1) (find (λ row. fits row.0 path) routes)

-- two slashes are side by side, or one at the end
abbrev pub has_empty_segment : List ℕ → Bool
has_empty_segment [] = false
has_empty_segment (byte ∷ []) = byte == slash
has_empty_segment (byte ∷ next ∷ path) = (byte == slash && next == slash) || has_empty_segment (next ∷ path)

-- the paths of routes that have an empty segment
abbrev pub ended_paths : List (List ℕ)
ended_paths = codes "/" ∷ codes "/db/" ∷ []
