-- The routes as the router keeps them.
use Rattle.std.specs.Prelude.{ℕ, ◌+◌, List, [], ◌∷◌, ◌++◌, length, map, codes, Result, Ok, Err}
use Rattle.std.specs.Borrow.{Bor}
use Rattle.std.specs.List.{fold}
use Rattle.matchit.specs.Rows.{RowsOf, param_token}
use Rattle.matchit.specs.Router.{RouteOf, route_from}
use Rattle.matchit.specs.Order.{placed}
use Rattle.matchit.specs.Route.{Scan, parse_route}
use Rattle.matchit.specs.declared.error.InsertError.{InsertError}
use Rattle.http_routing.specs.declared.routes.Route.{Route}
use Rattle.http_routing.specs.Routes.{Pattern, Plain, WithId, routes}

-- one route's row: an id is a parameter `{id}`
abbrev pub row_of : Pattern × Route → List ℕ × RouteOf Route
row_of (Plain text, value) = (text, record { pattern = text; text = text; names = []; value = value })
row_of (WithId front, value) = (
  front ++ param_token ∷ [],
  record {
    pattern = front ++ param_token ∷ [];
    text = front ++ codes "{id}";
    names = (length front + 1, length front + 3) ∷ [];
    value = value;
  },
)

-- the rows of all routes
abbrev pub table : RowsOf (RouteOf Route)
table = map row_of routes

-- the rows with one more, if its text could be read
abbrev pub with_scan : Result Scan InsertError → Route → RowsOf (RouteOf Route) → RowsOf (RouteOf Route)
with_scan (Ok scan) value rows = placed (scan.pattern, route_from scan value) rows
with_scan (Err error) value rows = rows

-- the rows with one more, of this text
abbrev pub with_row : List ℕ → Route → RowsOf (RouteOf Route) → RowsOf (RouteOf Route)
with_row text value rows = with_scan (parse_route text) value rows

-- the rows of a router of these paths, one after another
abbrev pub rows_of : List (Bor (List ℕ) × Route) → RowsOf (RouteOf Route)
rows_of paths = fold (λ rows path. with_row path.0.now path.1 rows) [] paths
